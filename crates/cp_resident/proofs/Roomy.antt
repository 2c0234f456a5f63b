-- Memory is refused to a program only with room for its pages.
use Rattle.std.proofs.Common.{◌≡◌, ◌∙◌, ap, refl, subst, sym, ℕ, Bool, List, length, Option, None, Some, Result, Ok}
use Rattle.std.proofs.Common.{Err, inl, inr}
use Rattle.std.proofs.lemmas.List.{length-replicate}
use Rattle.std.specs.Prelude.{◌⊎◌, true, false, replicate}
use Rattle.s370_store.specs.Memory.{Memory}
use Rattle.s370_walk.specs.Hardware.{Machine}
use Rattle.s370_walk.specs.declared.parts.Ending.{Ending}
use Rattle.s370_channel.specs.declared.running.ChannelError.{ChannelError}
use Rattle.s370_channel.specs.declared.running.ChannelError.TheVariants as errors
use Rattle.s370_channel.specs.declared.words.Caw.{Caw}
use Rattle.s370_channel.specs.Loading.{loading, loading_limits}
use Rattle.s370_channel.specs.Progress.{setting}
use Rattle.ckd_volume.specs.Unit.{Disk, disk_machine}
use Rattle.machine_channels.specs.Channels.{DiskHadRoom, DiskHadRoomToLoad}
use Rattle.machine_channels.specs.Disks.{DiskAt}
use Rattle.cp_frames.specs.Layout.{FrameSupply, is_there}
use Rattle.cp_dat.specs.declared.dat.Dat.{Dat}
use Rattle.cp_dat.specs.Copies.{CameOnly}
use Rattle.cp_dat.specs.Lent.{KeepsStored, is_lent_page, keeps_rest_present, lent_memory, lent_pool}
use Rattle.cp_dat.specs.Supplied.{IsBetweenUnits, TakesPins, unpinned}
use Rattle.cp_trial.specs.Holding.{ArePagesHeld, IsFixedProgram}
use Rattle.cp_needs.specs.declared.kept.WordAt.{WordAt}
use Rattle.s370_store.specs.declared.Page.{Page}
use Rattle.cp_trial.specs.declared.DryRunError.{DryRunError}
use Rattle.cp_trial.specs.declared.DryRunError.TheVariants as tries
use Rattle.cp_trial.specs.DryRun.{HadRoomAfterFirst, IsPlaced}
use Rattle.cp_trial.specs.DryRun as tried
use Rattle.cp_resident.specs.GuestChannels.{HadRoom, told_by, error_of}

-- ---- what is reported

-- A run that reports want of memory had a dry run without memory.
pub refused_by : (r : Result Ending DryRunError) → told_by r ≡ Err errors.Memory → r ≡ Err tries.Memory
refused_by (Ok ending) is = cc
refused_by (Err tries.Memory) is = refl
refused_by (Err tries.FramesOut) is = cc

-- An error that reports want of memory is one of the dry run.
pub refused_of : (error : DryRunError) → error_of error ≡ errors.Memory → error ≡ tries.Memory
refused_of tries.Memory is = refl
refused_of tries.FramesOut is = cc

-- An error that was found is the one that is reported.
pub error_in : (a : ChannelError) (r : Result Ending ChannelError) → r ≡ Err a → r ≡ Err errors.Memory
    → a ≡ errors.Memory
error_in a r is refused = cc

-- ---- pages that have not moved, or are held

-- The pool after a loan without change is the pool before it.
pub still_after : (d0 d1 d2 : Dat) → IsBetweenUnits (lent_pool d0).supply → d1 ≡ d0 → TakesPins d1 d2
    → (lent_pool d2).supply ≡ (lent_pool d0).supply
still_after d0 d1 d2 rest same taken =
    let old = (lent_pool d0).supply in
    let count : length old.owners ≡ length old.pins =
    sym (ap (λ (ps : List Bool). length ps) rest.idle ∙ length-replicate (length old.owners) false) in
    let idle : unpinned old ≡ old =
    sym (ap (λ (ps : List Bool). record old { pins = ps }) (rest.idle ∙ ap (λ (n : ℕ). replicate n false) count)) in
    taken.supply ∙ ap (λ (d : Dat). unpinned (lent_pool d).supply) same ∙ idle

let_go_present : (d e : Dat) → TakesPins d e → is_lent_page e ≡ is_lent_page d
let_go_present d e taken =
    ap (λ (supply : FrameSupply). is_there supply.owners e.user) taken.supply ∙ ap
    (λ (user : ℕ). is_there (lent_pool d).supply.owners user) taken.kept.same_user

-- Pages that are held stay held after the loan.
pub held_after : (m : Memory) (a b : ℕ) (d1 d2 d3 : Dat) → a ≡ b → KeepsStored d1 d2 → TakesPins d2 d3
    → ArePagesHeld m a d1 → ArePagesHeld m b d3
held_after m a b d1 d2 d3 at kept taken held =
    let present : is_lent_page d3 ≡ is_lent_page d1 = let_go_present d2 d3 taken ∙ keeps_rest_present d1 d2 kept.rest in
    subst (λ (n : ℕ). ArePagesHeld m n d3) at (record {
      fixed = held.fixed;
      held = λ page needed. subst (λ (there : ℕ → Bool). there page ≡ true) (sym present) (held.held page needed);
    })

-- The pages of a fixed program are held.
pub held_fixed : (m : Memory) (a : ℕ) (d : Dat) (words : List WordAt) (pages : List Page)
    → IsFixedProgram m a (is_lent_page d) words pages → ArePagesHeld m a d
held_fixed m a d words pages fixed = record { fixed = fixed.fixed; held = fixed.held }

-- ---- a program

module _ {D : Type 0} (machine : Machine D) (start : Caw) (d : D) (old new : Dat) where
  pub room_still : (lent_pool new).supply ≡ (lent_pool old).supply → HadRoom D machine old start d new
  room_still same = inl same

  pub room_held : ArePagesHeld (lent_memory old) start.address new → HadRoom D machine old start d new
  room_held held = inr (inl held)

  pub room_tried : (from : Dat) → from ≡ old → tried.HadRoom D machine from start d new
      → HadRoom D machine old start d new
  room_tried from same had =
      let cases : tried.HadRoom D machine old start d new → HadRoom D machine old start d new = elim [
        | inl is ↦ inl (ap (λ (e : Dat). (lent_pool e).supply) is)
        | inr placed ↦ inr (inr placed)
      ] in
      cases (subst (λ (e : Dat). tried.HadRoom D machine e start d new) same had)

-- ---- a disk's

module _ (start : Caw) (old new : Dat) where
  pub disk_still : (o : Option DiskAt) → (o ≡ None → ⊥) → (lent_pool new).supply ≡ (lent_pool old).supply
      → DiskHadRoom HadRoom old start o new
  disk_still None none same = absurd (none refl)
  disk_still (Some disk) none same = room_still disk_machine start disk.unit old new same

  pub disk_held : (o : Option DiskAt) → (o ≡ None → ⊥) → ArePagesHeld (lent_memory old) start.address new
      → DiskHadRoom HadRoom old start o new
  disk_held None none held = absurd (none refl)
  disk_held (Some disk) none held = room_held disk_machine start disk.unit old new held

  pub disk_tried : (o : Option DiskAt) (from : Dat) → from ≡ old → DiskHadRoom tried.HadRoom from start o new
      → DiskHadRoom HadRoom old start o new
  disk_tried None from same had = had
  disk_tried (Some disk) from same had = room_tried disk_machine start disk.unit old new from same had

-- ---- a loading

-- A loading that has not begun had room for its pages.
pub first_untouched : (o : Option DiskAt) (old new : Dat) → (o ≡ None → ⊥) → new ≡ old
    → DiskHadRoomToLoad HadRoomAfterFirst old o new
first_untouched None old new none same = absurd (none refl)
first_untouched (Some disk) old new none same = inr (inl same)

-- A loading had room for its pages after its first page came.
pub after_first : (o : Option DiskAt) (old between new : Dat) → lent_memory between ≡ lent_memory old
    → CameOnly old (λ page. page ≡ 0) 1 between → is_lent_page between 0 ≡ true
    → DiskHadRoomToLoad tried.HadRoomToLoad between o new → DiskHadRoomToLoad HadRoomAfterFirst old o new
after_first None old between new same paged_in there had = had
after_first (Some disk) old between new same paged_in there (inl is) =
    inl (subst (λ (d : Dat). tried.HasFirst old d) (sym is) (record { paged_in = paged_in; there = there }))
after_first (Some disk) old between new same paged_in there (inr placed) =
    inr (inr (subst (λ (m : Memory).
    IsPlaced (setting disk_machine loading_limits) (loading disk_machine m disk.unit) m new) same placed))
