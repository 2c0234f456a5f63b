use Rattle.std.proofs.Common.{◌≡◌, ◌∙◌, ℕ, ◌%◌, ap, refl, subst, sym, inl, inr, length, Result, Err, arith}
use Rattle.std.specs.Prelude.{IfErr, IfOk}
use Rattle.s370_channel.specs.declared.running.ChannelError.{ChannelError}
use Rattle.s370_channel.specs.Guest.{guest_written}
use Rattle.s370_channel.specs.Reading.{as_reached}
use Rattle.s370_channel.specs.Runs.{Walks, begun, limited}
use Rattle.s370_channel.specs.Supplied.{IsTouched}
use Rattle.s370_walk.specs.declared.parts.Ending.{Ending}
use Rattle.s370_store.specs.Memory.{Memory}
use Rattle.machine_channels.specs.Channels.{ProgramNeeds, WhereOut}
use Rattle.cp_dat.specs.declared.dat.Dat.{Dat}
use Rattle.cp_dat.specs.Copies.{CameOnly}
use Rattle.cp_dat.specs.Lent.{is_lent_page, keeps_stored_same, lent_bytes, lent_pool, lent_memory}
use Rattle.cp_dat.specs.Letting.{between_kept}
use Rattle.cp_dat.specs.Supplied.{IsBetweenUnits}
use Rattle.cp_trial.specs.declared.held.LockedProgram.{LockedProgram}
use Rattle.cp_trial.specs.Holding.{HoldNeeds, IfFixed, IfSelfModifying, IsFixedProgram}
use Rattle.cp_trial.specs.declared.DryRunError.TheVariants as tries
use Rattle.cp_trial.specs.DryRun.{LacksSuch}
use Rattle.cp_needs.specs.Needs.{IsClash}
use Rattle.cp_resident.specs.GuestChannels.{reuse_of}
use Rattle.cp_resident.specs.Reuse.{RunsAgain}
use Rattle.cp_resident.proofs.CachedProgram.{copied, not_some, opened, refused}
use Rattle.cp_resident.proofs.Ran.{fixed_there, held_between, held_came, memory_whole, refused_between, refused_came}
use Rattle.cp_resident.proofs.Ran.{refused_whole, still_came, tried_came, tried_walk, tried_whole, walk_moved}
use Rattle.cp_resident.proofs.Refused.{no_room}
use Rattle.cp_resident.proofs.Roomy.{error_in, held_after, held_fixed, refused_by, refused_of, room_held, room_still}
use Rattle.cp_resident.proofs.Roomy.{room_tried, still_after}
use Rattle.cp_resident.proofs.resident.GuestChannelsChannelsDat.run.Goals as goal

pub returns-in-Some-clause-whole : goal.returns-in-Some-clause-whole
returns-in-Some-clause-whole g c = λ is. memory_whole c.run_again-ended.result _ _ _ _ c.run_again-ended.ensures.memory

pub returns-in-Some-clause-paged_in : goal.returns-in-Some-clause-paged_in
returns-in-Some-clause-paged_in g c =
    still_came 2 c.args.storage.now c.run_again-ended.new.storage
    (ProgramNeeds HoldNeeds g.D.Device.machine c.args.start (lent_memory c.args.storage.now) c.args.device.now)
    c.requires c.run_again-ended.ensures.rest

pub returns-in-Some-clause-ready : goal.returns-in-Some-clause-ready
returns-in-Some-clause-ready g c =
    between_kept c.args.storage.now c.run_again-ended.new.storage c.run_again-ended.ensures.rest.rest c.requires

pub run_copied-ended-requires : goal.run_copied-ended-requires
run_copied-ended-requires g c =
    let old = c.args.storage.now in
    let new = c.lock_pages.new.storage in
    let fixed = subst (λ (p : LockedProgram).
    IfFixed p (IsFixedProgram (lent_memory old) c.get.result (is_lent_page new))) c.in-Ok-Fixed.field-0-is
    c.in-Ok-Fixed.ensures.fixed in
    record {
      fixed = (
        _,
        fixed_there old new c.get.result c.args.start.address _ _ c.lock_pages.ensures.memory
            c.get.ensures.value fixed,
      );
    }

pub returns-in-Ok-Fixed-clause-walk : goal.returns-in-Ok-Fixed-clause-walk
returns-in-Ok-Fixed-clause-walk g c =
    let old = c.args.storage.now in
    let middle = c.run_copied-ended.new.storage in
    walk_moved c.run_copied-ended.result
    (λ (m n : Memory) (ending : Ending).
    Walks as_reached g.D.Device.machine c.args.start m c.args.device.now ending n c.run_copied-ended.new.device)
    (lent_memory old) (lent_memory c.lock_pages.new.storage) (lent_memory middle) (lent_memory c.let_go.new.self)
    c.lock_pages.ensures.memory c.let_go.ensures.memory c.run_copied-ended.ensures.walk

pub returns-in-Ok-Fixed-clause-whole : goal.returns-in-Ok-Fixed-clause-whole
returns-in-Ok-Fixed-clause-whole g c =
    λ is. memory_whole c.run_copied-ended.result _ _ _ _ c.run_copied-ended.ensures.memory

pub returns-in-Ok-Fixed-clause-paged_in : goal.returns-in-Ok-Fixed-clause-paged_in
returns-in-Ok-Fixed-clause-paged_in g c =
    let old = c.args.storage.now in
    let start = c.args.start in
    let m = lent_memory old in
    let Holds : ℕ → Type 0 = HoldNeeds m c.get.result in
    let Needs : ℕ → Type 0 = ProgramNeeds HoldNeeds g.D.Device.machine start m c.args.device.now in
    let more : (page : ℕ) → Holds page
    → Needs page = λ page it. inl (subst (λ (a : ℕ). HoldNeeds m a page) c.get.ensures.value it) in
    held_came old c.lock_pages.new.storage c.run_copied-ended.new.storage c.let_go.new.self Holds Needs more
    c.lock_pages.ensures.supply c.lock_pages.ensures.memory c.run_copied-ended.ensures.rest c.let_go.ensures.let_go
    c.let_go.ensures.memory

pub returns-in-Ok-Fixed-clause-ready : goal.returns-in-Ok-Fixed-clause-ready
returns-in-Ok-Fixed-clause-ready g c =
    held_between c.args.storage.now c.lock_pages.new.storage c.run_copied-ended.new.storage c.let_go.new.self
    (HoldNeeds (lent_memory c.args.storage.now) c.get.result) c.lock_pages.ensures.supply c.requires
    c.run_copied-ended.ensures.rest c.let_go.ensures.let_go

pub run_open-requires : goal.run_open-requires
run_open-requires g c =
    let old = c.args.storage.now in
    let same : c.lock_pages.new.storage ≡ old =
    subst (λ (p : LockedProgram). IfSelfModifying p (c.lock_pages.new.storage ≡ old))
    c.in-Ok-SelfModifying.field-0-is c.in-Ok-SelfModifying.ensures.untouched in
    subst (λ (d : Dat). IsBetweenUnits (lent_pool d).supply) (sym same) c.requires

pub returns-in-Ok-SelfModifying-clause-walk : goal.returns-in-Ok-SelfModifying-clause-walk
returns-in-Ok-SelfModifying-clause-walk g c =
    let old = c.args.storage.now in
    let start = c.args.start in
    let m = lent_memory old in
    let Touched : ℕ → Type 0 =
    IsTouched guest_written (limited g.D.Device.machine start) (begun start m c.args.device.now) in
    let Needs : ℕ → Type 0 = ProgramNeeds HoldNeeds g.D.Device.machine start m c.args.device.now in
    let same : c.lock_pages.new.storage ≡ old =
    subst (λ (p : LockedProgram). IfSelfModifying p (c.lock_pages.new.storage ≡ old))
    c.in-Ok-SelfModifying.field-0-is c.in-Ok-SelfModifying.ensures.untouched in
    let new = c.run_open.new.storage in
    let W : Dat → Ending → Type 0 =
    λ d ending. Walks as_reached g.D.Device.machine start (lent_memory d) c.args.device.now ending (lent_memory new)
    c.run_open.new.device in
    subst (λ (r : Result Ending ChannelError). IfOk r (W old)) (sym c.reported.ensures)
    (tried_walk c.run_open.result (W old)
    (subst (λ (d : Dat). IfOk c.run_open.result (W d)) same c.run_open.ensures.walk))

pub returns-in-Ok-SelfModifying-clause-whole : goal.returns-in-Ok-SelfModifying-clause-whole
returns-in-Ok-SelfModifying-clause-whole g c = λ is.
    (
    let old = c.args.storage.now in
    let start = c.args.start in
    let m = lent_memory old in
    let Touched : ℕ → Type 0 =
    IsTouched guest_written (limited g.D.Device.machine start) (begun start m c.args.device.now) in
    let Needs : ℕ → Type 0 = ProgramNeeds HoldNeeds g.D.Device.machine start m c.args.device.now in
    let same : c.lock_pages.new.storage ≡ old =
    subst (λ (p : LockedProgram). IfSelfModifying p (c.lock_pages.new.storage ≡ old))
    c.in-Ok-SelfModifying.field-0-is c.in-Ok-SelfModifying.ensures.untouched in
    let new = c.run_open.new.storage in
    let size = subst (λ (d : Dat). length (lent_bytes new) ≡ length (lent_bytes d)) same
    c.run_open.ensures.paged_in.paged_in.kept.same_size in
    let lacking = subst (λ (d : Dat). c.run_open.result ≡ Err tries.FramesOut
    → LacksSuch (IsTouched guest_written (limited g.D.Device.machine start)
    (begun start (lent_memory d) c.args.device.now)) new) same c.run_open.ensures.lacking in
    let kept = subst (λ (d : Dat). c.run_open.result ≡ Err tries.FramesOut
    → (lent_memory new ≡ lent_memory d) × (c.run_open.new.device ≡ c.args.device.now)) same
    c.run_open.ensures.unchanged_without_frames
    in
    subst (λ (r : Result Ending ChannelError).
    IfErr r (WhereOut (length (lent_bytes old)) Needs (no_room new Needs)
    ((lent_memory new ≡ lent_memory old) × (c.run_open.new.device ≡ c.args.device.now)))) (sym c.reported.ensures)
    (tried_whole c.run_open.result old new Touched Needs
    ((lent_memory new ≡ lent_memory old) × (c.run_open.new.device ≡ c.args.device.now)) (λ page it. inr it) size
    lacking kept))

pub returns-in-Ok-SelfModifying-clause-paged_in : goal.returns-in-Ok-SelfModifying-clause-paged_in
returns-in-Ok-SelfModifying-clause-paged_in g c =
    let old = c.args.storage.now in
    let start = c.args.start in
    let m = lent_memory old in
    let Touched : ℕ → Type 0 =
    IsTouched guest_written (limited g.D.Device.machine start) (begun start m c.args.device.now) in
    let Needs : ℕ → Type 0 = ProgramNeeds HoldNeeds g.D.Device.machine start m c.args.device.now in
    let same : c.lock_pages.new.storage ≡ old =
    subst (λ (p : LockedProgram). IfSelfModifying p (c.lock_pages.new.storage ≡ old))
    c.in-Ok-SelfModifying.field-0-is c.in-Ok-SelfModifying.ensures.untouched in
    let new = c.run_open.new.storage in
    let paged_in = subst (λ (d : Dat).
    CameOnly d (IsTouched guest_written (limited g.D.Device.machine start)
    (begun start (lent_memory d) c.args.device.now)) 2 new) same c.run_open.ensures.paged_in in
    tried_came 2 2 old new Touched Needs (λ page it. inr it) (omega arith) paged_in

pub returns-clause-whole : goal.returns-clause-whole
returns-clause-whole g c = λ is.
    (
    let old = c.args.storage.now in
    let start = c.args.start in
    let m = lent_memory old in
    let Holds : ℕ → Type 0 = HoldNeeds m c.get.result in
    let Needs : ℕ → Type 0 = ProgramNeeds HoldNeeds g.D.Device.machine start m c.args.device.now in
    let more : (page : ℕ) → Holds page
    → Needs page = λ page it. inl (subst (λ (a : ℕ). HoldNeeds m a page) c.get.ensures.value it) in
    let new = c.let_go-in-Err.new.self in
    let P : Type 0 = (lent_memory new ≡ lent_memory old) × (c.args.device.now ≡ c.args.device.now) in
    subst (λ (e : ChannelError). WhereOut (length (lent_bytes old)) Needs (no_room new Needs) P e)
    (sym c.error_of.ensures)
    (refused_whole c.in-Err.error old c.lock_pages.new.storage new Holds Needs P more (λ page it. it.needed.inside)
    c.requires c.lock_pages.ensures.supply c.let_go-in-Err.ensures.let_go
    (λ e. c.lock_pages.ensures.out (c.in-Err.is ∙ ap Err e))
    (c.let_go-in-Err.ensures.memory ∙ c.lock_pages.ensures.memory, refl)))

pub returns-clause-paged_in : goal.returns-clause-paged_in
returns-clause-paged_in g c =
    let old = c.args.storage.now in
    let start = c.args.start in
    let m = lent_memory old in
    let Holds : ℕ → Type 0 = HoldNeeds m c.get.result in
    let Needs : ℕ → Type 0 = ProgramNeeds HoldNeeds g.D.Device.machine start m c.args.device.now in
    let more : (page : ℕ) → Holds page
    → Needs page = λ page it. inl (subst (λ (a : ℕ). HoldNeeds m a page) c.get.ensures.value it) in
    refused_came old c.lock_pages.new.storage c.let_go-in-Err.new.self Holds Needs more c.lock_pages.ensures.supply
    c.lock_pages.ensures.memory c.let_go-in-Err.ensures.let_go c.let_go-in-Err.ensures.memory

pub returns-clause-ready : goal.returns-clause-ready
returns-clause-ready g c =
    refused_between c.args.storage.now c.lock_pages.new.storage c.let_go-in-Err.new.self
    (HoldNeeds (lent_memory c.args.storage.now) c.get.result) c.lock_pages.ensures.supply c.requires
    c.let_go-in-Err.ensures.let_go

pub returns-in-Ok-Fixed-clause-kept : goal.returns-in-Ok-Fixed-clause-kept
returns-in-Ok-Fixed-clause-kept g c =
    copied (reuse_of c.args.self.now) c.run_copied-ended.new.reuse c.args.storage.now c.lock_pages.new.storage
    c.args.start c.args.unit _ (λ again. not_some c.of_unit.result c.in_default.is (c.of_unit.ensures.other again))
    c.lock_pages.ensures.memory c.run_copied-ended.ensures.kept

pub returns-in-Ok-SelfModifying-clause-kept : goal.returns-in-Ok-SelfModifying-clause-kept
returns-in-Ok-SelfModifying-clause-kept g c =
    let m = lent_memory c.args.storage.now in
    let clashes : c.get.result % 8 ≡ 0
    → IsClash m c.get.result =
    subst (λ (p : LockedProgram). IfSelfModifying p (c.get.result % 8 ≡ 0 → IsClash m c.get.result))
    c.in-Ok-SelfModifying.field-0-is c.in-Ok-SelfModifying.ensures.open in
    opened (reuse_of c.args.self.now) c.put_unit.new.self c.args.storage.now c.args.start c.args.unit _
    (λ again. not_some c.of_unit.result c.in_default.is (c.of_unit.ensures.other again)) c.put_unit.ensures
    (subst (λ (a : ℕ). a % 8 ≡ 0 → IsClash m a) c.get.ensures.value clashes)

pub returns-clause-kept : goal.returns-clause-kept
returns-clause-kept g c =
    refused (reuse_of c.args.self.now) c.args.storage.now c.args.start c.args.unit
    (λ again. not_some c.of_unit.result c.in_default.is (c.of_unit.ensures.other again))

pub returns-in-Some-clause-roomy : goal.returns-in-Some-clause-roomy
returns-in-Some-clause-roomy g c =
    λ whole refused. room_still g.D.Device.machine c.args.start c.args.device.now c.args.storage.now
    c.run_again-ended.new.storage c.run_again-ended.ensures.rest.rest.same_supply

pub returns-in-Ok-Fixed-clause-roomy : goal.returns-in-Ok-Fixed-clause-roomy
returns-in-Ok-Fixed-clause-roomy g c = λ whole refused.
    (
    let old = c.args.storage.now in
    let held = c.lock_pages.new.storage in
    let fixed = subst (λ (p : LockedProgram).
    IfFixed p (IsFixedProgram (lent_memory old) c.get.result (is_lent_page held))) c.in-Ok-Fixed.field-0-is
    c.in-Ok-Fixed.ensures.fixed in
    room_held g.D.Device.machine c.args.start c.args.device.now old c.let_go.new.self
    (held_after (lent_memory old) c.get.result c.args.start.address held c.run_copied-ended.new.storage
    c.let_go.new.self c.get.ensures.value c.run_copied-ended.ensures.rest c.let_go.ensures.let_go
    (held_fixed (lent_memory old) c.get.result held _ _ fixed)))

pub returns-in-Ok-SelfModifying-clause-roomy : goal.returns-in-Ok-SelfModifying-clause-roomy
returns-in-Ok-SelfModifying-clause-roomy g c = λ whole refused.
    (
    let old = c.args.storage.now in
    let same : c.lock_pages.new.storage ≡ old =
    subst (λ (p : LockedProgram). IfSelfModifying p (c.lock_pages.new.storage ≡ old))
    c.in-Ok-SelfModifying.field-0-is c.in-Ok-SelfModifying.ensures.untouched in
    room_tried g.D.Device.machine c.args.start c.args.device.now old c.run_open.new.storage c.lock_pages.new.storage
    same
    (c.run_open.ensures.roomy (refused_by c.run_open.result (sym c.reported.ensures ∙ refused))))

pub returns-clause-roomy : goal.returns-clause-roomy
returns-clause-roomy g c = λ whole refused.
    (
    let old = c.args.storage.now in
    let held = c.lock_pages.new.storage in
    let new = c.let_go-in-Err.new.self in
    let memory = refused_of c.in-Err.error (sym c.error_of.ensures ∙ error_in _ _ refl refused) in
    elim (c.lock_pages.ensures.roomy (c.in-Err.is ∙ ap Err memory)) [
      | inl same ↦ room_still g.D.Device.machine c.args.start c.args.device.now old new
          (still_after old held new c.requires same c.let_go-in-Err.ensures.let_go)
      | inr pages ↦ room_held g.D.Device.machine c.args.start c.args.device.now old new
          (held_after (lent_memory old) c.get.result c.args.start.address held held new c.get.ensures.value
          (keeps_stored_same held) c.let_go-in-Err.ensures.let_go pages)
    ])
