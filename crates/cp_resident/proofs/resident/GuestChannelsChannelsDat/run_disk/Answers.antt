use Rattle.std.proofs.Common.{◌≡◌, ◌∙◌, ℕ, ap, refl, subst, sym, inl, inr, length, Result, Err, arith}
use Rattle.std.specs.Prelude.{IfErr, IfOk, OnErr, slice_get}
use Rattle.s370_channel.specs.declared.running.ChannelError.{ChannelError}
use Rattle.s370_channel.specs.Reading.{as_reached}
use Rattle.s370_walk.specs.declared.parts.Ending.{Ending}
use Rattle.s370_store.specs.Memory.{Memory}
use Rattle.machine_channels.specs.Channels.{DiskNeeds, WalksDisk, WhereOut}
use Rattle.cp_dat.specs.declared.dat.Dat.{Dat}
use Rattle.cp_dat.specs.Copies.{CameOnly}
use Rattle.cp_dat.specs.Lent.{is_lent_page, keeps_stored_same, lent_bytes, lent_pool, lent_memory}
use Rattle.cp_dat.specs.Letting.{between_kept}
use Rattle.cp_dat.specs.Supplied.{IsBetweenUnits}
use Rattle.cp_trial.specs.declared.held.LockedProgram.{LockedProgram}
use Rattle.cp_trial.specs.Holding.{HoldNeeds, IfFixed, IfSelfModifying, IsFixedProgram}
use Rattle.cp_trial.specs.declared.DryRunError.{DryRunError}
use Rattle.cp_trial.specs.declared.DryRunError.TheVariants as tries
use Rattle.cp_trial.specs.DryRun.{LacksSuch}
use Rattle.cp_volumes.specs.Running.{DiskTouches}
use Rattle.cp_resident.specs.GuestChannels.{disks_on, hung_on, reuse_of}
use Rattle.cp_resident.proofs.CachedProgram.{known, not_both, refused_disk}
use Rattle.cp_volumes.specs.Shared.{seen}
use Rattle.cp_resident.proofs.Ran
use Rattle.cp_resident.proofs.Refused.{no_room}
use Rattle.cp_resident.proofs.Roomy.{disk_held, disk_still, disk_tried, error_in, held_after, held_fixed, refused_by}
use Rattle.cp_resident.proofs.Roomy.{refused_of, still_after}
use Rattle.cp_resident.proofs.resident.GuestChannelsChannelsDat.run_disk.Goals as goal

pub returns-then-is_disk_valid-clause-paged_in : goal.returns-then-is_disk_valid-clause-paged_in
returns-then-is_disk_valid-clause-paged_in c =
    Ran.still_came 2 c.args.storage.now c.run_held.new.storage
    (DiskNeeds HoldNeeds c.args.start (lent_memory c.args.storage.now)
    (slice_get (disks_on c.args.self.now) c.args.index)) c.requires.ready c.run_held.ensures.rest

pub returns-then-is_disk_valid-clause-ready : goal.returns-then-is_disk_valid-clause-ready
returns-then-is_disk_valid-clause-ready c =
    between_kept c.args.storage.now c.run_held.new.storage c.run_held.ensures.rest.rest c.requires.ready

pub run_known-ended-requires-clause-fixed : goal.run_known-ended-requires-clause-fixed
run_known-ended-requires-clause-fixed c =
    let old = c.args.storage.now in
    let new = c.lock_pages.new.storage in
    let fixed = subst (λ (p : LockedProgram).
    IfFixed p (IsFixedProgram (lent_memory old) c.get.result (is_lent_page new))) c.in-Ok-Fixed.field-0-is
    c.in-Ok-Fixed.ensures.fixed in
    rw c.deref.ensures.value
    (Ran.fixed_there old new c.get.result c.args.start.address _ _ c.lock_pages.ensures.memory c.get.ensures.value
    fixed)

pub returns-in-Ok-Fixed-clause-walk : goal.returns-in-Ok-Fixed-clause-walk
returns-in-Ok-Fixed-clause-walk c =
    let old = c.args.storage.now in
    let middle = c.run_known-ended.new.storage in
    Ran.walk_moved c.run_known-ended.result
    (λ (m n : Memory) (ending : Ending).
    WalksDisk as_reached c.args.start m (disks_on c.args.self.now) c.args.index ending n
    (disks_on c.run_known-ended.new.channels))
    (lent_memory old) (lent_memory c.lock_pages.new.storage) (lent_memory middle) (lent_memory c.let_go.new.self)
    c.lock_pages.ensures.memory c.let_go.ensures.memory c.run_known-ended.ensures.walk

pub returns-in-Ok-Fixed-clause-whole : goal.returns-in-Ok-Fixed-clause-whole
returns-in-Ok-Fixed-clause-whole c =
    λ is. Ran.memory_whole c.run_known-ended.result _ _ _ _ c.run_known-ended.ensures.memory

pub returns-in-Ok-Fixed-clause-paged_in : goal.returns-in-Ok-Fixed-clause-paged_in
returns-in-Ok-Fixed-clause-paged_in c =
    let old = c.args.storage.now in
    let start = c.args.start in
    let m = lent_memory old in
    let disks = disks_on c.args.self.now in
    let disk = slice_get disks c.args.index in
    let Holds : ℕ → Type 0 = HoldNeeds m c.get.result in
    let Needs : ℕ → Type 0 = DiskNeeds HoldNeeds start m disk in
    let more : (page : ℕ) → Holds page
    → Needs page = λ page it.
    Ran.disk_holds disk start m page (Ran.disk_there disks c.args.index c.requires.inside)
    (subst (λ (a : ℕ). HoldNeeds m a page) c.get.ensures.value it) in
    Ran.held_came old c.lock_pages.new.storage c.run_known-ended.new.storage c.let_go.new.self Holds Needs more
    c.lock_pages.ensures.supply c.lock_pages.ensures.memory c.run_known-ended.ensures.rest c.let_go.ensures.let_go
    c.let_go.ensures.memory

pub returns-in-Ok-Fixed-clause-ready : goal.returns-in-Ok-Fixed-clause-ready
returns-in-Ok-Fixed-clause-ready c =
    Ran.held_between c.args.storage.now c.lock_pages.new.storage c.run_known-ended.new.storage c.let_go.new.self
    (HoldNeeds (lent_memory c.args.storage.now) c.get.result) c.lock_pages.ensures.supply c.requires.ready
    c.run_known-ended.ensures.rest c.let_go.ensures.let_go

pub run_disk-requires-clause-between : goal.run_disk-requires-clause-between
run_disk-requires-clause-between c =
    let old = c.args.storage.now in
    let same : c.lock_pages.new.storage ≡ old =
    subst (λ (p : LockedProgram). IfSelfModifying p (c.lock_pages.new.storage ≡ old))
    c.in-Ok-SelfModifying.field-0-is c.in-Ok-SelfModifying.ensures.untouched in
    subst (λ (d : Dat). IsBetweenUnits (lent_pool d).supply) (sym same) c.requires.ready

pub returns-in-Ok-SelfModifying-clause-walk : goal.returns-in-Ok-SelfModifying-clause-walk
returns-in-Ok-SelfModifying-clause-walk c =
    let old = c.args.storage.now in
    let start = c.args.start in
    let m = lent_memory old in
    let disks = disks_on c.args.self.now in
    let disk = slice_get disks c.args.index in
    let Touched : ℕ → Type 0 = DiskTouches start m disk in
    let Needs : ℕ → Type 0 = DiskNeeds HoldNeeds start m disk in
    let more : (page : ℕ) → Touched page → Needs page = λ page it. Ran.disk_touches disk start m page it in
    let same : c.lock_pages.new.storage ≡ old =
    subst (λ (p : LockedProgram). IfSelfModifying p (c.lock_pages.new.storage ≡ old))
    c.in-Ok-SelfModifying.field-0-is c.in-Ok-SelfModifying.ensures.untouched in
    let new = c.run_disk.new.storage in
    let W : Dat → Ending → Type 0 =
    λ d ending. WalksDisk as_reached start (lent_memory d) disks c.args.index ending (lent_memory new)
    (seen c.run_disk.new.self) in
    subst (λ (r : Result Ending ChannelError). IfOk r (W old)) (sym c.reported.ensures)
    (Ran.tried_walk c.run_disk.result (W old)
    (subst (λ (d : Dat). IfOk c.run_disk.result (W d)) same c.run_disk.ensures.walk))

pub returns-in-Ok-SelfModifying-clause-whole : goal.returns-in-Ok-SelfModifying-clause-whole
returns-in-Ok-SelfModifying-clause-whole c = λ is.
    (
    let old = c.args.storage.now in
    let start = c.args.start in
    let m = lent_memory old in
    let disks = disks_on c.args.self.now in
    let disk = slice_get disks c.args.index in
    let Touched : ℕ → Type 0 = DiskTouches start m disk in
    let Needs : ℕ → Type 0 = DiskNeeds HoldNeeds start m disk in
    let more : (page : ℕ) → Touched page → Needs page = λ page it. Ran.disk_touches disk start m page it in
    let same : c.lock_pages.new.storage ≡ old =
    subst (λ (p : LockedProgram). IfSelfModifying p (c.lock_pages.new.storage ≡ old))
    c.in-Ok-SelfModifying.field-0-is c.in-Ok-SelfModifying.ensures.untouched in
    let new = c.run_disk.new.storage in
    let P : Type 0 = (lent_memory new ≡ lent_memory old) × (seen c.run_disk.new.self ≡ disks) in
    let size = subst (λ (d : Dat). length (lent_bytes new) ≡ length (lent_bytes d)) same
    c.run_disk.ensures.paged_in.paged_in.kept.same_size in
    let lacking = subst (λ (d : Dat). c.run_disk.result ≡ Err tries.FramesOut
    → LacksSuch (DiskTouches start (lent_memory d) disk) new) same c.run_disk.ensures.lacking in
    let memory = subst (λ (d : Dat). c.run_disk.result ≡ Err tries.FramesOut → lent_memory new ≡ lent_memory d) same
    c.run_disk.ensures.memory in
    let kept : c.run_disk.result ≡ Err tries.FramesOut → P =
    λ e. (
      memory e,
      ap seen (subst
          (λ (r : Result Ending DryRunError). OnErr r (c.run_disk.new.self ≡ hung_on c.args.self.now)) e
          c.run_disk.ensures.unchanged_on_error),
    ) in
    subst (λ (r : Result Ending ChannelError). IfErr r (WhereOut (length (lent_bytes old)) Needs (no_room new Needs) P))
    (sym c.reported.ensures)
    (Ran.tried_whole c.run_disk.result old new Touched Needs P more size lacking kept))

pub returns-in-Ok-SelfModifying-clause-paged_in : goal.returns-in-Ok-SelfModifying-clause-paged_in
returns-in-Ok-SelfModifying-clause-paged_in c =
    let old = c.args.storage.now in
    let start = c.args.start in
    let m = lent_memory old in
    let disks = disks_on c.args.self.now in
    let disk = slice_get disks c.args.index in
    let Touched : ℕ → Type 0 = DiskTouches start m disk in
    let Needs : ℕ → Type 0 = DiskNeeds HoldNeeds start m disk in
    let more : (page : ℕ) → Touched page → Needs page = λ page it. Ran.disk_touches disk start m page it in
    let same : c.lock_pages.new.storage ≡ old =
    subst (λ (p : LockedProgram). IfSelfModifying p (c.lock_pages.new.storage ≡ old))
    c.in-Ok-SelfModifying.field-0-is c.in-Ok-SelfModifying.ensures.untouched in
    let new = c.run_disk.new.storage in
    let paged_in = subst (λ (d : Dat). CameOnly d (DiskTouches start (lent_memory d) disk) 2 new) same
    c.run_disk.ensures.paged_in in
    Ran.tried_came 2 2 old new Touched Needs more (omega arith) paged_in

pub returns-in-Err-clause-whole : goal.returns-in-Err-clause-whole
returns-in-Err-clause-whole c = λ is.
    (
    let old = c.args.storage.now in
    let start = c.args.start in
    let m = lent_memory old in
    let disks = disks_on c.args.self.now in
    let disk = slice_get disks c.args.index in
    let Holds : ℕ → Type 0 = HoldNeeds m c.get.result in
    let Needs : ℕ → Type 0 = DiskNeeds HoldNeeds start m disk in
    let more : (page : ℕ) → Holds page
    → Needs page = λ page it.
    Ran.disk_holds disk start m page (Ran.disk_there disks c.args.index c.requires.inside)
    (subst (λ (a : ℕ). HoldNeeds m a page) c.get.ensures.value it) in
    let new = c.let_go-in-Err.new.self in
    let P : Type 0 = (lent_memory new ≡ lent_memory old) × (disks ≡ disks) in
    subst (λ (e : ChannelError). WhereOut (length (lent_bytes old)) Needs (no_room new Needs) P e)
    (sym c.error_of.ensures)
    (Ran.refused_whole c.in-Err.error old c.lock_pages.new.storage new Holds Needs P more (λ page it. it.needed.inside)
    c.requires.ready c.lock_pages.ensures.supply c.let_go-in-Err.ensures.let_go
    (λ e. c.lock_pages.ensures.out (c.in-Err.is ∙ ap Err e))
    (c.let_go-in-Err.ensures.memory ∙ c.lock_pages.ensures.memory, refl)))

pub returns-in-Err-clause-paged_in : goal.returns-in-Err-clause-paged_in
returns-in-Err-clause-paged_in c =
    let old = c.args.storage.now in
    let start = c.args.start in
    let m = lent_memory old in
    let disks = disks_on c.args.self.now in
    let disk = slice_get disks c.args.index in
    let Holds : ℕ → Type 0 = HoldNeeds m c.get.result in
    let Needs : ℕ → Type 0 = DiskNeeds HoldNeeds start m disk in
    let more : (page : ℕ) → Holds page
    → Needs page = λ page it.
    Ran.disk_holds disk start m page (Ran.disk_there disks c.args.index c.requires.inside)
    (subst (λ (a : ℕ). HoldNeeds m a page) c.get.ensures.value it) in
    Ran.refused_came old c.lock_pages.new.storage c.let_go-in-Err.new.self Holds Needs more c.lock_pages.ensures.supply
    c.lock_pages.ensures.memory c.let_go-in-Err.ensures.let_go c.let_go-in-Err.ensures.memory

pub returns-in-Err-clause-ready : goal.returns-in-Err-clause-ready
returns-in-Err-clause-ready c =
    Ran.refused_between c.args.storage.now c.lock_pages.new.storage c.let_go-in-Err.new.self
    (HoldNeeds (lent_memory c.args.storage.now) c.get.result) c.lock_pages.ensures.supply c.requires.ready
    c.let_go-in-Err.ensures.let_go

pub returns-in-Ok-Fixed-clause-kept : goal.returns-in-Ok-Fixed-clause-kept
returns-in-Ok-Fixed-clause-kept c =
    known (reuse_of c.args.self.now) (reuse_of c.run_known-ended.new.channels) c.args.storage.now
    c.lock_pages.new.storage c.args.start c.args.index _
    (λ again. not_both c.if-is_disk_valid.false (c.is_disk_valid.ensures.other again)) c.lock_pages.ensures.memory
    c.run_known-ended.ensures.kept

pub returns-in-Err-clause-kept : goal.returns-in-Err-clause-kept
returns-in-Err-clause-kept c =
    refused_disk (reuse_of c.args.self.now) c.args.storage.now c.args.start c.args.index
    (λ again. not_both c.if-is_disk_valid.false (c.is_disk_valid.ensures.other again))

pub returns-in-Ok-Fixed-clause-roomy : goal.returns-in-Ok-Fixed-clause-roomy
returns-in-Ok-Fixed-clause-roomy c = λ whole refused.
    (
    let old = c.args.storage.now in
    let disks = disks_on c.args.self.now in
    let held = c.lock_pages.new.storage in
    let fixed = subst (λ (p : LockedProgram).
    IfFixed p (IsFixedProgram (lent_memory old) c.get.result (is_lent_page held))) c.in-Ok-Fixed.field-0-is
    c.in-Ok-Fixed.ensures.fixed in
    disk_held c.args.start old c.let_go.new.self (slice_get disks c.args.index)
    (Ran.disk_there disks c.args.index c.requires.inside)
    (held_after (lent_memory old) c.get.result c.args.start.address held c.run_known-ended.new.storage c.let_go.new.self
    c.get.ensures.value c.run_known-ended.ensures.rest c.let_go.ensures.let_go
    (held_fixed (lent_memory old) c.get.result held _ _ fixed)))

pub returns-in-Ok-SelfModifying-clause-roomy : goal.returns-in-Ok-SelfModifying-clause-roomy
returns-in-Ok-SelfModifying-clause-roomy c = λ whole refused.
    (
    let old = c.args.storage.now in
    let same : c.lock_pages.new.storage ≡ old =
    subst (λ (p : LockedProgram). IfSelfModifying p (c.lock_pages.new.storage ≡ old))
    c.in-Ok-SelfModifying.field-0-is c.in-Ok-SelfModifying.ensures.untouched in
    disk_tried c.args.start old c.run_disk.new.storage (slice_get (disks_on c.args.self.now) c.args.index)
    c.lock_pages.new.storage same
    (c.run_disk.ensures.roomy (refused_by c.run_disk.result (sym c.reported.ensures ∙ refused))))

pub returns-in-Err-clause-roomy : goal.returns-in-Err-clause-roomy
returns-in-Err-clause-roomy c = λ whole refused.
    (
    let old = c.args.storage.now in
    let disks = disks_on c.args.self.now in
    let disk = slice_get disks c.args.index in
    let there = Ran.disk_there disks c.args.index c.requires.inside in
    let held = c.lock_pages.new.storage in
    let new = c.let_go-in-Err.new.self in
    let memory = refused_of c.in-Err.error (sym c.error_of.ensures ∙ error_in _ _ refl refused) in
    elim (c.lock_pages.ensures.roomy (c.in-Err.is ∙ ap Err memory)) [
      | inl same ↦ disk_still c.args.start old new disk there
          (still_after old held new c.requires.ready same c.let_go-in-Err.ensures.let_go)
      | inr pages ↦ disk_held c.args.start old new disk there
          (held_after (lent_memory old) c.get.result c.args.start.address held held new c.get.ensures.value
          (keeps_stored_same held) c.let_go-in-Err.ensures.let_go pages)
    ])
