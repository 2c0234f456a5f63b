use Rattle.std.proofs.Common.{◌≡◌, ◌∙◌, ℕ, ◌<◌, None, ap, refl, subst, sym, inl, length, Result, Err, arith}
use Rattle.std.proofs.lemmas.List.{length-map}
use Rattle.std.specs.Prelude.{OnErr, map, slice_get}
use Rattle.s370_channel.specs.declared.running.ChannelError.{ChannelError}
use Rattle.s370_walk.specs.declared.parts.Ending.{Ending}
use Rattle.s370_store.specs.Memory.{Memory}
use Rattle.machine_channels.specs.Channels.{DiskLoads, WhereOut}
use Rattle.machine_channels.specs.Disks.{reset_disk}
use Rattle.cp_dat.specs.Lent.{lent_bytes, lent_memory}
use Rattle.cp_dat.proofs.Copying.{came_fewer, came_more, stands_on}
use Rattle.cp_trial.specs.declared.DryRunError.{DryRunError}
use Rattle.cp_trial.specs.declared.DryRunError.TheVariants as tries
use Rattle.cp_volumes.specs.Running.{DiskLoadTouches}
use Rattle.cp_resident.specs.GuestChannels.{disks_on, hung_on}
use Rattle.cp_volumes.specs.Shared.{seen}
use Rattle.cp_resident.proofs.Ran
use Rattle.cp_resident.proofs.Refused.{no_room}
use Rattle.cp_resident.proofs.Roomy.{after_first, error_in, first_untouched, refused_of}
use Rattle.cp_resident.proofs.resident.GuestChannelsChannelsDat.load_disk.Goals as goal

pub returns-in-Err-clause-whole : goal.returns-in-Err-clause-whole
returns-in-Err-clause-whole c = λ is.
    (
    let old = c.args.storage.now in
    let fetched = c.fetch_first.new.storage in
    let m = lent_memory old in
    let disks = disks_on c.args.self.now in
    let o = slice_get (map reset_disk disks) c.args.index in
    let Needs : ℕ → Type 0 = DiskLoads m o in
    let there : o ≡ None → ⊥ =
    Ran.disk_there (map reset_disk disks) c.args.index
    (subst (λ (n : ℕ). c.args.index < n) (sym (length-map disks reset_disk)) c.requires.inside) in
    let at_first : (page : ℕ) → page ≡ 0 → Needs page = λ page it. Ran.disk_first o m page there it in
    let size : length (lent_bytes fetched) ≡ length (lent_bytes old) =
    c.fetch_first.ensures.paged_in.paged_in.kept.same_size in
    let P : Type 0 = (lent_memory fetched ≡ lent_memory old) × (disks ≡ disks) in
    subst (λ (e : ChannelError). WhereOut (length (lent_bytes old)) Needs (no_room fetched Needs) P e)
    (sym c.error_of.ensures)
    (Ran.stopped_whole c.in-Err.error old fetched (λ page. page ≡ 0) Needs P at_first size
    (λ e. c.fetch_first.ensures.lacking (c.in-Err.is ∙ ap Err e)) (λ e. (c.fetch_first.ensures.memory, refl))))

pub returns-in-Err-clause-paged_in : goal.returns-in-Err-clause-paged_in
returns-in-Err-clause-paged_in c =
    let old = c.args.storage.now in
    let fetched = c.fetch_first.new.storage in
    let m = lent_memory old in
    let disks = disks_on c.args.self.now in
    let o = slice_get (map reset_disk disks) c.args.index in
    let Needs : ℕ → Type 0 = DiskLoads m o in
    let there : o ≡ None → ⊥ =
    Ran.disk_there (map reset_disk disks) c.args.index
    (subst (λ (n : ℕ). c.args.index < n) (sym (length-map disks reset_disk)) c.requires.inside) in
    let at_first : (page : ℕ) → page ≡ 0 → Needs page = λ page it. Ran.disk_first o m page there it in
    Ran.tried_came 1 4 old fetched (λ page. page ≡ 0) Needs at_first (omega arith) c.fetch_first.ensures.paged_in

pub fetch_again-requires-clause-stands : goal.fetch_again-requires-clause-stands
fetch_again-requires-clause-stands c =
    stands_on c.fetch_first.new.storage c.load_disk.new.storage
    (DiskLoadTouches (lent_memory c.fetch_first.new.storage)
    (slice_get (map reset_disk (disks_on c.args.self.now)) c.args.index)) 2 0 c.load_disk.ensures.paged_in
    (inl c.in-Ok.ensures.there)

pub returns-in-Ok-load_disk-clause-paged_in : goal.returns-in-Ok-load_disk-clause-paged_in
returns-in-Ok-load_disk-clause-paged_in c =
    let old = c.args.storage.now in
    let fetched = c.fetch_first.new.storage in
    let m = lent_memory old in
    let disks = disks_on c.args.self.now in
    let o = slice_get (map reset_disk disks) c.args.index in
    let Needs : ℕ → Type 0 = DiskLoads m o in
    let there : o ≡ None → ⊥ =
    Ran.disk_there (map reset_disk disks) c.args.index
    (subst (λ (n : ℕ). c.args.index < n) (sym (length-map disks reset_disk)) c.requires.inside) in
    let at_first : (page : ℕ) → page ≡ 0 → Needs page = λ page it. Ran.disk_first o m page there it in
    let loaded = c.load_disk.new.storage in
    let Touched : ℕ → Type 0 = DiskLoadTouches (lent_memory fetched) o in
    let same : lent_memory fetched ≡ m = c.fetch_first.ensures.memory in
    let touches : (page : ℕ) → Touched page
    → Needs page = λ page it. Ran.disk_loads o m page (subst (λ (n : Memory). DiskLoadTouches n o page) same it) in
    let first = came_fewer old fetched (λ page. page ≡ 0) Needs 1 1 at_first (omega arith)
    c.fetch_first.ensures.paged_in in
    let second = came_more old fetched loaded Touched Needs 1 2 touches first c.load_disk.ensures.paged_in in
    let again = c.fetch_again.new.storage in
    let third = came_more old loaded again (λ page. page ≡ 0) Needs 3 1 at_first second c.fetch_again.ensures.paged_in
    in
    Ran.tried_came 4 4 old again Needs Needs (λ page it. it) (omega arith) third

pub returns-in-Err-load_disk-clause-whole : goal.returns-in-Err-load_disk-clause-whole
returns-in-Err-load_disk-clause-whole c = λ is.
    (
    let old = c.args.storage.now in
    let fetched = c.fetch_first.new.storage in
    let m = lent_memory old in
    let disks = disks_on c.args.self.now in
    let o = slice_get (map reset_disk disks) c.args.index in
    let Needs : ℕ → Type 0 = DiskLoads m o in
    let there : o ≡ None → ⊥ =
    Ran.disk_there (map reset_disk disks) c.args.index
    (subst (λ (n : ℕ). c.args.index < n) (sym (length-map disks reset_disk)) c.requires.inside) in
    let at_first : (page : ℕ) → page ≡ 0 → Needs page = λ page it. Ran.disk_first o m page there it in
    let loaded = c.load_disk.new.storage in
    let Touched : ℕ → Type 0 = DiskLoadTouches (lent_memory fetched) o in
    let same : lent_memory fetched ≡ m = c.fetch_first.ensures.memory in
    let touches : (page : ℕ) → Touched page
    → Needs page = λ page it. Ran.disk_loads o m page (subst (λ (n : Memory). DiskLoadTouches n o page) same it) in
    let first = came_fewer old fetched (λ page. page ≡ 0) Needs 1 1 at_first (omega arith)
    c.fetch_first.ensures.paged_in in
    let second = came_more old fetched loaded Touched Needs 1 2 touches first c.load_disk.ensures.paged_in in
    let long : length (lent_bytes loaded) ≡ length (lent_bytes old) =
    c.load_disk.ensures.paged_in.paged_in.kept.same_size ∙ c.fetch_first.ensures.paged_in.paged_in.kept.same_size in
    let P : Type 0 = (lent_memory loaded ≡ lent_memory old) × (seen c.load_disk.new.self ≡ disks) in
    let out : c.in-Err-load_disk.error ≡ tries.FramesOut
    → c.load_disk.result ≡ Err tries.FramesOut = λ e. c.in-Err-load_disk.is ∙ ap Err e in
    subst (λ (e : ChannelError). WhereOut (length (lent_bytes old)) Needs (no_room loaded Needs) P e)
    (sym c.error_of-in-Err-load_disk.ensures)
    (Ran.stopped_whole c.in-Err-load_disk.error old loaded Touched Needs P touches long
    (λ e. c.load_disk.ensures.lacking (out e))
    (λ e. (
      c.load_disk.ensures.memory (out e) ∙ same,
      ap seen (subst (λ (r : Result Ending DryRunError). OnErr r (c.load_disk.new.self ≡ hung_on c.args.self.now))
          (out e) c.load_disk.ensures.unchanged_on_error),
    ))))

pub returns-in-Err-load_disk-clause-paged_in : goal.returns-in-Err-load_disk-clause-paged_in
returns-in-Err-load_disk-clause-paged_in c =
    let old = c.args.storage.now in
    let fetched = c.fetch_first.new.storage in
    let m = lent_memory old in
    let disks = disks_on c.args.self.now in
    let o = slice_get (map reset_disk disks) c.args.index in
    let Needs : ℕ → Type 0 = DiskLoads m o in
    let there : o ≡ None → ⊥ =
    Ran.disk_there (map reset_disk disks) c.args.index
    (subst (λ (n : ℕ). c.args.index < n) (sym (length-map disks reset_disk)) c.requires.inside) in
    let at_first : (page : ℕ) → page ≡ 0 → Needs page = λ page it. Ran.disk_first o m page there it in
    let loaded = c.load_disk.new.storage in
    let Touched : ℕ → Type 0 = DiskLoadTouches (lent_memory fetched) o in
    let same : lent_memory fetched ≡ m = c.fetch_first.ensures.memory in
    let touches : (page : ℕ) → Touched page
    → Needs page = λ page it. Ran.disk_loads o m page (subst (λ (n : Memory). DiskLoadTouches n o page) same it) in
    let first = came_fewer old fetched (λ page. page ≡ 0) Needs 1 1 at_first (omega arith)
    c.fetch_first.ensures.paged_in in
    let second = came_more old fetched loaded Touched Needs 1 2 touches first c.load_disk.ensures.paged_in in
    Ran.tried_came 3 4 old loaded Needs Needs (λ page it. it) (omega arith) second

pub returns-in-Err-clause-roomy : goal.returns-in-Err-clause-roomy
returns-in-Err-clause-roomy c = λ whole refused.
    (
    let disks = disks_on c.args.self.now in
    let o = slice_get (map reset_disk disks) c.args.index in
    let there : o ≡ None → ⊥ =
    Ran.disk_there (map reset_disk disks) c.args.index
    (subst (λ (n : ℕ). c.args.index < n) (sym (length-map disks reset_disk)) c.requires.inside) in
    let memory = refused_of c.in-Err.error (sym c.error_of.ensures ∙ error_in _ _ refl refused) in
    first_untouched o c.args.storage.now c.fetch_first.new.storage there
    (c.fetch_first.ensures.untouched (c.in-Err.is ∙ ap Err memory)))

pub returns-in-Err-load_disk-clause-roomy : goal.returns-in-Err-load_disk-clause-roomy
returns-in-Err-load_disk-clause-roomy c = λ whole refused.
    (
    let disks = disks_on c.args.self.now in
    let o = slice_get (map reset_disk disks) c.args.index in
    let memory = refused_of c.in-Err-load_disk.error
    (sym c.error_of-in-Err-load_disk.ensures ∙ error_in _ _ refl refused) in
    after_first o c.args.storage.now c.fetch_first.new.storage c.load_disk.new.storage c.fetch_first.ensures.memory
    c.fetch_first.ensures.paged_in c.in-Ok.ensures.there
    (c.load_disk.ensures.roomy (c.in-Err-load_disk.is ∙ ap Err memory)))
