use Rattle.std.proofs.Common.{◌≡◌, ◌∙◌, ◌<◌, ap, arith, length, List, map, set, subst, sym, refl, Option, Some}
use Rattle.std.specs.Prelude.{[], ◌∷◌, slice_get}
use Rattle.std.proofs.lemmas.Option.{slice_get_read}
use Rattle.machine_channels.specs.Disks.{DiskAt, reset_disk}
use Rattle.cp_dat.specs.Copies.{CameOnly}
use Rattle.cp_dat.specs.Lent.{lent_memory}
use Rattle.cp_trial.specs.DryRun.{HadRoomToLoad, LacksSuch}
use Rattle.cp_volumes.specs.Shared.{DisksValue, IsConfined, IsSeated, IsUsers, KeepsOtherDisks, SharedMinidisk, disk_on}
use Rattle.cp_volumes.specs.Shared.{disks_on, reset_minidisk, seen, placement_of, placements_of}
use Rattle.std.specs.Vec.{with_items}
use Rattle.std.proofs.lemmas.List.{with_items_is}
use Rattle.machine_channels.specs.Channels.{DiskHadRoomToLoad, LoadsDisk, RestsLoaded}
use Rattle.cp_volumes.specs.Running.{DiskLoadTouches}
use Rattle.cp_volumes.proofs.Seats.{as_many, kept_one, kept_reset, loads, reset_at, reset_seen, reset_seen_at}
use Rattle.cp_volumes.proofs.Seats.{seated_at, users_kept, users_reset}
use Rattle.cp_volumes.proofs.user_disks.UserDisks.load_disk.Goals as goal

pub load-requires-clause-seated : goal.load-requires-clause-seated
load-requires-clause-seated c =
    let ds = c.self.inside.minidisks.items in
    let d = c.index.result.now in
    let volumes = c.self.inside.volumes in
    let inside : c.args.index < length ds =
    omega (
      arith,
      c.requires.inside,
      as_many c.args.self.now,
      ap (λ (v : DisksValue). length v.minidisks) c.self.view_is,
    ) in
    let is : slice_get ds c.args.index ≡ Some d =
    slice_get_read ds (length ds) c.args.index d refl inside c.index.ensures in
    let seat : c.reset.new.self ≡ reset_minidisk d = c.reset.ensures in
    subst (λ (s : SharedMinidisk). IsSeated volumes (placement_of s)) (sym seat)
    (seated_at volumes (map reset_minidisk ds) c.args.index (reset_minidisk d)
    (users_reset volumes ds c.self.invariant) (reset_at ds c.args.index d is))

pub invariant_of-self : goal.invariant_of-self
invariant_of-self c =
    let ds = c.self.inside.minidisks.items in
    let d = c.index.result.now in
    let volumes = c.self.inside.volumes in
    let inside : c.args.index < length ds =
    omega (
      arith,
      c.requires.inside,
      as_many c.args.self.now,
      ap (λ (v : DisksValue). length v.minidisks) c.self.view_is,
    ) in
    let is : slice_get ds c.args.index ≡ Some d =
    slice_get_read ds (length ds) c.args.index d refl inside c.index.ensures in
    let seat : c.reset.new.self ≡ reset_minidisk d = c.reset.ensures in
    let new = c.reset_each.new.minidisks in
    let same : (with_items c.self.inside.minidisks new).items ≡ new =
    with_items_is c.self.inside.minidisks new (omega (arith, c.reset_each.auto.minidisks, c.deref_mut.ensures.len))
    in
    let whole : (with_items c.self.inside.minidisks new).items ≡ map reset_minidisk ds =
    same ∙ c.reset_each.ensures ∙ ap (map reset_minidisk) c.deref_mut.ensures.value in
    let users = users_reset volumes ds c.self.invariant in
    let is' = reset_at ds c.args.index d is in
    let placements : placement_of c.load.new.disk ≡ placement_of (reset_minidisk d) =
    c.load.ensures.placements ∙ ap placement_of seat in
    let confined : IsConfined (placement_of (reset_minidisk d) ∷ []) volumes c.load.new.self =
    subst (λ (s : SharedMinidisk). IsConfined (placement_of s ∷ []) volumes c.load.new.self) seat
    c.load.ensures.confined in
    subst (λ (xs : List SharedMinidisk). IsUsers c.load.new.self (placements_of (set xs c.args.index c.load.new.disk)))
    (sym whole)
    (users_kept volumes c.load.new.self (map reset_minidisk ds) c.args.index (reset_minidisk d) c.load.new.disk users
    is' placements confined)

pub returns-in-Ok-clause-walk : goal.returns-in-Ok-clause-walk
returns-in-Ok-clause-walk c =
    let ds = c.self.inside.minidisks.items in
    let d = c.index.result.now in
    let volumes = c.self.inside.volumes in
    let inside : c.args.index < length ds =
    omega (
      arith,
      c.requires.inside,
      as_many c.args.self.now,
      ap (λ (v : DisksValue). length v.minidisks) c.self.view_is,
    ) in
    let is : slice_get ds c.args.index ≡ Some d =
    slice_get_read ds (length ds) c.args.index d refl inside c.index.ensures in
    let m = lent_memory c.args.storage.now in
    let seat : c.reset.new.self ≡ reset_minidisk d = c.reset.ensures in
    let new = c.reset_each.new.minidisks in
    let same : (with_items c.self.inside.minidisks new).items ≡ new =
    with_items_is c.self.inside.minidisks new (omega (arith, c.reset_each.auto.minidisks, c.deref_mut.ensures.len))
    in
    let whole : (with_items c.self.inside.minidisks new).items ≡ map reset_minidisk ds =
    same ∙ c.reset_each.ensures ∙ ap (map reset_minidisk) c.deref_mut.ensures.value in
    let users = users_reset volumes ds c.self.invariant in
    let is' = reset_at ds c.args.index d is in
    let placements : placement_of c.load.new.disk ≡ placement_of (reset_minidisk d) =
    c.load.ensures.placements ∙ ap placement_of seat in
    let confined : IsConfined (placement_of (reset_minidisk d) ∷ []) volumes c.load.new.self =
    subst (λ (s : SharedMinidisk). IsConfined (placement_of s ∷ []) volumes c.load.new.self) seat
    c.load.ensures.confined in
    let n = lent_memory c.load.new.storage in
    let ran : RestsLoaded m (disk_on volumes (reset_minidisk d)) c.in-Ok.ending n
    (disk_on c.load.new.self c.load.new.disk) =
    subst (λ (s : SharedMinidisk).
    RestsLoaded m (disk_on volumes s) c.in-Ok.ending n (disk_on c.load.new.self c.load.new.disk)) seat
    c.in-Ok.ensures.walk in
    let End : List SharedMinidisk
    → List DiskAt = λ xs. disks_on c.load.new.self (set xs c.args.index c.load.new.disk) in
    subst (λ (v : DisksValue).
    LoadsDisk m (map reset_disk (seen v)) c.args.index c.in-Ok.ending n
    (End (with_items c.self.inside.minidisks new).items)) c.self.view_is
    (subst (λ (xs : List SharedMinidisk).
    LoadsDisk m (map reset_disk (disks_on volumes ds)) c.args.index c.in-Ok.ending n (End xs)) (sym whole)
    (subst (λ (xs : List DiskAt). LoadsDisk m xs c.args.index c.in-Ok.ending n (End (map reset_minidisk ds)))
    (reset_seen volumes ds)
    (loads volumes c.load.new.self (map reset_minidisk ds) c.args.index (reset_minidisk d) c.load.new.disk users is'
    placements confined m n c.in-Ok.ending ran)))

pub returns-in-Ok-clause-others : goal.returns-in-Ok-clause-others
returns-in-Ok-clause-others c =
    let ds = c.self.inside.minidisks.items in
    let d = c.index.result.now in
    let volumes = c.self.inside.volumes in
    let inside : c.args.index < length ds =
    omega (
      arith,
      c.requires.inside,
      as_many c.args.self.now,
      ap (λ (v : DisksValue). length v.minidisks) c.self.view_is,
    ) in
    let is : slice_get ds c.args.index ≡ Some d =
    slice_get_read ds (length ds) c.args.index d refl inside c.index.ensures in
    let seat : c.reset.new.self ≡ reset_minidisk d = c.reset.ensures in
    let new = c.reset_each.new.minidisks in
    let same : (with_items c.self.inside.minidisks new).items ≡ new =
    with_items_is c.self.inside.minidisks new (omega (arith, c.reset_each.auto.minidisks, c.deref_mut.ensures.len))
    in
    let whole : (with_items c.self.inside.minidisks new).items ≡ map reset_minidisk ds =
    same ∙ c.reset_each.ensures ∙ ap (map reset_minidisk) c.deref_mut.ensures.value in
    let users = users_reset volumes ds c.self.invariant in
    let is' = reset_at ds c.args.index d is in
    let placements : placement_of c.load.new.disk ≡ placement_of (reset_minidisk d) =
    c.load.ensures.placements ∙ ap placement_of seat in
    let confined : IsConfined (placement_of (reset_minidisk d) ∷ []) volumes c.load.new.self =
    subst (λ (s : SharedMinidisk). IsConfined (placement_of s ∷ []) volumes c.load.new.self) seat
    c.load.ensures.confined in
    let Left : List SharedMinidisk
    → DisksValue = λ xs. record { volumes = c.load.new.self; minidisks = set xs c.args.index c.load.new.disk } in
    subst (λ (v : DisksValue). KeepsOtherDisks v (Left (with_items c.self.inside.minidisks new).items)) c.self.view_is
    (subst (λ (xs : List SharedMinidisk). KeepsOtherDisks (record { volumes = volumes; minidisks = ds }) (Left xs))
    (sym whole)
    (kept_reset volumes ds (Left (map reset_minidisk ds))
    (kept_one volumes c.load.new.self (map reset_minidisk ds) c.args.index (reset_minidisk d) c.load.new.disk users is'
    placements confined)))

pub returns-in-Err-clause-lacking : goal.returns-in-Err-clause-lacking
returns-in-Err-clause-lacking c = λ out.
    let ds = c.self.inside.minidisks.items in
    let d = c.index.result.now in
    let volumes = c.self.inside.volumes in
    let inside : c.args.index < length ds =
    omega (
      arith,
      c.requires.inside,
      as_many c.args.self.now,
      ap (λ (v : DisksValue). length v.minidisks) c.self.view_is,
    ) in
    let is : slice_get ds c.args.index ≡ Some d =
    slice_get_read ds (length ds) c.args.index d refl inside c.index.ensures in
    let m = lent_memory c.args.storage.now in
    let seat : c.reset.new.self ≡ reset_minidisk d = c.reset.ensures in
    let at : slice_get (map reset_disk (seen c.args.self.now)) c.args.index ≡ Some (disk_on volumes c.reset.new.self) =
    subst (λ (v : DisksValue). slice_get (map reset_disk (seen v)) c.args.index
    ≡ Some (disk_on volumes c.reset.new.self)) c.self.view_is
    (reset_seen_at volumes ds c.args.index d is ∙ ap (λ (s : SharedMinidisk). Some (disk_on volumes s)) (sym seat))
    in
    subst (λ (o : Option DiskAt). LacksSuch (DiskLoadTouches m o) c.load.new.storage) (sym at)
    (c.in-Err.ensures.lacking out)

pub returns-in-Ok-clause-paged_in : goal.returns-in-Ok-clause-paged_in
returns-in-Ok-clause-paged_in c =
    let ds = c.self.inside.minidisks.items in
    let d = c.index.result.now in
    let volumes = c.self.inside.volumes in
    let inside : c.args.index < length ds =
    omega (
      arith,
      c.requires.inside,
      as_many c.args.self.now,
      ap (λ (v : DisksValue). length v.minidisks) c.self.view_is,
    ) in
    let is : slice_get ds c.args.index ≡ Some d =
    slice_get_read ds (length ds) c.args.index d refl inside c.index.ensures in
    let m = lent_memory c.args.storage.now in
    let seat : c.reset.new.self ≡ reset_minidisk d = c.reset.ensures in
    let at : slice_get (map reset_disk (seen c.args.self.now)) c.args.index ≡ Some (disk_on volumes c.reset.new.self) =
    subst (λ (v : DisksValue). slice_get (map reset_disk (seen v)) c.args.index
    ≡ Some (disk_on volumes c.reset.new.self)) c.self.view_is
    (reset_seen_at volumes ds c.args.index d is ∙ ap (λ (s : SharedMinidisk). Some (disk_on volumes s)) (sym seat))
    in
    subst (λ (o : Option DiskAt). CameOnly c.args.storage.now (DiskLoadTouches m o) 2 c.load.new.storage) (sym at)
    c.load.ensures.paged_in

pub returns-in-Err-clause-paged_in : goal.returns-in-Err-clause-paged_in
returns-in-Err-clause-paged_in c =
    let ds = c.self.inside.minidisks.items in
    let d = c.index.result.now in
    let volumes = c.self.inside.volumes in
    let inside : c.args.index < length ds =
    omega (
      arith,
      c.requires.inside,
      as_many c.args.self.now,
      ap (λ (v : DisksValue). length v.minidisks) c.self.view_is,
    ) in
    let is : slice_get ds c.args.index ≡ Some d =
    slice_get_read ds (length ds) c.args.index d refl inside c.index.ensures in
    let m = lent_memory c.args.storage.now in
    let seat : c.reset.new.self ≡ reset_minidisk d = c.reset.ensures in
    let at : slice_get (map reset_disk (seen c.args.self.now)) c.args.index ≡ Some (disk_on volumes c.reset.new.self) =
    subst (λ (v : DisksValue). slice_get (map reset_disk (seen v)) c.args.index
    ≡ Some (disk_on volumes c.reset.new.self)) c.self.view_is
    (reset_seen_at volumes ds c.args.index d is ∙ ap (λ (s : SharedMinidisk). Some (disk_on volumes s)) (sym seat))
    in
    subst (λ (o : Option DiskAt). CameOnly c.args.storage.now (DiskLoadTouches m o) 2 c.load.new.storage) (sym at)
    c.load.ensures.paged_in

pub returns-in-Err-clause-roomy : goal.returns-in-Err-clause-roomy
returns-in-Err-clause-roomy c = λ out.
    let ds = c.self.inside.minidisks.items in
    let d = c.index.result.now in
    let volumes = c.self.inside.volumes in
    let inside : c.args.index < length ds =
    omega (
      arith,
      c.requires.inside,
      as_many c.args.self.now,
      ap (λ (v : DisksValue). length v.minidisks) c.self.view_is,
    ) in
    let is : slice_get ds c.args.index ≡ Some d =
    slice_get_read ds (length ds) c.args.index d refl inside c.index.ensures in
    let seat : c.reset.new.self ≡ reset_minidisk d = c.reset.ensures in
    let at : slice_get (map reset_disk (seen c.args.self.now)) c.args.index ≡ Some (disk_on volumes c.reset.new.self) =
    subst (λ (v : DisksValue). slice_get (map reset_disk (seen v)) c.args.index
    ≡ Some (disk_on volumes c.reset.new.self)) c.self.view_is
    (reset_seen_at volumes ds c.args.index d is ∙ ap (λ (s : SharedMinidisk). Some (disk_on volumes s)) (sym seat))
    in
    subst (λ (o : Option DiskAt). DiskHadRoomToLoad HadRoomToLoad c.args.storage.now o c.load.new.storage) (sym at)
    (c.in-Err.ensures.roomy out)
