use Rattle.std.proofs.Common.{◌≡◌, ◌<◌, ap, arith, length, set, subst, sym, refl, Option, Some}
use Rattle.std.specs.Prelude.{slice_get}
use Rattle.std.proofs.lemmas.Option.{slice_get_read}
use Rattle.machine_channels.specs.Disks.{DiskAt}
use Rattle.cp_dat.specs.Copies.{CameOnly}
use Rattle.cp_dat.specs.Lent.{lent_memory}
use Rattle.cp_trial.specs.DryRun.{LacksSuch}
use Rattle.cp_volumes.specs.Shared.{DisksValue, KeepsOtherDisks, disk_on, seen}
use Rattle.s370_channel.specs.Reading.{as_reached}
use Rattle.machine_channels.specs.Channels.{WalksDisk}
use Rattle.cp_volumes.specs.Running.{DiskTouches}
use Rattle.cp_volumes.proofs.Seats.{as_many, kept_one, seated_at, seen_at, users_kept, walks}
use Rattle.cp_volumes.proofs.user_disks.UserDisks.run_disk.Goals as goal

pub run-requires-clause-seated : goal.run-requires-clause-seated
run-requires-clause-seated c =
    let ds = c.self.inside.minidisks.items in
    let d = c.index.result.now in
    let volumes = c.self.inside.volumes in
    let inside : c.args.index < length ds =
    omega (
      arith,
      c.requires.inside,
      as_many c.args.self.now,
      ap (λ (v : DisksValue). length v.minidisks) c.self.view_is,
    ) in
    let is : slice_get ds c.args.index ≡ Some d =
    slice_get_read ds (length ds) c.args.index d refl inside c.index.ensures in
    seated_at volumes ds c.args.index d c.self.invariant is

pub invariant_of-self : goal.invariant_of-self
invariant_of-self c =
    let ds = c.self.inside.minidisks.items in
    let d = c.index.result.now in
    let volumes = c.self.inside.volumes in
    let inside : c.args.index < length ds =
    omega (
      arith,
      c.requires.inside,
      as_many c.args.self.now,
      ap (λ (v : DisksValue). length v.minidisks) c.self.view_is,
    ) in
    let is : slice_get ds c.args.index ≡ Some d =
    slice_get_read ds (length ds) c.args.index d refl inside c.index.ensures in
    users_kept volumes c.run.new.self ds c.args.index d c.run.new.disk c.self.invariant is c.run.ensures.placements
    c.run.ensures.confined

pub returns-in-Ok-clause-walk : goal.returns-in-Ok-clause-walk
returns-in-Ok-clause-walk c =
    let ds = c.self.inside.minidisks.items in
    let d = c.index.result.now in
    let volumes = c.self.inside.volumes in
    let inside : c.args.index < length ds =
    omega (
      arith,
      c.requires.inside,
      as_many c.args.self.now,
      ap (λ (v : DisksValue). length v.minidisks) c.self.view_is,
    ) in
    let is : slice_get ds c.args.index ≡ Some d =
    slice_get_read ds (length ds) c.args.index d refl inside c.index.ensures in
    let m = lent_memory c.args.storage.now in
    let n = lent_memory c.run.new.storage in
    let left : DisksValue = record { volumes = c.run.new.self; minidisks = set ds c.args.index c.run.new.disk } in
    subst (λ (v : DisksValue). WalksDisk as_reached c.args.start m (seen v) c.args.index c.in-Ok.ending n (seen left))
    c.self.view_is
    (walks volumes c.run.new.self ds c.args.index d c.run.new.disk c.self.invariant is c.run.ensures.placements
    c.run.ensures.confined as_reached c.args.start m n c.in-Ok.ending c.in-Ok.ensures.walk)

pub returns-in-Ok-clause-others : goal.returns-in-Ok-clause-others
returns-in-Ok-clause-others c =
    let ds = c.self.inside.minidisks.items in
    let d = c.index.result.now in
    let volumes = c.self.inside.volumes in
    let inside : c.args.index < length ds =
    omega (
      arith,
      c.requires.inside,
      as_many c.args.self.now,
      ap (λ (v : DisksValue). length v.minidisks) c.self.view_is,
    ) in
    let is : slice_get ds c.args.index ≡ Some d =
    slice_get_read ds (length ds) c.args.index d refl inside c.index.ensures in
    let left : DisksValue = record { volumes = c.run.new.self; minidisks = set ds c.args.index c.run.new.disk } in
    subst (λ (v : DisksValue). KeepsOtherDisks v left) c.self.view_is
    (kept_one volumes c.run.new.self ds c.args.index d c.run.new.disk c.self.invariant is c.run.ensures.placements
    c.run.ensures.confined)

pub returns-in-Err-clause-lacking : goal.returns-in-Err-clause-lacking
returns-in-Err-clause-lacking c = λ out.
    let ds = c.self.inside.minidisks.items in
    let d = c.index.result.now in
    let volumes = c.self.inside.volumes in
    let inside : c.args.index < length ds =
    omega (
      arith,
      c.requires.inside,
      as_many c.args.self.now,
      ap (λ (v : DisksValue). length v.minidisks) c.self.view_is,
    ) in
    let is : slice_get ds c.args.index ≡ Some d =
    slice_get_read ds (length ds) c.args.index d refl inside c.index.ensures in
    let m = lent_memory c.args.storage.now in
    let at : slice_get (seen c.args.self.now) c.args.index ≡ Some (disk_on volumes d) =
    subst (λ (v : DisksValue). slice_get (seen v) c.args.index ≡ Some (disk_on volumes d)) c.self.view_is
    (seen_at volumes ds c.args.index d is) in
    subst (λ (o : Option DiskAt). LacksSuch (DiskTouches c.args.start m o) c.run.new.storage) (sym at)
    (c.in-Err.ensures.lacking out)

pub returns-in-Ok-clause-paged_in : goal.returns-in-Ok-clause-paged_in
returns-in-Ok-clause-paged_in c =
    let ds = c.self.inside.minidisks.items in
    let d = c.index.result.now in
    let volumes = c.self.inside.volumes in
    let inside : c.args.index < length ds =
    omega (
      arith,
      c.requires.inside,
      as_many c.args.self.now,
      ap (λ (v : DisksValue). length v.minidisks) c.self.view_is,
    ) in
    let is : slice_get ds c.args.index ≡ Some d =
    slice_get_read ds (length ds) c.args.index d refl inside c.index.ensures in
    let m = lent_memory c.args.storage.now in
    let at : slice_get (seen c.args.self.now) c.args.index ≡ Some (disk_on volumes d) =
    subst (λ (v : DisksValue). slice_get (seen v) c.args.index ≡ Some (disk_on volumes d)) c.self.view_is
    (seen_at volumes ds c.args.index d is) in
    subst (λ (o : Option DiskAt). CameOnly c.args.storage.now (DiskTouches c.args.start m o) 2 c.run.new.storage)
    (sym at) c.run.ensures.paged_in

pub returns-in-Err-clause-paged_in : goal.returns-in-Err-clause-paged_in
returns-in-Err-clause-paged_in c =
    let ds = c.self.inside.minidisks.items in
    let d = c.index.result.now in
    let volumes = c.self.inside.volumes in
    let inside : c.args.index < length ds =
    omega (
      arith,
      c.requires.inside,
      as_many c.args.self.now,
      ap (λ (v : DisksValue). length v.minidisks) c.self.view_is,
    ) in
    let is : slice_get ds c.args.index ≡ Some d =
    slice_get_read ds (length ds) c.args.index d refl inside c.index.ensures in
    let m = lent_memory c.args.storage.now in
    let at : slice_get (seen c.args.self.now) c.args.index ≡ Some (disk_on volumes d) =
    subst (λ (v : DisksValue). slice_get (seen v) c.args.index ≡ Some (disk_on volumes d)) c.self.view_is
    (seen_at volumes ds c.args.index d is) in
    subst (λ (o : Option DiskAt). CameOnly c.args.storage.now (DiskTouches c.args.start m o) 2 c.run.new.storage)
    (sym at) c.run.ensures.paged_in
