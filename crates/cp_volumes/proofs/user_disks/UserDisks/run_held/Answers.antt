use Rattle.std.proofs.Common.{◌≡◌, ◌<◌, ap, arith, length, set, subst, refl, Some}
use Rattle.std.specs.Prelude.{slice_get}
use Rattle.std.proofs.lemmas.Option.{slice_get_read}
use Rattle.s370_channel.specs.Reading.{as_reached}
use Rattle.machine_channels.specs.Channels.{WalksDisk}
use Rattle.cp_volumes.specs.Shared.{DisksValue, KeepsOtherDisks, seen}
use Rattle.cp_volumes.proofs.Seats.{as_many, kept_one, seated_at, users_kept, walks}
use Rattle.cp_volumes.proofs.user_disks.UserDisks.run_held.Goals as goal

pub run_held-requires-clause-seated : goal.run_held-requires-clause-seated
run_held-requires-clause-seated g c =
    let ds = c.self.inside.minidisks.items in
    let inside : c.args.index < length ds =
    omega (
      arith,
      c.requires.inside,
      as_many c.args.self.now,
      ap (λ (v : DisksValue). length v.minidisks) c.self.view_is,
    ) in
    let is : slice_get ds c.args.index ≡ Some c.index_mut.result.now =
    slice_get_read ds (length ds) c.args.index c.index_mut.result.now refl inside c.index_mut.ensures.value in
    seated_at c.self.inside.volumes ds c.args.index c.index_mut.result.now c.self.invariant is

pub invariant_of-self : goal.invariant_of-self
invariant_of-self g c =
    let ds = c.self.inside.minidisks.items in
    let inside : c.args.index < length ds =
    omega (
      arith,
      c.requires.inside,
      as_many c.args.self.now,
      ap (λ (v : DisksValue). length v.minidisks) c.self.view_is,
    ) in
    let is : slice_get ds c.args.index ≡ Some c.index_mut.result.now =
    slice_get_read ds (length ds) c.args.index c.index_mut.result.now refl inside c.index_mut.ensures.value in
    users_kept c.self.inside.volumes c.run_held.new.self ds c.args.index c.index_mut.result.now c.run_held.new.disk
    c.self.invariant is c.run_held.ensures.placements c.run_held.ensures.confined

pub returns-clause-walk : goal.returns-clause-walk
returns-clause-walk g c =
    let ds = c.self.inside.minidisks.items in
    let inside : c.args.index < length ds =
    omega (
      arith,
      c.requires.inside,
      as_many c.args.self.now,
      ap (λ (v : DisksValue). length v.minidisks) c.self.view_is,
    ) in
    let is : slice_get ds c.args.index ≡ Some c.index_mut.result.now =
    slice_get_read ds (length ds) c.args.index c.index_mut.result.now refl inside c.index_mut.ensures.value in
    let m = g.S.Storage.memory c.args.storage.now in
    let n = g.S.Storage.memory c.run_held.new.storage in
    let left : DisksValue = record {
      volumes = c.run_held.new.self;
      minidisks = set ds c.args.index c.run_held.new.disk;
    } in
    subst (λ (v : DisksValue).
    WalksDisk as_reached c.args.start m (seen v) c.args.index c.run_held.result n (seen left)) c.self.view_is
    (walks c.self.inside.volumes c.run_held.new.self ds c.args.index c.index_mut.result.now c.run_held.new.disk
    c.self.invariant is c.run_held.ensures.placements c.run_held.ensures.confined as_reached c.args.start m n
    c.run_held.result c.run_held.ensures.walk)

pub returns-clause-others : goal.returns-clause-others
returns-clause-others g c =
    let ds = c.self.inside.minidisks.items in
    let inside : c.args.index < length ds =
    omega (
      arith,
      c.requires.inside,
      as_many c.args.self.now,
      ap (λ (v : DisksValue). length v.minidisks) c.self.view_is,
    ) in
    let is : slice_get ds c.args.index ≡ Some c.index_mut.result.now =
    slice_get_read ds (length ds) c.args.index c.index_mut.result.now refl inside c.index_mut.ensures.value in
    let left : DisksValue = record {
      volumes = c.run_held.new.self;
      minidisks = set ds c.args.index c.run_held.new.disk;
    } in
    subst (λ (v : DisksValue). KeepsOtherDisks v left) c.self.view_is
    (kept_one c.self.inside.volumes c.run_held.new.self ds c.args.index c.index_mut.result.now c.run_held.new.disk
    c.self.invariant is c.run_held.ensures.placements c.run_held.ensures.confined)
