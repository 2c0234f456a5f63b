use Rattle.std.proofs.Common.{arith, length, ◌<◌, ◌≡◌, ◌+◌}
use Rattle.ckd_track.specs.Track.{no_record}
use Rattle.std.specs.Prelude.{slice_index_or}
use Rattle.ckd_track.specs.Laid.{records_of}
use Rattle.ckd_track.proofs.Laying.{length_records, key_long, content_long}
use Rattle.ckd_track.proofs.track.Track.write_key_and_content.Goals as goal

pub put_both-requires-clause-within : goal.put_both-requires-clause-within
put_both-requires-clause-within c =
    let lt : c.args.i < length (records_of c.self.inside.entries.items c.self.inside.area.items) = rw
    (← c.self.view_is) at c.requires.inside in
    rw (c.deref.ensures.value) (omega (arith, lt, length_records c.self.inside.entries.items c.self.inside.area.items))

pub put_both-requires-clause-long : goal.put_both-requires-clause-long
put_both-requires-clause-long c =
    let lt : c.args.i < length (records_of c.self.inside.entries.items c.self.inside.area.items) = rw
    (← c.self.view_is) at c.requires.inside in
    let inside : c.args.i < length c.self.inside.entries.items = omega
    (arith, lt, length_records c.self.inside.entries.items c.self.inside.area.items) in
    let long : length c.args.bytes.now ≡ length (slice_index_or
    (records_of c.self.inside.entries.items c.self.inside.area.items) c.args.i no_record).key + length
    (slice_index_or (records_of c.self.inside.entries.items c.self.inside.area.items) c.args.i no_record).content =
    rw (← c.self.view_is) at c.requires.whole in
    rw (c.deref.ensures.value)
    (omega (
      arith,
      long,
      key_long c.self.inside.entries.items c.self.inside.area.items c.args.i c.self.invariant.0.whole inside,
      content_long c.self.inside.entries.items c.self.inside.area.items c.args.i c.self.invariant.0.whole inside,
    ))
