use Rattle.std.proofs.Common.{arith, length, ◌<◌}
use Rattle.ckd_track.specs.Laid.{records_of}
use Rattle.ckd_track.proofs.Laying.{length_records, few_entries}
use Rattle.ckd_track.proofs.track.Track.record.Goals as goal

pub part-requires-clause-within : goal.part-requires-clause-within
part-requires-clause-within c =
    let lt : c.args.i < length (records_of c.self.inside.entries.items c.self.inside.area.items) = rw
    (← c.self.view_is) at c.requires in
    rw (c.deref.ensures.value) (omega (arith, lt, length_records c.self.inside.entries.items c.self.inside.area.items))

pub returns-clause-number : goal.returns-clause-number
returns-clause-number c =
    let lt : c.args.i < length (records_of c.self.inside.entries.items c.self.inside.area.items) = rw
    (← c.self.view_is) at c.requires in
    omega (
      arith,
      lt,
      length_records c.self.inside.entries.items c.self.inside.area.items,
      few_entries c.self.inside.entries.items c.self.invariant.0.fits,
    )
