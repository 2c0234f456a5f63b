use Rattle.std.proofs.Common.{arith}
use Rattle.ckd_track.proofs.Laying.{length_records, few_entries}
use Rattle.ckd_track.proofs.track.Track.len.Goals as goal

pub returns-clause-count : goal.returns-clause-count
returns-clause-count c = rw (← c.self.view_is) (omega (
  arith,
  c.len.ensures,
  length_records c.self.inside.entries.items c.self.inside.area.items,
  c.self.inside.entries.ok.0,
))

pub returns-clause-few : goal.returns-clause-few
returns-clause-few c = omega (
  arith,
  c.len.ensures,
  few_entries c.self.inside.entries.items c.self.invariant.0.fits,
  c.self.inside.entries.ok.0,
)
