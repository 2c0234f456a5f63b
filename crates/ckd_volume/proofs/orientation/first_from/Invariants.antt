use Rattle.std.proofs.Common.{◌≡◌}
use Rattle.ckd_volume.specs.Front.{wants}
use Rattle.ckd_volume.specs.Orientation.{first_from}
use Rattle.ckd_volume.proofs.orientation.first_from.Given as goal

abbrev pub invariant-loop-i : goal.invariant-loop-i
invariant-loop-i l = first_from (wants l.wanted) l.track.records l.start ≡ first_from
    (wants l.wanted) l.track.records l.i
