use Rattle.std.proofs.Common.{◌≡◌, ◌+◌, ◌*◌, ◌≤◌, drop}
use Rattle.ckd_image.specs.Image.{tracks_total}
use Rattle.ckd_image.proofs.writer.records_of.Given as goal

abbrev pub invariant-loop-head : goal.invariant-loop-head
invariant-loop-head l = (l.total + tracks_total (drop l.head l.cylinder) ≡ tracks_total l.cylinder)
    × (l.total ≤ 97 * l.head)
