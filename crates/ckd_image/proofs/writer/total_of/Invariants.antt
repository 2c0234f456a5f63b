use Rattle.std.proofs.Common.{◌≡◌, ◌+◌, ◌*◌, ◌≤◌, drop}
use Rattle.ckd_image.specs.Image.{cylinders_total}
use Rattle.ckd_image.proofs.writer.total_of.Given as goal

abbrev pub invariant-loop-number : goal.invariant-loop-number
invariant-loop-number l = (l.total + cylinders_total (drop l.number l.volume.cylinders) ≡ cylinders_total
    l.volume.cylinders) × (l.total ≤ 1843 * l.number)
