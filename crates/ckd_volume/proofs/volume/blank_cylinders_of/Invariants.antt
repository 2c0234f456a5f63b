use Rattle.std.proofs.Common.{◌≡◌, ◌++◌, ◌-◌, length}
use Rattle.ckd_volume.specs.Volume.{blank_cylinders}
use Rattle.ckd_volume.proofs.volume.blank_cylinders_of.Given as goal

abbrev pub invariant-loop-number : goal.invariant-loop-number
invariant-loop-number l =
    (l.cylinders.items ++ blank_cylinders l.number (l.count - l.number) ≡ blank_cylinders 0 l.count)
    × (length l.cylinders.items ≡ l.number)
