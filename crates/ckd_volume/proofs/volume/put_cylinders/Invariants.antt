use Rattle.std.proofs.Common.{◌≡◌, ◌+◌, length}
use Rattle.ckd_volume.specs.Volume.{put_back}
use Rattle.ckd_volume.proofs.volume.put_cylinders.Given as goal

abbrev pub invariant-loop-cylinder : goal.invariant-loop-cylinder
invariant-loop-cylinder l =
    (put_back l.cylinders l.at l.cylinder-iterator.rest.items ≡ put_back l.fn.cylinders l.fn.start l.fn.part.items)
    × (length l.cylinders ≡ length l.fn.cylinders)
    × (l.at + length l.cylinder-iterator.rest.items ≡ l.fn.start + length l.fn.part.items)
