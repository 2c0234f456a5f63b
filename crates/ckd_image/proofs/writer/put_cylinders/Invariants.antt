use Rattle.std.proofs.Common.{◌≡◌, ◌++◌, drop}
use Rattle.ckd_image.specs.Image.{cylinders_bytes}
use Rattle.ckd_image.proofs.writer.put_cylinders.Given as goal

abbrev pub invariant-loop-number : goal.invariant-loop-number
invariant-loop-number l = l.out.items ++ cylinders_bytes (drop l.number l.volume.cylinders) ≡ l.fn.out.items ++
    cylinders_bytes l.volume.cylinders
