use Rattle.std.proofs.Common.{◌≡◌, ◌++◌, drop}
use Rattle.ckd_image.specs.Image.{tracks_bytes}
use Rattle.ckd_image.proofs.writer.put_cylinder.Given as goal

abbrev pub invariant-loop-head : goal.invariant-loop-head
invariant-loop-head l = l.out.items ++ tracks_bytes (drop l.head l.cylinder) ≡ l.fn.out.items ++ tracks_bytes l.cylinder
