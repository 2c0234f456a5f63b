use Rattle.std.proofs.Common.{◌≡◌, drop}
use Rattle.ckd_image.specs.Reading as image
use Rattle.ckd_image.proofs.header.is_padded.Given as goal

abbrev pub invariant-loop-i : goal.invariant-loop-i
invariant-loop-i l = image.is_padded (drop l.i l.bytes) ≡ image.is_padded l.bytes
