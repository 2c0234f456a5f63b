use Rattle.std.proofs.Common.{◌≡◌, take}
use Rattle.ckd_volume.proofs.volume.copies_of.Given as goal

abbrev pub invariant-loop-cylinder : goal.invariant-loop-cylinder
invariant-loop-cylinder l = l.copies.items ≡ take l.cylinder-index l.cylinders
