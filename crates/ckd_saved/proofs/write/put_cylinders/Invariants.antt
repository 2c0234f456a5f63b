use Rattle.std.proofs.Common.{◌≡◌, ◌++◌, drop}
use Rattle.saved_bytes.specs.Codes.{each}
use Rattle.ckd_saved.specs.Saved.{cylinder_bytes}
use Rattle.ckd_saved.proofs.write.put_cylinders.Given as goal

abbrev pub invariant-loop-index : goal.invariant-loop-index
invariant-loop-index l = l.out.items ++ each cylinder_bytes (drop l.index l.volume.cylinders) ≡ l.fn.out.items ++ each
    cylinder_bytes l.volume.cylinders
