use Rattle.std.proofs.Common.{◌≡◌, ◌++◌, drop}
use Rattle.saved_bytes.specs.Codes.{each}
use Rattle.ckd_saved.specs.Saved.{track_bytes}
use Rattle.ckd_saved.proofs.write.put_cylinder.Given as goal

abbrev pub invariant-loop-head : goal.invariant-loop-head
invariant-loop-head l = l.out.items ++ each track_bytes (drop l.head l.cylinder) ≡ l.fn.out.items ++ each track_bytes
    l.cylinder
