use Rattle.std.proofs.Common.{◌≡◌, ◌++◌, drop}
use Rattle.ckd_text.specs.Map.{cylinder_lines}
use Rattle.ckd_text.proofs.map.put_cylinder.Given as goal

abbrev pub invariant-loop-head : goal.invariant-loop-head
invariant-loop-head l = l.out.items ++ cylinder_lines l.number l.head
    (drop l.head l.cylinder) ≡ l.fn.out.items ++ cylinder_lines l.number 0 l.cylinder
