use Rattle.std.proofs.Common.{◌≡◌, ◌+◌, ◌≤◌, drop}
use Rattle.ckd_text.specs.Map.{blank_heads}
use Rattle.ckd_text.proofs.map.blank_heads.Given as goal

abbrev pub invariant-loop-head : goal.invariant-loop-head
invariant-loop-head l = (l.count + blank_heads l.number l.head
    (drop l.head l.cylinder) ≡ blank_heads l.number 0 l.cylinder) × (l.count ≤ l.head)
