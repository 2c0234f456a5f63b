use Rattle.std.proofs.Common.{◌≡◌, ◌+◌, ◌*◌, ◌≤◌, drop}
use Rattle.ckd_text.specs.Map.{blank_count}
use Rattle.ckd_text.proofs.map.blank_count.Given as goal

abbrev pub invariant-loop-number : goal.invariant-loop-number
invariant-loop-number l = (l.count + blank_count l.number (drop l.number l.volume.cylinders) ≡ blank_count 0
    l.volume.cylinders) × (l.count ≤ 19 * l.number)
