use Rattle.std.proofs.Common.{◌≡◌, ◌++◌, drop}
use Rattle.ckd_text.specs.Map.{record_lines}
use Rattle.ckd_text.proofs.map.put_records.Given as goal

abbrev pub invariant-loop-i : goal.invariant-loop-i
invariant-loop-i l = l.out.items ++ record_lines (drop l.i l.track.records) ≡ l.fn.out.items ++ record_lines
    l.track.records
