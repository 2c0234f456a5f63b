use Rattle.std.proofs.Common.{sym, arith}
use Rattle.std.proofs.lemmas.List.{length-take-le}
use Rattle.std.proofs.Math.Seq.{take_all}
use Rattle.logon_desk.proofs.desk.first_characters.Goals as goal

pub slice_bounds-result-end : goal.slice_bounds-result-end
slice_bounds-result-end c = sym (length-take-le _ c.args.line.now (omega arith))

pub returns-else-line-gt-LONGEST_SHOWN : goal.returns-else-line-gt-LONGEST_SHOWN
returns-else-line-gt-LONGEST_SHOWN c = sym (take_all 1024 c.args.line.now (omega arith))
