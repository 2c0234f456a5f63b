use Rattle.std.proofs.Common.{sym, arith}
use Rattle.std.proofs.lemmas.List.{length-take-le}
use Rattle.std.proofs.Math.Seq.{take_all}
use Rattle.cp_console.proofs.lines.first_characters.Goals as goal

pub slice_bounds-result-end : goal.slice_bounds-result-end
slice_bounds-result-end c = sym (length-take-le _ c.args.typed.now (omega arith))

pub returns-then-typed-gt-LINE_LENGTH-clause-bound : goal.returns-then-typed-gt-LINE_LENGTH-clause-bound
returns-then-typed-gt-LINE_LENGTH-clause-bound c = omega (arith, length-take-le 130 c.args.typed.now (omega arith))

pub returns-else-typed-gt-LINE_LENGTH-clause-value : goal.returns-else-typed-gt-LINE_LENGTH-clause-value
returns-else-typed-gt-LINE_LENGTH-clause-value c = sym (take_all 130 c.args.typed.now (omega arith))
