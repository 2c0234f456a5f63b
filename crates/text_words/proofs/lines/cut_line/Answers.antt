use Rattle.std.proofs.Common.{sym, ◌+◌}
use Rattle.std.proofs.lemmas.List.{take_rest}
use Rattle.text_words.proofs.Cuts.{lines_at, line_alone, nowhere}
use Rattle.text_words.proofs.lines.cut_line.Goals as goal

pub returns-in-Some-clause-lines : goal.returns-in-Some-clause-lines
returns-in-Some-clause-lines c = rw (take_rest c.args.text.now (c.in-Some.at + 1))
    (lines_at c.args.text.now c.in-Some.at (sym c.in-Some.ensures))

pub returns-in-None-clause-lines : goal.returns-in-None-clause-lines
returns-in-None-clause-lines c = line_alone c.args.text.now c.requires
    (nowhere 10 c.args.text.now (sym c.in-None.ensures))
