use Rattle.std.proofs.Common.{sym, ◌+◌}
use Rattle.std.proofs.lemmas.List.{take_rest}
use Rattle.text_words.proofs.Cuts.{word_at, after_at, word_alone, after_none, nowhere}
use Rattle.text_words.proofs.words.cut_word.Goals as goal

pub returns-in-Some-clause-word : goal.returns-in-Some-clause-word
returns-in-Some-clause-word c = sym (word_at c.args.line.now c.in-Some.at (sym c.in-Some.ensures))

pub returns-in-Some-clause-rest : goal.returns-in-Some-clause-rest
returns-in-Some-clause-rest c = rw (take_rest c.args.line.now (c.in-Some.at + 1))
    (sym (after_at c.args.line.now c.in-Some.at (sym c.in-Some.ensures)))

pub returns-in-None-clause-word : goal.returns-in-None-clause-word
returns-in-None-clause-word c = sym (word_alone c.args.line.now (nowhere 32 c.args.line.now (sym c.in-None.ensures)))

pub returns-in-None-clause-rest : goal.returns-in-None-clause-rest
returns-in-None-clause-rest c = sym (after_none c.args.line.now (nowhere 32 c.args.line.now (sym c.in-None.ensures)))
