use Rattle.std.proofs.Common.{sym, refl, []}
use Rattle.text_words.proofs.FirstWords.{first_word, no_word}
use Rattle.text_words.proofs.words.next_word.Goals as goal

pub returns-then-is_empty-clause-words : goal.returns-then-is_empty-clause-words
returns-then-is_empty-clause-words c = no_word c.args.line.now c.unindented-line.result.now c.unindented-line.ensures
    (sym c.if-is_empty.ensures)

pub returns-in-Some-clause-words : goal.returns-in-Some-clause-words
returns-in-Some-clause-words c =
    first_word c.args.line.now c.unindented-line.result.now c.cut_word.result.0.now c.in-Some.rest.now
    c.unindented-line.ensures (sym c.if-is_empty.ensures) c.cut_word.ensures.word
    (rw (← c.cut_word.ensures.rest, c.in-Some.is) refl)

pub returns-in-None-clause-words : goal.returns-in-None-clause-words
returns-in-None-clause-words c =
    first_word c.args.line.now c.unindented-line.result.now c.cut_word.result.0.now [] c.unindented-line.ensures
    (sym c.if-is_empty.ensures) c.cut_word.ensures.word (rw (← c.cut_word.ensures.rest, c.in-None.is) refl)
