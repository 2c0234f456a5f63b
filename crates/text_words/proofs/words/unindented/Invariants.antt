use Rattle.std.proofs.Common.{◌≡◌, length}
use Rattle.text_words.specs.Words.{unindented}
use Rattle.text_words.proofs.words.unindented.Given as goal

abbrev pub invariant-loop-rest : goal.invariant-loop-rest
invariant-loop-rest l = unindented l.line ≡ unindented l.rest

abbrev pub decreases-loop-rest : goal.decreases-loop-rest
decreases-loop-rest l = length l.rest
