use Rattle.std.proofs.Common.{◌/◌, take}
use Rattle.cp_trial.specs.Flags.{AreFlagged}
use Rattle.cp_trial.proofs.flags.mark_words.Given as goal

abbrev pub invariant-loop-word : goal.invariant-loop-word
invariant-loop-word l = AreFlagged (λ w. w.start / 4096) (take l.word-index l.words) l.initial.wanted.items
    l.wanted.items
