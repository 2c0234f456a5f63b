use Rattle.std.proofs.Common.{◌≡◌}
use Rattle.cp_dat.specs.Lent.{lent_memory}
use Rattle.cp_trial.specs.Trial.{trial_flags, trial_memory, untouched_count}
use Rattle.cp_trial.proofs.copied.pages_on_copy.Given as goal

abbrev pub invariant-loop-copy : goal.invariant-loop-copy
invariant-loop-copy l = trial_memory l.copy ≡ lent_memory l.fn.storage

abbrev pub decreases-loop-copy : goal.decreases-loop-copy
decreases-loop-copy l = untouched_count (trial_flags l.copy)
