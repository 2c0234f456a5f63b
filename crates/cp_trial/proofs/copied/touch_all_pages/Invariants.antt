use Rattle.std.proofs.Common.{◌≡◌, ◌≤◌, ◌*◌, length}
use Rattle.cp_trial.specs.Trial.{trial_bytes, trial_flags, trial_memory, untouched_count}
use Rattle.cp_trial.proofs.copied.touch_all_pages.Given as goal

abbrev pub invariant-loop-page : goal.invariant-loop-page
invariant-loop-page l = record {
  memory : trial_memory l.copy ≡ trial_memory l.fn.copy;
  no_more : untouched_count (trial_flags l.copy) ≤ untouched_count (trial_flags l.fn.copy);
  size : l.page-end * 4096 ≤ length (trial_bytes l.copy);
}
