use Rattle.std.proofs.Common.{◌≡◌, ◌-◌, ◌≤◌, replicate, None}
use Rattle.ckd_volume.proofs.trial.no_copies.Given as goal

abbrev pub invariant-loop-added : goal.invariant-loop-added
invariant-loop-added l = record {
  few : l.added ≤ l.count;
  made : l.made.items ≡ replicate l.added None;
}

abbrev pub decreases-loop-added : goal.decreases-loop-added
decreases-loop-added l = l.count - l.added
