use Rattle.std.proofs.Common.{◌≡◌, ◌<◌, ◌-◌, ℕ, length, true}
use Rattle.cp_dat.specs.Copies.{is_wanted}
use Rattle.cp_dat.specs.Lent.{is_lent_page}
use Rattle.cp_trial.proofs.held.lacking.Given as goal

abbrev pub invariant-loop-page : goal.invariant-loop-page
invariant-loop-page l = (k : ℕ) → k < l.page → is_wanted l.fn.wanted k → is_lent_page l.storage k ≡ true

abbrev pub decreases-loop-page : goal.decreases-loop-page
decreases-loop-page l = length l.fn.wanted - l.page
