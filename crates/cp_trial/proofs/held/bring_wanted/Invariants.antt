use Rattle.std.proofs.Common.{◌≡◌, ℕ, List}
use Rattle.s370_channel.specs.Supplied.{AllSuch}
use Rattle.cp_frames.specs.Paging.{unpinned_count}
use Rattle.cp_dat.specs.Copies.{is_wanted}
use Rattle.cp_dat.specs.Lent.{lent_pool, lent_memory}
use Rattle.cp_dat.specs.Supplied.{Supplied}
use Rattle.cp_trial.proofs.held.bring_wanted.Given as goal

abbrev pub invariant-loop-page : goal.invariant-loop-page
invariant-loop-page l = record {
  memory : lent_memory l.storage ≡ lent_memory l.fn.storage;
  supply : (pages : List ℕ) × Supplied l.fn.storage pages l.storage × AllSuch (is_wanted l.fn.wanted) pages;
}

abbrev pub decreases-loop-page : goal.decreases-loop-page
decreases-loop-page l = unpinned_count (lent_pool l.storage).supply.pins
