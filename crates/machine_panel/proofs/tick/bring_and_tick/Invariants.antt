use Rattle.std.proofs.Common.{◌≡◌, ℕ, List}
use Rattle.s370_intr.specs.Run.{AllNeeded}
use Rattle.s370_intr.specs.Timer.{timed}
use Rattle.s370_intr.proofs.Brings.{AreDistinct}
use Rattle.machine_panel.proofs.tick.bring_and_tick.Given as goal

abbrev pub invariant-loop-page : goal.invariant-loop-page
invariant-loop-page g l = record {
  same : timed (g.S.Storage.memory l.storage).bytes l.pending
      ≡ timed (g.S.Storage.memory l.fn.storage).bytes l.fn.pending;
  keys : (g.S.Storage.memory l.storage).keys ≡ (g.S.Storage.memory l.fn.storage).keys;
  supply : (pages : List ℕ) × g.S.Supply.Brought l.fn.storage pages l.storage × AllNeeded (λ page. page ≡ 0) pages
      × AreDistinct pages;
}

abbrev pub decreases-loop-page : goal.decreases-loop-page
decreases-loop-page g l = g.S.Supply.spare l.storage
