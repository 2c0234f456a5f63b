use Rattle.std.proofs.Common.{◌≡◌, ℕ, List, length}
use Rattle.s370_rows.specs.State.{state_of}
use Rattle.s370_intr.specs.Units.{NeedsAt, core_of}
use Rattle.s370_intr.specs.Run.{AllNeeded}
use Rattle.s370_intr.proofs.Brings.{AreDistinct}
use Rattle.s370_intr.proofs.run.bring_until_done.Given as goal

abbrev pub invariant-loop-page : goal.invariant-loop-page
invariant-loop-page g l =
    let first = core_of (state_of l.fn.cpu (g.S.Storage.memory l.fn.storage)) l.fn.pending l.fn.subchannels in
    record {
      state : core_of (state_of l.cpu (g.S.Storage.memory l.storage)) l.pending l.subchannels ≡ first;
      supply : (pages : List ℕ) × g.S.Supply.Brought l.fn.storage pages l.storage
          × AllNeeded (NeedsAt l.fn.said first) pages × AreDistinct pages;
      size : length (g.S.Storage.memory l.storage).bytes ≡ length (g.S.Storage.memory l.fn.storage).bytes;
    }

abbrev pub decreases-loop-page : goal.decreases-loop-page
decreases-loop-page g l = g.S.Supply.spare l.storage
