use Rattle.std.proofs.Common.{◌≡◌, ◌-◌, ◌≤◌, true}
use Rattle.s370_rows.specs.State.{state_of}
use Rattle.s370_rows.specs.Reach.{AreHeld}
use Rattle.s370_intr.specs.Units.{core_of, look}
use Rattle.s370_intr.specs.Run.{IsFetched, run}
use Rattle.s370_intr.specs.declared.next.Next.TheVariants.{Instructs}
use Rattle.s370_intr.proofs.Runs.{all_done}
use Rattle.s370_intr.proofs.run.instruct_many.Given as goal

abbrev pub invariant-loop-units : goal.invariant-loop-units
invariant-loop-units g l =
    let first = core_of (state_of l.fn.cpu (g.S.Storage.memory l.fn.storage)) l.fn.pending l.fn.subchannels in
    record {
      within : l.units ≤ l.limit;
      plain : look (core_of (state_of l.cpu (g.S.Storage.memory l.storage)) l.fn.pending l.subchannels) ≡ Instructs;
      done : run l.units first ≡ all_done l.units (core_of (state_of l.cpu (g.S.Storage.memory l.storage)) l.fn.pending
          l.subchannels);
      current : l.keeps_blocks ≡ true → IsFetched (g.S.Storage.IsPlaced l.storage) (g.S.Storage.memory l.storage)
          (g.S.Storage.present l.storage) l.cpu.psw.key l.blocks.current;
      previous : l.keeps_blocks ≡ true → IsFetched (g.S.Storage.IsPlaced l.storage) (g.S.Storage.memory l.storage)
          (g.S.Storage.present l.storage) l.cpu.psw.key l.blocks.previous;
      operands : l.keeps_blocks ≡ true → AreHeld (g.S.Storage.IsPlaced l.storage) (g.S.Storage.memory l.storage)
          (g.S.Storage.present l.storage) l.cpu.psw.key l.held;
      rest : g.S.Keyed.KeepsRest l.fn.storage l.storage;
    }

abbrev pub decreases-loop-units : goal.decreases-loop-units
decreases-loop-units g l = l.limit - l.units
