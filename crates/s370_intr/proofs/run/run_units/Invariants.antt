use Rattle.std.proofs.Common.{◌≡◌, true, ◌-◌, ◌≤◌, ℕ, List, length}
use Rattle.s370_rows.specs.State.{state_of}
use Rattle.s370_intr.specs.Units.{core_of, look}
use Rattle.s370_intr.specs.Run.{EachBrings, run}
use Rattle.s370_intr.specs.declared.next.Next.TheVariants.{Instructs}
use Rattle.s370_intr.proofs.Runs.{all_done}
use Rattle.s370_intr.proofs.run.run_units.Given as goal

abbrev pub invariant-loop-units : goal.invariant-loop-units
invariant-loop-units g l =
    let first = core_of (state_of l.fn.cpu (g.S.Storage.memory l.fn.storage)) l.fn.pending l.fn.subchannels in
    record {
      within : l.units ≤ l.count;
      ran : run l.units first ≡ all_done l.units (core_of (state_of l.cpu (g.S.Storage.memory l.storage)) l.pending
          l.subchannels);
      supply : (units : List (List ℕ)) × g.S.UnitSupply.Came l.fn.storage units l.storage × EachBrings first 0 units
          × (length units ≡ l.units);
      between : g.S.UnitSupply.IsBetween l.storage;
      plain : l.went.is_plain ≡ true → look (core_of (state_of l.cpu (g.S.Storage.memory l.storage)) l.pending
          l.subchannels) ≡ Instructs;
    }

abbrev pub decreases-loop-units : goal.decreases-loop-units
decreases-loop-units g l = l.count - l.units
