use Rattle.std.proofs.Common.{◌≡◌, ◌-◌, ◌≤◌}
use Rattle.s370_rows.specs.State.{state_of}
use Rattle.s370_cpu.specs.Held.{IsLongMoveAt}
use Rattle.s370_intr.specs.Run.{DoesInstructions}
use Rattle.s370_intr.proofs.run.move_parts.Given as goal

abbrev pub invariant-loop-units : goal.invariant-loop-units
invariant-loop-units g l =
    let m0 = state_of l.fn.cpu (g.S.Storage.memory l.fn.storage) in
    let m = state_of l.cpu (g.S.Storage.memory l.storage) in
    record {
      within : l.units ≤ l.limit;
      here : l.fn.start ≡ m.cpu.psw.address;
      stands : IsLongMoveAt m (g.S.Storage.present l.storage) l.fn.start l.fn.second_byte;
      done : DoesInstructions l.units m0 m;
      rest : g.S.Storage.Keeps l.fn.storage l.storage;
    }

abbrev pub decreases-loop-units : goal.decreases-loop-units
decreases-loop-units g l = l.limit - l.units
