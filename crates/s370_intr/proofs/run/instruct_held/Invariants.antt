use Rattle.std.proofs.Common.{◌≡◌, ◌+◌, ◌-◌, ◌%◌, ◌≤◌}
use Rattle.s370_rows.specs.State.{state_of}
use Rattle.s370_rows.specs.Reach.{AreHeld}
use Rattle.s370_intr.specs.Run.{DoesInstructions, IsFetched}
use Rattle.s370_intr.proofs.run.instruct_held.Given as goal

abbrev pub invariant-loop-left : goal.invariant-loop-left
invariant-loop-left g l =
    let m0 = state_of l.fn.cpu (g.S.Storage.memory l.fn.storage) in
    let m = state_of l.cpu (g.S.Storage.memory l.storage) in
    record {
      here : l.next ≡ m.cpu.psw.address;
      key : l.key ≡ m.cpu.psw.key;
      current : IsFetched (g.S.Storage.IsPlaced l.storage) (g.S.Storage.memory l.storage)
          (g.S.Storage.present l.storage) l.key l.blocks.current;
      previous : IsFetched (g.S.Storage.IsPlaced l.storage) (g.S.Storage.memory l.storage)
          (g.S.Storage.present l.storage) l.key l.blocks.previous;
      begins : l.blocks.current.first ≤ l.next;
      ends : l.next ≤ l.blocks.current.first + 2042;
      even : l.next % 2 ≡ 0;
      operands : AreHeld (g.S.Storage.IsPlaced l.storage) (g.S.Storage.memory l.storage)
          (g.S.Storage.present l.storage) l.key l.held;
      within : l.left ≤ l.limit;
      done : DoesInstructions (l.limit - l.left) m0 m;
      rest : g.S.Storage.Keeps l.fn.storage l.storage;
    }

abbrev pub decreases-loop-left : goal.decreases-loop-left
decreases-loop-left g l = l.left
