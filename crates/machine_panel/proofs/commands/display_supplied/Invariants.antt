use Rattle.std.proofs.Common.{◌≡◌, ℕ, List}
use Rattle.s370_store.specs.Access.{Touches}
use Rattle.s370_intr.specs.Run.{AllNeeded}
use Rattle.machine_panel.specs.DisplayStore.{shown}
use Rattle.machine_panel.proofs.commands.display_supplied.Given as goal

abbrev pub invariant-loop-response : goal.invariant-loop-response
invariant-loop-response g l = record {
  still : g.S.Storage.memory l.storage ≡ g.S.Storage.memory l.fn.storage;
  supply : (pages : List ℕ) × g.S.Supply.Brought l.fn.storage pages l.storage
      × AllNeeded (Touches (shown l.fn.place)) pages;
}

abbrev pub decreases-loop-response : goal.decreases-loop-response
decreases-loop-response g l = g.S.Supply.spare l.storage
