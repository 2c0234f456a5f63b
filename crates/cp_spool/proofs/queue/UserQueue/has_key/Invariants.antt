use Rattle.std.proofs.Common.{◌≡◌, ◌==◌, drop}
use Rattle.std.specs.List.{list_any}
use Rattle.cp_spool.specs.Forgotten.{has_key}
use Rattle.cp_spool.specs.declared.queue.Waiting.{Waiting}
use Rattle.cp_spool.proofs.queue.UserQueue.has_key.Given as goal

-- What is searched for is searched for among the decks that are left.
abbrev pub invariant-loop-index : goal.invariant-loop-index
invariant-loop-index l =
    has_key l.key l.self ≡ list_any (λ (w : Waiting). w.key == l.key) (drop l.index l.self.decks)
