use Rattle.std.proofs.Common.{◌≡◌, ◌==◌, drop}
use Rattle.std.specs.List.{position_from}
use Rattle.cp_spool.specs.Queues.{files_of, waiting_at}
use Rattle.cp_spool.proofs.queues.Queues.waiting_at.Given as goal

-- What is searched for is searched for among the decks that are left.
abbrev pub invariant-loop-index : goal.invariant-loop-index
invariant-loop-index l =
    waiting_at (files_of l.self.users l.user) l.label
    ≡ position_from (λ deck. deck.label == l.label) l.index (drop l.index ((files_of l.self.users l.user).decks))
