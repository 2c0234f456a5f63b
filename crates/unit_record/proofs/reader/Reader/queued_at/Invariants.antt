use Rattle.std.proofs.Common.{◌≡◌, ◌==◌, drop}
use Rattle.std.specs.List.{position_from}
use Rattle.unit_record.specs.Reader.{queued_at}
use Rattle.unit_record.proofs.reader.Reader.queued_at.Given as goal

-- What is searched for is searched for among the decks that are left.
abbrev pub invariant-loop-index : goal.invariant-loop-index
invariant-loop-index l =
    queued_at l.self l.label ≡ position_from (λ deck. deck.label == l.label) l.index (drop l.index l.self.decks)
