use Rattle.std.proofs.Common.{◌≡◌, ◌++◌, drop}
use Rattle.saved_bytes.specs.Codes.{bytes, each}
use Rattle.cp_spool.proofs.saved.put_cards.Given as goal

abbrev pub invariant-loop-index : goal.invariant-loop-index
invariant-loop-index l = l.out.items ++ each bytes (drop l.index (l.deck.cards)) ≡ l.fn.out.items
    ++ each bytes (l.deck.cards)
