use Rattle.std.proofs.Common.{◌≡◌, take}
use Rattle.cp_spool.proofs.seen.SeenDeck.to_vec.Given as goal

abbrev pub invariant-loop-index : goal.invariant-loop-index
invariant-loop-index l = l.cards.items ≡ take l.index l.self.cards
