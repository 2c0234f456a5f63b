use Rattle.std.proofs.Common.{◌≡◌, ◌++◌, map, take}
use Rattle.text_words.specs.Lines.{lines_of}
use Rattle.session_script.specs.Cards.{card_of, cards_of}
use Rattle.session_script.proofs.cards.Cards.to_vec.Given as goal

-- the cards so far and those of the lines that are left are those of the deck
abbrev pub invariant-loop-left : goal.invariant-loop-left
invariant-loop-left l = l.cards.items ++ map card_of (take l.left (lines_of l.rest)) ≡ cards_of l.self

abbrev pub decreases-loop-left : goal.decreases-loop-left
decreases-loop-left l = l.left
