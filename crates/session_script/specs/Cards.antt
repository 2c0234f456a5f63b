-- What a line of a script is as a card.
use Rattle.std.specs.Prelude.{ℕ, if◌then◌else◌, nat_le, List, ◌++◌, length, map, take, replicate}
use Rattle.std.specs.Prelude.{Option, Some, None, unwrap_or}
use Rattle.text_words.specs.Lines.{lines_of}
use Rattle.s370_num.specs.Ebcdic.{byte_of}
use Rattle.session_script.specs.declared.cards.Cards.{Cards}

-- the blank of a card
abbrev pub blank : ℕ
blank = 0x40

-- the byte of a character; one that has none is a blank
abbrev pub punched : ℕ → ℕ
punched character = unwrap_or (byte_of character) blank

-- a line as a card: the bytes of its characters and blanks after them, 80 in all
abbrev pub card_of : List ℕ → List ℕ
card_of line = take 80 (map punched line ++ replicate 80 blank)

-- the first so many of these lines as cards, or none where there are fewer
abbrev pub cards_in : ℕ → List (List ℕ) → Option (List (List ℕ))
cards_in count lines = if nat_le count (length lines) then Some (map card_of (take count lines))
    else None

-- the cards of a deck
abbrev pub cards_of : Cards → List (List ℕ)
cards_of deck = map card_of (take deck.count (lines_of deck.text.now))
