-- The lines that QUERY FILES says (docs/COMMANDS.md).
use Rattle.std.specs.Prelude.{ℕ, List, codes, length, map}
use Rattle.user_names.specs.Users.{name_of}
use Rattle.cp_console.specs.Responses.{file_text}
use Rattle.unit_record.specs.declared.reader.Sender.{Sender}
use Rattle.unit_record.specs.declared.reader.Sender.TheVariants.{System, User}
use Rattle.unit_record.specs.Reader.{DeckValue}

-- the operator is `SYSTEM`, and a user has his name
abbrev pub sender_name : List (List ℕ) → Sender → List ℕ
sender_name names System = codes "SYSTEM"
sender_name names (User user) = name_of names user

-- `FILE 0001 FROM A CARDS 3`: the number of a deck, from whom it comes, and how many cards it has
abbrev pub deck_line : List (List ℕ) → DeckValue → List ℕ
deck_line names deck = file_text deck.label (sender_name names deck.sender) (length deck.cards)

-- a line for each deck, in their order
abbrev pub file_lines : List (List ℕ) → List DeckValue → List (List ℕ)
file_lines names decks = map (deck_line names) decks
