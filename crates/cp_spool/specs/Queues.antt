-- The spool files of all users as lists (docs/MACHINE.md, "Unit record devices and console";
-- docs/COMMANDS.md, "CLOSE", "PURGE", "LOGOFF").
use Rattle.std.specs.Prelude.{ℕ, ◌≡◌, ◌+◌, ◌≤◌, ◌==◌, List, [], ◌∷◌, ◌++◌, drop, map, remove}
use Rattle.std.specs.Prelude.{slice_get, slice_index, slice_index_or, slice_set, Option, Some, None}
use Rattle.std.specs.List.{position_from}
use Rattle.std.specs.Option.{option_map}
use Rattle.unit_record.specs.declared.output.Target.{Target}
use Rattle.unit_record.specs.declared.reader.Sender.{Sender}
use Rattle.unit_record.specs.declared.reader.Sender.TheVariants as senders
use Rattle.unit_record.specs.Output.{EntryValue, FileValue}
use Rattle.unit_record.specs.Reader.{DeckValue, currents}
use Rattle.cp_spool.specs.File.{card_of_entry}

-- ---- what is held

-- The decks of one user's reader, in order, and how many cards of the first were read, None where
-- it is not current; and the files that his punch and his printer closed, each in order.
pub record UserFiles : Type 0 where
  pub decks : List DeckValue
  pub place : Option ℕ
  pub punched : List FileValue
  pub printed : List FileValue

-- a user without files
abbrev pub no_files : UserFiles
no_files = record { decks = []; place = None; punched = []; printed = [] }

-- For how many more files there is room, and of each user for how many more that his punch and his
-- printer close.
pub record Room : Type 0 where
  pub files : ℕ
  pub punched : List ℕ
  pub printed : List ℕ

-- the files of all users, and for how many more there is room
pub record QueuesValue : Type 0 where
  pub users : List UserFiles
  pub room : Room

-- the files of a user
abbrev pub files_of : List UserFiles → ℕ → UserFiles
files_of users user = slice_index_or users user no_files

-- the files of all users with others for one
abbrev pub with_files : ℕ → UserFiles → List UserFiles → List UserFiles
with_files user files users = slice_set users user files

-- the files of every other user are as they were
abbrev pub KeepsOthers : ℕ → List UserFiles → List UserFiles → Type 0
KeepsOthers user old new = new ≡ with_files user (files_of new user) old

-- ---- a deck comes

-- the files with one more deck at the end
abbrev pub with_deck : DeckValue → UserFiles → UserFiles
with_deck deck f = record f { decks = f.decks ++ deck ∷ [] }

-- the cards of a closed file; a file that is not there has none
abbrev pub cards_of : Option FileValue → List (List ℕ)
cards_of (Some file) = map card_of_entry file.entries
cards_of None = []

-- the deck that the punch's closed file of this index is
abbrev pub deck_of : List FileValue → ℕ → ℕ → Sender → DeckValue
deck_of punched index label sender =
    record { label = label; sender = sender; cards = cards_of (slice_get punched index) }

-- ---- a file is closed

-- a closed file with this target
abbrev pub file_of : Target → List EntryValue → FileValue
file_of to entries = record { target = to; entries = entries }

-- the files with one more closed punch file
abbrev pub with_punched : FileValue → UserFiles → UserFiles
with_punched file f = record f { punched = f.punched ++ file ∷ [] }

-- the files with one more closed printer file
abbrev pub with_printed : FileValue → UserFiles → UserFiles
with_printed file f = record f { printed = f.printed ++ file ∷ [] }

-- room for the files that a user's punch and printer close
pub record HasRoom (user : ℕ) (room : Room) : Type 0 where
  pub files : 2 ≤ room.files
  pub punched : 1 ≤ slice_index room.punched user
  pub printed : 1 ≤ slice_index room.printed user

-- ---- a deck goes

-- where the first waiting deck of this label is among all decks: a current one does not wait
abbrev pub waiting_at : UserFiles → ℕ → Option ℕ
waiting_at f label = position_from (λ deck. deck.label == label) (currents f.place)
    (drop (currents f.place) f.decks)

-- what stands in for a deck that is not there
abbrev pub no_deck : DeckValue
no_deck = record { label = 0; sender = senders.System; cards = [] }

-- the deck at a place of a queue
abbrev pub deck_in : List DeckValue → ℕ → DeckValue
deck_in decks index = slice_index_or decks index no_deck

-- the first waiting deck of this label, if there is one
abbrev pub waiting : UserFiles → ℕ → Option DeckValue
waiting f label = option_map (deck_in f.decks) (waiting_at f label)

-- the files without one of the decks
abbrev pub without_deck : ℕ → UserFiles → UserFiles
without_deck index f = record f { decks = remove f.decks index }

-- the files without a deck, if there is one to remove
abbrev pub purged : Option ℕ → UserFiles → UserFiles
purged None f = f
purged (Some index) f = without_deck index f

-- the files with another place in the current deck
abbrev pub with_place : Option ℕ → UserFiles → UserFiles
with_place place f = record f { place = place }

-- the files without the first deck
abbrev pub without_first : UserFiles → UserFiles
without_first f = record f { decks = drop 1 f.decks }

-- a reader has read on: so many decks are ended, and of the first that is left so many cards were
-- read
abbrev pub read_on : ℕ → Option ℕ → UserFiles → UserFiles
read_on ended place f = record f { decks = drop ended f.decks; place = place }

-- the current deck goes back to the front of the queue, to be read from its first card
abbrev pub put_back : UserFiles → UserFiles
put_back f = record f { place = None }
