-- What a spool file is (docs/MACHINE.md, "Unit record devices and console").
use Rattle.std.specs.Prelude.{ℕ, ◌-◌, Bool, true, false, List, [], ◌++◌, length, map, replicate}
use Rattle.std.specs.Prelude.{take}
use Rattle.unit_record.specs.declared.output.Target.{Target}
use Rattle.unit_record.specs.Output.{EntryValue, FileValue}
use Rattle.cp_spool.specs.declared.file.Contents.{Contents}
use Rattle.cp_spool.specs.declared.file.Contents.TheVariants as contents

-- A deck that was given, of cards of 80 bytes, or what a punch or a printer made, each in order.
pub data ContentsValue : Type 0 where
  Cards : List (List ℕ) → ContentsValue
  Entries : List EntryValue → ContentsValue

-- the contents of a file, as the definitions have them
abbrev pub contents_of : Contents → ContentsValue
contents_of (contents.Cards cards) = Cards cards.items
contents_of (contents.Entries entries) = Entries entries.items

-- A spool file: for whom it is, and what it has.
pub record SpoolFileValue : Type 0 where
  pub target : Target
  pub contents : ContentsValue

-- A card has the bytes of what was punched: 80, with blanks for those that are missing.
abbrev pub card_of : List ℕ → List ℕ
card_of bytes = take 80 bytes ++ replicate (80 - length bytes) 0x40

-- the card that a punched entry is
abbrev pub card_of_entry : EntryValue → List ℕ
card_of_entry entry = card_of entry.bytes

-- The cards that it has as a deck: what was made has one for each entry, in order.
abbrev pub cards_in : ContentsValue → List (List ℕ)
cards_in (Cards cards) = cards
cards_in (Entries entries) = map card_of_entry entries

-- The entries of what was made; a deck that was given has none.
abbrev pub entries_in : ContentsValue → List EntryValue
entries_in (Cards cards) = []
entries_in (Entries entries) = entries

-- whether a file is a deck that was given
abbrev pub is_deck : ContentsValue → Bool
is_deck (Cards cards) = true
is_deck (Entries entries) = false

-- what was made, as a closed file
abbrev pub closed_file : SpoolFileValue → FileValue
closed_file file = record { target = file.target; entries = entries_in file.contents }
