-- Closed files of users whose entries were dropped.
use Rattle.std.specs.Prelude.{◌≡◌, ◌≤◌, ◌⊎◌, ℕ, List, [], map, slice_get, slice_index_or}
use Rattle.std.specs.Prelude.{Option, Some, None, IsSomeAnd}
use Rattle.unit_record.specs.Output.{FileValue}
use Rattle.cp_spool.specs.File.{card_of_entry}
use Rattle.machine_devices.specs.Equipped.{Equipped, nobody}
use Rattle.machine_devices.specs.declared.files.FileKind.{FileKind}
use Rattle.machine_devices.specs.declared.files.FileKind.TheVariants as kinds
use Rattle.machine_devices.specs.declared.files.FileNote.{FileNote}

-- the closed file of this kind and place that a machine's devices have closed; a deck of the
-- operator is none
abbrev pub closed_by_kind : Equipped → FileKind → Option FileValue
closed_by_kind e (kinds.Punch place) = slice_get e.devices.punched place
closed_by_kind e (kinds.Printer place) = slice_get e.devices.printed place
closed_by_kind e kinds.Deck = None

-- the closed file that a note is of
abbrev pub closed_of : List Equipped → FileNote → Option FileValue
closed_of users note = closed_by_kind (slice_index_or users note.user nobody) note.kind

-- a reader has a deck of these cards
abbrev pub HasDeckIn : List Equipped → List (List ℕ) → Type 0
HasDeckIn users cards = (reader : ℕ) × (place : ℕ)
    × IsSomeAnd (slice_get (slice_index_or users reader nobody).devices.reader.decks place)
    (λ deck. deck.cards ≡ cards)

-- a file has no entries, unless a reader has them as a deck
abbrev pub IsDropped : List Equipped → Option FileValue → Type 0
IsDropped users None = Unit {0}
IsDropped users (Some file) =
    (file.entries ≡ []) ⊎ HasDeckIn users (map card_of_entry file.entries)

-- so is each closed file that was noted, but of the first so many
abbrev pub AreDropped : ℕ → List FileNote → List Equipped → Type 0
AreDropped since files users = (place : ℕ) (note : FileNote) → since ≤ place
    → slice_get files place ≡ Some note → IsDropped users (closed_of users note)

-- the lines that the consoles of all users have printed
abbrev pub outputs_of : List Equipped → List (List (List ℕ))
outputs_of users = map (λ (e : Equipped). e.machine.output) users
