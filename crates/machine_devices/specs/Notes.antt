-- The files of all users, by number: the first has number 1, and each the number after the last.
use Rattle.std.specs.Prelude.{ℕ, ◌+◌, Bool, true, false, nat_lt, List, [], ◌∷◌, ◌++◌, length}
use Rattle.std.specs.Prelude.{Option, Some, None}
use Rattle.unit_record.specs.Output.{FileValue}
use Rattle.unit_record.specs.Reader.{DeckValue}
use Rattle.machine_devices.specs.declared.files.ClosedFiles.{ClosedFiles}
use Rattle.machine_devices.specs.declared.files.FileKind.{FileKind}
use Rattle.machine_devices.specs.declared.files.FileKind.TheVariants as kinds
use Rattle.machine_devices.specs.declared.files.FileNote.{FileNote}
use Rattle.machine_devices.specs.Equipped.{Equipped}

-- the number of the next file
abbrev pub next_file : List FileNote → ℕ
next_file files = length files + 1

-- the note of a closed file, if it was closed
abbrev pub note_where : Bool → ℕ → FileKind → List FileNote
note_where false user kind = []
note_where true user kind = record { user = user; kind = kind } ∷ []

-- the files that a user's punch and printer, which had closed so many, have closed since, that of
-- the punch first: its place is the one after theirs
abbrev pub closed_since : ℕ → ℕ → ℕ → Equipped → List FileNote
closed_since user punched printed new =
    note_where (nat_lt punched (length new.devices.punched)) user (kinds.Punch punched)
    ++ note_where (nat_lt printed (length new.devices.printed)) user (kinds.Printer printed)

-- the notes of the files that an event closed
abbrev pub closed_by : ℕ → Equipped → Equipped → List FileNote
closed_by user old new =
    closed_since user (length old.devices.punched) (length old.devices.printed) new

-- a deck of the operator; no cards are no deck
abbrev pub deck_noted : ℕ → List (List ℕ) → List FileNote
deck_noted user [] = []
deck_noted user (card ∷ cards) = record { user = user; kind = kinds.Deck } ∷ []

-- a deck that is moved to this user's reader, if it is there
abbrev pub move_noted : ℕ → Option DeckValue → List FileNote
move_noted user None = []
move_noted user (Some deck) = record { user = user; kind = kinds.Deck } ∷ []

-- ---- by what a line says

-- where the file is that was closed, or where the next would be
abbrev pub stands_in : Option ℕ → List FileValue → ℕ
stands_in None files = length files
stands_in (Some place) files = place

-- the note of the file at a place, if there is one
abbrev pub note_at : Option ℕ → ℕ → (ℕ → FileKind) → List FileNote
note_at None user kind = []
note_at (Some place) user kind = record { user = user; kind = kind place } ∷ []

-- the files of this user that were closed at these places, that of the punch first
abbrev pub noted : ℕ → ClosedFiles → List FileNote
noted user files = note_at files.punched user kinds.Punch
    ++ note_at files.printed user kinds.Printer
