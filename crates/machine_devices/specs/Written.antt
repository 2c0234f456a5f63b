-- Entries of closed files that were written elsewhere do not matter to what happens to a machine
-- with devices.
use Rattle.std.specs.Prelude.{◌≡◌, Bool, true, false, List, [], ◌∷◌, ◌++◌, slice_get, IsSomeAnd}
use Rattle.std.specs.List.{list_all}
use Rattle.s370_channel.specs.Reading.{Reading}
use Rattle.unit_record.specs.Output.{EntryValue, FileValue}
use Rattle.machine_devices.specs.Devices.{DevicesValue}
use Rattle.machine_devices.specs.Equipped.{Equipped}
use Rattle.machine_devices.specs.Life.{Event, Lives}
use Rattle.machine_devices.specs.declared.files.FileKind.{FileKind}
use Rattle.machine_devices.specs.declared.files.FileKind.TheVariants as kinds

-- ---- files that have lost their entries

-- A closed file has an entry. One that has none has lost them, and the first of these were its own.
abbrev pub entries_or : List EntryValue → List (List EntryValue) → List EntryValue
entries_or (entry ∷ entries) lost = entry ∷ entries
entries_or [] [] = []
entries_or [] (entries ∷ lost) = entries

-- those that are left for the files after it
abbrev pub left_of : List EntryValue → List (List EntryValue) → List (List EntryValue)
left_of (entry ∷ entries) lost = lost
left_of [] [] = []
left_of [] (entries ∷ lost) = lost

-- closed files, of which those without an entry had these, in order
abbrev pub with_entries : List (List EntryValue) → List FileValue → List FileValue
with_entries lost [] = []
with_entries lost (file ∷ files) = record file { entries = entries_or file.entries lost }
    ∷ with_entries (left_of file.entries lost) files

-- what the files of a punch and of a printer have lost
pub record Lost : Type 0 where
  pub punched : List (List EntryValue)
  pub printed : List (List EntryValue)

-- the devices whose closed files have these entries
abbrev pub devices_having : Lost → DevicesValue → DevicesValue
devices_having lost d = record d {
  punched = with_entries lost.punched d.punched;
  printed = with_entries lost.printed d.printed;
}

-- the machine with such devices
abbrev pub equipped_having : Lost → Equipped → Equipped
equipped_having lost e = record e { devices = devices_having lost e.devices }

-- the file without its entries
abbrev pub without_entries : FileValue → FileValue
without_entries file = record file { entries = [] }

-- ---- they do not matter

-- whatever happens to a machine whose closed files have lost entries: the one whose files have them
-- lives the same
abbrev pub WrittenFilesDoNotMatter : Type 0
WrittenFilesDoNotMatter = (reads : Reading) (lost : Lost) (events : List Event)
    (old new : Equipped) → Lives reads events old new
    → Lives reads events (equipped_having lost old) (equipped_having lost new)

-- whether there is an entry
abbrev pub has_entry : List EntryValue → Bool
has_entry [] = false
has_entry (entry ∷ entries) = true

-- files are closed after others, each with an entry
pub record AreClosedAfter (old new : List FileValue) : Type 0 where
  pub more : List FileValue
  pub same : new ≡ old ++ more
  pub full : list_all (λ (file : FileValue). has_entry file.entries) more ≡ true

-- closed files stay, whatever happens
abbrev pub ClosedFilesStay : Type 0
ClosedFilesStay = (reads : Reading) (events : List Event) (old new : Equipped)
    → Lives reads events old new
    → AreClosedAfter old.devices.punched new.devices.punched
    × AreClosedAfter old.devices.printed new.devices.printed

-- the file of this kind and place is there and has an entry; a deck of the operator is no closed
-- file
abbrev pub IsFull : Equipped → FileKind → Type 0
IsFull e (kinds.Punch place) =
    IsSomeAnd (slice_get e.devices.punched place) (λ file. has_entry file.entries ≡ true)
IsFull e (kinds.Printer place) =
    IsSomeAnd (slice_get e.devices.printed place) (λ file. has_entry file.entries ≡ true)
IsFull e kinds.Deck = Unit {0}
