-- What the control program does with the files and decks of a machine.
use Rattle.std.specs.Prelude.{ℕ, Bool, true, false, if◌then◌else◌, List, [], ◌∷◌, length, slice_get}
use Rattle.std.specs.Prelude.{Option, Some, None}
use Rattle.std.specs.Option.{option_map}
use Rattle.unit_record.specs.declared.output.Target.{Target}
use Rattle.unit_record.specs.declared.output.Target.TheVariants.{System}
use Rattle.unit_record.specs.declared.reader.Sender.{Sender}
use Rattle.unit_record.specs.Output.{EntryValue, closed_with}
use Rattle.unit_record.specs.Reader.{DeckValue, with_deck, with_deck_back, queued_at, purged}
use Rattle.unit_record.specs.Punch.{punch_emptied}
use Rattle.unit_record.specs.Printer.{printer_emptied}
use Rattle.cp_spool.specs.Queues.{cards_of, deck_in, no_deck}
use Rattle.machine_devices.specs.declared.files.ClosedFiles.{ClosedFiles}
use Rattle.machine_devices.specs.declared.places.AttachedDevice.{AttachedDevice}
use Rattle.machine_devices.specs.declared.places.AttachedDevice.TheVariants as kinds
use Rattle.machine_devices.specs.Devices.{DevicesValue, part_at}

-- ---- SPOOL

-- whether the device is a punch
abbrev pub is_punch : Option AttachedDevice → Bool
is_punch (Some kinds.Punch) = true
is_punch (Some kinds.Console) = false
is_punch (Some kinds.Reader) = false
is_punch (Some kinds.Printer) = false
is_punch (Some (kinds.Disk index)) = false
is_punch None = false

-- If a punch has this address, its next file is for this target.
abbrev pub spooled : DevicesValue → ℕ → Target → DevicesValue
spooled d device to = if is_punch (part_at d device) then record d { target = to } else d

-- ---- CLOSE and LOGOFF

-- The place that an open file of these entries will have, where so many were closed before; one
-- without an entry is none.
abbrev pub place_of : List EntryValue → ℕ → Option ℕ
place_of [] closed = None
place_of (entry ∷ entries) closed = Some closed

-- Which files LOGOFF closes.
abbrev pub open_files : DevicesValue → ClosedFiles
open_files d = record {
  punched = place_of d.punch.entries (length d.punched);
  printed = place_of d.printer.entries (length d.printed);
}

-- the devices after the punch's file was closed
abbrev pub with_punch_closed : DevicesValue → DevicesValue
with_punch_closed d = record
    d { punch = punch_emptied d.punch; punched = closed_with d.punched d.target d.punch.entries }

-- What is printed is for the operator.
abbrev pub with_printer_closed : DevicesValue → DevicesValue
with_printer_closed d = record
    d {
      printer = printer_emptied d.printer;
      printed = closed_with d.printed System d.printer.entries;
    }

-- LOGOFF closes both open files, and puts the current deck back into the queue.
abbrev pub devices_logged_off : DevicesValue → DevicesValue
devices_logged_off d = record
    (with_printer_closed (with_punch_closed d)) { reader = with_deck_back d.reader }

-- ---- decks

-- the devices with one more deck at the end of the reader's queue
abbrev pub with_deck_queued : DevicesValue → DeckValue → DevicesValue
with_deck_queued d deck = record d { reader = with_deck d.reader deck }

-- The current deck is not queued, and so it is not withdrawn.
abbrev pub with_deck_purged : DevicesValue → ℕ → DevicesValue
with_deck_purged d id = record d { reader = purged d.reader (queued_at d.reader id) }

-- the devices with the current deck back in the queue
abbrev pub with_deck_put_back : DevicesValue → DevicesValue
with_deck_put_back d = record d { reader = with_deck_back d.reader }

-- the first deck of this number that is queued, if there is one: a current one is not
abbrev pub deck_queued : DevicesValue → ℕ → Option DeckValue
deck_queued d id = option_map (deck_in d.reader.decks) (queued_at d.reader id)

-- a deck with another number; one that is not there has no cards
abbrev pub renumbered : ℕ → Option DeckValue → DeckValue
renumbered number None = record no_deck { label = number }
renumbered number (Some deck) = record deck { label = number }

-- the queued deck of this number, as it comes with another to the reader to which it is moved
abbrev pub deck_moved : DevicesValue → ℕ → ℕ → DeckValue
deck_moved d id number = renumbered number (deck_queued d id)

-- The deck of a closed file has a card for each entry, in order. A file that is not there has no
-- cards.
abbrev pub deck_punched : DevicesValue → ℕ → ℕ → Sender → DeckValue
deck_punched d index label sender =
    record { label = label; sender = sender; cards = cards_of (slice_get d.punched index) }
