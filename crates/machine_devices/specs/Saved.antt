-- The bytes of the devices of one machine, and of what is noted of files, in a saved state.
use Rattle.std.specs.Prelude.{ℕ, List, ◌∷◌, ◌++◌}
use Rattle.saved_bytes.specs.Codes.{number, optional}
use Rattle.unit_record.specs.Saved.{console_bytes, printer_bytes, punch_bytes, target_bytes}
use Rattle.cp_spool.specs.Saved.{reader_bytes}
use Rattle.machine_devices.specs.declared.files.FileKind.{FileKind}
use Rattle.machine_devices.specs.declared.files.FileKind.TheVariants as kinds
use Rattle.machine_devices.specs.declared.files.FileNote.{FileNote}
use Rattle.machine_devices.specs.declared.places.Places.{Places}
use Rattle.machine_devices.specs.Lent.{DevicesParts}

-- ---- devices

-- the bytes of the addresses of devices
abbrev pub places_bytes : Places → List ℕ
places_bytes p = optional number p.console
    ++ (optional number p.reader ++ (optional number p.punch ++ optional number p.printer))

-- the bytes of a console and of all addresses
abbrev pub console_part_bytes : DevicesParts → List ℕ
console_part_bytes d = places_bytes d.places ++ console_bytes d.console

-- the bytes of reader, punch and printer
abbrev pub spooled_bytes : DevicesParts → List ℕ
spooled_bytes d = reader_bytes d.reader ++ (punch_bytes d.punch ++ printer_bytes d.printer)

-- the bytes of the punch's target and of the user
abbrev pub owner_bytes : DevicesParts → List ℕ
owner_bytes d = target_bytes d.target ++ number d.user

-- where they are and whose files are theirs is written too: a state is of one directory
abbrev pub devices_bytes : DevicesParts → List ℕ
devices_bytes d = console_part_bytes d ++ (spooled_bytes d ++ owner_bytes d)

-- ---- files

-- what a file was when it got its number, and its place among those of its device
abbrev pub kind_number : FileKind → ℕ
kind_number kinds.Deck = 0
kind_number (kinds.Punch place) = 1
kind_number (kinds.Printer place) = 2

-- the place of a file among those of its device
abbrev pub kind_place : FileKind → ℕ
kind_place kinds.Deck = 0
kind_place (kinds.Punch place) = place
kind_place (kinds.Printer place) = place

-- the bytes of the note of a file
abbrev pub note_bytes : FileNote → List ℕ
note_bytes n = number n.user ++ (number (kind_number n.kind) ++ number (kind_place n.kind))
