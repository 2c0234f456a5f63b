-- The parts of the devices of one machine: console, card reader, card punch and line printer, each
-- at its address or without one. The disks are those of its channels.
use Rattle.std.specs.Prelude.{ℕ, ◌≡◌, ◌<◌, ◌==◌, ◌||◌, ◌&&◌, ◌++◌, ◌∷◌, [], Bool, true, false, not}
use Rattle.std.specs.Prelude.{nat_le, nat_lt, if◌then◌else◌, is_some, List, length, map, Option}
use Rattle.std.specs.Prelude.{Some, None}
use Rattle.std.specs.Option.{option_map, option_to_list}
use Rattle.std.specs.List.{filter, list_all, list_any, position, range_with_len}
use Rattle.s370_subchannels.specs.declared.subchannel.Subchannel.{Subchannel}
use Rattle.s370_subchannels.specs.Subchannels.{new_device}
use Rattle.unit_record.specs.declared.output.Target.{Target}
use Rattle.unit_record.specs.declared.output.Target.TheVariants.{System}
use Rattle.unit_record.specs.Console.{ConsoleState, console_new}
use Rattle.unit_record.specs.Output.{FileValue}
use Rattle.unit_record.specs.Reader.{ReaderState, reader_new}
use Rattle.unit_record.specs.Punch.{PunchState, punch_new}
use Rattle.unit_record.specs.Printer.{PrinterState, printer_new}
use Rattle.machine_channels.specs.Disks.{DiskAt, is_disk_at}
use Rattle.machine_devices.specs.declared.places.Places.{Places}
use Rattle.machine_devices.specs.declared.places.AttachedDevice.{AttachedDevice}
use Rattle.machine_devices.specs.declared.places.AttachedDevice.TheVariants as kinds

-- Console, reader, punch and printer are there also where no address leads to them.
pub record DevicesValue : Type 0 where
  pub places : Places
  pub console : ConsoleState
  pub reader : ReaderState
  pub punch : PunchState
  pub printer : PrinterState
  -- for whom the punch's file is, when it is closed
  pub target : Target
  -- the files that punch and printer closed, each in order
  pub punched : List FileValue
  pub printed : List FileValue

-- no address leads to any of them
abbrev pub no_places : Places
no_places = record { console = None; reader = None; punch = None; printer = None }

-- Parts that have done nothing; what is punched is for the operator.
abbrev pub devices_new : Places → DevicesValue
devices_new places =
    record {
      places = places;
      console = console_new;
      reader = reader_new;
      punch = punch_new;
      printer = printer_new;
      target = System;
      punched = [];
      printed = [];
    }

-- ---- which device has an address

-- whether a device that may be missing has this address
abbrev pub is_there : Option ℕ → ℕ → Bool
is_there None device = false
is_there (Some address) device = address == device

-- Which of console, reader, punch and printer has this address, in this order.
abbrev pub place_at : Places → ℕ → Option AttachedDevice
place_at places device =
    if is_there places.console device then Some kinds.Console
    else if is_there places.reader device then Some kinds.Reader
    else if is_there places.punch device then Some kinds.Punch
    else if is_there places.printer device then Some kinds.Printer
    else None

-- the kind of the device with this address, if it is no disk
abbrev pub part_at : DevicesValue → ℕ → Option AttachedDevice
part_at d device = place_at d.places device

-- The first of all that has this address, the disks last; of a disk, its index.
abbrev pub part_or_disk : Option AttachedDevice → Option ℕ → Option AttachedDevice
part_or_disk (Some part) disk = Some part
part_or_disk None disk = option_map kinds.Disk disk

-- the kind of the device with this address, among these places and disks
abbrev pub kind_in : Places → List DiskAt → ℕ → Option AttachedDevice
kind_in places disks device =
    part_or_disk (place_at places device) (position (is_disk_at device) disks)

-- the kind of the device with this address
abbrev pub kind_at : DevicesValue → List DiskAt → ℕ → Option AttachedDevice
kind_at d disks device = kind_in d.places disks device

-- If it is a disk, there is a disk of its index.
abbrev pub IsAttached : List DiskAt → AttachedDevice → Type 0
IsAttached disks (kinds.Disk index) = index < length disks
IsAttached disks kinds.Console = Unit {0}
IsAttached disks kinds.Reader = Unit {0}
IsAttached disks kinds.Punch = Unit {0}
IsAttached disks kinds.Printer = Unit {0}

-- a part or a disk has this address
abbrev pub has_device : DevicesValue → List DiskAt → ℕ → Bool
has_device d disks device = is_some (part_at d device) || list_any (is_disk_at device) disks

-- the same of disks at these addresses
abbrev pub has_at : DevicesValue → List ℕ → ℕ → Bool
has_at d addresses device =
    is_some (part_at d device) || list_any (λ (address : ℕ). address == device) addresses

-- a device more, above all others, if it is there
abbrev pub attached : Bool → ℕ → List Subchannel → List Subchannel
attached is_there device list = if is_there then list ++ new_device device ∷ [] else list

-- the idle subchannels, without a start, of each of them below this address, by address
abbrev pub subchannels_below : (ℕ → Bool) → ℕ → List Subchannel
subchannels_below has address =
    filter (λ (s : Subchannel). has s.address) (map new_device (range_with_len 0 address))

-- there is an idle subchannel, without a start, for each of them, and no other, on channels 0 to 5,
-- in the order of their addresses
abbrev pub AreAttached : DevicesValue → List DiskAt → List Subchannel → Type 0
AreAttached d disks list = list ≡ subchannels_below (has_device d disks) 0x600

-- ---- which devices can be attached

-- where console, reader, punch and printer are
abbrev pub places_of : Places → List ℕ
places_of p = option_to_list p.console
    ++ (option_to_list p.reader ++ (option_to_list p.punch ++ option_to_list p.printer))

-- each has an address of its own
abbrev pub are_apart : List ℕ → Bool
are_apart [] = true
are_apart (one ∷ others) = not (list_any (λ (other : ℕ). other == one) others) && are_apart others

-- at most 32, each at an address of its own, on channels 0 to 5
abbrev pub can_attach : List ℕ → Bool
can_attach addresses = (nat_le (length addresses) 32 && list_all
    (λ (address : ℕ). nat_lt address 0x600) addresses) && are_apart addresses
