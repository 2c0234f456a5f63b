-- The devices of a user that are no disks: at most one of each kind.
use Rattle.std.specs.Prelude.{ℕ, List, ◌++◌, Option, Some}
use Rattle.std.specs.Option.{option_to_list}
use Rattle.cp_directory.specs.declared.devices.DeviceKind.{DeviceKind}
use Rattle.cp_directory.specs.declared.devices.DeviceKind.TheVariants.{Console, Reader, Punch}
use Rattle.cp_directory.specs.declared.devices.DeviceKind.TheVariants.{Printer}
use Rattle.cp_directory.specs.declared.devices.UserDevices.{UserDevices}

-- where the device of this kind is
abbrev pub place_of : UserDevices → DeviceKind → Option ℕ
place_of devices Console = devices.console
place_of devices Reader = devices.reader
place_of devices Punch = devices.punch
place_of devices Printer = devices.printer

-- the devices with one of this kind at this address
abbrev pub with_place : UserDevices → DeviceKind → ℕ → UserDevices
with_place devices Console address = record devices { console = Some address }
with_place devices Reader address = record devices { reader = Some address }
with_place devices Punch address = record devices { punch = Some address }
with_place devices Printer address = record devices { printer = Some address }

-- the addresses of those that are there
abbrev pub places_of : UserDevices → List ℕ
places_of devices = option_to_list devices.console
    ++ (option_to_list devices.reader
    ++ (option_to_list devices.punch ++ option_to_list devices.printer))
