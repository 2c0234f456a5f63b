-- The devices of one machine but for their files, which are among those of all users and are lent
-- to each call.
use Rattle.std.specs.Prelude.{◌≡◌, ℕ}
use Rattle.unit_record.specs.declared.output.Target.{Target}
use Rattle.unit_record.specs.declared.output.Target.TheVariants.{System}
use Rattle.unit_record.specs.Console.{ConsoleState, console_new, console_reset}
use Rattle.unit_record.specs.Punch.{PunchState, punch_new, punch_reset}
use Rattle.unit_record.specs.Printer.{PrinterState, printer_new, printer_reset}
use Rattle.cp_spool.specs.Alike.{reader_of}
use Rattle.cp_spool.specs.Queues.{KeepsOthers, QueuesValue, UserFiles, files_of}
use Rattle.cp_spool.specs.Reader.{ReaderPart, part_new}
use Rattle.machine_devices.specs.declared.places.Places.{Places}
use Rattle.machine_devices.specs.Devices.{DevicesValue}

-- the devices of a machine without their files
pub record DevicesParts : Type 0 where
  pub places : Places
  pub console : ConsoleState
  pub reader : ReaderPart
  pub punch : PunchState
  pub printer : PrinterState
  pub target : Target
  -- the user whose files are theirs
  pub user : ℕ

-- Parts that have done nothing.
abbrev pub parts_new : Places → ℕ → DevicesParts
parts_new places user = record {
  places = places;
  console = console_new;
  reader = part_new;
  punch = punch_new;
  printer = printer_new;
  target = System;
  user = user;
}

-- the devices after a reset
abbrev pub parts_reset : DevicesParts → DevicesParts
parts_reset d = record d {
  console = console_reset d.console;
  reader = part_new;
  punch = punch_reset d.punch;
  printer = printer_reset d.printer;
}

-- the devices that they are with these files
abbrev pub devices_with : DevicesParts → UserFiles → DevicesValue
devices_with d files = record {
  places = d.places;
  console = d.console;
  reader = reader_of files d.reader;
  punch = d.punch;
  printer = d.printer;
  target = d.target;
  punched = files.punched;
  printed = files.printed;
}

-- the devices that they are where all users have these files
abbrev pub devices_on : DevicesParts → QueuesValue → DevicesValue
devices_on d queues = devices_with d (files_of queues.users d.user)

-- they are the same user's, and what every other user has is as it was
pub record KeepsOtherUsers (d : DevicesParts) (queues : QueuesValue) (d' : DevicesParts)
    (queues' : QueuesValue) : Type 0 where
  pub user : d'.user ≡ d.user
  pub others : KeepsOthers d.user queues.users queues'.users
