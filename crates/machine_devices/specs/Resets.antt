-- What a system reset and a LOGON make of console, reader, punch and printer: files, decks, the
-- lines that were written and the target stay.
use Rattle.unit_record.specs.Console.{console_reset}
use Rattle.unit_record.specs.Reader.{reader_reset}
use Rattle.unit_record.specs.Punch.{punch_reset}
use Rattle.unit_record.specs.Printer.{printer_reset}
use Rattle.machine_devices.specs.Devices.{DevicesValue}

-- all devices after a reset
abbrev pub devices_reset : DevicesValue → DevicesValue
devices_reset d = record d {
  console = console_reset d.console;
  reader = reader_reset d.reader;
  punch = punch_reset d.punch;
  printer = printer_reset d.printer;
}
