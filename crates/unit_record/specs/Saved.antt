-- The bytes of devices that are no disks, in a saved state.
use Rattle.std.specs.Prelude.{ℕ, List, ◌++◌, Option, Some, None}
use Rattle.saved_bytes.specs.Codes.{bytes, each, flag, number, optional}
use Rattle.unit_record.specs.declared.output.Target.{Target}
use Rattle.unit_record.specs.declared.output.Target.TheVariants as targets
use Rattle.unit_record.specs.declared.reader.Sender.{Sender}
use Rattle.unit_record.specs.declared.reader.Sender.TheVariants as senders
use Rattle.unit_record.specs.Console.{ConsoleState}
use Rattle.unit_record.specs.Output.{EntryValue}
use Rattle.unit_record.specs.Printer.{PrinterState}
use Rattle.unit_record.specs.Punch.{PunchState}

-- ---- for whom a file is, and from whom

-- the number of the user, who is not the operator
abbrev pub user_of_target : Target → Option ℕ
user_of_target targets.System = None
user_of_target (targets.User user) = Some user

-- the bytes of the user for whom a file is
abbrev pub target_bytes : Target → List ℕ
target_bytes target = optional number (user_of_target target)

-- the number of the user who sent a deck
abbrev pub user_of_sender : Sender → Option ℕ
user_of_sender senders.System = None
user_of_sender (senders.User user) = Some user

-- the bytes of the sender of a deck
abbrev pub sender_bytes : Sender → List ℕ
sender_bytes sender = optional number (user_of_sender sender)

-- ---- devices

-- the bytes of an entry
abbrev pub entry_bytes : EntryValue → List ℕ
entry_bytes e = number e.code ++ bytes e.bytes

-- the bytes of entries
abbrev pub entries_bytes : List EntryValue → List ℕ
entries_bytes entries = each entry_bytes entries

-- what was written on a console and typed there, and the command that is under way
abbrev pub console_lines_bytes : ConsoleState → List ℕ
console_lines_bytes c = each bytes c.lines ++ (bytes c.unfinished ++ each bytes c.waiting)

-- the bytes of a console's command that is under way
abbrev pub console_command_bytes : ConsoleState → List ℕ
console_command_bytes c = number c.wanted ++ (flag c.ends_line ++ bytes c.giving)

-- the bytes of a console
abbrev pub console_bytes : ConsoleState → List ℕ
console_bytes c = console_lines_bytes c ++ (number c.sense ++ console_command_bytes c)

-- the bytes of a punch
abbrev pub punch_bytes : PunchState → List ℕ
punch_bytes p = entries_bytes p.entries ++ (number p.sense ++ (flag p.is_punching ++ bytes p.card))

-- the bytes of a printer
abbrev pub printer_bytes : PrinterState → List ℕ
printer_bytes p = entries_bytes p.entries
    ++ (number p.sense ++ (optional number p.printing ++ bytes p.line))
