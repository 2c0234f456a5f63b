-- What a program that is only tried sees of console, punch and printer: of what it writes nothing
-- comes back to it.
use Rattle.std.specs.Prelude.{ℕ, ◌==◌, ◌||◌, false, if◌then◌else◌, List, [], ◌∷◌, drop, slice_index}
use Rattle.s370_walk.specs.declared.parts.Order.{Order}
use Rattle.s370_walk.specs.declared.parts.Answer.{Answer}
use Rattle.s370_walk.specs.declared.parts.Answer.TheVariants.{Refused, Immediate, Input, Output}
use Rattle.s370_walk.specs.declared.parts.Answer.TheVariants.{OutputUpTo}
use Rattle.s370_walk.specs.Hardware.{Machine}
use Rattle.s370_walk.specs.Viewed.{IsViewed}
use Rattle.unit_record.specs.Console.{ConsoleState, console_machine, is_write, read_answer}
use Rattle.unit_record.specs.Front.{is_sense, nothing_to_say, unit_check, command_reject}
use Rattle.unit_record.specs.Printer.{PrinterState, printer_machine, is_space}
use Rattle.unit_record.specs.Printer as printer
use Rattle.unit_record.specs.Punch.{PunchState, punch_machine}

-- ---- Console: the lines that wait, the sense byte, and the bytes that are still to be given
pub record ConsoleSeen : Type 0 where
  pub waiting : List (List ℕ)
  pub sense : ℕ
  pub giving : List ℕ

-- what a dry run sees of a console
abbrev pub console_seen : ConsoleState → ConsoleSeen
console_seen c = record { waiting = c.waiting; sense = c.sense; giving = c.giving }

-- how the console of a dry run answers
abbrev pub seen_answer : ConsoleSeen → Order → Answer
seen_answer c order =
    if is_write order.command.code then OutputUpTo 132
    else if order.command.code == 0x0A then read_answer c.waiting
    else if order.command.code == 0x03 then Immediate
    else if is_sense order then Input 1
    else Refused unit_check

-- Read gives the first waiting line in a dry run
abbrev pub seen_read : ConsoleSeen → List (List ℕ) → ConsoleSeen
seen_read c [] = c
seen_read c (line ∷ lines) = record c { waiting = lines; giving = line }

-- the console of a dry run after a command has begun
abbrev pub seen_started : ConsoleSeen → Order → ConsoleSeen
seen_started c order =
    if is_write order.command.code then c
    else if order.command.code == 0x0A then seen_read c c.waiting
    else if order.command.code == 0x03 then c
    else if is_sense order then record c { giving = c.sense ∷ [] }
    else record c { sense = command_reject }

-- the console of a dry run as a device
abbrev pub console_trial : Machine ConsoleSeen
console_trial =
    record {
      answer = seen_answer;
      started = seen_started;
      done = λ c. false;
      gives = λ c. slice_index c.giving 0;
      gave = λ c. record c { giving = drop 1 c.giving };
      took = λ c byte. c;
      status = λ c. nothing_to_say;
      finished = λ c. c;
    }

-- ---- Punch and printer: the sense byte
pub record SenseSeen : Type 0 where
  pub sense : ℕ

-- what a dry run sees of a punch
abbrev pub punch_seen : PunchState → SenseSeen
punch_seen p = record { sense = p.sense }

-- how the punch of a dry run answers
abbrev pub punch_seen_answer : SenseSeen → Order → Answer
punch_seen_answer p order =
    if order.command.code == 0x01 then Output 80
    else if order.command.code == 0x03 then Immediate
    else if is_sense order then Input 1
    else Refused unit_check

-- the punch of a dry run after a command has begun
abbrev pub punch_seen_started : SenseSeen → Order → SenseSeen
punch_seen_started p order =
    if order.command.code == 0x01 then p
    else if order.command.code == 0x03 then p
    else if is_sense order then p
    else record p { sense = command_reject }

-- the punch of a dry run as a device
abbrev pub punch_trial : Machine SenseSeen
punch_trial =
    record {
      answer = punch_seen_answer;
      started = punch_seen_started;
      done = λ p. false;
      gives = λ p. p.sense;
      gave = λ p. p;
      took = λ p byte. p;
      status = λ p. nothing_to_say;
      finished = λ p. p;
    }

-- what a dry run sees of a printer
abbrev pub printer_seen : PrinterState → SenseSeen
printer_seen p = record { sense = p.sense }

-- how the printer of a dry run answers
abbrev pub printer_seen_answer : SenseSeen → Order → Answer
printer_seen_answer p order =
    if printer.is_write order.command.code then OutputUpTo 132
    else if is_space order.command.code || order.command.code == 0x03 then Immediate
    else if is_sense order then Input 1
    else Refused unit_check

-- the printer of a dry run after a command has begun
abbrev pub printer_seen_started : SenseSeen → Order → SenseSeen
printer_seen_started p order =
    if printer.is_write order.command.code then p
    else if is_space order.command.code then p
    else if order.command.code == 0x03 then p
    else if is_sense order then p
    else record p { sense = command_reject }

-- the printer of a dry run as a device
abbrev pub printer_trial : Machine SenseSeen
printer_trial =
    record {
      answer = printer_seen_answer;
      started = printer_seen_started;
      done = λ p. false;
      gives = λ p. p.sense;
      gave = λ p. p;
      took = λ p byte. p;
      status = λ p. nothing_to_say;
      finished = λ p. p;
    }

-- ---- Each is a view of its device.
abbrev pub ViewsConsole : Type 0
ViewsConsole = IsViewed console_machine console_trial console_seen

-- the dry run's punch is a view of the punch
abbrev pub ViewsPunch : Type 0
ViewsPunch = IsViewed punch_machine punch_trial punch_seen

-- the dry run's printer is a view of the printer
abbrev pub ViewsPrinter : Type 0
ViewsPrinter = IsViewed printer_machine printer_trial printer_seen
