-- The line printer (GA24-3312, "1403 Printer": the commands; the width of a line is the profile's).
use Rattle.std.specs.Prelude.{ℕ, ◌==◌, ◌||◌, Bool, false, nat_lt, if◌then◌else◌, List, [], ◌∷◌}
use Rattle.std.specs.Prelude.{◌++◌, length, Option, Some, None}
use Rattle.s370_walk.specs.declared.parts.Order.{Order}
use Rattle.s370_walk.specs.declared.parts.Answer.{Answer}
use Rattle.s370_walk.specs.declared.parts.Answer.TheVariants.{Refused, Immediate, Input, OutputUpTo}
use Rattle.s370_walk.specs.Hardware.{Machine}
use Rattle.unit_record.specs.Front.{is_sense, nothing_to_say, unit_check, command_reject}
use Rattle.unit_record.specs.Output.{EntryValue}

-- State
pub record PrinterState : Type 0 where
  -- the entries of the open file
  pub entries : List EntryValue
  pub sense : ℕ
  -- the write that is under way, and the bytes of its line
  pub printing : Option ℕ
  pub line : List ℕ

-- Commands by code: write without a space, with one, two or three lines, with a skip to channel 1
abbrev pub is_write : ℕ → Bool
is_write code = code == 0x01 || code == 0x09 || code == 0x11 || code == 0x19 || code == 0x89

-- space one, two or three lines, skip to channel 1, at once
abbrev pub is_space : ℕ → Bool
is_space code = code == 0x0B || code == 0x13 || code == 0x1B || code == 0x8B

-- how the printer answers a command
abbrev pub printer_answer : PrinterState → Order → Answer
printer_answer p order =
    if is_write order.command.code then OutputUpTo 132
    -- space, and No-op
    else if is_space order.command.code || order.command.code == 0x03 then Immediate
    -- Sense
    else if is_sense order then Input 1
    else Refused unit_check

-- An immediate space is an entry without bytes, and no write is under way after it.
abbrev pub printer_started : PrinterState → Order → PrinterState
printer_started p order =
    if is_write order.command.code then record p { printing = Some order.command.code; line = [] }
    else if is_space order.command.code
    then record p {
      entries = p.entries
          ++ record { code = order.command.code; bytes = [] } ∷ [];
      printing = None;
    }
    else if order.command.code == 0x03 then p
    else if is_sense order then p
    else record p { sense = command_reject }

-- Memory: a write and a space need it, for their entry
abbrev pub printer_needs_memory : PrinterState → Order → Bool
printer_needs_memory p order = is_write order.command.code || is_space order.command.code

-- Data
abbrev pub printer_took : PrinterState → ℕ → PrinterState
printer_took p byte = if nat_lt (length p.line) 132 then record p { line = p.line ++ byte ∷ [] }
    else p

-- End
abbrev pub printed : PrinterState → Option ℕ → PrinterState
printed p None = p
printed p (Some code) = record
    p {
      entries = p.entries ++ record { code = code; bytes = p.line } ∷ [];
      printing = None;
      line = [];
    }

-- the printer as a device
abbrev pub printer_machine : Machine PrinterState
printer_machine =
    record {
      answer = printer_answer;
      started = printer_started;
      done = λ p. false;
      gives = λ p. p.sense;
      gave = λ p. p;
      took = printer_took;
      status = λ p. nothing_to_say;
      finished = λ p. printed p p.printing;
    }

-- From outside: a reset, and the open file taken to be closed. Both find no command under way, or
-- end it.
abbrev pub printer_new : PrinterState
printer_new = record { entries = []; sense = 0; printing = None; line = [] }

-- the printer after a reset
abbrev pub printer_reset : PrinterState → PrinterState
printer_reset p = record p { sense = 0; printing = None; line = [] }

-- the printer after its file was closed
abbrev pub printer_emptied : PrinterState → PrinterState
printer_emptied p = record p { entries = []; printing = None; line = [] }
