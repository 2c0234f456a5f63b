-- What is seen of console, punch and printer is enough for each walk.
use Rattle.std.proofs.Common.{sym, ap, ◌∙◌, arith}
use Rattle.std.proofs.Math.Seq.{drop-cons}
use Rattle.std.proofs.lemmas.Option.{slice_get_past, slice_get_read}
use Rattle.unit_record.specs.Reader.{DeckValue, found, End, Card, place_of}
use Rattle.std.specs.Prelude.{suc, slice_index_or, unwrap_or, ◌<◌, ◌≤◌, ◌+◌, ℕ, ◌-◌, ◌++◌, drop, ◌==◌, ◌≡◌, Bool, true}
use Rattle.std.specs.Prelude.{false, nat_lt, if◌then◌else◌, List, [], ◌∷◌, Option, Some, None, refl, length}
use Rattle.s370_walk.specs.declared.parts.Order.{Order}
use Rattle.unit_record.specs.Console.{ConsoleState, is_write, console_started, console_took, console_finished}
use Rattle.unit_record.specs.Console.{read_started, with_character}
use Rattle.unit_record.specs.Front.{is_sense, command_reject}
use Rattle.s370_num.specs.Ebcdic.{printable_of}
use Rattle.unit_record.specs.Printer.{PrinterState, printer_machine, is_space, printer_started, printer_took, printed}
use Rattle.unit_record.specs.Printer as printer
use Rattle.unit_record.specs.Punch.{PunchState, whole_card, punch_started, punch_took, punch_finished}
use Rattle.unit_record.specs.Trials.{console_seen, seen_read, seen_started, punch_seen, punch_seen_started}
use Rattle.unit_record.specs.Trials.{printer_seen, printer_seen_started, ViewsConsole, ViewsPunch, ViewsPrinter}

-- ---- console
read_seen : (c : ConsoleState) (lines : List (List ℕ))
    → seen_read (console_seen c) lines ≡ console_seen (read_started c lines)
read_seen c [] = refl
read_seen c (line ∷ lines) = refl

console_begins : (c : ConsoleState) (order : Order)
    → seen_started (console_seen c) order ≡ console_seen (console_started c order)
console_begins c order =
    by_code (is_write order.command.code) (order.command.code == 0x0A) (order.command.code == 0x03) (is_sense order)
  where
    by_code : (writes reads idle senses : Bool)
        → (if writes then console_seen c else if reads then seen_read (console_seen c) c.waiting else if idle
        then console_seen c else if senses then record (console_seen c) { giving = c.sense ∷ [] }
        else record (console_seen c) { sense = command_reject })
        ≡ console_seen (if writes then record c { wanted = 132; ends_line = order.command.code == 0x09 } else if reads
        then read_started c c.waiting else if idle then c else if senses then record c { giving = c.sense ∷ [] }
        else record c { sense = command_reject })
    by_code true reads idle senses = refl
    by_code false true idle senses = read_seen c c.waiting
    by_code false false true senses = refl
    by_code false false false true = refl
    by_code false false false false = refl

character_seen : (c : ConsoleState) (character : ℕ) → console_seen (with_character c character) ≡ console_seen c
character_seen c character = by_length (length c.unfinished == 132)
  where
    by_length : (full : Bool)
        → console_seen (if full then record c { lines = c.lines ++ c.unfinished ∷ []; unfinished = character ∷ [] }
        else record c { unfinished = c.unfinished ++ character ∷ [] }) ≡ console_seen c
    by_length true = refl
    by_length false = refl

console_takes : (c : ConsoleState) (byte : ℕ) → console_seen c ≡ console_seen (console_took c byte)
console_takes c byte = by_wanted (nat_lt 0 c.wanted)
  where
    by_wanted : (wants : Bool)
        → console_seen c ≡ console_seen
        (if wants then record (with_character c (printable_of byte)) { wanted = c.wanted - 1 } else c)
    by_wanted true = sym (character_seen c (printable_of byte))
    by_wanted false = refl

console_ends : (c : ConsoleState) → console_seen c ≡ console_seen (console_finished c)
console_ends c = by_end c.ends_line
  where
    by_end : (ends : Bool) → console_seen c
        ≡ console_seen (if ends then record
        c { lines = c.lines ++ c.unfinished ∷ []; unfinished = []; wanted = 0; ends_line = false }
        else record c { wanted = 0 })
    by_end true = refl
    by_end false = refl

-- A dry run of the console is one of what it has seen.
pub views_console : ViewsConsole
views_console = record {
  answer = λ c order. refl;
  started = console_begins;
  done = λ c. refl;
  gives = λ c. refl;
  gave = λ c. refl;
  took = console_takes;
  status = λ c. refl;
  finished = console_ends;
}

-- ---- punch
punch_begins : (p : PunchState) (order : Order)
    → punch_seen_started (punch_seen p) order ≡ punch_seen (punch_started p order)
punch_begins p order = by_code (order.command.code == 0x01) (order.command.code == 0x03) (is_sense order)
  where
    by_code : (writes idle senses : Bool)
        → (if writes then punch_seen p else if idle then punch_seen p else if senses then punch_seen p
        else record (punch_seen p) { sense = command_reject })
        ≡ punch_seen (if writes then record p { is_punching = true; card = [] } else if idle then p else if senses
        then p else record p { sense = command_reject })
    by_code true idle senses = refl
    by_code false true senses = refl
    by_code false false true = refl
    by_code false false false = refl

punch_takes : (p : PunchState) (byte : ℕ) → punch_seen p ≡ punch_seen (punch_took p byte)
punch_takes p byte = by_length (nat_lt (length p.card) 80)
  where
    by_length : (short : Bool)
        → punch_seen p ≡ punch_seen (if short then record p { card = p.card ++ byte ∷ [] } else p)
    by_length true = refl
    by_length false = refl

punch_ends : (p : PunchState) → punch_seen p ≡ punch_seen (punch_finished p)
punch_ends p = by_punching p.is_punching
  where
    by_punching : (punches : Bool)
        → punch_seen p ≡ punch_seen
        (if punches then record p { entries = p.entries ++ whole_card p.card ∷ []; is_punching = false; card = [] }
        else p)
    by_punching true = refl
    by_punching false = refl

-- A dry run of the punch is one of what it has seen.
pub views_punch : ViewsPunch
views_punch = record {
  answer = λ p order. refl;
  started = punch_begins;
  done = λ p. refl;
  gives = λ p. refl;
  gave = λ p. refl;
  took = punch_takes;
  status = λ p. refl;
  finished = punch_ends;
}

-- ---- printer
printer_begins : (p : PrinterState) (order : Order)
    → printer_seen_started (printer_seen p) order ≡ printer_seen (printer_started p order)
printer_begins p order =
    by_code (printer.is_write order.command.code) (is_space order.command.code) (order.command.code == 0x03)
    (is_sense order)
  where
    by_code : (writes spaces idle senses : Bool)
        → (if writes then printer_seen p else if spaces then printer_seen p else if idle then printer_seen p
        else if senses then printer_seen p else record (printer_seen p) { sense = command_reject })
        ≡ printer_seen (if writes then record p { printing = Some order.command.code; line = [] } else if spaces
        then record p {
          entries = p.entries ++ record { code = order.command.code; bytes = [] } ∷ [];
          printing = None;
        } else if idle then p else if senses then p else record p { sense = command_reject })
    by_code true spaces idle senses = refl
    by_code false true idle senses = refl
    by_code false false true senses = refl
    by_code false false false true = refl
    by_code false false false false = refl

printer_takes : (p : PrinterState) (byte : ℕ) → printer_seen p ≡ printer_seen (printer_took p byte)
printer_takes p byte = by_length (nat_lt (length p.line) 132)
  where
    by_length : (short : Bool)
        → printer_seen p ≡ printer_seen (if short then record p { line = p.line ++ byte ∷ [] } else p)
    by_length true = refl
    by_length false = refl

printer_ends : (p : PrinterState) (printing : Option ℕ) → printer_seen p ≡ printer_seen (printed p printing)
printer_ends p None = refl
printer_ends p (Some code) = refl

-- A dry run of the printer is one of what it has seen.
pub views_printer : ViewsPrinter
views_printer = record {
  answer = λ p order. refl;
  started = printer_begins;
  done = λ p. refl;
  gives = λ p. refl;
  gave = λ p. refl;
  took = printer_takes;
  status = λ p. refl;
  finished = λ p. printer_ends p p.printing;
}
