-- Whole commands of the punch, the printer and the console.
use Rattle.std.proofs.Common.{◌≡◌, ◌-◌, true, false, [], ◌∷◌, ◌++◌, length, replicate, ap, ◌∙◌, arith, append-nil}
use Rattle.std.proofs.Common.{append_assoc, take, drop, Some}
use Rattle.s370_walk.specs.declared.parts.Order.{Order}
use Rattle.s370_walk.specs.Hardware.{after_taking}
use Rattle.unit_record.specs.Punch.{punch_finished}
use Rattle.unit_record.specs.Printer.{PrinterState, printer_machine, printer_started, is_write}
use Rattle.unit_record.specs.Console.{console_finished}
use Rattle.unit_record.specs.Laws.{PunchesOneCard, KeepsEightyBytes, PrintsOneEntry, WritesOneLine, WritesTwoLines}
use Rattle.unit_record.specs.Laws.{WritesOn, asked, printed, space_left}
use Rattle.unit_record.proofs.Takes.{punch_took_all, printer_took_all, console_took_all, console_took_over}

-- A write to the punch punches one card.
pub punches_one_card : PunchesOneCard
punches_one_card p first flags bytes le =
    ap (λ q. (punch_finished q).entries)
    (punch_took_all (record p { is_punching = true; card = [] }) bytes (omega arith))

-- The punch keeps 80 bytes of a card.
pub keeps_eighty_bytes : KeepsEightyBytes
keeps_eighty_bytes bytes is = let none : 80 - length bytes ≡ 0 =
    omega arith in ap (λ n. bytes ++ replicate n 64) none ∙ append-nil bytes

starts : (p : PrinterState) (order : Order) → is_write order.command.code ≡ true
    → printer_started p order ≡ record p { printing = Some order.command.code; line = [] }
starts p order writes = rw writes

-- A write to the printer prints one entry.
pub prints_one_entry : PrintsOneEntry
prints_one_entry p code first flags bytes writes le =
    ap (λ q. (printer_machine.finished (after_taking printer_machine q bytes)).entries)
    (starts p (asked code first flags) writes)
    ∙ ap (λ q. (printer_machine.finished q).entries)
    (printer_took_all (record p { printing = Some code; line = [] }) bytes (omega arith))

-- A write to the console writes one line.
pub writes_one_line : WritesOneLine
writes_one_line c first flags bytes fits =
    ap (λ q. (console_finished q).lines)
    (console_took_all (record c { wanted = 132; ends_line = true }) bytes fits (omega arith))

-- A write with a new line in it writes two lines.
pub writes_two_lines : WritesTwoLines
writes_two_lines c first flags bytes whole few over =
    ap (λ q. (console_finished q).lines)
    (console_took_over (space_left c) (record c { wanted = 132; ends_line = true }) bytes (omega arith) few
    (omega arith) few)
    ∙ append_assoc c.lines ((c.unfinished ++ printed (take (space_left c) bytes)) ∷ [])
    (printed (drop (space_left c) bytes) ∷ [])

-- A write without a new line at its end goes on in the next one.
pub writes_on : WritesOn
writes_on c first flags bytes fits =
    ap console_finished (console_took_all (record c { wanted = 132; ends_line = false }) bytes fits (omega arith))
