-- Bytes are those of one device.
use Rattle.std.specs.Prelude.{ℕ, ◌≡◌, refl, List, Bool, Option, Some, None}
use Rattle.saved_bytes.specs.Codes.{both, bytes, each, flag, number, optional, IsCode}
use Rattle.saved_bytes.proofs.Codes.{both_code, bytes_code, each_code, flag_code, number_code, optional_code, of_parts}
use Rattle.unit_record.specs.declared.output.Target.{Target}
use Rattle.unit_record.specs.declared.output.Target.TheVariants as targets
use Rattle.unit_record.specs.declared.reader.Sender.{Sender}
use Rattle.unit_record.specs.declared.reader.Sender.TheVariants as senders
use Rattle.unit_record.specs.Console.{ConsoleState}
use Rattle.unit_record.specs.Output.{EntryValue}
use Rattle.unit_record.specs.Printer.{PrinterState}
use Rattle.unit_record.specs.Punch.{PunchState}
use Rattle.unit_record.specs.Saved.{user_of_target, target_bytes, user_of_sender, sender_bytes, entry_bytes}
use Rattle.unit_record.specs.Saved.{entries_bytes, console_bytes, punch_bytes, printer_bytes}

-- ---- for whom a file is, and from whom

abbrev target_of_user : Option ℕ → Target
target_of_user None = targets.System
target_of_user (Some user) = targets.User user

target_again : (target : Target) → target_of_user (user_of_target target) ≡ target
target_again targets.System = refl
target_again (targets.User user) = refl

-- The byte of a target is a code.
pub target_code : IsCode target_bytes
target_code = of_parts (optional number) (optional_code number number_code) user_of_target target_of_user target_again

abbrev sender_of_user : Option ℕ → Sender
sender_of_user None = senders.System
sender_of_user (Some user) = senders.User user

sender_again : (sender : Sender) → sender_of_user (user_of_sender sender) ≡ sender
sender_again senders.System = refl
sender_again (senders.User user) = refl

-- The byte of a sender is a code.
pub sender_code : IsCode sender_bytes
sender_code = of_parts (optional number) (optional_code number number_code) user_of_sender sender_of_user sender_again

-- ---- devices

pub entry_code : IsCode entry_bytes
entry_code =
    of_parts (both number bytes) (both_code number bytes number_code bytes_code)
    (λ (e : EntryValue). (e.code, e.bytes)) (λ p. record { code = p.0; bytes = p.1 }) (λ e. refl)

-- The bytes of entries are a code: they are read back, whatever follows them.
pub entries_code : IsCode entries_bytes
entries_code = each_code entry_bytes entry_code

-- The bytes of a console are a code: it is read back, whatever follows it.
pub console_code : IsCode console_bytes
console_code =
    let lines = each_code bytes bytes_code in
    let written = both_code (each bytes) (both bytes (each bytes)) lines (both_code bytes (each bytes) bytes_code lines)
    in
    let ending = both_code flag bytes flag_code bytes_code in
    let command = both_code number (both flag bytes) number_code ending in
    let last = both_code number (both number (both flag bytes)) number_code command in
    of_parts (both (both (each bytes) (both bytes (each bytes))) (both number (both number (both flag bytes))))
    (both_code (both (each bytes) (both bytes (each bytes))) (both number (both number (both flag bytes))) written last)
    (λ (c : ConsoleState). ((c.lines, (c.unfinished, c.waiting)), (c.sense, (c.wanted, (c.ends_line, c.giving)))))
    (λ p. record {
      lines = p.0.0;
      unfinished = p.0.1.0;
      waiting = p.0.1.1;
      sense = p.1.0;
      wanted = p.1.1.0;
      ends_line = p.1.1.1.0;
      giving = p.1.1.1.1;
    })
    (λ c. refl)

-- The bytes of a punch are a code: it is read back, whatever follows it.
pub punch_code : IsCode punch_bytes
punch_code =
    let card = both_code flag bytes flag_code bytes_code in
    let sense = both_code number (both flag bytes) number_code card in
    of_parts (both entries_bytes (both number (both flag bytes)))
    (both_code entries_bytes (both number (both flag bytes)) entries_code sense)
    (λ (p : PunchState). (p.entries, (p.sense, (p.is_punching, p.card))))
    (λ p. record { entries = p.0; sense = p.1.0; is_punching = p.1.1.0; card = p.1.1.1 })
    (λ p. refl)

-- The bytes of a printer are a code: it is read back, whatever follows it.
pub printer_code : IsCode printer_bytes
printer_code =
    let code = optional_code number number_code in
    let line = both_code (optional number) bytes code bytes_code in
    let sense = both_code number (both (optional number) bytes) number_code line in
    of_parts (both entries_bytes (both number (both (optional number) bytes)))
    (both_code entries_bytes (both number (both (optional number) bytes)) entries_code sense)
    (λ (p : PrinterState). (p.entries, (p.sense, (p.printing, p.line))))
    (λ p. record { entries = p.0; sense = p.1.0; printing = p.1.1.0; line = p.1.1.1 })
    (λ p. refl)
