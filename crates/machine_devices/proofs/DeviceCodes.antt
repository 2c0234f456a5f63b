-- Bytes are those of one machine's devices, and of one note.
use Rattle.std.specs.Prelude.{ℕ, zero, suc, ◌≡◌, refl}
use Rattle.std.proofs.Common.{ap}
use Rattle.saved_bytes.specs.Codes.{both, number, optional, IsCode}
use Rattle.saved_bytes.proofs.Codes.{both_code, number_code, optional_code, of_parts}
use Rattle.unit_record.specs.Saved.{console_bytes, printer_bytes, punch_bytes, target_bytes}
use Rattle.unit_record.proofs.DeviceCodes.{console_code, printer_code, punch_code, target_code}
use Rattle.cp_spool.specs.Saved.{reader_bytes}
use Rattle.cp_spool.proofs.FileCodes.{reader_code}
use Rattle.machine_devices.specs.declared.files.FileKind.{FileKind}
use Rattle.machine_devices.specs.declared.files.FileKind.TheVariants as kinds
use Rattle.machine_devices.specs.declared.files.FileNote.{FileNote}
use Rattle.machine_devices.specs.declared.places.Places.{Places}
use Rattle.machine_devices.specs.Lent.{DevicesParts}
use Rattle.machine_devices.specs.Saved.{devices_bytes, kind_number, kind_place, note_bytes, places_bytes}

-- ---- devices

pub places_code : IsCode places_bytes
places_code =
    let one = optional_code number number_code in
    let two = both_code (optional number) (optional number) one one in
    let three = both_code (optional number) (both (optional number) (optional number)) one two in
    of_parts (both (optional number) (both (optional number) (both (optional number) (optional number))))
    (both_code (optional number) (both (optional number) (both (optional number) (optional number))) one three)
    (λ (p : Places). (p.console, (p.reader, (p.punch, p.printer))))
    (λ p. record { console = p.0; reader = p.1.0; punch = p.1.1.0; printer = p.1.1.1 })
    (λ p. refl)

-- The bytes of the devices are a code: they are read back, whatever follows them.
pub devices_code : IsCode devices_bytes
devices_code =
    let front = both_code places_bytes console_bytes places_code console_code in
    let outputs = both_code punch_bytes printer_bytes punch_code printer_code in
    let spooled = both_code reader_bytes (both punch_bytes printer_bytes) reader_code outputs in
    let owner = both_code target_bytes number target_code number_code in
    let back = both_code (both reader_bytes (both punch_bytes printer_bytes)) (both target_bytes number) spooled owner
    in
    of_parts (both (both places_bytes console_bytes)
    (both (both reader_bytes (both punch_bytes printer_bytes)) (both target_bytes number)))
    (both_code (both places_bytes console_bytes)
    (both (both reader_bytes (both punch_bytes printer_bytes)) (both target_bytes number)) front back)
    (λ (d : DevicesParts). ((d.places, d.console), ((d.reader, (d.punch, d.printer)), (d.target, d.user))))
    (λ p. record {
      places = p.0.0;
      console = p.0.1;
      reader = p.1.0.0;
      punch = p.1.0.1.0;
      printer = p.1.0.1.1;
      target = p.1.1.0;
      user = p.1.1.1;
    })
    (λ d. refl)

-- ---- files

abbrev kind_at : ℕ → ℕ → FileKind
kind_at zero place = kinds.Deck
kind_at (suc zero) place = kinds.Punch place
kind_at (suc (suc more)) place = kinds.Printer place

kind_again : (kind : FileKind) → kind_at (kind_number kind) (kind_place kind) ≡ kind
kind_again kinds.Deck = refl
kind_again (kinds.Punch place) = refl
kind_again (kinds.Printer place) = refl

-- The bytes of a note are a code: it is read back, whatever follows it.
pub note_code : IsCode note_bytes
note_code =
    of_parts (both number (both number number))
    (both_code number (both number number) number_code (both_code number number number_code number_code))
    (λ (n : FileNote). (n.user, (kind_number n.kind, kind_place n.kind)))
    (λ p. record { user = p.0; kind = kind_at p.1.0 p.1.1 })
    (λ n. ap (λ (kind : FileKind). let note : FileNote = record { user = n.user; kind = kind } in note)
    (kind_again n.kind))
