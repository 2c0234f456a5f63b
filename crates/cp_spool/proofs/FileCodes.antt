-- Bytes are those of one user's files, and of one reader.
use Rattle.std.specs.Prelude.{ℕ, refl, List, Option}
use Rattle.saved_bytes.specs.Codes.{both, bytes, each, number, optional, IsCode}
use Rattle.saved_bytes.proofs.Codes.{both_code, bytes_code, each_code, number_code, optional_code, of_parts}
use Rattle.unit_record.specs.Output.{FileValue}
use Rattle.unit_record.specs.Reader.{DeckValue}
use Rattle.unit_record.specs.Saved.{entries_bytes, sender_bytes, target_bytes}
use Rattle.unit_record.proofs.DeviceCodes.{entries_code, sender_code, target_code}
use Rattle.cp_spool.specs.Queues.{UserFiles}
use Rattle.cp_spool.specs.Reader.{ReaderPart}
use Rattle.cp_spool.specs.Saved.{reader_bytes, deck_bytes, file_bytes, files_bytes}

-- The bytes of a reader are a code: it is read back, whatever follows it.
pub reader_code : IsCode reader_bytes
reader_code =
    of_parts (both number bytes) (both_code number bytes number_code bytes_code)
    (λ (r : ReaderPart). (r.sense, r.giving)) (λ p. record { sense = p.0; giving = p.1 }) (λ r. refl)

pub deck_code : IsCode deck_bytes
deck_code =
    let cards = both_code sender_bytes (each bytes) sender_code (each_code bytes bytes_code) in
    of_parts (both number (both sender_bytes (each bytes)))
    (both_code number (both sender_bytes (each bytes)) number_code cards)
    (λ (d : DeckValue). (d.label, (d.sender, d.cards))) (λ p. record { label = p.0; sender = p.1.0; cards = p.1.1 })
    (λ d. refl)

pub file_code : IsCode file_bytes
file_code =
    of_parts (both target_bytes entries_bytes) (both_code target_bytes entries_bytes target_code entries_code)
    (λ (f : FileValue). (f.target, f.entries)) (λ p. record { target = p.0; entries = p.1 }) (λ f. refl)

-- The bytes of all spool files are a code: they are read back, whatever follows them.
pub files_code : IsCode files_bytes
files_code =
    let decks = each_code deck_bytes deck_code in
    let files = each_code file_bytes file_code in
    let closed = both_code (each file_bytes) (each file_bytes) files files in
    let place = both_code (optional number) (both (each file_bytes) (each file_bytes))
    (optional_code number number_code) closed in
    of_parts (both (each deck_bytes) (both (optional number) (both (each file_bytes) (each file_bytes))))
    (both_code (each deck_bytes) (both (optional number) (both (each file_bytes) (each file_bytes))) decks place)
    (λ (f : UserFiles). (f.decks, (f.place, (f.punched, f.printed))))
    (λ p. record { decks = p.0; place = p.1.0; punched = p.1.1.0; printed = p.1.1.1 })
    (λ f. refl)
