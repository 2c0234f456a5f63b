-- The bytes of spool files, and of what a reader keeps, in a saved state.
use Rattle.std.specs.Prelude.{ℕ, List, ◌++◌}
use Rattle.saved_bytes.specs.Codes.{bytes, each, number, optional}
use Rattle.unit_record.specs.Output.{FileValue}
use Rattle.unit_record.specs.Reader.{DeckValue}
use Rattle.unit_record.specs.Saved.{entries_bytes, sender_bytes, target_bytes}
use Rattle.cp_spool.specs.Queues.{UserFiles}
use Rattle.cp_spool.specs.Reader.{ReaderPart}
use Rattle.cp_spool.specs.declared.error.SpoolError.{SpoolError}
use Rattle.cp_spool.specs.declared.error.SpoolError.TheVariants as errors
use Rattle.saved_bytes.specs.declared.RestoreError.{RestoreError}
use Rattle.saved_bytes.specs.declared.RestoreError.TheVariants as restores

-- the bytes of what a reader keeps
abbrev pub reader_bytes : ReaderPart → List ℕ
reader_bytes r = number r.sense ++ bytes r.giving

-- the bytes of a deck
abbrev pub deck_bytes : DeckValue → List ℕ
deck_bytes d = number d.label ++ (sender_bytes d.sender ++ each bytes d.cards)

-- the bytes of a closed file
abbrev pub file_bytes : FileValue → List ℕ
file_bytes f = target_bytes f.target ++ entries_bytes f.entries

-- the bytes of a user's files
abbrev pub files_bytes : UserFiles → List ℕ
files_bytes f = each deck_bytes f.decks
    ++ (optional number f.place ++ (each file_bytes f.punched ++ each file_bytes f.printed))

-- why files are not restored: no state names a user or a file that is not there
abbrev pub restore_error : SpoolError → RestoreError
restore_error errors.Memory = restores.Memory
restore_error errors.NoSuchUser = restores.Malformed
restore_error errors.NoSuchFile = restores.Malformed
