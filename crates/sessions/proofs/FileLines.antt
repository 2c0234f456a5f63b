-- The lines of files that were noted one after another.
use Rattle.std.proofs.Common.{◌≡◌, ℕ, ◌+◌, List, ◌++◌, Some, drop, ap}
use Rattle.std.specs.Prelude.{slice_get}
use Rattle.machine_devices.specs.declared.files.FileNote.{FileNote}
use Rattle.sessions.specs.Installed.{Installed}
use Rattle.sessions.specs.declared.files.Telling.{Telling}
use Rattle.sessions.specs.Files.{lines_from, note_lines}
use Rattle.sessions.specs.Transcript.{ended}
use Rattle.sessions.proofs.Rest.{from_here, lines_more}

-- those of a file more
pub note_more : (telling : Telling) (s : Installed) (out after : List ℕ) (notes : List FileNote) (k : ℕ)
    (note : FileNote) → Some note ≡ slice_get notes k → after ≡ out ++ ended (note_lines telling s (k + 1) note)
    → after ++ ended (lines_from telling s (k + 1 + 1) (drop (k + 1) notes)) ≡ out
    ++ ended (lines_from telling s (k + 1) (drop k notes))
note_more telling s out after notes k note is e =
    lines_more out after (note_lines telling s (k + 1) note) (lines_from telling s (k + 1 + 1) (drop (k + 1) notes))
    (lines_from telling s (k + 1) (drop k notes)) (ap (lines_from telling s (k + 1)) (from_here notes k note is)) e
