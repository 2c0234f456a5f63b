-- Closed files from event to event, and what the answers to parts have of them.
use Rattle.std.specs.Prelude.{ℕ, ◌≡◌, true, List, [], ◌∷◌, ◌++◌, length, Some}
use Rattle.unit_record.specs.Output.{FileValue}
use Rattle.machine_devices.specs.Written.{IsFull, has_entry}
use Rattle.machine_devices.specs.declared.files.FileKind.{FileKind}
use Rattle.machine_devices.specs.declared.files.FileNote.{FileNote}
use Rattle.sessions.specs.Files.{closed_in, lines_since}
use Rattle.sessions.specs.Installed.{Installation, Installed, user_at}
use Rattle.sessions.specs.Schedule.{Scene}
use Rattle.sessions.specs.declared.files.Telling.{Telling}

-- each closed file that was noted is there and has an entry
abbrev pub AreFull : Installed → List FileNote → Type 0
AreFull s [] = Unit {0}
AreFull s (note ∷ notes) = IsFull (user_at s note.user) note.kind × AreFull s notes

-- the files that were noted before stay noted, each that is noted after them has an entry, and
-- every closed file stays as it is
pub record NotesFiles (old new : Installed) : Type 0 where
  pub more : List FileNote
  pub noted : new.files ≡ old.files ++ more
  pub full : AreFull new more
  pub stay : (user : ℕ) (kind : FileKind) (file : FileValue)
      → closed_in old user kind ≡ Some file → closed_in new user kind ≡ Some file

-- each closed file that has an entry in the second is the same in the first
abbrev pub HasFull : Installed → Installed → Type 0
HasFull one other = (user : ℕ) (kind : FileKind) (file : FileValue)
    → closed_in other user kind ≡ Some file → has_entry file.entries ≡ true
    → closed_in one user kind ≡ Some file

-- the lines of the files for the operator that were closed between two scenes
abbrev pub closed_between : {W : Type 0} → Installation W → Telling → Scene W → Scene W
    → List (List ℕ)
closed_between i telling old new =
    lines_since telling (length (i.seen old.world).files) (i.seen new.world)
