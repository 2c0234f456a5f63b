-- What a program does with its files once its machines are there: it plays or follows a script, and
-- saves images.
use Rattle.std.specs.Prelude.{◌≡◌, ◌⊎◌, ℕ, ◌+◌, ◌≤◌, Bool, true, if◌then◌else◌, List, [], ◌∷◌}
use Rattle.std.specs.Prelude.{length}
use Rattle.std.specs.Prelude.{slice_get, string_bytes, Option, Some, None}
use Rattle.ckd_image.specs.declared.faults.ImageError.{ImageError}
use Rattle.ckd_image.specs.declared.faults.ImageError.TheVariants as images
use Rattle.ckd_volume.specs.Volume.{VolumeFormat}
use Rattle.sessions.specs.Installed.{Installation}
use Rattle.sessions.specs.Session.{IsCut, IsRefused, IsSession}
use Rattle.sessions.specs.declared.faults.SessionError.{SessionError}
use Rattle.sessions.specs.declared.faults.SessionError.TheVariants as ends
use Rattle.sessions.specs.declared.schedule.Detail.{Detail}
use Rattle.sessions.specs.declared.schedule.Detail.TheVariants.{Whole}
use Rattle.programs.specs.Faults.{session_failure}
use Rattle.program_host.specs.Deeds.{Adds, AddsFirst, Deed, Loses, Misses, Opens, saves}
use Rattle.programs.specs.Opened.{Unmaking}
use Rattle.programs.specs.Parts.{FailureCounts, HasFailed, IsBrokenOff, IsLeft}
use Rattle.programs.specs.declared.faults.Failure.{Failure}
use Rattle.programs.specs.declared.faults.Failure.TheVariants as failures
use Rattle.programs.specs.declared.parts.Left.{Left}
use Rattle.programs.specs.declared.parts.Left.TheVariants as lefts

-- the paths of images that are saved: all where that is asked for
abbrev pub saved_of : Bool → List (List ℕ) → List (List ℕ)
saved_of save paths = if save then paths else []

-- ---- images that are not saved

-- the failure tells this path, and why the image is not written to it
abbrev pub Tells : ImageError → List ℕ → Failure → Type 0
Tells error path (failures.Unsaved cause place) = (cause ≡ error) × (string_bytes place ≡ path)
Tells error path _ = ⊥

-- why an image is not written to this path: writing its volume's failed, or there is no volume for
-- it
abbrev pub IsLost : Option VolumeFormat → List ℕ → Unmaking
IsLost None path old new failure = Tells images.Truncated path failure × Adds old new []
IsLost (Some volume) path old new failure = (error : ImageError)
    × Tells error path failure × Adds old new (Loses path volume error ∷ [])

-- so many images were written, and the next was not
pub record IsUnsavedAt (paths : List (List ℕ)) (volumes : List VolumeFormat)
    (old new : Option (List Deed)) (failure : Failure) : Type 0 where
  pub before : ℕ
  pub path : List ℕ
  pub between : Option (List Deed)
  pub place : Some path ≡ slice_get paths before
  pub saved : AddsFirst before old between (saves paths volumes)
  pub lost : IsLost (slice_get volumes before) path between new failure

-- or there was no memory for the paths, and none was asked for
abbrev pub IsUnsaved : List (List ℕ) → List VolumeFormat → Unmaking
IsUnsaved paths volumes old new failure =
    ((failure ≡ failures.Memory) × Adds old new []) ⊎ IsUnsavedAt paths volumes old new failure

-- ---- a script that is played

-- the script at this path was played as a session, and then the images of the volumes were saved,
-- as they were left
pub record IsRun {W F : Type 0} (i : Installation W) (volumes : W → List VolumeFormat)
    (Gives : List ℕ → F → Type 0) (remaining : F → Option (List ℕ)) (script : List ℕ)
    (saved : List (List ℕ)) (first last : W) (deeds_old deeds_new : Option (List Deed))
    (writer_old writer_new : Option (List ℕ)) : Type 0 where
  pub file : F
  pub left : F
  pub opened : Gives script file
  pub session : IsSession i Whole first last (remaining file) (remaining left) writer_old writer_new
  pub enough : length saved ≤ length (volumes last)
  pub deeds : Adds deeds_old deeds_new (Opens script ∷ saves saved (volumes last))

-- the script could not be opened
pub record IsUnopened {W : Type 0} (script : List ℕ) (first last : W)
    (deeds_old deeds_new : Option (List Deed)) (writer_old writer_new : Option (List ℕ))
    (failure : Failure) : Type 0 where
  pub reported : failure ≡ failures.File 1
  pub same : last ≡ first
  pub unwritten : writer_new ≡ writer_old
  pub deeds : Adds deeds_old deeds_new (Misses script ∷ [])

-- a script is refused by its first wrong line, a file by its count, and a spent installation does
-- none
abbrev pub IsRefusedFor : {W : Type 0} → Installation W → SessionError → W → Option (List ℕ)
    → Option (List ℕ) → FailureCounts → Type 0
IsRefusedFor i ends.Memory first reader_old reader_new counts = Unit {0}
IsRefusedFor i (ends.Line line) first reader_old reader_new counts =
    IsRefused (i.seen first).users reader_old reader_new line
IsRefusedFor i (ends.Device k) first reader_old reader_new counts = HasFailed counts k
IsRefusedFor i ends.Spent first reader_old reader_new counts = i.is_spent first ≡ true

-- the session failed: nothing has happened, or a beginning of it, of which a beginning was written;
-- and no image was saved
pub record IsCutRun {W F : Type 0} (i : Installation W) (Gives : List ℕ → F → Type 0)
    (remaining : F → Option (List ℕ)) (count : F → ℕ) (script : List ℕ) (first last : W)
    (deeds_old deeds_new : Option (List Deed)) (writer_old writer_new : Option (List ℕ))
    (failed_old failed_new : ℕ) (failure : Failure) : Type 0 where
  pub file : F
  pub left : F
  pub opened : Gives script file
  pub error : SessionError
  pub reported : failure ≡ session_failure error
  pub refused : IsRefusedFor i error first (remaining file) (remaining left)
      (record {
        reader_old = count file;
        reader_new = count left;
        writer_old = failed_old;
        writer_new = failed_new;
      })
  pub done : ((last ≡ first) × (writer_new ≡ writer_old))
      ⊎ IsCut i Whole first last (remaining file) (remaining left) writer_old writer_new
  pub deeds : Adds deeds_old deeds_new (Opens script ∷ [])

-- the session was played to its end, and an image was not saved
pub record IsUnsavedRun {W F : Type 0} (i : Installation W) (volumes : W → List VolumeFormat)
    (Gives : List ℕ → F → Type 0) (remaining : F → Option (List ℕ)) (script : List ℕ)
    (saved : List (List ℕ)) (first last : W) (deeds_old deeds_new : Option (List Deed))
    (writer_old writer_new : Option (List ℕ)) (failure : Failure) : Type 0 where
  pub file : F
  pub left : F
  pub between : Option (List Deed)
  pub opened : Gives script file
  pub session : IsSession i Whole first last (remaining file) (remaining left) writer_old writer_new
  pub script_opened : Adds deeds_old between (Opens script ∷ [])
  pub unsaved : IsUnsaved saved (volumes last) between deeds_new failure

-- which of its three steps failed, and how often the output had failed before and after
abbrev pub IsFailedRun : {W F : Type 0} → Installation W → (W → List VolumeFormat)
    → (List ℕ → F → Type 0) → (F → Option (List ℕ)) → (F → ℕ) → List ℕ → List (List ℕ) → W → W
    → Option (List Deed) → Option (List Deed) → Option (List ℕ) → Option (List ℕ) → ℕ → ℕ
    → Failure → Type 0
IsFailedRun i volumes Gives remaining count script saved first last deeds_old deeds_new writer_old
    writer_new failed_old failed_new failure =
    IsUnopened script first last deeds_old deeds_new writer_old writer_new failure
    ⊎ IsCutRun i Gives remaining count script first last deeds_old deeds_new writer_old writer_new
    failed_old failed_new failure
    ⊎ IsUnsavedRun i volumes Gives remaining script saved first last deeds_old deeds_new writer_old
    writer_new failure

-- ---- a script that is followed

-- the images that are saved: of machines whose end was asked for, and else none
abbrev pub saved_by : {W : Type 0} → (W → List VolumeFormat) → List (List ℕ) → Left W → List Deed
saved_by volumes saved (lefts.ProgramEnd last) = saves saved (volumes last)
saved_by volumes saved (lefts.Cut last) = []

-- the parts were followed to their end, and the images were saved
pub record IsFollowing {W : Type 0} (i : Installation W) (volumes : W → List VolumeFormat)
    (detail : Detail) (saved : List (List ℕ)) (first : W) (deeds_old deeds_new : Option (List Deed))
    (reader_old reader_new writer_old writer_new : Option (List ℕ)) : Type 0 where
  pub left : Left W
  pub followed : IsLeft i detail first left reader_old reader_new writer_old writer_new
  pub deeds : Adds deeds_old deeds_new (saved_by volumes saved left)

-- they were not, for this failure, and no image was saved
pub record IsCutFollowing {W : Type 0} (i : Installation W) (detail : Detail) (first : W)
    (deeds_old deeds_new : Option (List Deed))
    (reader_old reader_new writer_old writer_new : Option (List ℕ)) (counts : FailureCounts)
    (failure : Failure) : Type 0 where
  pub broken : IsBrokenOff i detail first reader_old reader_new writer_old writer_new counts failure
  pub deeds : Adds deeds_old deeds_new []

-- they were, and their end was asked for; and an image was not saved
pub record IsUnsavedFollowing {W : Type 0} (i : Installation W) (volumes : W → List VolumeFormat)
    (detail : Detail) (saved : List (List ℕ)) (first : W) (deeds_old deeds_new : Option (List Deed))
    (reader_old reader_new writer_old writer_new : Option (List ℕ))
    (failure : Failure) : Type 0 where
  pub last : W
  pub followed : IsLeft i detail first (lefts.ProgramEnd last) reader_old reader_new writer_old
      writer_new
  pub unsaved : IsUnsaved saved (volumes last) deeds_old deeds_new failure

-- a script was not followed to its end, or an image was not saved
abbrev pub IsFailedFollowing : {W : Type 0} → Installation W → (W → List VolumeFormat) → Detail
    → List (List ℕ) → W → Option (List Deed) → Option (List Deed) → Option (List ℕ)
    → Option (List ℕ) → Option (List ℕ) → Option (List ℕ) → FailureCounts → Failure → Type 0
IsFailedFollowing i volumes detail saved first deeds_old deeds_new reader_old reader_new writer_old
    writer_new counts failure =
    IsCutFollowing i detail first deeds_old deeds_new reader_old reader_new writer_old writer_new
    counts failure
    ⊎ IsUnsavedFollowing i volumes detail saved first deeds_old deeds_new reader_old reader_new
    writer_old writer_new failure
