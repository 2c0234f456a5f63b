-- What the program does with its files.
use Rattle.std.specs.Prelude.{◌≡◌, ◌⊎◌, ℕ, Bool, true, codes, List, [], ◌∷◌, map, Option, Ok}
use Rattle.std.specs.Str.Lossy.{utf8_lossy}
use Rattle.clap.specs.Words.{Row}
use Rattle.program_host.specs.Words.{is_taken, rows_named}
use Rattle.s370_num.specs.Host.{IsCounted}
use Rattle.s370_num.specs.declared.host.HostFault.TheVariants as hosts
use Rattle.ckd_volume.specs.Volume.{VolumeFormat}
use Rattle.cp_core.specs.Boot.{IsBooted}
use Rattle.cp_core.specs.Sizes.{SystemSizes}
use Rattle.cp_core.specs.System.{SystemView}
use Rattle.cp_core.specs.Unbooted.{IsUnbooted}
use Rattle.cp_core.specs.declared.events.BootError.{BootError}
use Rattle.cp_directory.specs.Directories.{IsRefusal, directory_of}
use Rattle.cp_directory.specs.declared.faults.DirError.{DirError}
use Rattle.cp_directory.specs.Users.{DirectoryUser}
use Rattle.sessions.specs.Session.{IsRead}
use Rattle.programs.specs.Arguments.{ByForm}
use Rattle.program_host.specs.Deeds.{Adds, Deed, Misses, Opens, opens}
use Rattle.programs.specs.Opened.{AreImagesAt, Unmaking}
use Rattle.programs.specs.Runs.{saved_of}
use Rattle.programs.specs.Faults.{fault_text, status_of}
use Rattle.programs.specs.Unread.{IsUnread}
use Rattle.programs.specs.Whole.{FollowFails, Follows, HostStreams, IsFailedToFollow, IsFailedToRun}
use Rattle.programs.specs.Whole.{IsFailedWholeFollowing, IsFailedWholeRun, IsFollowingNamed}
use Rattle.programs.specs.Whole.{IsRunNamed, IsWholeFollowing, IsWholeRun, PlayFails, Plays}
use Rattle.programs.specs.Whole.{detail_of}
use Rattle.programs.specs.declared.faults.Failure.{Failure}
use Rattle.programs.specs.declared.faults.Failure.TheVariants as failures
use Rattle.vm370.specs.BootFaults.{refusal_status, refusal_text}
use Rattle.vm370.specs.FollowOptions.{IsNamed as IsFollowNamed, command_of as follow_command_of}
use Rattle.vm370.specs.FollowOptions.{gives_directory}
use Rattle.vm370.specs.Goes.{system_goes}
use Rattle.vm370.specs.Options.{IsNamed, IsSized, command_of, gives_paths}
use Rattle.vm370.specs.declared.arguments.Options.{Options}
use Rattle.vm370.specs.declared.follow_arguments.SystemFollowOptions.{SystemFollowOptions}

-- the volumes of a system
abbrev pub system_volumes : SystemView → List VolumeFormat
system_volumes s = s.volumes

-- the file at this path was opened, and read to its end as the text of this directory
pub record IsDirectoryAt {F : Type 0} (Gives : List ℕ → F → Type 0)
    (remaining : F → Option (List ℕ)) (path : List ℕ)
    (directory : List DirectoryUser) : Type 0 where
  pub file : F
  pub left : F
  pub text : List ℕ
  pub opened : Gives path file
  pub read : IsRead (remaining file) (remaining left) text
  pub accepted : directory_of text ≡ Ok directory

-- the paths of the directory and then of the images
abbrev pub inputs : List ℕ → List (List ℕ) → List Deed
inputs directory paths = Opens directory ∷ opens paths

-- a system of these sizes was booted with the directory and the volumes at these paths
pub record IsSystemOf {F : Type 0} (Gives : List ℕ → F → Type 0) (remaining : F → Option (List ℕ))
    (directory : List ℕ) (paths : List (List ℕ)) (sizes : SystemSizes)
    (deeds_old deeds_new : Option (List Deed)) (system : SystemView) : Type 0 where
  pub users : List DirectoryUser
  pub volumes : List VolumeFormat
  pub stated : IsDirectoryAt Gives remaining directory users
  pub images : AreImagesAt Gives remaining paths volumes
  pub booted : IsBooted users volumes sizes.frames sizes.slots system
  pub deeds : Adds deeds_old deeds_new (inputs directory paths)

-- ---- why there is no system

-- the file at this path failed before its end, as its count says
pub record IsBrokenAt {F : Type 0} (Gives : List ℕ → F → Type 0) (count : F → ℕ) (path : List ℕ)
    (failure : Failure) : Type 0 where
  pub file : F
  pub left : F
  pub opened : Gives path file
  pub number : ℕ
  pub counted : IsCounted (count file) (count left) (hosts.Device number)
  pub reported : failure ≡ failures.File number

-- the file at this path was read to its end, and its text is refused as a directory
pub record IsRefusedAt {F : Type 0} (Gives : List ℕ → F → Type 0) (remaining : F → Option (List ℕ))
    (path : List ℕ) (failure : Failure) : Type 0 where
  pub file : F
  pub left : F
  pub text : List ℕ
  pub opened : Gives path file
  pub read : IsRead (remaining file) (remaining left) text
  pub error : DirError
  pub refused : IsRefusal (directory_of text) error
  pub reported : failure ≡ failures.Directory error

-- why no directory was read: its file could not be opened; or it was, and memory was refused, it
-- failed, or its text is refused
abbrev pub IsUnstated : {F : Type 0} → (List ℕ → F → Type 0) → (F → Option (List ℕ)) → (F → ℕ)
    → List ℕ → Unmaking
IsUnstated Gives remaining count path deeds_old deeds_new failure =
    (Adds deeds_old deeds_new (Misses path ∷ []) × (failure ≡ failures.File 1))
    ⊎ (Adds deeds_old deeds_new (Opens path ∷ []) × ((failure ≡ failures.Memory)
    ⊎ IsBrokenAt Gives count path failure ⊎ IsRefusedAt Gives remaining path failure))

-- a system is not booted with this directory and these volumes: the failure has the line and the
-- status of an error of that boot, which has its cause
pub record IsNotBooted (users : List DirectoryUser) (volumes : List VolumeFormat) (frames : ℕ)
    (failure : Failure) : Type 0 where
  pub error : BootError
  pub cause : IsUnbooted users volumes frames error
  pub line : fault_text failure ≡ refusal_text (map (λ user. utf8_lossy user.name) users) error
  pub status : status_of failure ≡ refusal_status error

-- there was a directory, but an image was not read
pub record IsWithoutImage {F : Type 0} (Gives : List ℕ → F → Type 0)
    (remaining : F → Option (List ℕ)) (count : F → ℕ) (directory : List ℕ) (paths : List (List ℕ))
    (deeds_old deeds_new : Option (List Deed)) (failure : Failure) : Type 0 where
  pub users : List DirectoryUser
  pub between : Option (List Deed)
  pub stated : IsDirectoryAt Gives remaining directory users
  pub opened : Adds deeds_old between (Opens directory ∷ [])
  pub unread : IsUnread Gives remaining count paths between deeds_new failure

-- all was read, but no system was booted with it
pub record IsWithoutSystem {F : Type 0} (Gives : List ℕ → F → Type 0)
    (remaining : F → Option (List ℕ)) (directory : List ℕ) (paths : List (List ℕ))
    (sizes : SystemSizes) (deeds_old deeds_new : Option (List Deed))
    (failure : Failure) : Type 0 where
  pub users : List DirectoryUser
  pub volumes : List VolumeFormat
  pub stated : IsDirectoryAt Gives remaining directory users
  pub images : AreImagesAt Gives remaining paths volumes
  pub deeds : Adds deeds_old deeds_new (inputs directory paths)
  pub unbooted : IsNotBooted users volumes sizes.frames failure

-- which of the three steps has failed, and why
abbrev pub IsNoSystem : {F : Type 0} → (List ℕ → F → Type 0) → (F → Option (List ℕ)) → (F → ℕ)
    → List ℕ → List (List ℕ) → SystemSizes → Unmaking
IsNoSystem Gives remaining count directory paths sizes deeds_old deeds_new failure =
    IsUnstated Gives remaining count directory deeds_old deeds_new failure
    ⊎ IsWithoutImage Gives remaining count directory paths deeds_old deeds_new failure
    ⊎ IsWithoutSystem Gives remaining directory paths sizes deeds_old deeds_new failure

-- ---- the whole

-- the paths of volumes that are saved, if that is asked for
abbrev pub saved_paths : Options → List (List ℕ)
saved_paths options = saved_of options.save (map (λ path. path.now) options.volumes.items)

-- a system was booted, the script was played on that, and the images were saved if that was asked
-- for
abbrev pub IsSystemRun : {F : Type 0} → (List ℕ → F → Type 0) → (F → Option (List ℕ))
    → Plays Options
IsSystemRun Gives remaining options = IsWholeRun system_goes system_volumes
    (IsSystemOf Gives remaining options.directory.now
    (map (λ path. path.now) options.volumes.items) options.sizes)
    Gives remaining options.script.now (saved_paths options)

-- no system was booted, for a cause, or the script was not played to its end, or an image not saved
abbrev pub IsFailedSystemRun : {F : Type 0} → (List ℕ → F → Type 0) → (F → Option (List ℕ))
    → (F → ℕ) → PlayFails Options
IsFailedSystemRun Gives remaining count options = IsFailedWholeRun system_goes system_volumes
    (IsSystemOf Gives remaining options.directory.now
    (map (λ path. path.now) options.volumes.items) options.sizes)
    (IsNoSystem Gives remaining count options.directory.now
    (map (λ path. path.now) options.volumes.items) options.sizes)
    Gives remaining count options.script.now (saved_paths options)

-- the paths of volumes that are saved after a following, if that is asked for
abbrev pub saved_follow_paths : SystemFollowOptions → List (List ℕ)
saved_follow_paths options = saved_of options.save (map (λ path. path.now) options.volumes.items)

-- a system was booted, the parts of a script were followed on that, and the images were saved if
-- that was asked for, by the options and by the input
abbrev pub IsSystemFollowing : {F : Type 0} → (List ℕ → F → Type 0) → (F → Option (List ℕ))
    → Follows SystemFollowOptions
IsSystemFollowing Gives remaining options = IsWholeFollowing system_goes system_volumes
    (IsSystemOf Gives remaining options.directory.now
    (map (λ path. path.now) options.volumes.items) options.sizes)
    (detail_of options.terminals) (saved_follow_paths options)

-- no system was booted, for a cause, or the parts were not followed, or an image not saved
abbrev pub IsFailedSystemFollowing : {F : Type 0} → (List ℕ → F → Type 0)
    → (F → Option (List ℕ)) → (F → ℕ) → FollowFails SystemFollowOptions
IsFailedSystemFollowing Gives remaining count options =
    IsFailedWholeFollowing system_goes system_volumes
    (IsSystemOf Gives remaining options.directory.now
    (map (λ path. path.now) options.volumes.items) options.sizes)
    (IsNoSystem Gives remaining count options.directory.now
    (map (λ path. path.now) options.volumes.items) options.sizes)
    (detail_of options.terminals) (saved_follow_paths options)

-- ---- the program

-- what words give for a run
abbrev pub run_rows : List (List ℕ) → List Row
run_rows words = rows_named (command_of (codes "vm370")) words

-- and for a following
abbrev pub follow_rows : List (List ℕ) → List Row
follow_rows words = rows_named (follow_command_of (codes "vm370")) words

-- these words name no options of a run
abbrev pub IsMisused : List (List ℕ) → Type 0
IsMisused words = (sizes : SystemSizes) → is_taken (command_of (codes "vm370")) words ≡ true →
    gives_paths (run_rows words) ≡ true →
    IsSized (run_rows words) sizes → ⊥

-- these words name no options of a following
abbrev pub IsMisusedToFollow : List (List ℕ) → Type 0
IsMisusedToFollow words = (sizes : SystemSizes) → is_taken (follow_command_of (codes "vm370")) words ≡ true →
    gives_directory (follow_rows words) ≡ true →
    IsSized (follow_rows words) sizes → ⊥

-- the parts of a script were followed by the options that these words name
abbrev pub IsProgramFollowing : {F I O : Type 0} → HostStreams F I O → List (List ℕ)
    → Option (List Deed) → Option (List Deed) → Type 0
IsProgramFollowing host words = IsFollowingNamed host
    (IsFollowNamed (follow_rows words))
    (IsSystemFollowing host.Gives host.remaining)

-- nothing was begun, or a following by the options that these words name has failed
abbrev pub IsFailedProgramFollowing : {F I O : Type 0} → HostStreams F I O → List (List ℕ)
    → Unmaking
IsFailedProgramFollowing host words = IsFailedToFollow host
    (IsFollowNamed (follow_rows words))
    (IsFailedSystemFollowing host.Gives host.remaining host.file_failures)
    (IsMisusedToFollow words)

-- what these words ask for was done
abbrev pub IsWholeProgram : {F I O : Type 0} → HostStreams F I O → List (List ℕ) → Bool
    → Option (List Deed) → Option (List Deed) → Type 0
IsWholeProgram host words is_watched deeds_old deeds_new = ByForm words
    (IsRunNamed host (IsNamed (run_rows words))
    (IsSystemRun host.Gives host.remaining) is_watched deeds_old deeds_new)
    (IsProgramFollowing host words deeds_old deeds_new)

-- what these words ask for has failed
abbrev pub IsFailedProgram : {F I O : Type 0} → HostStreams F I O → List (List ℕ) → Bool → Unmaking
IsFailedProgram host words is_watched deeds_old deeds_new failure = ByForm words
    (IsFailedToRun host (IsNamed (run_rows words))
    (IsFailedSystemRun host.Gives host.remaining host.file_failures) (IsMisused words)
    is_watched deeds_old deeds_new failure)
    (IsFailedProgramFollowing host words deeds_old deeds_new failure)
