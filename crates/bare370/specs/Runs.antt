-- What the program does with its files.
use Rattle.std.specs.Prelude.{◌≡◌, ◌⊎◌, ◌++◌, ◌≤◌, ℕ, ◌*◌, Bool, true, false, codes, List, []}
use Rattle.std.specs.Prelude.{length, map, replicate, Option, Some}
use Rattle.clap.specs.Words.{Row, all_of}
use Rattle.s370_store.specs.Memory.{memory_of}
use Rattle.s370_subchannels.specs.declared.subchannel.Subchannel.{Subchannel}
use Rattle.ckd_volume.specs.Unit.{volume_of}
use Rattle.ckd_volume.specs.Volume.{VolumeFormat}
use Rattle.machine_panel.specs.Machine.{unused}
use Rattle.machine_devices.specs.Devices.{AreAttached, can_attach, devices_new, places_of}
use Rattle.machine_devices.specs.declared.attaching.AttachError.{AttachError}
use Rattle.machine_devices.specs.declared.attaching.AttachError.TheVariants as attaching
use Rattle.program_host.specs.Words.{is_taken, rows_named, texts_of}
use Rattle.programs.specs.Arguments.{ByForm}
use Rattle.program_host.specs.Deeds.{Adds, Deed, opens}
use Rattle.programs.specs.Opened.{AreImagesAt, Unmaking}
use Rattle.programs.specs.Runs.{saved_of}
use Rattle.programs.specs.Unread.{IsUnread}
use Rattle.programs.specs.Whole.{FollowFails, Follows, HostStreams, IsFailedToFollow, IsFailedToRun}
use Rattle.programs.specs.Whole.{IsFailedWholeFollowing, IsFailedWholeRun, IsFollowingNamed}
use Rattle.programs.specs.Whole.{IsRunNamed, IsWholeFollowing, IsWholeRun, PlayFails, Plays}
use Rattle.programs.specs.Whole.{detail_of}
use Rattle.programs.specs.declared.faults.Failure.{Failure}
use Rattle.programs.specs.declared.faults.Failure.TheVariants as failures
use Rattle.bare370.specs.FollowOptions.{IsNamed as IsFollowNamed, command_of as follow_command_of}
use Rattle.bare370.specs.Goes.{Alone, addresses_of, disks_from, machine_goes, usual_places}
use Rattle.bare370.specs.Options.{IsNamed, command_of, gives_script, storage_named}
use Rattle.bare370.specs.declared.arguments.BareOptions.{BareOptions}
use Rattle.bare370.specs.declared.follow_arguments.MachineFollowOptions.{MachineFollowOptions}

-- the volumes of its disks
abbrev pub machine_volumes : Alone → List VolumeFormat
machine_volumes a = map (λ disk. volume_of disk.unit) a.machine.equipped.disks

-- it is unused, with so many blocks of storage that are zero, the usual devices, and a disk over
-- each of these volumes; no file has a number, and scripts know the address of each subchannel
pub record IsMade (blocks : ℕ) (volumes : List VolumeFormat) (a : Alone) : Type 0 where
  pub subchannels : List Subchannel
  pub attached : AreAttached (devices_new usual_places) (disks_from 400 volumes) subchannels
  pub machine : a.machine.equipped.machine
      ≡ unused (memory_of (replicate (2048 * blocks) 0) (replicate blocks 0)) subchannels
  pub devices : a.machine.equipped.devices ≡ devices_new usual_places
  pub disks : a.machine.equipped.disks ≡ disks_from 400 volumes
  pub files : a.machine.files ≡ []
  pub addresses : a.addresses ≡ addresses_of a.machine.equipped.machine.core.subchannels

-- the same, of the images at these paths
pub record IsMachineOf {F : Type 0} (Gives : List ℕ → F → Type 0) (remaining : F → Option (List ℕ))
    (paths : List (List ℕ)) (blocks : ℕ) (deeds_old deeds_new : Option (List Deed))
    (a : Alone) : Type 0 where
  pub volumes : List VolumeFormat
  pub images : AreImagesAt Gives remaining paths volumes
  pub made : IsMade blocks volumes a
  pub deeds : Adds deeds_old deeds_new (opens paths)

-- the addresses of the disks over these volumes are not apart from all others
abbrev pub AreUnattached : List VolumeFormat → Type 0
AreUnattached volumes =
    can_attach (places_of usual_places ++ map (λ disk. disk.address) (disks_from 400 volumes))
    ≡ false

-- why no machine is made of these volumes: memory was refused, or there are too many
abbrev pub IsUnmade : List VolumeFormat → Failure → Type 0
IsUnmade volumes failure =
    (failure ≡ failures.Memory) ⊎ ((failure ≡ failures.Usage) × AreUnattached volumes)

-- each image was read, and no machine was made of their volumes
pub record IsWithoutMachine {F : Type 0} (Gives : List ℕ → F → Type 0)
    (remaining : F → Option (List ℕ)) (paths : List (List ℕ))
    (deeds_old deeds_new : Option (List Deed)) (failure : Failure) : Type 0 where
  pub volumes : List VolumeFormat
  pub images : AreImagesAt Gives remaining paths volumes
  pub deeds : Adds deeds_old deeds_new (opens paths)
  pub unmade : IsUnmade volumes failure

-- which of the two steps has failed, and why
abbrev pub IsNoMachine : {F : Type 0} → (List ℕ → F → Type 0) → (F → Option (List ℕ)) → (F → ℕ)
    → List (List ℕ) → Unmaking
IsNoMachine Gives remaining count paths deeds_old deeds_new failure =
    IsUnread Gives remaining count paths deeds_old deeds_new failure
    ⊎ IsWithoutMachine Gives remaining paths deeds_old deeds_new failure

-- the failure of a program for an error of attaching disks
abbrev pub attach_failure : AttachError → Failure
attach_failure attaching.Memory = failures.Memory
attach_failure attaching.Address = failures.Usage

-- how many blocks of 2048 bytes so many pages have
abbrev pub blocks_of : ℕ → ℕ
blocks_of pages = 2 * pages

-- ---- the whole

-- the paths of volumes that are saved, if that is asked for
abbrev pub saved_paths : BareOptions → List (List ℕ)
saved_paths options = saved_of options.save (map (λ path. path.now) options.volumes.items)

-- a machine was made, the script was played on that, and the images were saved if that was asked
-- for
abbrev pub IsMachineRun : {F : Type 0} → (List ℕ → F → Type 0) → (F → Option (List ℕ))
    → Plays BareOptions
IsMachineRun Gives remaining options = IsWholeRun machine_goes machine_volumes
    (IsMachineOf Gives remaining (map (λ path. path.now) options.volumes.items)
    (blocks_of options.storage))
    Gives remaining options.script.now (saved_paths options)

-- no machine was made, for a cause, or the script was not played to its end, or an image not saved
abbrev pub IsFailedMachineRun : {F : Type 0} → (List ℕ → F → Type 0) → (F → Option (List ℕ))
    → (F → ℕ) → PlayFails BareOptions
IsFailedMachineRun Gives remaining count options = IsFailedWholeRun machine_goes machine_volumes
    (IsMachineOf Gives remaining (map (λ path. path.now) options.volumes.items)
    (blocks_of options.storage))
    (IsNoMachine Gives remaining count (map (λ path. path.now) options.volumes.items))
    Gives remaining count options.script.now (saved_paths options)

-- the paths of volumes that are saved after a following, if that is asked for
abbrev pub saved_follow_paths : MachineFollowOptions → List (List ℕ)
saved_follow_paths options = saved_of options.save (map (λ path. path.now) options.volumes.items)

-- a machine was made, the parts of a script were followed on that, and the images were saved if
-- that was asked for, by the options and by the input
abbrev pub IsMachineFollowing : {F : Type 0} → (List ℕ → F → Type 0) → (F → Option (List ℕ))
    → Follows MachineFollowOptions
IsMachineFollowing Gives remaining options = IsWholeFollowing machine_goes machine_volumes
    (IsMachineOf Gives remaining (map (λ path. path.now) options.volumes.items)
    (blocks_of options.storage))
    (detail_of options.terminals) (saved_follow_paths options)

-- no machine was made, for a cause, or the parts were not followed, or an image not saved
abbrev pub IsFailedMachineFollowing : {F : Type 0} → (List ℕ → F → Type 0)
    → (F → Option (List ℕ)) → (F → ℕ) → FollowFails MachineFollowOptions
IsFailedMachineFollowing Gives remaining count options =
    IsFailedWholeFollowing machine_goes machine_volumes
    (IsMachineOf Gives remaining (map (λ path. path.now) options.volumes.items)
    (blocks_of options.storage))
    (IsNoMachine Gives remaining count (map (λ path. path.now) options.volumes.items))
    (detail_of options.terminals) (saved_follow_paths options)

-- ---- the program

-- what words give for a run
abbrev pub run_rows : List (List ℕ) → List Row
run_rows words = rows_named (command_of (codes "bare370")) words

-- and for a following
abbrev pub follow_rows : List (List ℕ) → List Row
follow_rows words = rows_named (follow_command_of (codes "bare370")) words

-- these words name no options of a run
abbrev pub IsMisused : List (List ℕ) → Type 0
IsMisused words = (pages : ℕ) → is_taken (command_of (codes "bare370")) words ≡ true →
    gives_script (run_rows words) ≡ true → storage_named (run_rows words) ≡ Some pages →
    length (texts_of (all_of (codes "VOLUME") (run_rows words))) ≤ 16 → ⊥

-- these words name no options of a following
abbrev pub IsMisusedToFollow : List (List ℕ) → Type 0
IsMisusedToFollow words = (pages : ℕ)
    → is_taken (follow_command_of (codes "bare370")) words ≡ true →
    storage_named (follow_rows words) ≡ Some pages →
    length (texts_of (all_of (codes "VOLUME") (follow_rows words))) ≤ 16 → ⊥

-- the parts of a script were followed by the options that these words name
abbrev pub IsProgramFollowing : {F I O : Type 0} → HostStreams F I O → List (List ℕ)
    → Option (List Deed) → Option (List Deed) → Type 0
IsProgramFollowing host words = IsFollowingNamed host (IsFollowNamed (follow_rows words))
    (IsMachineFollowing host.Gives host.remaining)

-- nothing was begun, or a following by the options that these words name has failed
abbrev pub IsFailedProgramFollowing : {F I O : Type 0} → HostStreams F I O → List (List ℕ)
    → Unmaking
IsFailedProgramFollowing host words = IsFailedToFollow host (IsFollowNamed (follow_rows words))
    (IsFailedMachineFollowing host.Gives host.remaining host.file_failures)
    (IsMisusedToFollow words)

-- what these words ask for was done
abbrev pub IsWholeProgram : {F I O : Type 0} → HostStreams F I O → List (List ℕ) → Bool
    → Option (List Deed) → Option (List Deed) → Type 0
IsWholeProgram host words is_watched deeds_old deeds_new = ByForm words
    (IsRunNamed host (IsNamed (run_rows words)) (IsMachineRun host.Gives host.remaining)
    is_watched deeds_old deeds_new)
    (IsProgramFollowing host words deeds_old deeds_new)

-- what these words ask for has failed
abbrev pub IsFailedProgram : {F I O : Type 0} → HostStreams F I O → List (List ℕ) → Bool → Unmaking
IsFailedProgram host words is_watched deeds_old deeds_new failure = ByForm words
    (IsFailedToRun host (IsNamed (run_rows words))
    (IsFailedMachineRun host.Gives host.remaining host.file_failures) (IsMisused words)
    is_watched deeds_old deeds_new failure)
    (IsFailedProgramFollowing host words deeds_old deeds_new failure)
