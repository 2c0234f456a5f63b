-- What is always so of the system's parts.
use Rattle.std.specs.Prelude.{◌≡◌, ℕ, ◌*◌, ◌<◌, ◌≤◌, List, [], ◌∷◌, length, replicate, slice_get}
use Rattle.std.specs.Prelude.{slice_index_or, Some}
use Rattle.ckd_volume.specs.Volume.{VolumeFormat}
use Rattle.cp_directory.specs.Users.{DirectoryUser}
use Rattle.cp_frames.specs.Layout.{Pool}
use Rattle.cp_dat.specs.Supplied.{IsBetweenUnits}
use Rattle.machine_panel.specs.Machine.{nothing_pending, reset_cpu}
use Rattle.machine_panel.specs.declared.machine.Mode.TheVariants.{Off}
use Rattle.machine_devices.specs.Devices.{devices_new, no_places}
use Rattle.cp_resident.specs.Reuse.{kept_none}
use Rattle.cp_core.specs.UserMachines.{UserParts, Fits, user_with}
use Rattle.cp_volumes.specs.Shared.{AllLeaveBe, AreThere, IsUsers, Placement, placements_of}
use Rattle.cp_placement.specs.Seating.{seats_of}
use Rattle.cp_core.specs.Boot.{IsNewUser}

-- the machine of nobody, but for its storage
abbrev pub no_user : UserParts
no_user = record {
  parts = record {
    cpu = reset_cpu (replicate 16 0);
    pending = nothing_pending;
    subchannels = [];
    mode = Off;
    output = [];
    room = 0;
  };
  devices = devices_new no_places;
  minidisks = [];
  keys = [];
  reuse = kept_none 0;
}

-- each user of the directory, at most 64 of them, has a machine and a storage that fits it
pub record IsWhole (users : List UserParts) (storages : List (List ℕ))
    (directory : List DirectoryUser) : Type 0 where
  pub seated : length users ≡ length directory
  pub stored : length storages ≡ length directory
  pub few : length directory ≤ 64
  pub fits : (k : ℕ) → k < length directory
      → Fits (slice_index_or users k no_user) (slice_index_or storages k [])

-- each user's minidisks are on their volumes, and on none of them does another user write
pub record AreSeated (users : List UserParts) (volumes : List VolumeFormat) : Type 0 where
  pub seated : (k : ℕ) → IsUsers volumes (placements_of (slice_index_or users k no_user).minidisks)
  pub apart : (j k i : ℕ) (t : Placement) → (j ≡ k → ⊥)
      → slice_get (placements_of (slice_index_or users k no_user).minidisks) i ≡ Some t
      → AllLeaveBe (placements_of (slice_index_or users j no_user).minidisks) t

-- what is so of a system between events
pub record IsSystem (users : List UserParts) (volumes : List VolumeFormat) (pool : Pool)
    (directory : List DirectoryUser) : Type 0 where
  pub whole : IsWhole users pool.storages directory
  pub disks : AreSeated users volumes
  pub there : AreThere volumes
  pub between : IsBetweenUnits pool.supply

-- a user's machine at boot; a storage has 8K at least
pub record IsNew (volumes : List VolumeFormat) (seat : UserParts)
    (user : DirectoryUser) : Type 0 where
  pub off : IsNewUser volumes user (user_with seat volumes (replicate (user.pages * 4096) 0))
  pub seated : seat.minidisks ≡ seats_of volumes user.minidisks
  pub forgot : seat.reuse ≡ kept_none (length (placements_of seat.minidisks))
  pub sized : 2 ≤ user.pages

-- each user has a machine at boot
abbrev pub AreNew : List VolumeFormat → List UserParts → List DirectoryUser → Type 0
AreNew volumes [] [] = Unit {0}
AreNew volumes [] (user ∷ directory) = ⊥
AreNew volumes (seat ∷ seats) [] = ⊥
AreNew volumes (seat ∷ seats) (user ∷ directory) = IsNew volumes seat user
    × AreNew volumes seats directory
