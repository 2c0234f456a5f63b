-- The system at boot.
use Rattle.std.specs.Prelude.{◌≡◌, ℕ, ◌*◌, false, List, [], ◌∷◌, length, map, replicate, reverse}
use Rattle.std.specs.Prelude.{None}
use Rattle.std.specs.List.{range_with_len}
use Rattle.s370_store.specs.Memory.{memory_of}
use Rattle.s370_subchannels.specs.declared.subchannel.Subchannel.{Subchannel}
use Rattle.cp_directory.specs.Users.{DirectoryUser}
use Rattle.cp_directory.specs.declared.devices.UserDevices.{UserDevices}
use Rattle.cp_frames.specs.Layout.{FrameSupply}
use Rattle.machine_panel.specs.Machine.{unused}
use Rattle.machine_devices.specs.declared.places.Places.{Places}
use Rattle.machine_devices.specs.Devices.{AreAttached, devices_new}
use Rattle.machine_devices.specs.Equipped.{Equipped}
use Rattle.machine_devices.specs.declared.attaching.AttachError.{AttachError}
use Rattle.machine_devices.specs.declared.attaching.AttachError.TheVariants as attaching
use Rattle.cp_core.specs.declared.events.BootError.{BootError}
use Rattle.cp_core.specs.declared.events.BootError.TheVariants as errors
use Rattle.ckd_volume.specs.Volume.{VolumeFormat}
use Rattle.cp_volumes.specs.Shared.{Placement, placements_of}
use Rattle.cp_resident.specs.Reuse.{kept_none}
use Rattle.cp_core.specs.System.{SystemView, placements_at}
use Rattle.cp_placement.specs.Seating.{AreDisks, minidisks_at, seats_of}

-- ---- a user

-- the addresses that the directory gives a user's devices
abbrev pub places_in : UserDevices → Places
places_in d = record {
  console = d.console;
  reader = d.reader;
  punch = d.punch;
  printer = d.printer;
}

-- off, with storage and keys all zero, devices that have done nothing, disks as they are on the
-- volumes, and a subchannel for each of them
pub record IsNewUser (volumes : List VolumeFormat) (user : DirectoryUser)
    (e : Equipped) : Type 0 where
  pub subchannels : List Subchannel
  pub disks : AreDisks volumes user.minidisks e.disks
  pub attached : AreAttached (devices_new (places_in user.devices)) e.disks subchannels
  pub new : e ≡ record {
    machine = unused (memory_of (replicate (user.pages * 4096) 0) (replicate (user.pages * 2) 0))
        subchannels;
    devices = devices_new (places_in user.devices);
    disks = e.disks;
  }

-- each machine is the new machine of its user
abbrev pub AreNewUsers : List VolumeFormat → List DirectoryUser → List Equipped → Type 0
AreNewUsers volumes [] [] = Unit {0}
AreNewUsers volumes [] (e ∷ es) = ⊥
AreNewUsers volumes (user ∷ users) [] = ⊥
AreNewUsers volumes (user ∷ users) (e ∷ es) = IsNewUser volumes user e
    × AreNewUsers volumes users es

-- ---- the whole

-- so many frames and slots in which no page is, and none is pinned
abbrev pub free_supply : ℕ → ℕ → FrameSupply
free_supply frames slots = record {
  owners = replicate frames None;
  slots = replicate slots None;
  pins = replicate frames false;
  order = reverse (range_with_len 0 frames);
  page_ins = 0;
}

-- each user's minidisks are where the directory says, no file has a number, and no program is kept
pub record IsBooted (directory : List DirectoryUser) (volumes : List VolumeFormat)
    (frames slots : ℕ) (s : SystemView) : Type 0 where
  pub users : AreNewUsers volumes directory s.users
  pub placements : (k : ℕ)
      → placements_at s k ≡ placements_of (seats_of volumes (minidisks_at directory k))
  pub rest : s ≡ record {
    users = s.users;
    directory = directory;
    supply = free_supply frames slots;
    files = [];
    volumes = volumes;
    placements = s.placements;
    kept = map (λ (placements : List Placement). kept_none (length placements)) s.placements;
    is_spent = false;
  }

-- ---- devices that are not attached

-- the error of a boot whose devices were not attached
abbrev pub boot_error : AttachError → BootError
boot_error attaching.Memory = errors.Memory
boot_error attaching.Address = errors.DuplicateDevice
