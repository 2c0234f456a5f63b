-- A user's machine with its devices, of which the storage is in frames.
use Rattle.std.specs.Prelude.{◌≡◌, ℕ, ◌*◌, ◌≤◌, List, length, map}
use Rattle.s370_store.specs.Memory.{Memory, cleared_memory, memory_of}
use Rattle.s370_subchannels.specs.declared.subchannel.Subchannel.{Subchannel}
use Rattle.machine_panel.specs.Machine.{Parts, machine_of, unused}
use Rattle.machine_devices.specs.Devices.{AreAttached, DevicesValue}
use Rattle.machine_channels.specs.Disks.{DiskAt}
use Rattle.ckd_volume.specs.Volume.{VolumeFormat}
use Rattle.cp_volumes.specs.Shared.{SharedMinidisk, disks_on}
use Rattle.cp_resident.specs.Reuse.{ReuseValue}
use Rattle.machine_devices.specs.Equipped.{Equipped, equipped}
use Rattle.cp_spool.specs.Queues.{QueuesValue, no_files}
use Rattle.machine_devices.specs.Lent.{DevicesParts, devices_on, devices_with}

-- a machine with its devices but for the bytes of its storage and the cylinders of its minidisks,
-- and the programs of its devices that are kept
pub record UserParts : Type 0 where
  pub parts : Parts
  pub devices : DevicesValue
  pub minidisks : List SharedMinidisk
  pub keys : List ℕ
  pub reuse : ReuseValue

-- the same as it is kept: its files are among those of all users
pub record SeatParts : Type 0 where
  pub parts : Parts
  pub devices : DevicesParts
  pub minidisks : List SharedMinidisk
  pub keys : List ℕ
  pub reuse : ReuseValue

-- what it is with these devices, which have their files
abbrev pub seat_with : DevicesValue → SeatParts → UserParts
seat_with devices s = record {
  parts = s.parts;
  devices = devices;
  minidisks = s.minidisks;
  keys = s.keys;
  reuse = s.reuse;
}

-- without a file
abbrev pub unowned : SeatParts → UserParts
unowned s = seat_with (devices_with s.devices no_files) s

-- and where all users have these files
abbrev pub seat_on : QueuesValue → SeatParts → UserParts
seat_on queues s = seat_with (devices_on s.devices queues) s

-- all users with these files
abbrev pub seats_on : QueuesValue → List SeatParts → List UserParts
seats_on queues seats = map (seat_on queues) seats

-- the machine with its devices that it is with these volumes and this storage
abbrev pub user_with : UserParts → List VolumeFormat → List ℕ → Equipped
user_with u volumes bytes =
    equipped u.parts u.devices (disks_on volumes u.minidisks) (memory_of bytes u.keys)

-- a storage that such a machine can have: of 8K at least, with a key for each block
pub record Fits (u : UserParts) (bytes : List ℕ) : Type 0 where
  pub large : 8192 ≤ length bytes
  pub keyed : length bytes ≤ 2048 * length u.keys

-- the parts of a machine that was never switched on and has these devices and disks, whatever its
-- storage, which is zero
pub record IsUnused (parts : Parts) (devices : DevicesValue) (disks : List DiskAt) : Type 0 where
  pub subchannels : List Subchannel
  pub attached : AreAttached devices disks subchannels
  pub off : (m : Memory) → machine_of parts (cleared_memory m) ≡ unused m subchannels
