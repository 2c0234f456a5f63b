-- What is lent to an operation, what has to be so of it, and what stays.
use Rattle.s370_store.specs.Memory.{Memory}
use Rattle.std.specs.Prelude.{◌≡◌, ℕ, ◌*◌, ◌<◌, ◌≤◌, List, length, slice_set}
use Rattle.ckd_volume.specs.Volume.{VolumeFormat}
use Rattle.cp_frames.specs.Layout.{FrameSupply, Pool, bytes_of}
use Rattle.cp_dat.specs.Supplied.{IsBetweenUnits}
use Rattle.machine_devices.specs.Equipped.{Equipped, equipped}
use Rattle.machine_devices.specs.Lent.{DevicesParts, KeepsOtherUsers, devices_on}
use Rattle.machine_panel.specs.Machine.{Parts}
use Rattle.cp_volumes.specs.Shared.{DisksValue, IsUsers, KeepsOtherDisks, SharedMinidisk, disks_on}
use Rattle.cp_volumes.specs.Shared.{placements_of}
use Rattle.cp_resident.specs.Reuse.{ReuseValue}
use Rattle.cp_core.specs.UserMachines.{SeatParts, seat_on, user_with}
use Rattle.cp_core.specs.declared.work.Lent.{Lent}
use Rattle.cp_core.specs.declared.work.Shared.{Shared}
use Rattle.cp_spool.specs.Queues.{QueuesValue}

-- the machine with its devices, where its storage has these bytes and keys
abbrev pub machine_of : Lent → Memory → Equipped
machine_of l m = equipped l.machine.now (devices_on l.devices.now l.queues.now)
    (disks_on l.volumes.now l.minidisks.now.items) m

-- its minidisks, on the volumes that users share
abbrev pub disks_of : Lent → DisksValue
disks_of l = record { volumes = l.volumes.now; minidisks = l.minidisks.now.items }

-- the programs that are kept of its devices
abbrev pub kept_in : Lent → ReuseValue
kept_in l = l.reuse.now

-- a storage of 8K at least, no frame pinned, and devices and minidisks that are a user's
pub record MayBeLent (l : Lent) (bytes : List ℕ) (supply : FrameSupply) : Type 0 where
  pub large : 8192 ≤ length bytes
  pub between : IsBetweenUnits supply
  pub users : IsUsers l.volumes.now (placements_of l.minidisks.now.items)
  pub owner : l.devices.now.user < length l.queues.now.users

-- the same is borrowed still, and what other users have is as it was
pub record KeepsLent (old new : Lent) : Type 0 where
  pub same_machine : new.machine.ghost_name ≡ old.machine.ghost_name
  pub same_devices : new.devices.ghost_name ≡ old.devices.ghost_name
  pub same_queues : new.queues.ghost_name ≡ old.queues.ghost_name
  pub same_volumes : new.volumes.ghost_name ≡ old.volumes.ghost_name
  pub same_minidisks : new.minidisks.ghost_name ≡ old.minidisks.ghost_name
  pub same_reuse : new.reuse.ghost_name ≡ old.reuse.ghost_name
  pub other_users : KeepsOtherUsers old.devices.now old.queues.now new.devices.now new.queues.now
  pub other_disks : KeepsOtherDisks (disks_of old) (disks_of new)

-- a user's machine of these parts
abbrev pub seat_of : Parts → DevicesParts → List SharedMinidisk → List ℕ → ReuseValue → SeatParts
seat_of parts devices minidisks keys reuse = record {
  parts = parts;
  devices = devices;
  minidisks = minidisks;
  keys = keys;
  reuse = reuse;
}

-- the machine with its devices that it is where users share this
abbrev pub machine_on : Shared → ℕ → SeatParts → Equipped
machine_on s user seat =
    user_with (seat_on s.queues.now seat) s.volumes.now (bytes_of s.frames.now user)

-- it may be lent to an operation
pub record MayLend (s : Shared) (seat : SeatParts) : Type 0 where
  pub large : 8192 ≤ length (bytes_of s.frames.now s.user)
  pub keyed : length (bytes_of s.frames.now s.user) ≤ 2048 * length seat.keys
  pub between : IsBetweenUnits s.frames.now.supply
  pub users : IsUsers s.volumes.now (placements_of seat.minidisks)
  pub owner : seat.devices.user < length s.queues.now.users

-- what an operation leaves of a user's machine, and of what all users share
pub record IsLeft (q q' : QueuesValue) (volumes volumes' : List VolumeFormat) (pool pool' : Pool)
    (user : ℕ) (seat seat' : SeatParts) : Type 0 where
  pub others : pool'.storages ≡ slice_set pool.storages user (bytes_of pool' user)
  pub size : length (bytes_of pool' user) ≡ length (bytes_of pool user)
  pub keys : length seat'.keys ≡ length seat.keys
  pub between : IsBetweenUnits pool'.supply
  pub other_users : KeepsOtherUsers seat.devices q seat'.devices q'
  pub other_disks : KeepsOtherDisks (record { volumes = volumes; minidisks = seat.minidisks })
      (record { volumes = volumes'; minidisks = seat'.minidisks })

-- the same is borrowed still
pub record SharedLeft (old new : Shared) (seat seat' : SeatParts) : Type 0 where
  pub same_queues : new.queues.ghost_name ≡ old.queues.ghost_name
  pub same_volumes : new.volumes.ghost_name ≡ old.volumes.ghost_name
  pub same_frames : new.frames.ghost_name ≡ old.frames.ghost_name
  pub left : IsLeft old.queues.now new.queues.now old.volumes.now new.volumes.now old.frames.now
      new.frames.now old.user seat seat'
