-- States of a longer directory: those of a system, with the users that a boot has more.
use Rattle.std.specs.Prelude.{◌≡◌, ℕ, List, ◌++◌, length, map, drop}
use Rattle.cp_dispatch.specs.Policy.{Lines}
use Rattle.cp_dispatch.specs.Saved.{lines_bytes}
use Rattle.cp_frames.specs.Layout.{FrameSupply}
use Rattle.machine_devices.specs.Equipped.{Equipped}
use Rattle.machine_devices.specs.Devices.{DevicesValue}
use Rattle.machine_panel.specs.Machine.{Machine}
use Rattle.cp_core.specs.Saved.{IsSaved, SavedSystem, system_bytes}
use Rattle.cp_core.specs.System.{SystemView}

-- what is saved of a system, with the users and the storages that a boot has after those of so many
-- users, and with these frames
abbrev pub longer : ℕ → SavedSystem → SavedSystem → FrameSupply → SavedSystem
longer count old booted supply = record {
  volumes = old.volumes;
  users = old.users ++ drop count booted.users;
  pool = record {
    storages = old.pool.storages ++ drop count booted.pool.storages;
    supply = supply;
  };
  files = old.files;
  is_spent = old.is_spent;
}

-- each user has a storage
abbrev pub HasStorages : SavedSystem → Type 0
HasStorages saved = length saved.users ≡ length saved.pool.storages

-- a user's machine with its storage
abbrev pub machine_in : Equipped → Machine
machine_in e = e.machine

-- and his console, reader, punch and printer with their files
abbrev pub devices_in : Equipped → DevicesValue
devices_in e = e.devices

-- everybody is as in one system, with all that he has; after them are users with the machines and
-- devices that a boot has there; and volumes, files and the frames' end are those of that one
-- system
pub record HasFurtherUsers (one booted made : SystemView) : Type 0 where
  pub further : List Equipped
  pub users : made.users ≡ one.users ++ further
  pub machines : map machine_in further
      ≡ map machine_in (drop (length one.users) booted.users)
  pub devices : map devices_in further
      ≡ map devices_in (drop (length one.users) booted.users)
  pub volumes : made.volumes ≡ one.volumes
  pub files : made.files ≡ one.files
  pub spent : made.is_spent ≡ one.is_spent

-- whatever the frames are: a system that is saved as a state with the further users of a boot has
-- further users, and the others are exactly as they were
abbrev pub LongerStatesKeepUsers : Type 0
LongerStatesKeepUsers = (one booted made : SystemView) (supply : FrameSupply)
    (before after : List ℕ) (is : IsSaved one before) (boot : IsSaved booted after)
    → HasStorages is.parts → HasStorages boot.parts
    → IsSaved made (system_bytes (longer (length one.users) is.parts boot.parts supply))
    → HasFurtherUsers one booted made

-- queues that are saved as others, but for how many users there may be, are those others
abbrev pub LongerStatesKeepTurns : Type 0
LongerStatesKeepTurns = (one made : Lines) (count : ℕ)
    → lines_bytes made ≡ lines_bytes (record one { most_users = count })
    → made ≡ record one { most_users = count }
