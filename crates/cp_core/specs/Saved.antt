-- The bytes of a system in a saved state, and what a system that is restored has of the one in
-- whose place it is.
use Rattle.std.specs.Prelude.{◌≡◌, ℕ, List, Bool, ◌++◌, Some, length, map, slice_get}
use Rattle.saved_bytes.specs.Codes.{each, flag, number}
use Rattle.ckd_saved.specs.Saved.{volume_bytes}
use Rattle.ckd_volume.specs.Volume.{VolumeFormat}
use Rattle.cp_directory.specs.Users.{DirectoryUser}
use Rattle.cp_frames.specs.Layout.{Pool, bytes_of}
use Rattle.cp_frames.specs.Saved.{pool_bytes, storage_bytes, supply_bytes}
use Rattle.cp_resident.specs.Reuse.{ReuseValue, kept_none}
use Rattle.cp_spool.specs.Queues.{QueuesValue, UserFiles, files_of}
use Rattle.cp_spool.specs.Saved.{files_bytes}
use Rattle.cp_volumes.specs.Saved.{disk_bytes}
use Rattle.cp_volumes.specs.Shared.{SharedMinidisk, Placement, placements_of, volume_at}
use Rattle.machine_panel.specs.Machine.{Parts}
use Rattle.machine_panel.specs.Saved.{SavedParts, saved_of, saved_parts_bytes}
use Rattle.machine_devices.specs.Lent.{DevicesParts, devices_with}
use Rattle.machine_devices.specs.Saved.{devices_bytes, note_bytes}
use Rattle.machine_devices.specs.declared.files.FileNote.{FileNote}
use Rattle.cp_core.specs.System.{SystemView, placements_among, users_of}
use Rattle.cp_core.specs.UserMachines.{SeatParts, UserParts}

-- ---- a user

-- what is saved of a user: the machine but for its storage, the devices, the spool files, the
-- minidisks but for their cylinders, and the storage keys. Programs that are kept of his devices
-- are not saved.
pub record SavedUser : Type 0 where
  pub machine : SavedParts
  pub devices : DevicesParts
  pub files : UserFiles
  pub minidisks : List SharedMinidisk
  pub keys : List ℕ

-- what a saved state has of a user
abbrev pub saved_user : QueuesValue → SeatParts → SavedUser
saved_user queues s = record {
  machine = saved_of s.parts;
  devices = s.devices;
  files = files_of queues.users s.devices.user;
  minidisks = s.minidisks;
  keys = s.keys;
}

-- the bytes of a user's machine, devices and files
abbrev pub devices_part_bytes : SavedUser → List ℕ
devices_part_bytes u = saved_parts_bytes u.machine
    ++ (devices_bytes u.devices ++ files_bytes u.files)

-- the bytes of a user's minidisks, keys and deliveries
abbrev pub lists_bytes : SavedUser → List ℕ
lists_bytes u = each disk_bytes u.minidisks ++ each number u.keys

-- the bytes of a user
abbrev pub user_bytes : SavedUser → List ℕ
user_bytes u = devices_part_bytes u ++ lists_bytes u

-- the same, of a seat whose files are among these
abbrev pub seat_bytes : QueuesValue → SeatParts → List ℕ
seat_bytes queues s = user_bytes (saved_user queues s)

-- the parts of a machine, with no room on its console
abbrev pub parts_of : SavedParts → Parts
parts_of p = record {
  cpu = p.cpu;
  pending = p.pending;
  subchannels = p.subchannels;
  mode = p.mode;
  output = p.output;
  room = 0;
}

-- the user's machine that it is, with no program kept
abbrev pub user_of : SavedUser → UserParts
user_of u = record {
  parts = parts_of u.machine;
  devices = devices_with u.devices u.files;
  minidisks = u.minidisks;
  keys = u.keys;
  reuse = kept_none 0;
}

-- ---- a system

-- what is saved of a system: the volumes, the users, the frames with what is in them, the notes of
-- files, and whether lack of memory has ended it
pub record SavedSystem : Type 0 where
  pub volumes : List VolumeFormat
  pub users : List SavedUser
  pub pool : Pool
  pub files : List FileNote
  pub is_spent : Bool

-- the bytes of a system
abbrev pub system_bytes : SavedSystem → List ℕ
system_bytes s = (each volume_bytes s.volumes ++ each user_bytes s.users)
    ++ (pool_bytes s.pool ++ (each note_bytes s.files ++ flag s.is_spent))

-- the system that it is, with this directory and these programs kept
abbrev pub view_of : SavedSystem → List DirectoryUser → List ReuseValue → SystemView
view_of s directory kept = record {
  users = users_of (map user_of s.users) s.volumes s.pool.storages;
  directory = directory;
  supply = s.pool.supply;
  files = s.files;
  volumes = s.volumes;
  placements = placements_among (map user_of s.users);
  kept = kept;
  is_spent = s.is_spent;
}

-- the bytes are those of what is saved of this system
pub record IsSaved (view : SystemView) (bytes : List ℕ) : Type 0 where
  pub parts : SavedSystem
  pub seen : view ≡ view_of parts view.directory view.kept
  pub code : bytes ≡ system_bytes parts

-- the bytes of one user, after which come those of the frames and of his storage
abbrev pub user_part_bytes : Pool → ℕ → SavedUser → List ℕ
user_part_bytes pool user saved = user_bytes saved
    ++ (supply_bytes pool.supply ++ storage_bytes (bytes_of pool user))

-- the bytes are those of what is saved of one user of this system, of its frames and of his storage
pub record IsUserSaved (view : SystemView) (user : ℕ) (bytes : List ℕ) : Type 0 where
  pub parts : SavedSystem
  pub seen : view ≡ view_of parts view.directory view.kept
  pub saved : SavedUser
  pub is : slice_get parts.users user ≡ Some saved
  pub code : bytes ≡ user_part_bytes parts.pool user saved

-- ---- what bytes say

-- as many volumes, each with the serial number and as many cylinders as the other of its index
pub record AreAlike (old new : List VolumeFormat) : Type 0 where
  pub count : length new ≡ length old
  pub sizes : (index : ℕ) → length (volume_at new index).cylinders
      ≡ length (volume_at old index).cylinders
  pub volsers : (index : ℕ) → (volume_at new index).volser ≡ (volume_at old index).volser

-- the same users have their minidisks at the same places of volumes that are alike
pub record HasSameBase (one other : SystemView) : Type 0 where
  pub directory : other.directory ≡ one.directory
  pub placements : other.placements ≡ one.placements
  pub users : length other.users ≡ length one.users
  pub volumes : AreAlike one.volumes other.volumes

-- all is the same but which programs are kept
abbrev pub AgreeButKept : SystemView → SystemView → Type 0
AgreeButKept one other = other ≡ record one { kept = other.kept }

-- bytes are those of one system of a directory, but for which programs it keeps
abbrev pub IsOneBySaved : Type 0
IsOneBySaved = (one other : SystemView) (bytes : List ℕ) → other.directory ≡ one.directory
    → IsSaved one bytes → IsSaved other bytes → AgreeButKept one other

-- ---- parts while they are restored

-- where its minidisks are, whose it is, and how many storage keys it has, which nothing that is
-- restored changes
pub record SeatBase : Type 0 where
  pub placements : List Placement
  pub user : ℕ
  pub keys : ℕ

-- what no event changes of a user
abbrev pub base_of : SeatParts → SeatBase
base_of s = record {
  placements = placements_of s.minidisks;
  user = s.devices.user;
  keys = length s.keys;
}
