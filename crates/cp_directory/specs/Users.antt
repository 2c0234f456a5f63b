-- The users of a directory.
use Rattle.std.specs.Prelude.{◌≡◌, ℕ, ◌==◌, ◌-◌, Bool, false, List, [], ◌∷◌, ◌++◌, length, map}
use Rattle.std.specs.Prelude.{slice_index_or, slice_set, nat_le, Option, None}
use Rattle.std.specs.List.{AllPairs, find, flat_map, list_any}
use Rattle.std.specs.Option.{option_map}
use Rattle.cp_directory.specs.Devices.{places_of, with_place}
use Rattle.cp_directory.specs.Extents.{Extent, conflicts}
use Rattle.cp_directory.specs.declared.devices.DeviceKind.{DeviceKind}
use Rattle.cp_directory.specs.declared.devices.UserDevices.{UserDevices}
use Rattle.cp_directory.specs.declared.minidisk.MinidiskStatement.{MinidiskStatement}

-- a user: the name, the pages of 4096 bytes that its storage has, its devices that are no disks,
-- and its minidisks in the order of their lines
pub record DirectoryUser : Type 0 where
  pub name : List ℕ
  pub pages : ℕ
  pub devices : UserDevices
  pub minidisks : List MinidiskStatement

-- no device
abbrev pub no_devices : UserDevices
no_devices = record { console = None; reader = None; punch = None; printer = None }

-- a user as its own statement makes it
abbrev pub new_user : List ℕ → ℕ → DirectoryUser
new_user name pages = record { name = name; pages = pages; devices = no_devices; minidisks = [] }

-- the addresses of all devices of a user
abbrev pub addresses_of : DirectoryUser → List ℕ
addresses_of user = places_of user.devices ++ map (λ disk. disk.address) user.minidisks

-- whether a device of the user has this address
abbrev pub has_device : ℕ → DirectoryUser → Bool
has_device address user = list_any (λ other. other == address) (addresses_of user)

-- a user has at most 32 devices
abbrev pub is_full : DirectoryUser → Bool
is_full user = nat_le 32 (length (addresses_of user))

-- the user with a device of this kind at this address
abbrev pub with_device : DeviceKind → ℕ → DirectoryUser → DirectoryUser
with_device kind address user = record user { devices = with_place user.devices kind address }

-- the user with one minidisk more
abbrev pub with_minidisk : MinidiskStatement → DirectoryUser → DirectoryUser
with_minidisk disk user = record user { minidisks = user.minidisks ++ disk ∷ [] }

-- the last user, to whom device statements belong
abbrev pub last_user : List DirectoryUser → DirectoryUser
last_user users = slice_index_or users (length users - 1) (new_user [] 0)

-- the users with the last of them changed
abbrev pub with_last : (DirectoryUser → DirectoryUser) → List DirectoryUser → List DirectoryUser
with_last change users = slice_set users (length users - 1) (change (last_user users))

-- the minidisks of all users, in the order of their lines
abbrev pub minidisks_of : List DirectoryUser → List MinidiskStatement
minidisks_of users = flat_map (λ user. user.minidisks) users

-- the line of the first of these minidisks with which an extent conflicts
abbrev pub first_conflict : Extent → List MinidiskStatement → Option ℕ
first_conflict extent disks =
    option_map (λ disk. disk.line) (find (λ disk. conflicts extent disk.extent) disks)

-- no two minidisks of the users conflict
abbrev pub AreApart : List DirectoryUser → Type 0
AreApart users = AllPairs (λ (one other : MinidiskStatement). conflicts one.extent other.extent
    ≡ false)
    (minidisks_of users)
