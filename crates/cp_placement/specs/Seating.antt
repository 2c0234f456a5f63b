-- Where the minidisks of users are on the volumes that a system is booted with.
use Rattle.std.specs.Prelude.{ℕ, zero, suc, ◌≡◌, ◌+◌, ◌<◌, Bool, true, false, if◌then◌else◌, not}
use Rattle.std.specs.Prelude.{nat_le, is_some, List, [], ◌∷◌, length, map, slice_get, Option, Some}
use Rattle.std.specs.Prelude.{None}
use Rattle.std.specs.List.{All, find, list_any, position, position_or_len}
use Rattle.std.specs.Option.{option_map}
use Rattle.std.specs.Str.{bytes_eq}
use Rattle.ckd_volume.specs.Volume.{VolumeFormat}
use Rattle.machine_channels.specs.Disks.{DiskAt}
use Rattle.cp_directory.specs.Extents.{Extent, is_read_only, is_volser, padded}
use Rattle.cp_directory.specs.Users.{DirectoryUser}
use Rattle.cp_directory.specs.declared.minidisk.MinidiskStatement.{MinidiskStatement}
use Rattle.cp_minidisk.specs.Extent.{ExtentValue}
use Rattle.cp_minidisk.specs.Minidisk.{minidisk_new, users_disk}
use Rattle.cp_volumes.specs.Shared.{SharedMinidisk}

-- ---- the volume of a minidisk

-- whether a volume has this serial number
abbrev pub has_volser : List ℕ → VolumeFormat → Bool
has_volser volser v = bytes_eq v.volser (padded volser)

-- the first volume of this serial number
abbrev pub volume_named : List VolumeFormat → List ℕ → Option VolumeFormat
volume_named volumes volser = find (has_volser volser) volumes

-- the extent as a minidisk has it
abbrev pub extent_in : Extent → ExtentValue
extent_in e = record { start = e.start; count = e.count; writable = not (is_read_only e.mode) }

-- whether an extent ends past the last cylinder of its volume
abbrev pub ends_past : Extent → Option VolumeFormat → Bool
ends_past e None = false
ends_past e (Some v) = not (nat_le (e.start + e.count) (length v.cylinders))

-- ---- why a system is not booted

-- there is no volume of its serial number
abbrev pub lacks_volume : List VolumeFormat → MinidiskStatement → Bool
lacks_volume volumes m = not (is_some (volume_named volumes m.extent.volser))

-- it ends past the last cylinder of its volume
abbrev pub is_past : List VolumeFormat → MinidiskStatement → Bool
is_past volumes m = ends_past m.extent (volume_named volumes m.extent.volser)

-- whether the volume of one of a user's minidisks is missing
abbrev pub user_lacks : List VolumeFormat → DirectoryUser → Bool
user_lacks volumes user = list_any (lacks_volume volumes) user.minidisks

-- whether one of a user's minidisks ends past its volume
abbrev pub user_is_past : List VolumeFormat → DirectoryUser → Bool
user_is_past volumes user = list_any (is_past volumes) user.minidisks

-- the serial number of the first minidisk of a user whose volume is missing
abbrev pub first_missing : List VolumeFormat → Option DirectoryUser → Option (List ℕ)
first_missing volumes None = None
first_missing volumes (Some user) =
    option_map (λ (m : MinidiskStatement). m.extent.volser)
    (find (lacks_volume volumes) user.minidisks)

-- the address of the first minidisk of a user that ends past its volume
abbrev pub first_past : List VolumeFormat → Option DirectoryUser → Option ℕ
first_past volumes None = None
first_past volumes (Some user) =
    option_map (λ (m : MinidiskStatement). m.address) (find (is_past volumes) user.minidisks)

-- the first user of whom a minidisk does, and the address of the first
pub record IsFirstPast (volumes : List VolumeFormat) (users : List DirectoryUser)
    (user address : ℕ) : Type 0 where
  pub first : position (user_is_past volumes) users ≡ Some user
  pub disk : first_past volumes (slice_get users user) ≡ Some address

-- whether two volumes have one serial number
abbrev pub has_twins : List VolumeFormat → Bool
has_twins [] = false
has_twins (v ∷ vs) = if list_any (λ (other : VolumeFormat). bytes_eq other.volser v.volser) vs
    then true else has_twins vs

-- ---- the disks of users

-- a disk as no program has used it, with the cylinders of the extent
abbrev pub IsDiskOn : Option VolumeFormat → MinidiskStatement → DiskAt → Type 0
IsDiskOn None m disk = ⊥
IsDiskOn (Some v) m disk =
    disk ≡ record { address = m.address; unit = users_disk v (minidisk_new (extent_in m.extent)) }

-- of each minidisk of a user, in their order
abbrev pub AreDisks : List VolumeFormat → List MinidiskStatement → List DiskAt → Type 0
AreDisks volumes [] [] = Unit {0}
AreDisks volumes [] (disk ∷ disks) = ⊥
AreDisks volumes (m ∷ ms) [] = ⊥
AreDisks volumes (m ∷ ms) (disk ∷ disks) = IsDiskOn (volume_named volumes m.extent.volser) m disk
    × AreDisks volumes ms disks

-- ---- where they are

-- the index of the first volume of this serial number, or how many there are
abbrev pub index_of : List VolumeFormat → List ℕ → ℕ
index_of volumes volser = position_or_len (has_volser volser) volumes

-- a minidisk that no program has used, on its volume
abbrev pub seat_of : List VolumeFormat → MinidiskStatement → SharedMinidisk
seat_of volumes m = record {
  address = m.address;
  volume = index_of volumes m.extent.volser;
  minidisk = minidisk_new (extent_in m.extent);
}

-- the minidisks of a user on their volumes
abbrev pub seats_of : List VolumeFormat → List MinidiskStatement → List SharedMinidisk
seats_of volumes ms = map (seat_of volumes) ms

-- the minidisks of the user of this number, and none past the last
abbrev pub minidisks_at : List DirectoryUser → ℕ → List MinidiskStatement
minidisks_at [] k = []
minidisks_at (user ∷ users) zero = user.minidisks
minidisks_at (user ∷ users) (suc k) = minidisks_at users k

-- what is true of every minidisk of a directory: its volume's serial number has letters and digits
-- alone, and it has a cylinder
pub record IsLawful (m : MinidiskStatement) : Type 0 where
  pub named : is_volser m.extent.volser ≡ true
  pub some : 0 < m.extent.count

-- each minidisk is lawful
abbrev pub AreLawful : List MinidiskStatement → Type 0
AreLawful ms = All IsLawful ms
