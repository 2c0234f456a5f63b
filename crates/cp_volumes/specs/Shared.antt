-- Volumes that users share: each minidisk is an extent of one of them (docs/MACHINE.md, "Disks").
use Rattle.std.specs.Prelude.{ℕ, ◌≡◌, ◌+◌, ◌<◌, ◌≤◌, ◌⊎◌, true, List, [], map, length, slice_get}
use Rattle.std.specs.Prelude.{slice_index_or, Option, Some, None}
use Rattle.ckd_volume.specs.Volume.{VolumeFormat}
use Rattle.ckd_volume.specs.Unit.{Disk, volume_of}
use Rattle.machine_channels.specs.Disks.{DiskAt}
use Rattle.cp_minidisk.specs.Extent.{ExtentValue}
use Rattle.cp_minidisk.specs.Minidisk.{MinidiskValue, HasExtent, minidisk_new, minidisk_reset}
use Rattle.cp_minidisk.specs.Minidisk.{slice, users_disk}

-- ---- volumes, each on a unit of its own

-- no volume
abbrev pub no_volume : VolumeFormat
no_volume = record { volser = []; cylinders = [] }

-- a volume, or what stands in for one that is away
abbrev pub volume_or_none : Option VolumeFormat → VolumeFormat
volume_or_none None = no_volume
volume_or_none (Some v) = v

-- what is on a unit, which is away while a program runs on it
abbrev pub volume_in : Option Disk → VolumeFormat
volume_in None = no_volume
volume_in (Some unit) = volume_of unit

-- the volume on a unit
abbrev pub volume_at : List VolumeFormat → ℕ → VolumeFormat
volume_at volumes index = slice_index_or volumes index no_volume

-- a volume is on each unit: none is away
abbrev pub AreThere : List VolumeFormat → Type 0
AreThere volumes = (index : ℕ) → index < length volumes
    → 0 < length (volume_at volumes index).cylinders

-- ---- minidisks

-- a minidisk of a user, at its address, on the volume of this index
pub record SharedMinidisk : Type 0 where
  pub address : ℕ
  pub volume : ℕ
  pub minidisk : MinidiskValue

-- its cylinders as they are on its volume
abbrev pub cylinders_on : List VolumeFormat → SharedMinidisk → VolumeFormat
cylinders_on volumes d = slice (volume_at volumes d.volume) d.minidisk.extent

-- the disk that the user sees
abbrev pub disk_on : List VolumeFormat → SharedMinidisk → DiskAt
disk_on volumes d = record {
  address = d.address;
  unit = users_disk (volume_at volumes d.volume) d.minidisk;
}

-- the disks that a user sees
abbrev pub disks_on : List VolumeFormat → List SharedMinidisk → List DiskAt
disks_on volumes disks = map (disk_on volumes) disks

-- a system reset: the arm stays
abbrev pub reset_minidisk : SharedMinidisk → SharedMinidisk
reset_minidisk d = record d { minidisk = minidisk_reset d.minidisk }

-- as for a LOGON: the arm is at the first track
abbrev pub cleared_minidisk : SharedMinidisk → SharedMinidisk
cleared_minidisk d = record d { minidisk = minidisk_new d.minidisk.extent }

-- where it is, which never changes: its address, its volume, and its extent there
pub record Placement : Type 0 where
  pub address : ℕ
  pub volume : ℕ
  pub extent : ExtentValue

-- where a minidisk is
abbrev pub placement_of : SharedMinidisk → Placement
placement_of d = record { address = d.address; volume = d.volume; extent = d.minidisk.extent }

-- where a user's minidisks are
abbrev pub placements_of : List SharedMinidisk → List Placement
placements_of disks = map placement_of disks

-- ---- whose cylinders are whose

-- the volume has the extent
abbrev pub IsSeated : List VolumeFormat → Placement → Type 0
IsSeated volumes s = HasExtent (volume_at volumes s.volume).cylinders s.extent

-- one ends before the other begins
abbrev pub AreApart : ExtentValue → ExtentValue → Type 0
AreApart e f = (e.start + e.count ≤ f.start) ⊎ (f.start + f.count ≤ e.start)

-- what is written to the one is not written to the other
abbrev pub LeavesBe : Placement → Placement → Type 0
LeavesBe s t = s.volume ≡ t.volume → s.extent.writable ≡ true → AreApart s.extent t.extent

-- each of these
abbrev pub AllLeaveBe : List Placement → Placement → Type 0
AllLeaveBe placements t = (i : ℕ) (s : Placement) → slice_get placements i ≡ Some s → LeavesBe s t

-- the minidisks of one user: each is on its volume, and none writes on another
pub record IsUsers (volumes : List VolumeFormat) (placements : List Placement) : Type 0 where
  pub seated : (i : ℕ) (s : Placement) → slice_get placements i ≡ Some s → IsSeated volumes s
  pub apart : (i j : ℕ) (s t : Placement) → slice_get placements i ≡ Some s
      → slice_get placements j ≡ Some t
      → (i ≡ j → ⊥) → LeavesBe s t

-- ---- what a user's programs do to the volumes

-- Each extent on which none of these minidisks writes is as it was; all volumes have their serial
-- numbers and as many cylinders.
pub record IsConfined (placements : List Placement) (old new : List VolumeFormat) : Type 0 where
  pub count : length new ≡ length old
  pub sizes : (index : ℕ) → length (volume_at new index).cylinders
      ≡ length (volume_at old index).cylinders
  pub volsers : (index : ℕ) → (volume_at new index).volser ≡ (volume_at old index).volser
  pub others : (t : Placement) → AllLeaveBe placements t
      → slice (volume_at new t.volume) t.extent ≡ slice (volume_at old t.volume) t.extent

-- ---- the disks of a user while they are lent

-- the volumes, and the minidisks of the user who works on them
pub record DisksValue : Type 0 where
  pub volumes : List VolumeFormat
  pub minidisks : List SharedMinidisk

-- the disks that the user sees
abbrev pub seen : DisksValue → List DiskAt
seen d = disks_on d.volumes d.minidisks

-- they are where they were, and what others have on the volumes is as it was
pub record KeepsOtherDisks (old new : DisksValue) : Type 0 where
  pub placements : placements_of new.minidisks ≡ placements_of old.minidisks
  pub confined : IsConfined (placements_of old.minidisks) old.volumes new.volumes
