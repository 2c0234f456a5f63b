-- What a minidisk has of its own, next to the cylinders that are on its volume.
use Rattle.std.specs.Prelude.{ℕ, ◌+◌, ◌-◌, ◌≤◌, List, take, drop, length}
use Rattle.ckd_volume.specs.declared.parts.Sense.{Sense}
use Rattle.ckd_volume.specs.declared.unit.Arm.{Arm}
use Rattle.ckd_volume.specs.Begin.{sense_of}
use Rattle.ckd_volume.specs.Front.{Cylinder}
use Rattle.ckd_volume.specs.Volume.{VolumeFormat, slice_of}
use Rattle.ckd_volume.specs.Unit.{Disk, idle}
use Rattle.cp_minidisk.specs.Extent.{ExtentValue}

-- a minidisk without its cylinders
pub record MinidiskValue : Type 0 where
  pub extent : ExtentValue
  -- where its arm is, counted from the first cylinder of the extent
  pub cylinder : ℕ
  pub head : ℕ
  pub sense : Sense

-- the volume has the extent
abbrev pub HasExtent : List Cylinder → ExtentValue → Type 0
HasExtent cylinders e = e.start + e.count ≤ length cylinders

-- The cylinders of an extent, those before it, and those after it.
abbrev pub slice : VolumeFormat → ExtentValue → VolumeFormat
slice v e = record { volser = v.volser; cylinders = slice_of v.cylinders e.start e.count }

-- the cylinders of a volume before an extent
abbrev pub before : VolumeFormat → ExtentValue → List Cylinder
before v e = take e.start v.cylinders

-- the cylinders of a volume after an extent
abbrev pub behind : VolumeFormat → ExtentValue → List Cylinder
behind v e = drop (e.start + e.count) v.cylinders

-- The minidisk as its user sees it: a disk with the extent's cylinders, and an arm of its own,
-- whose home is cylinder 0.
abbrev pub own_arm : MinidiskValue → Arm
own_arm m = record {
  cylinder = m.cylinder;
  head = m.head;
  home = 0;
  writable = m.extent.writable;
  sense = m.sense;
}

-- the disk that a user sees: the cylinders of the extent under his own arm
abbrev pub users_disk : VolumeFormat → MinidiskValue → Disk
users_disk v m = idle (slice v m.extent) (own_arm m)

-- A minidisk that no program has used: its arm is at the first track.
abbrev pub minidisk_new : ExtentValue → MinidiskValue
minidisk_new e = record { extent = e; cylinder = 0; head = 0; sense = sense_of 0 0 }

-- a system reset: there is no sense, and the arm stays
abbrev pub minidisk_reset : MinidiskValue → MinidiskValue
minidisk_reset m = record m { sense = sense_of 0 0 }

-- what the minidisk has of its own when its program has ended on the volume's unit
abbrev pub dismounted : ExtentValue → Disk → MinidiskValue
dismounted e d = record {
  extent = e;
  cylinder = d.cylinder - e.start;
  head = d.front.head;
  sense = d.front.sense;
}
