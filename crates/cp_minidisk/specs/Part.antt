-- A minidisk as a device of its own on the unit of its volume (docs/MACHINE.md, "Disks").
use Rattle.std.specs.Prelude.{ℕ, ◌-◌, ◌≡◌, List, length, Option, Some, None}
use Rattle.s370_walk.specs.Hardware.{Machine}
use Rattle.ckd_volume.specs.Front.{Cylinder}
use Rattle.ckd_volume.specs.Volume.{VolumeFormat}
use Rattle.ckd_volume.specs.Unit.{Disk, disk_machine, volume_of, argument_held}
use Rattle.cp_minidisk.specs.Extent.{ExtentValue, IsWithin, relocated_argument}
use Rattle.cp_minidisk.specs.Placed.{placed, holding}
use Rattle.cp_minidisk.specs.Minidisk.{MinidiskValue, HasExtent, slice, before, behind, users_disk}

-- The disk that a user sees, between the other cylinders of its volume.
pub record Part : Type 0 where
  pub below : List Cylinder
  pub disk : Disk
  pub above : List Cylinder

-- the part with another disk
abbrev pub with_disk : Part → Disk → Part
with_disk p d = record { below = p.below; disk = d; above = p.above }

-- what its user sees
abbrev pub disk_seen : Part → Disk
disk_seen p = p.disk

-- It does what its disk does, and the other cylinders stay.
abbrev pub part_machine : Machine Part
part_machine =
    record {
      answer = λ p order. disk_machine.answer p.disk order;
      started = λ p order. with_disk p (disk_machine.started p.disk order);
      done = λ p. disk_machine.done p.disk;
      gives = λ p. disk_machine.gives p.disk;
      gave = λ p. with_disk p (disk_machine.gave p.disk);
      took = λ p byte. with_disk p (disk_machine.took p.disk byte);
      status = λ p. disk_machine.status p.disk;
      finished = λ p. with_disk p (disk_machine.finished p.disk);
    }

-- the volume's unit, as it is with the disk at its place
abbrev pub unit_of : Part → Disk
unit_of p = placed p.below p.above p.disk

-- which cylinders of its volume it has
abbrev pub extent_of : Part → ExtentValue
extent_of p = record {
  start = length p.below;
  count = length p.disk.cylinders;
  writable = p.disk.front.writable;
}

-- a user's minidisk on this volume
abbrev pub part_on : VolumeFormat → MinidiskValue → Part
part_on v m = record { below = before v m.extent; disk = users_disk v m; above = behind v m.extent }

-- what the minidisk has of its own
abbrev pub minidisk_of : Part → MinidiskValue
minidisk_of p =
    record {
      extent = extent_of p;
      cylinder = p.disk.cylinder;
      head = p.disk.front.head;
      sense = p.disk.front.sense;
    }

-- ---- How a volume's unit is such a part

-- The unit serves a minidisk: its arm is on the extent, Read IPL goes to the first cylinder of
-- it, and it may be written as the extent says.
pub record Serves (u : Disk) (e : ExtentValue) : Type 0 where
  pub inside : HasExtent u.cylinders e
  pub within : IsWithin e u.cylinder
  pub home : u.home ≡ e.start
  pub mode : u.front.writable ≡ e.writable

-- the disk that a user sees of the unit of its volume
abbrev pub disk_of : ExtentValue → Disk → Disk
disk_of e u =
    record {
      volser = u.volser;
      cylinders = (slice (volume_of u) e).cylinders;
      cylinder = u.cylinder - e.start;
      home = u.home - e.start;
      front = u.front;
    }

-- the disk that a user sees, and the other cylinders of its volume
abbrev pub part_of : ExtentValue → Disk → Part
part_of e u = record {
  below = before (volume_of u) e;
  disk = disk_of e u;
  above = behind (volume_of u) e;
}

-- A seek that has its argument has it relocated before it ends; every other command ends as it is.
abbrev pub with_relocated : ExtentValue → Disk → Option (List ℕ) → Disk
with_relocated e u None = u
with_relocated e u (Some argument) = holding u (relocated_argument e argument)

-- the unit whose pending seek is relocated, if its argument has come
abbrev pub relocating : ExtentValue → Disk → Disk
relocating e u = with_relocated e u (argument_held u.front)
