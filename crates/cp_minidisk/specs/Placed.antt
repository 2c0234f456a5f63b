-- A minidisk as a part of a volume: the volume's unit is a function of the minidisk's.
use Rattle.std.specs.Prelude.{ℕ, ◌+◌, ◌<◌, ◌≡◌, Bool, true, false, List, ◌++◌, length}
use Rattle.ckd_volume.specs.declared.parts.PendingCommand.{PendingCommand}
use Rattle.ckd_volume.specs.declared.parts.PendingCommand.TheVariants as jobs
use Rattle.ckd_volume.specs.Front.{Cylinder}
use Rattle.ckd_volume.specs.Unit.{Disk, keeps}

-- The unit of a volume that has these cylinders before those of the minidisk, and those after them:
-- arm and home are shifted, and all else is the same.
abbrev pub placed : List Cylinder → List Cylinder → Disk → Disk
placed before behind d =
    record {
      volser = d.volser;
      cylinders = before ++ (d.cylinders ++ behind);
      cylinder = length before + d.cylinder;
      home = length before + d.home;
      front = d.front;
    }

-- the arm is on the disk, and so is its home
pub record IsOnDisk (d : Disk) : Type 0 where
  pub cylinder : d.cylinder < length d.cylinders
  pub home : d.home < length d.cylinders

-- A disk as a minidisk is one: Read IPL goes to its first cylinder, and it may be written or not.
pub record IsOwn (writable : Bool) (d : Disk) : Type 0 where
  pub home : d.home ≡ 0
  pub mode : d.front.writable ≡ writable

-- a unit that has taken these bytes
abbrev pub holding : Disk → List ℕ → Disk
holding d bytes = keeps d (record (d.front) { bytes = bytes })

-- whether a command writes at its end
abbrev pub is_writing : PendingCommand → Bool
is_writing (jobs.WriteData i) = true
is_writing (jobs.WriteBoth i) = true
is_writing (jobs.WriteRecord i) = true
is_writing jobs.Nothing = false
is_writing (jobs.Give status) = false
is_writing jobs.SetMask = false
is_writing jobs.Seek = false
is_writing jobs.SearchHome = false
is_writing (jobs.SearchId comparison i) = false
is_writing (jobs.SearchKey i) = false

-- A disk that is only read, and that has these cylinders.
pub record IsReadOnly (cylinders : List Cylinder) (d : Disk) : Type 0 where
  pub same : d.cylinders ≡ cylinders
  pub protected : d.front.writable ≡ false
  pub writes_nothing : is_writing d.front.job ≡ false
