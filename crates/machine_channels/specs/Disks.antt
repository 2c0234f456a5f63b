-- The disks of a machine, each at its address.
use Rattle.std.specs.Prelude.{ℕ, ◌==◌, Bool}
use Rattle.ckd_volume.specs.Unit.{Disk, disk_reset, disk_cleared}

-- A disk unit, and its address.
pub record DiskAt : Type 0 where
  pub address : ℕ
  pub unit : Disk

-- whether a disk has this address
abbrev pub is_disk_at : ℕ → DiskAt → Bool
is_disk_at device disk = disk.address == device

-- a system reset: the arm stays
abbrev pub reset_disk : DiskAt → DiskAt
reset_disk disk = record disk { unit = disk_reset disk.unit }

-- as for a LOGON: the arm is at the first track
abbrev pub cleared_disk : DiskAt → DiskAt
cleared_disk disk = record disk { unit = disk_cleared disk.unit }
