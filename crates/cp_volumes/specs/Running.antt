-- A program runs on a minidisk that is mounted on the unit of its volume.
use Rattle.std.specs.Prelude.{ℕ, ◌≡◌, Option, Some, None}
use Rattle.s370_store.specs.Memory.{Memory}
use Rattle.s370_channel.specs.declared.words.Caw.{Caw}
use Rattle.s370_channel.specs.Guest.{guest_written}
use Rattle.s370_channel.specs.Loading.{loading, loading_limits}
use Rattle.s370_channel.specs.Progress.{setting}
use Rattle.s370_channel.specs.Runs.{begun, limited}
use Rattle.s370_channel.specs.Supplied.{IsTouched}
use Rattle.ckd_volume.specs.Unit.{disk_machine}
use Rattle.machine_channels.specs.Disks.{DiskAt}
use Rattle.cp_minidisk.specs.Part.{Part, extent_of, unit_of}
use Rattle.cp_minidisk.specs.PartLaws.{HasSameOtherDisks}
use Rattle.cp_minidisk.specs.Placed.{IsReadOnly}

-- The other cylinders and the extent stay, and all cylinders where the minidisk is only read.
pub record KeepsVolume (old new : Part) : Type 0 where
  pub other_disks : HasSameOtherDisks old new
  pub extent : extent_of new ≡ extent_of old
  pub read_only : IsReadOnly old.disk.cylinders old.disk
      → (unit_of new).cylinders ≡ (unit_of old).cylinders

-- which pages the program with this start touches, of a disk as its user sees it
abbrev pub DiskTouches : Caw → Memory → Option DiskAt → ℕ → Type 0
DiskTouches start m (Some disk) page =
    IsTouched guest_written (limited disk_machine start) (begun start m disk.unit) page
DiskTouches start m None page = ⊥

-- and that of a loading
abbrev pub DiskLoadTouches : Memory → Option DiskAt → ℕ → Type 0
DiskLoadTouches m (Some disk) page =
    IsTouched guest_written (setting disk_machine loading_limits) (loading disk_machine m disk.unit)
    page
DiskLoadTouches m None page = ⊥
