-- A minidisk as its user sees it.
use Rattle.std.specs.Prelude.{option_copied}
use Rattle.ckd_volume.specs.Unit.{Disk}
use Rattle.cp_minidisk.specs.Minidisk.{users_disk}
use Rattle.cp_volumes.specs.Shared.{volume_or_none}
use Rattle.cp_volumes.specs.declared.seen.SeenDisk.{SeenDisk}

-- the disk that a user sees
abbrev pub seen_disk : SeenDisk → Disk
seen_disk s = users_disk (volume_or_none (option_copied s.volume)) s.minidisk
