use Rattle.std.proofs.Common.{◌≡◌, ◌++◌, drop, map, take}
use Rattle.machine_channels.specs.Disks.{cleared_disk}
use Rattle.machine_channels.proofs.disks.clear_each.Given as goal

abbrev pub invariant-loop-disk : goal.invariant-loop-disk
invariant-loop-disk l = l.disks ≡ map cleared_disk (take l.disk-index l.initial.disks)
    ++ drop l.disk-index l.initial.disks
