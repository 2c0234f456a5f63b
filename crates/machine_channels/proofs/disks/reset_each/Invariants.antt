use Rattle.std.proofs.Common.{◌≡◌, ◌++◌, drop, map, take}
use Rattle.machine_channels.specs.Disks.{reset_disk}
use Rattle.machine_channels.proofs.disks.reset_each.Given as goal

abbrev pub invariant-loop-disk : goal.invariant-loop-disk
invariant-loop-disk l = l.disks ≡ map reset_disk (take l.disk-index l.initial.disks)
    ++ drop l.disk-index l.initial.disks
