use Rattle.std.proofs.Common.{◌≡◌, ◌++◌, drop, map, take}
use Rattle.cp_volumes.specs.Shared.{reset_minidisk}
use Rattle.cp_volumes.proofs.user_disks.reset_each.Given as goal

abbrev pub invariant-loop-disk : goal.invariant-loop-disk
invariant-loop-disk l = l.minidisks ≡ map reset_minidisk (take l.disk-index l.initial.minidisks)
    ++ drop l.disk-index l.initial.minidisks
