use Rattle.std.proofs.Common.{◌≡◌, ◌++◌, drop, map, take}
use Rattle.cp_volumes.specs.Shared.{cleared_minidisk}
use Rattle.cp_volumes.proofs.user_disks.clear_each.Given as goal

abbrev pub invariant-loop-disk : goal.invariant-loop-disk
invariant-loop-disk l = l.minidisks ≡ map cleared_minidisk (take l.disk-index l.initial.minidisks)
    ++ drop l.disk-index l.initial.minidisks
