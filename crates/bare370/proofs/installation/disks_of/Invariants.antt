use Rattle.std.proofs.Common.{◌≡◌, ◌++◌}
use Rattle.bare370.specs.Goes.{disks_from}
use Rattle.bare370.proofs.installation.disks_of.Given as goal

-- with those of the volumes that are left, all are there
abbrev pub invariant-loop-volume : goal.invariant-loop-volume
invariant-loop-volume l = l.disks.items
    ++ disks_from l.address l.volume-iterator.rest.items ≡ disks_from 400 l.fn.volumes.items
