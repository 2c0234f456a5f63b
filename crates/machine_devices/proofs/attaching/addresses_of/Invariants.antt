use Rattle.std.proofs.Common.{◌≡◌, take, map}
use Rattle.machine_devices.proofs.attaching.addresses_of.Given as goal

abbrev pub invariant-loop-disk : goal.invariant-loop-disk
invariant-loop-disk l = l.made.items ≡ map (λ disk. disk.address) (take l.disk-index l.disks)
