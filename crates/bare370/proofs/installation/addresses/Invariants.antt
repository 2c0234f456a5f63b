use Rattle.std.proofs.Common.{◌≡◌, ◌++◌, drop}
use Rattle.bare370.specs.Goes.{addresses_of}
use Rattle.bare370.proofs.installation.addresses.Given as goal

-- with those that are left, all are there
abbrev pub invariant-loop-device : goal.invariant-loop-device
invariant-loop-device l = l.list.items ++ addresses_of (drop l.device-index l.devices) ≡ addresses_of l.devices
