use Rattle.std.proofs.Common.{◌≡◌, ◌-◌, ◌≤◌, None, length, replicate}
use Rattle.cp_resident.proofs.reuse.places_for.Given as goal

-- as many places without a program as there are, and no more than are wanted
abbrev pub invariant-places : goal.invariant-places
invariant-places l = (l.disks.items ≡ replicate (length l.disks.items) None) × (length l.disks.items ≤ l.minidisks)

abbrev pub decreases-places : goal.decreases-places
decreases-places l = l.minidisks - length l.disks.items
