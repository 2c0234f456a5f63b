use Rattle.std.proofs.Common.{◌≡◌, ◌<◌, ◌-◌, ℕ, None, Option, length, slice_index_or}
use Rattle.cp_ccw.specs.CachedPages.{KnownProgram}
use Rattle.cp_resident.proofs.reuse.empty_disks.Given as goal

abbrev pub invariant-places : goal.invariant-places
invariant-places l = ((k : ℕ) (d : Option KnownProgram) → k < l.place → slice_index_or l.disks k d ≡ None)
    × (length l.disks ≡ length l.initial.disks)

abbrev pub decreases-places : goal.decreases-places
decreases-places l = length l.disks - l.place
