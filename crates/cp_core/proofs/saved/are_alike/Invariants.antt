use Rattle.std.proofs.Common.{◌≡◌, ◌<◌, ℕ, length}
use Rattle.cp_volumes.specs.Shared.{volume_at}
use Rattle.cp_core.proofs.saved.are_alike.Given as goal

abbrev pub invariant-loop-index : goal.invariant-loop-index
invariant-loop-index l = (k : ℕ) → k < l.index
    → (length (volume_at l.volumes k).cylinders ≡ length (volume_at l.old k).cylinders)
    × ((volume_at l.volumes k).volser ≡ (volume_at l.old k).volser)
