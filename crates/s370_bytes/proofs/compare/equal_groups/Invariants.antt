use Rattle.std.proofs.Common.{◌≡◌, ℕ, ◌*◌, ◌<◌, slice_index}
use Rattle.s370_bytes.proofs.compare.equal_groups.Given as goal

abbrev pub invariant-loop-k : goal.invariant-loop-k
invariant-loop-k l = (j : ℕ) → j < 8 * l.k → slice_index l.xs j ≡ slice_index l.ys j
