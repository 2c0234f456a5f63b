use Rattle.std.proofs.Common.{◌≡◌, ℕ, ◌<◌, slice_index}
use Rattle.s370_bytes.proofs.combine.is_zero.Given as goal

abbrev pub invariant-loop-byte : goal.invariant-loop-byte
invariant-loop-byte l = (j : ℕ) → j < l.byte-index → slice_index l.bytes j ≡ 0
