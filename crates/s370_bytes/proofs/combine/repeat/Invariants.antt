use Rattle.std.proofs.Common.{◌≡◌, ℕ, ◌<◌, length, slice_index}
use Rattle.s370_bytes.specs.Combine.{lagged}
use Rattle.s370_bytes.proofs.combine.repeat.Given as goal

abbrev pub invariant-loop-k : goal.invariant-loop-k
invariant-loop-k l = record {
  size : length l.bytes ≡ length l.fn.bytes;
  made : (j : ℕ) → j < l.k → slice_index l.bytes j ≡ lagged l.fn.bytes l.bytes l.lag j;
}
