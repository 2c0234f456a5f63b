use Rattle.std.proofs.Common.{◌≡◌, ℕ, ◌<◌, ◌≤◌, length, slice_index}
use Rattle.s370_bytes.proofs.translate.translate_all.Given as goal

abbrev pub invariant-loop-k : goal.invariant-loop-k
invariant-loop-k l = record {
  size : length l.bytes ≡ length l.fn.bytes;
  made : (j : ℕ) → j < l.k → slice_index l.bytes j ≡ slice_index l.table (slice_index l.fn.bytes j);
  rest : (j : ℕ) → l.k ≤ j → slice_index l.bytes j ≡ slice_index l.fn.bytes j;
}
