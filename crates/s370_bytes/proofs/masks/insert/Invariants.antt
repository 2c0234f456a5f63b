use Rattle.std.proofs.Common.{◌≡◌, ℕ, ◌<◌, ◌≤◌, length, slice_index}
use Rattle.s370_bytes.specs.Masks.{chosen_before, byte_inserted}
use Rattle.s370_bytes.proofs.masks.insert.Given as goal

abbrev pub invariant-loop-k : goal.invariant-loop-k
invariant-loop-k l = record {
  size : length l.bytes ≡ 4;
  counted : l.place ≡ chosen_before l.mask l.k;
  few : l.place ≤ l.k;
  made : (j : ℕ) → j < l.k → slice_index l.bytes j ≡ byte_inserted l.mask l.fn.bytes l.from j;
  rest : (j : ℕ) → l.k ≤ j → slice_index l.bytes j ≡ slice_index l.fn.bytes j;
}
