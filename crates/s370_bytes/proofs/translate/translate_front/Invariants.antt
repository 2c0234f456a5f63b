use Rattle.std.proofs.Common.{◌≡◌, ℕ, ◌+◌, ◌<◌, ◌≤◌, slice_index}
use Rattle.s370_bytes.proofs.translate.translate_front.Given as goal

abbrev pub invariant-loop-k : goal.invariant-loop-k
invariant-loop-k g l = record {
  made : (j : ℕ) → j < l.k → slice_index l.bytes j ≡ slice_index (g.S.Storage.memory l.storage).bytes
      (l.from + slice_index l.fn.bytes j);
  rest : (j : ℕ) → l.k ≤ j → slice_index l.bytes j ≡ slice_index l.fn.bytes j;
}
