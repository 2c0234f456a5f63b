use Rattle.std.proofs.Common.{◌≡◌, ◌*◌, take, length}
use Rattle.s370_bytes.specs.Multiple.{words_from}
use Rattle.s370_bytes.proofs.multiple.fill_four.Given as goal

abbrev pub invariant-loop-k : goal.invariant-loop-k
invariant-loop-k l = record {
  size : length l.words ≡ 16;
  filled : take (4 * l.k) l.words ≡ words_from l.registers l.first l.k;
}
