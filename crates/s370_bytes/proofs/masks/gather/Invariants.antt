use Rattle.std.proofs.Common.{◌≡◌, ◌≤◌, take, length}
use Rattle.s370_bytes.specs.Masks.{chosen_before, chosen_from}
use Rattle.s370_bytes.proofs.masks.gather.Given as goal

abbrev pub invariant-loop-k : goal.invariant-loop-k
invariant-loop-k l = record {
  size : length l.into ≡ 4;
  counted : l.place ≡ chosen_before l.mask l.k;
  few : l.place ≤ l.k;
  gathered : take l.place l.into ≡ chosen_from l.mask l.bytes l.k;
}
