use Rattle.std.proofs.Common.{◌-◌, ◌≡◌, ℕ, ◌+◌, ◌<◌, ◌≤◌, length}
use Rattle.std.specs.Prelude.{slice_index}
use Rattle.cp_dat.specs.Lent.{lent_bytes}
use Rattle.cp_dat.proofs.dat.Dat.copy_bytes.Given as goal

abbrev pub invariant-loop-index : goal.invariant-loop-index
invariant-loop-index l = record {
  long : length l.into ≡ 256;
  few : l.index ≤ 256;
  copied : (k : ℕ) → k < l.index → slice_index l.into k ≡ slice_index (lent_bytes l.fn.self) (l.start + k);
}

abbrev pub decreases-loop-index : goal.decreases-loop-index
decreases-loop-index l = 256 - l.index
