use Rattle.std.proofs.Common.{◌-◌, ◌*◌, ◌≡◌, ℕ, ◌+◌, ◌%◌, ◌<◌, ◌≤◌, length, get_or}
use Rattle.cp_dat.specs.Lent.{lent_bytes}
use Rattle.cp_dat.proofs.dat.Dat.copy_page.Given as goal

abbrev pub invariant-loop-done : goal.invariant-loop-done
invariant-loop-done l = record {
  long : length l.into ≡ length (lent_bytes l.fn.self);
  chunk : length l.buffer ≡ 256;
  aligned : l.done % 256 ≡ 0;
  few : l.done ≤ 4096;
  copied : (a : ℕ) → l.fn.page.0 * 4096 ≤ a → a < l.fn.page.0 * 4096 + l.done
      → get_or l.into a 0 ≡ get_or (lent_bytes l.fn.self) a 0;
  before : (a : ℕ) → a < l.fn.page.0 * 4096 → get_or l.into a 0 ≡ get_or l.fn.into a 0;
  after : (a : ℕ) → l.fn.page.0 * 4096 + l.done ≤ a → get_or l.into a 0 ≡ get_or l.fn.into a 0;
}

abbrev pub decreases-loop-done : goal.decreases-loop-done
decreases-loop-done l = 4096 - l.done
