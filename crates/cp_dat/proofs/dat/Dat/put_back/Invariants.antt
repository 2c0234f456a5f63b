use Rattle.std.proofs.Common.{◌-◌, ◌≡◌, length}
use Rattle.cp_dat.specs.Copies.{written_over}
use Rattle.cp_dat.specs.Lent.{lent_bytes}
use Rattle.cp_dat.proofs.Copying.{IsBackTo}
use Rattle.cp_dat.proofs.dat.Dat.put_back.Given as goal

abbrev pub invariant-loop-start : goal.invariant-loop-start
invariant-loop-start l = record {
  back : IsBackTo l.fn.self (written_over l.fn.wanted (lent_bytes l.fn.self) l.fn.from) l.fn.wanted l.start l.self;
  chunk : length l.buffer ≡ 256;
}

abbrev pub decreases-loop-start : goal.decreases-loop-start
decreases-loop-start l = length (lent_bytes l.fn.self) - l.start
