use Rattle.std.proofs.Common.{◌-◌, length}
use Rattle.cp_dat.proofs.Copying.{IsPlacedTo}
use Rattle.cp_dat.proofs.dat.Dat.page_in_wanted.Given as goal

abbrev pub invariant-loop-page : goal.invariant-loop-page
invariant-loop-page l = IsPlacedTo l.fn.self l.fn.wanted l.page l.self

abbrev pub decreases-loop-page : goal.decreases-loop-page
decreases-loop-page l = length l.fn.wanted - l.page
