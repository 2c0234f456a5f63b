use Rattle.std.proofs.Common.{◌≡◌, take}
use Rattle.cp_dat.specs.Lent.{lent_keys}
use Rattle.cp_dat.proofs.dat.Dat.copy_keys.Given as goal

abbrev pub invariant-loop-key : goal.invariant-loop-key
invariant-loop-key l = l.made.items ≡ take l.key-index (lent_keys l.fn.self)
