use Rattle.cp_dat.proofs.Placed.{there}
use Rattle.cp_dat.proofs.dat.DatStorage.store_in.Goals as goal

pub store_placed-requires-clause-there : goal.store_placed-requires-clause-there
store_placed-requires-clause-there c =
    there c.args.self.now c.args.block c.args.start _ c.requires.placed c.requires.some c.requires.begins
    c.requires.ends
