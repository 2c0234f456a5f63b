use Rattle.cp_dat.proofs.Placed.{there}
use Rattle.cp_dat.proofs.dat.DatStorage.load_in.Goals as goal

pub load_in-requires-clause-there : goal.load_in-requires-clause-there
load_in-requires-clause-there c =
    there c.args.self.now c.args.block c.args.start _ c.requires.placed c.requires.some c.requires.begins
    c.requires.ends
