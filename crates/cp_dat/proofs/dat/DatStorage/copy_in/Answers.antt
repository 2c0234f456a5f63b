use Rattle.cp_dat.proofs.Placed.{there}
use Rattle.cp_dat.proofs.dat.DatStorage.copy_in.Goals as goal

pub copy_placed-requires-clause-source_there : goal.copy_placed-requires-clause-source_there
copy_placed-requires-clause-source_there c =
    there c.args.self.now c.args.source c.args.from _ c.requires.source_placed c.requires.some c.requires.source_begins
    c.requires.source_ends

pub copy_placed-requires-clause-target_there : goal.copy_placed-requires-clause-target_there
copy_placed-requires-clause-target_there c =
    there c.args.self.now c.args.target c.args.to _ c.requires.target_placed c.requires.some c.requires.target_begins
    c.requires.target_ends
