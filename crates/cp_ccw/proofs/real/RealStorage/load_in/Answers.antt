use Rattle.std.proofs.Common.{arith}
use Rattle.cp_dat.specs.Lent.{lent_bytes, lent_pool, user_of}
use Rattle.cp_ccw.specs.Layout.{length-real}
use Rattle.cp_ccw.proofs.real.RealStorage.load_in.Goals as goal

pub load_area-requires-clause-inside : goal.load_area-requires-clause-inside
load_area-requires-clause-inside c =
    let r = c.args.self.now in
    let all = length-real (lent_bytes r.dat.now) (lent_pool r.dat.now).supply.owners (user_of r.dat.now) r.area.now in
    let ends = c.requires.placed.ends in
    omega (arith, all, ends, c.requires.ends)
