use Rattle.std.proofs.Common.{length, arith, length-append}
use Rattle.cp_dat.specs.Lent.{lent_bytes, lent_pool, user_of}
use Rattle.cp_ccw.specs.Layout.{length-framed}
use Rattle.cp_ccw.specs.Layout.{framed_bytes}
use Rattle.cp_ccw.proofs.Framed.{length-keys}
use Rattle.cp_ccw.proofs.real.RealStorage.size.Goals as goal

pub returns-clause-bytes : goal.returns-clause-bytes
returns-clause-bytes c =
    let d = c.args.self.now.dat.now in
    let f = length-framed (lent_bytes d) (lent_pool d).supply.owners (user_of d) in
    let a = length-append (framed_bytes (lent_bytes d) (lent_pool d).supply.owners (user_of d)) c.args.self.now.area.now
    in
    omega (arith, f, a, c.args.self.now.counted)

pub returns-clause-keyed : goal.returns-clause-keyed
returns-clause-keyed c =
    let d = c.args.self.now.dat.now in
    let f = length-framed (lent_bytes d) (lent_pool d).supply.owners (user_of d) in
    let a = length-append (framed_bytes (lent_bytes d) (lent_pool d).supply.owners (user_of d)) c.args.self.now.area.now
    in
    let k = length-keys (lent_bytes d) (c.args.self.now.dat.now.keys.now) (lent_pool d).supply.owners (user_of d)
    (length c.args.self.now.area.now) in
    omega (arith, f, a, k)
