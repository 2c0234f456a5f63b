use Rattle.std.proofs.Common.{◌*◌, length, ◌∙◌, arith, length-append}
use Rattle.cp_dat.specs.Lent.{lent_bytes, lent_pool, user_of}
use Rattle.cp_ccw.specs.Layout.{framed_bytes}
use Rattle.cp_ccw.proofs.Framed.{area_range}
use Rattle.cp_ccw.specs.Layout.{length-framed}
use Rattle.cp_ccw.proofs.real.Real.load_area.Goals as goal

pub returns : goal.returns
returns c =
    let d = c.args.self.now.dat.now in
    let f = length-framed (lent_bytes d) (lent_pool d).supply.owners (user_of d) in
    let a = length-append (framed_bytes (lent_bytes d) (lent_pool d).supply.owners (user_of d)) c.args.self.now.area.now
    in
    c.copy_from_slice.ensures.after ∙ area_range (framed_bytes (lent_bytes d) (lent_pool d).supply.owners (user_of d))
    c.args.self.now.area.now (c.args.self.now.frames * 4096) c.args.start (length c.args.into.now)
    (omega (arith, f, c.args.self.now.counted)) (omega arith)
    (omega (arith, f, a, c.args.self.now.counted, c.requires.inside))

pub slice_bounds-copy_from_slice-end : goal.slice_bounds-copy_from_slice-end
slice_bounds-copy_from_slice-end c =
    let d = c.args.self.now.dat.now in
    let f = length-framed (lent_bytes d) (lent_pool d).supply.owners (user_of d) in
    let a = length-append (framed_bytes (lent_bytes d) (lent_pool d).supply.owners (user_of d)) c.args.self.now.area.now
    in
    omega (arith, f, a, c.args.self.now.counted, c.requires.inside)
