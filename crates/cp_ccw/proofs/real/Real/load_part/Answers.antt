use Rattle.std.proofs.Common.{length, sym, ◌∙◌, arith}
use Rattle.cp_dat.specs.Lent.{lent_bytes, lent_pool, user_of}
use Rattle.cp_ccw.proofs.Framed.{framed_range}
use Rattle.cp_ccw.proofs.real.Real.load_part.Goals as goal

pub returns-in-Some : goal.returns-in-Some
returns-in-Some c =
    let d = c.args.self.now.dat.now in
    c.load.ensures ∙ framed_range (lent_bytes d) c.args.self.now.area.now (lent_pool d).supply.owners (user_of d)
    c.args.start c.in-Some.page (length c.args.into.now)
    (sym c.page_at.ensures.page ∙ c.in-Some.is) (omega (arith, c.args.self.now.counted)) c.requires.one_page
