use Rattle.std.proofs.Common.{length, sym, arith}
use Rattle.cp_dat.specs.Lent.{lent_bytes, lent_pool, user_of}
use Rattle.cp_ccw.proofs.Framed.{page_at_some, page_at_part, page_at_none}
use Rattle.cp_ccw.proofs.real.Real.page_at.Goals as goal

pub returns-then-page-size-clause-page : goal.returns-then-page-size-clause-page
returns-then-page-size-clause-page c =
    sym (page_at_some (lent_pool c.args.self.now.dat.now).supply.owners (user_of c.args.self.now.dat.now)
    (length (lent_bytes c.args.self.now.dat.now)) c.args.frame c.in-Some.page.0
    ((c.page_in-there.ensures.once c.in-Some.page).0 c.in-Some.is) (omega (arith, c.size-size.ensures.bytes)))

pub returns-else-page-size-clause-page : goal.returns-else-page-size-clause-page
returns-else-page-size-clause-page c =
    sym (page_at_part (lent_pool c.args.self.now.dat.now).supply.owners (user_of c.args.self.now.dat.now)
    (length (lent_bytes c.args.self.now.dat.now)) c.args.frame c.in-Some.page.0
    ((c.page_in-there.ensures.once c.in-Some.page).0 c.in-Some.is) (omega (arith, c.size-size.ensures.bytes)))

pub returns-in-None-clause-page : goal.returns-in-None-clause-page
returns-in-None-clause-page c =
    sym (page_at_none (lent_pool c.args.self.now.dat.now).supply.owners (user_of c.args.self.now.dat.now)
    (length (lent_bytes c.args.self.now.dat.now)) c.args.frame
    (λ p there. let found = (c.page_in-there.ensures.once p).1 there in let is = c.in-None.is in cc))
