use Rattle.cp_dat.proofs.Pages.{own_page, others_page, no_page_in}
use Rattle.cp_dat.proofs.dat.Dat.page_in.Goals as goal

pub returns-then-number-clause-once : goal.returns-then-number-clause-once
returns-then-number-clause-once c =
    own_page c.args.self.now.frames.now.supply.owners c.args.self.now.user c.args.frame.0 c.in-Some.there
    (rw (c.number.ensures.value, c.number-in-Some.ensures.value) at c.if-number.true) c.in-Some.ensures.once

pub returns-else-number-clause-once : goal.returns-else-number-clause-once
returns-else-number-clause-once c =
    others_page c.args.self.now.frames.now.supply.owners c.args.self.now.user c.args.frame.0 c.in-Some.there
    (rw (c.number.ensures.value, c.number-in-Some.ensures.value) at c.if-number.false) c.in-Some.ensures.once

pub returns-in-None-clause-once : goal.returns-in-None-clause-once
returns-in-None-clause-once c =
    no_page_in c.args.self.now.frames.now.supply.owners c.args.self.now.user c.args.frame.0 c.in-None.ensures.once
