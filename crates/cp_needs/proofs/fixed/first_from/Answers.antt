use Rattle.std.proofs.Common.{refl}
use Rattle.cp_needs.proofs.Meeting.{first_there}
use Rattle.cp_needs.proofs.fixed.first_from.Goals as goal

pub returns-then-index-numbers-clause-some : goal.returns-then-index-numbers-clause-some
returns-then-index-numbers-clause-some c =
    first_there c.args.numbers.now c.args.from c.in-Err.index _ c.binary_search.result c.requires c.in-Err.is
    c.binary_search.ensures.position c.if-index-numbers.true refl
