use Rattle.std.proofs.Common.{rules}
use Rattle.s370_bytes.proofs.Places.{range_same}
use Rattle.s370_bytes.proofs.compare.is_equal_group.Goals as goal

pub returns : goal.returns
returns c yes_it_is k s = range_same c.args.xs.now c.args.ys.now c.args.start 8 k (search rules) s
