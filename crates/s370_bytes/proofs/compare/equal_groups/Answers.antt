use Rattle.s370_bytes.proofs.Places.{groups_more}
use Rattle.s370_bytes.proofs.compare.equal_groups.Goals as goal

pub loop-k-preserved : goal.loop-k-preserved
loop-k-preserved c = groups_more c.args.xs.now c.args.ys.now c.loop-k.k c.loop-k.invariant
    (c.is_equal_group.ensures c.if-not-is_equal_group.false)
