use Rattle.std.proofs.Common.{arith, length, rules}
use Rattle.s370_bytes.proofs.Places.{equal_pairs_is}
use Rattle.s370_bytes.proofs.compare.equal_front.Goals as goal

pub returns-then-xs-k-clause-value : goal.returns-then-xs-k-clause-value
returns-then-xs-k-clause-value c =
    equal_pairs_is c.args.xs.now c.args.ys.now c.loop-k.k c.requires (omega arith) c.loop-k.invariant
    (λ s. search rules)

pub returns-clause-value : goal.returns-clause-value
returns-clause-value c =
    equal_pairs_is c.args.xs.now c.args.ys.now (length c.args.xs.now) c.requires (omega arith)
    (λ j s. c.loop-k.invariant j (omega arith)) (λ s. absurd (omega arith))
