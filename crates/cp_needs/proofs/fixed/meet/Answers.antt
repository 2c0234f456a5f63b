use Rattle.std.proofs.Common.{arith}
use Rattle.cp_needs.proofs.Meeting.{get_or-same, miss_more}
use Rattle.cp_needs.proofs.fixed.meet.Goals as goal

pub loop-piece-preserved : goal.loop-piece-preserved
loop-piece-preserved c =
    miss_more c.args.text.now c.args.pieces.now c.args.end c.loop-piece.piece-index _
    (get_or-same c.args.pieces.now c.loop-piece.piece-index _ _ c.loop-piece-test.true) c.loop-piece-test.true
    c.loop-piece.invariant (c.touches.ensures.none c.if-touches.false)

pub returns-clause-none : goal.returns-clause-none
returns-clause-none c = λ no a below inside text.
    c.loop-piece.invariant inside.1.0 inside.0 a (let lt = inside.1.1 in omega (arith, lt, c.loop-piece-test.false))
    inside.1.2 below inside.2 text
