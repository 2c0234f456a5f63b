use Rattle.std.proofs.Common.{All, List, subst}
use Rattle.std.proofs.lemmas.List.{take_all}
use Rattle.std.proofs.lemmas.List.Elements.{All-more}
use Rattle.cp_ccw.specs.declared.kept.PageInFrame.{PageInFrame}
use Rattle.cp_ccw.specs.CachedProgram.{IsFrame}
use Rattle.cp_ccw.proofs.reuse.are_in_frames.Goals as goal

pub loop-one-preserved : goal.loop-one-preserved
loop-one-preserved c =
    All-more (IsFrame c.args.dat.now) c.args.held.now c.loop-one.one-index _ c.loop-one-test.true c.loop-one.invariant
    (c.is_in_frame.ensures.in_frame c.if-not-is_in_frame.false)

pub returns-clause-in_frames : goal.returns-clause-in_frames
returns-clause-in_frames c = λ yes.
    subst (λ (hs : List PageInFrame). All (IsFrame c.args.dat.now) hs)
    (take_all c.loop-one.one-index c.args.held.now c.loop-one-test.false) c.loop-one.invariant
