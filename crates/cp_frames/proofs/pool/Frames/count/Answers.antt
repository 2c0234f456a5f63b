use Rattle.std.proofs.Common.{arith}
use Rattle.cp_frames.proofs.pool.Frames.count.Goals as goal

pub returns-clause-count : goal.returns-clause-count
returns-clause-count c =
    let few = c.self.invariant.ordered.frames in
    rw (← c.self.view_is) (omega (arith, few))

pub returns-clause-few : goal.returns-clause-few
returns-clause-few c =
    let few = c.self.invariant.ordered.frames in
    omega (arith, few)
