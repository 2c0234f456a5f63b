use Rattle.std.proofs.Common.{◌<◌, arith, length, get_or}
use Rattle.cp_frames.proofs.Orders.{order_within}
use Rattle.cp_frames.proofs.pool.Frames.frame_in_turn.Goals as goal

pub returns-clause-within : goal.returns-clause-within
returns-clause-within c =
    let f = c.self.inside in
    let turn_in : c.args.turn < length f.order = rw (← c.self.view_is) at c.requires in
    let within = order_within f.owners.items f.pins f.order c.self.invariant.ordered c.args.turn 0 turn_in
    in
    rw (← c.self.view_is, c.frame_at.ensures) within

pub returns-clause-marked : goal.returns-clause-marked
returns-clause-marked c =
    let f = c.self.inside in
    let turn_in : c.args.turn < length f.order = rw (← c.self.view_is) at c.requires in
    let within = order_within f.owners.items f.pins f.order c.self.invariant.ordered c.args.turn 0 turn_in
    in
    let marked : get_or f.order c.args.turn 0 < length f.pins =
    omega (arith, within, c.self.invariant.ordered.marks) in
    rw (← c.self.view_is, c.frame_at.ensures) marked
