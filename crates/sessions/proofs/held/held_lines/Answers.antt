use Rattle.sessions.proofs.Holding.{held_more}
use Rattle.sessions.proofs.held.held_lines.Goals as goal

pub loop-number-preserved : goal.loop-number-preserved
loop-number-preserved g c =
    held_more (g.I.Installation.goes.seen c.args.installation.now) c.new-user.result c.loop-number.number
    c.loop-number.text.items c.append_held.new.out.items c.name.result.now c.devices.result c.new-user.ensures
    c.loop-number.invariant c.name.ensures c.devices.ensures c.in_ok-append_held.ensures
