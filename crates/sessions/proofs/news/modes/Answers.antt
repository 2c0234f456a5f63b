use Rattle.std.proofs.Common.{◌≡◌, ◌<◌, ◌∙◌, ℕ, length, ap, arith}
use Rattle.sessions.specs.Installed.{machine_at}
use Rattle.sessions.proofs.Changes.{mode_more}
use Rattle.sessions.proofs.news.modes.Goals as goal

pub loop-number-preserved : goal.loop-number-preserved
loop-number-preserved g c =
    let seen = g.I.Installation.goes.seen c.args.installation.now in
    let k = c.loop-number.number in
    let inside : k < length seen.machines =
    omega (arith, c.loop-number-test.true, c.users-number-end.ensures.machines, c.loop-number.auto.number-end) in
    mode_more seen c.loop-number.modes.items c.push.new.self.items k c.mode.result inside c.in_ok-push.ensures.items
    c.loop-number.invariant (c.mode.ensures ∙ ap (λ (u : ℕ). (machine_at seen u).mode) c.new.ensures)
