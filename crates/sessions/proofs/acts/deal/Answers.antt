use Rattle.std.proofs.Common.{◌≡◌, ℕ, ◌+◌, ◌-◌, ◌∙◌, ◌++◌, refl, arith, subst}
use Rattle.sessions.specs.Schedule.{scene, turn, turns}
use Rattle.sessions.specs.Session.{IsPlayed}
use Rattle.sessions.proofs.Histories.{on_err, partly_more, partly_rest, played_more, played_none, turns_around}
use Rattle.sessions.proofs.Histories.{turns_more}
use Rattle.sessions.proofs.acts.deal.Goals as goal

pub loop-turn-init : goal.loop-turn-init
loop-turn-init g c = record {
  so_far = played_none g.I.Installation.goes (scene c.args.installation.now c.args.policy.now c.args.detail)
      (g.W.HostWriter.contents c.args.writer.now) c.requires.dealing;
  spent = λ e. e;
  same = refl;
}

pub loop-turn-preserved : goal.loop-turn-preserved
loop-turn-preserved g c =
    let contents = g.W.HostWriter.contents in
    let k = c.loop-turn._turn in
    let old = scene c.args.installation.now c.args.policy.now c.args.detail in
    let mid = scene c.loop-turn.installation c.loop-turn.policy c.args.detail in
    let new = scene c.turn.new.installation c.turn.new.policy c.args.detail in
    record {
      so_far = rw (turns_more k)
          (played_more g.I.Installation.goes (turns k) turn old mid new (contents c.args.writer.now)
          (contents c.loop-turn.writer) (contents c.turn.new.writer) c.loop-turn.invariant.so_far
          c.in_ok-turn.ensures.ok);
      spent = λ e. c.loop-turn.invariant.spent (c.in_ok-turn.ensures.why.1 e);
      same = c.in_ok-turn.ensures.why.0 ∙ c.loop-turn.invariant.same;
    }

pub returns-in_err-turn-clause-err : goal.returns-in_err-turn-clause-err
returns-in_err-turn-clause-err g c =
    let i = g.I.Installation.goes in
    let contents = g.W.HostWriter.contents in
    let k = c.loop-turn._turn in
    let rest = c.args.count - (k + 1) in
    let old = scene c.args.installation.now c.args.policy.now c.args.detail in
    let mid = scene c.loop-turn.installation c.loop-turn.policy c.args.detail in
    let all : turns c.args.count ≡ (turns k ++ turn)
    ++ turns rest = turns_around k rest c.args.count (omega (arith, c.loop-turn-test.true)) in
    let both = partly_more i (turns k) turn old mid c.turn.new.installation (contents c.args.writer.now)
    (contents c.loop-turn.writer) (contents c.turn.new.writer) c.loop-turn.invariant.so_far
    c.in_err-turn.ensures.err in
    on_err c.from_residual.result
    (rw all (partly_rest i (turns k ++ turn) (turns rest) old c.turn.new.installation (contents c.args.writer.now)
    (contents c.turn.new.writer) both))

pub returns-clause-ok : goal.returns-clause-ok
returns-clause-ok g c =
    let contents = g.W.HostWriter.contents in
    let old = scene c.args.installation.now c.args.policy.now c.args.detail in
    let new = scene c.loop-turn.installation c.loop-turn.policy c.args.detail in
    let all : c.loop-turn._turn ≡ c.args.count = omega (arith, c.loop-turn-test.false, c.loop-turn.auto._turn-end) in
    subst (λ (k : ℕ). IsPlayed g.I.Installation.goes (turns k) old new (contents c.args.writer.now)
    (contents c.loop-turn.writer)) all c.loop-turn.invariant.so_far
