use Rattle.std.proofs.Common.{◌≡◌, true}
use Rattle.sessions.specs.Schedule.{scene, turns}
use Rattle.sessions.specs.Session.{IsPlayed}
use Rattle.sessions.proofs.acts.deal.Given as goal

abbrev pub invariant-loop-turn : goal.invariant-loop-turn
invariant-loop-turn g l =
    let i = g.I.Installation.goes in
    record {
      so_far : IsPlayed i (turns l._turn) (scene l.fn.installation l.fn.policy l.detail)
          (scene l.installation l.policy l.detail) (g.W.HostWriter.contents l.fn.writer)
          (g.W.HostWriter.contents l.writer);
      spent : i.is_spent l.installation ≡ true → i.is_spent l.fn.installation ≡ true;
      same : g.W.HostFile.failures l.writer ≡ g.W.HostFile.failures l.fn.writer;
    }
