use Rattle.std.proofs.Common.{◌≡◌, true, map, take}
use Rattle.session_script.specs.Script.{said}
use Rattle.sessions.specs.Schedule.{acts, scene}
use Rattle.sessions.specs.Session.{IsPlayed}
use Rattle.sessions.proofs.acts.play.Given as goal

abbrev pub invariant-loop-event : goal.invariant-loop-event
invariant-loop-event g l =
    let i = g.I.Installation.goes in
    record {
      so_far : IsPlayed i (acts (map said (take l.event-index l.events))) (scene l.fn.installation l.fn.policy l.detail)
          (scene l.installation l.policy l.detail) (g.W.HostWriter.contents l.fn.writer)
          (g.W.HostWriter.contents l.writer);
      spent : i.is_spent l.installation ≡ true → i.is_spent l.fn.installation ≡ true;
      same : g.W.HostFile.failures l.writer ≡ g.W.HostFile.failures l.fn.writer;
    }
