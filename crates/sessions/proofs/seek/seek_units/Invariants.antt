use Rattle.std.proofs.Common.{◌≡◌, true}
use Rattle.sessions.specs.Schedule.{scene}
use Rattle.sessions.proofs.SingleUnits.{IsQuiet}
use Rattle.sessions.proofs.seek.seek_units.Given as goal

abbrev pub invariant-loop-unit : goal.invariant-loop-unit
invariant-loop-unit g l =
    let i = g.I.Installation.goes in
    record {
      so_far : IsQuiet i l.seek l._unit (scene l.fn.installation l.fn.policy l.detail)
          (scene l.installation l.policy l.detail) (g.W.HostWriter.contents l.fn.writer)
          (g.W.HostWriter.contents l.writer);
      spent : i.is_spent l.installation ≡ true → i.is_spent l.fn.installation ≡ true;
      same : g.W.HostFile.failures l.writer ≡ g.W.HostFile.failures l.fn.writer;
    }
