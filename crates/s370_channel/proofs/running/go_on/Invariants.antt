use Rattle.s370_walk.specs.Walk.{Fetching, Reaches, live}
use Rattle.s370_channel.specs.Progress.{setting, weight}
use Rattle.s370_channel.proofs.Halts.{IsSameOrLighter}
use Rattle.s370_channel.proofs.running.go_on.Given as goal

abbrev pub invariant-words : goal.invariant-words
invariant-words g l = record {
  reaches : Reaches (live (g.F.WordForm.written l.fn.program)) (setting g.D.Device.machine l.fn.limits)
      (Fetching l.fn.from (g.S.Storage.memory l.fn.storage) l.fn.device)
      (Fetching l.spot (g.S.Storage.memory l.storage) l.device);
  rest : g.S.Storage.Keeps l.fn.storage l.storage;
  on : IsSameOrLighter l.fn.limits.commands l.fn.from (g.S.Storage.memory l.fn.storage) l.fn.device l.spot
      (g.S.Storage.memory l.storage) l.device;
}

abbrev pub decreases-words : goal.decreases-words
decreases-words g l = weight l.limits.commands l.spot
