use Rattle.std.proofs.Common.{◌≡◌, ◌+◌, ◌<◌, ◌≤◌, ◌⊎◌}
use Rattle.s370_walk.specs.Walk.{Moving, Reaches, live}
use Rattle.s370_channel.specs.Progress.{setting}
use Rattle.s370_channel.proofs.moving.transfer.Given as goal

abbrev pub invariant-bytes : goal.invariant-bytes
invariant-bytes g l = record {
  reaches : Reaches (live (g.F.WordForm.written l.fn.program)) (setting g.D.Device.machine l.fn.limits)
      (Moving l.fn.position (g.S.Storage.memory l.fn.storage) l.fn.device)
      (Moving l.p (g.S.Storage.memory l.storage) l.device);
  present : g.S.Storage.present l.storage ≡ g.S.Storage.present l.fn.storage;
  rest : g.S.Storage.Keeps l.fn.storage l.storage;
  started : l.p.started ≡ l.fn.position.started;
  step : l.p.count + l.fn.position.transfer.left ≡ l.fn.position.count + l.p.transfer.left;
  less : l.p.transfer.left ≤ l.fn.position.transfer.left;
  within : l.p.count ≤ l.p.word.count;
  on : ((l.p ≡ l.fn.position) × (g.S.Storage.memory l.storage ≡ g.S.Storage.memory l.fn.storage)
      × (l.device ≡ l.fn.device)) ⊎ (l.p.transfer.left < l.fn.position.transfer.left);
}

abbrev pub decreases-bytes : goal.decreases-bytes
decreases-bytes g l = l.p.count
