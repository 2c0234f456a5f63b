use Rattle.std.proofs.Common.{◌≡◌}
use Rattle.cp_frames.proofs.pool.Frames.restore_order.Given as goal

abbrev pub invariant-loop : goal.invariant-loop
invariant-loop l = record {
  storages : l.self.storages ≡ l.fn.self.storages;
  pins : l.self.supply.pins ≡ l.fn.self.supply.pins;
  owners : l.self.supply.owners ≡ l.fn.self.supply.owners;
}
