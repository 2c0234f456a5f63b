use Rattle.std.proofs.Common.{◌≡◌, length, map}
use Rattle.cp_frames.proofs.pool.Frames.restore_storages.Given as goal

abbrev pub invariant-loop-user : goal.invariant-loop-user
invariant-loop-user l = record {
  sizes : map length l.self.storages ≡ map length l.fn.self.storages;
  supply : l.self.supply ≡ l.fn.self.supply;
}
