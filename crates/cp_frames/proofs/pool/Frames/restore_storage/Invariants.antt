use Rattle.std.proofs.Common.{◌≡◌, length, map}
use Rattle.cp_frames.proofs.pool.Frames.restore_storage.Given as goal

abbrev pub invariant-loop-page : goal.invariant-loop-page
invariant-loop-page l = record {
  sizes : map length l.self.storages ≡ map length l.fn.self.storages;
  supply : l.self.supply ≡ l.fn.self.supply;
}
