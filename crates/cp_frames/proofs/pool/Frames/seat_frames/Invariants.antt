use Rattle.std.proofs.Common.{◌≡◌, length, map}
use Rattle.cp_frames.proofs.pool.Frames.seat_frames.Given as goal

abbrev pub invariant-loop-frame : goal.invariant-loop-frame
invariant-loop-frame l = record {
  sizes : map length l.self.storages ≡ map length l.fn.self.storages;
  pins : l.self.supply.pins ≡ l.fn.self.supply.pins;
  frames : length l.self.supply.owners ≡ length l.fn.self.supply.owners;
}
