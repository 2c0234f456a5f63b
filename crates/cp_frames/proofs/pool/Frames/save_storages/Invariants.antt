use Rattle.std.proofs.Common.{◌≡◌, ◌++◌, drop}
use Rattle.saved_bytes.specs.Codes.{each}
use Rattle.cp_frames.specs.Saved.{storage_bytes}
use Rattle.cp_frames.proofs.pool.Frames.save_storages.Given as goal

abbrev pub invariant-loop-user : goal.invariant-loop-user
invariant-loop-user l = l.out.items ++ each storage_bytes (drop l.user l.fn.self.storages) ≡ l.fn.out.items
    ++ each storage_bytes l.fn.self.storages
