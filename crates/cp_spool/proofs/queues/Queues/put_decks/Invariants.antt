use Rattle.std.proofs.Common.{◌≡◌, ◌++◌, drop}
use Rattle.saved_bytes.specs.Codes.{each}
use Rattle.cp_spool.specs.Queues.{files_of}
use Rattle.cp_spool.specs.Saved.{deck_bytes}
use Rattle.cp_spool.proofs.queues.Queues.put_decks.Given as goal

abbrev pub invariant-loop-index : goal.invariant-loop-index
invariant-loop-index l = l.out.items
    ++ each deck_bytes (drop l.index ((files_of l.fn.self.users l.user).decks)) ≡ l.fn.out.items
    ++ each deck_bytes ((files_of l.fn.self.users l.user).decks)
