use Rattle.std.proofs.Common.{◌≡◌, ◌++◌, drop}
use Rattle.saved_bytes.specs.Codes.{each}
use Rattle.cp_spool.specs.Queues.{files_of}
use Rattle.cp_spool.specs.Saved.{file_bytes}
use Rattle.cp_spool.specs.File.{closed_file}
use Rattle.cp_spool.proofs.queues.Queues.put_punched.Given as goal

abbrev pub invariant-loop-index : goal.invariant-loop-index
invariant-loop-index l = l.out.items
    ++ each file_bytes (drop l.index ((files_of l.fn.self.users l.user).punched)) ≡ l.fn.out.items
    ++ each file_bytes ((files_of l.fn.self.users l.user).punched)
