use Rattle.std.proofs.Common.{◌≡◌, ◌++◌, drop}
use Rattle.saved_bytes.specs.Codes.{bytes, each}
use Rattle.unit_record.proofs.console.Console.put_waiting.Given as goal

abbrev pub invariant-loop-index : goal.invariant-loop-index
invariant-loop-index l = l.out.items ++ each bytes (drop l.index l.fn.self.waiting) ≡ l.fn.out.items
    ++ each bytes l.fn.self.waiting
