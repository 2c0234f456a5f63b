use Rattle.std.proofs.Common.{◌≡◌, ◌++◌, drop}
use Rattle.saved_bytes.specs.Codes.{bytes, each}
use Rattle.cp_console.proofs.output.ConsoleOutput.save.Given as goal

abbrev pub invariant-loop-line : goal.invariant-loop-line
invariant-loop-line l = l.out.items ++ each bytes (drop l.line l.fn.self.lines) ≡ l.fn.out.items
    ++ each bytes l.fn.self.lines
