use Rattle.std.proofs.Common.{◌≡◌, ◌++◌, drop}
use Rattle.saved_bytes.specs.Codes.{each}
use Rattle.cp_dispatch.specs.Saved.{program_bytes}
use Rattle.cp_dispatch.proofs.saved.put_programs.Given as goal

abbrev pub invariant-loop-program : goal.invariant-loop-program
invariant-loop-program l = l.out.items ++ each program_bytes
    (drop l.program-index l.programs) ≡ l.fn.out.items ++ each program_bytes l.programs
