use Rattle.std.proofs.Common.{◌≡◌, ◌++◌, drop}
use Rattle.saved_bytes.specs.Codes.{each, number}
use Rattle.machine_panel.proofs.saved.put_registers.Given as goal

abbrev pub invariant-loop-register : goal.invariant-loop-register
invariant-loop-register l = l.out.items ++ each number (drop l.register-index l.registers) ≡ l.fn.out.items
    ++ each number l.registers
