use Rattle.std.proofs.Common.{◌≡◌, ◌+◌, ◌*◌, ◌≤◌, ◌++◌, length}
use Rattle.std.specs.Option.{option_map}
use Rattle.cp_console.specs.Operands.{bytes_spelled}
use Rattle.cp_console.proofs.operands.bytes_spelled.Given as goal

-- the bytes so far are before those that are left
abbrev pub invariant-pairs : goal.invariant-pairs
invariant-pairs l = record {
  so_far : bytes_spelled l.word ≡ option_map (λ more. l.bytes ++ more) (bytes_spelled l.rest);
  room : 2 * length l.bytes + length l.rest ≤ 32;
}

abbrev pub decreases-pairs : goal.decreases-pairs
decreases-pairs l = length l.rest
