use Rattle.std.proofs.Common.{◌≡◌, ◌++◌, drop}
use Rattle.saved_bytes.specs.Codes.{each, number}
use Rattle.cp_core.proofs.saved.put_keys.Given as goal

abbrev pub invariant-loop-key : goal.invariant-loop-key
invariant-loop-key l = l.out.items ++ each number (drop l.key-index l.keys) ≡ l.fn.out.items ++ each number l.keys
