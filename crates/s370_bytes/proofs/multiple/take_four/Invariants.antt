use Rattle.std.proofs.Common.{◌≡◌}
use Rattle.s370_bytes.specs.Multiple.{loaded_from}
use Rattle.s370_bytes.proofs.multiple.take_four.Given as goal

abbrev pub invariant-loop-k : goal.invariant-loop-k
invariant-loop-k l = l.registers ≡ loaded_from l.words l.fn.registers 0 l.first l.k
