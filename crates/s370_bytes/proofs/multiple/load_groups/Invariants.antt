use Rattle.std.proofs.Common.{◌≡◌, ◌*◌}
use Rattle.s370_bytes.specs.Multiple.{loaded_from}
use Rattle.s370_bytes.proofs.multiple.load_groups.Given as goal

abbrev pub invariant-loop-k : goal.invariant-loop-k
invariant-loop-k g l =
    l.registers ≡ loaded_from (g.S.Storage.memory l.storage).bytes l.fn.registers l.start l.first (4 * l.k)
