use Rattle.std.proofs.Common.{◌≡◌}
use Rattle.s370_bytes.specs.Translate.{translated}
use Rattle.s370_bytes.proofs.translate.translate_each.Given as goal

abbrev pub invariant-loop-k : goal.invariant-loop-k
invariant-loop-k g l = record {
  bytes : (g.S.Storage.memory l.storage).bytes ≡ translated (g.S.Storage.memory l.fn.storage).bytes l.to l.from l.k;
  rest : g.S.Storage.Keeps l.fn.storage l.storage;
}
