use Rattle.std.proofs.Common.{◌≡◌, ◌*◌}
use Rattle.s370_store.specs.Memory.{with_stored}
use Rattle.s370_bytes.specs.Multiple.{words_from}
use Rattle.s370_bytes.proofs.multiple.store_groups.Given as goal

abbrev pub invariant-loop-k : goal.invariant-loop-k
invariant-loop-k g l = record {
  stored : g.S.Storage.memory l.storage ≡ with_stored (g.S.Storage.memory l.fn.storage) l.start
      (words_from l.registers l.first (4 * l.k));
  rest : g.S.Storage.Keeps l.fn.storage l.storage;
  covers : g.R.Reach.Covers l.storage l.fn.address (16 * l.groups) l.span;
}
