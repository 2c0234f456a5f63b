use Rattle.std.proofs.Common.{◌∙◌}
use Rattle.s370_bytes.proofs.Words.{group_stored, stored_none}
use Rattle.s370_bytes.proofs.multiple.store_groups.Goals as goal

pub loop-k-init : goal.loop-k-init
loop-k-init g c = record {
  stored = stored_none _ _;
  rest = g.met.S.Storage.keeps_same _;
  covers = c.requires.covers;
}

pub loop-k-preserved : goal.loop-k-preserved
loop-k-preserved g c = record {
  stored = c.store.ensures.stored
      ∙ rw (c.loop-k.invariant.stored, c.fill_four.ensures) (group_stored (g.S.Storage.memory c.args.storage.now)
      c.args.registers.now c.get-start.result c.args.first c.loop-k.k);
  rest = g.met.S.Storage.keeps_on _ _ _ c.loop-k.invariant.rest c.store.ensures.rest;
  covers = g.met.R.Reach.covers_kept _ _ _ _ _ c.store.ensures.rest c.loop-k.invariant.covers;
}
