use Rattle.std.proofs.Common.{◌∙◌}
use Rattle.s370_bytes.proofs.Words.{word_stored}
use Rattle.s370_bytes.proofs.multiple.store_registers.Goals as goal

pub loop-k-preserved : goal.loop-k-preserved
loop-k-preserved g c = record {
  stored = c.store_word_at.ensures.stored ∙ rw c.loop-k.invariant.stored (word_stored
      (g.S.Storage.memory c.args.storage.now) c.args.registers.now c.get-start.result c.index-first.result
      c.loop-k.k);
  rest = g.met.S.Storage.keeps_on _ _ _ c.loop-k.invariant.rest c.store_word_at.ensures.rest;
  covers = g.met.R.Reach.covers_kept _ _ _ _ _ c.store_word_at.ensures.rest c.loop-k.invariant.covers;
}
