use Rattle.std.proofs.Common.{◌∙◌}
use Rattle.s370_bytes.proofs.Words.{group_loaded}
use Rattle.s370_bytes.proofs.multiple.load_groups.Goals as goal

pub loop-k-preserved : goal.loop-k-preserved
loop-k-preserved g c =
    c.take_four.ensures ∙ rw (c.load.ensures, c.loop-k.invariant)
    (group_loaded (g.S.Storage.memory c.args.storage.now).bytes c.args.registers.now c.get-start.result c.args.first
    c.loop-k.k)
