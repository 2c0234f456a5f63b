use Rattle.std.proofs.Common.{arith, sym}
use Rattle.std.proofs.lemmas.Grind.{common_steps}
use Rattle.saved_bytes.proofs.Codes.{each_got}
use Rattle.cp_spool.specs.Queues.{files_of}
use Rattle.cp_spool.specs.Saved.{deck_bytes}
use Rattle.cp_spool.proofs.queues.Queues.put_decks.Goals as goal

pub loop-index-preserved : goal.loop-index-preserved
loop-index-preserved c =
    grind (
      arith,
      common_steps,
      each_got deck_bytes c.loop-index.out.items ((files_of c.args.self.now.users c.args.user).decks)
          c.loop-index.index c.in-Some.deck (sym c.in-Some.ensures.value),
    )
