use Rattle.std.proofs.Common.{arith, sym}
use Rattle.std.proofs.lemmas.Grind.{common_steps}
use Rattle.saved_bytes.specs.Codes.{bytes}
use Rattle.saved_bytes.proofs.Codes.{each_got}
use Rattle.cp_spool.proofs.saved.put_cards.Goals as goal

pub loop-index-preserved : goal.loop-index-preserved
loop-index-preserved c =
    grind (
      arith,
      common_steps,
      each_got bytes c.loop-index.out.items (c.args.deck.now.cards) c.loop-index.index c.in-Some.card
          (sym c.in-Some.ensures.value),
    )
