use Rattle.std.proofs.Common.{◌∙◌, ◌++◌, ◌∷◌, [], List, ap, sym, ℕ}
use Rattle.cp_spool.proofs.Search.{take_next}
use Rattle.cp_spool.proofs.seen.SeenDeck.to_vec.Goals as goal

pub loop-index-preserved : goal.loop-index-preserved
loop-index-preserved c =
    c.in_ok-push-in-Some.ensures.items
    ∙ ap (λ (cards : List (List ℕ)). cards ++ c.in-Some.card ∷ []) c.loop-index.invariant
    ∙ take_next c.args.self.now.cards c.loop-index.index c.in-Some.card (sym c.in-Some.ensures.value)
