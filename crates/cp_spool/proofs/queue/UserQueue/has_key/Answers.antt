use Rattle.std.proofs.Common.{◌≡◌, ◌==◌, sym, ◌∙◌, Some}
use Rattle.std.specs.Prelude.{slice_get}
use Rattle.cp_spool.specs.declared.queue.Waiting.{Waiting}
use Rattle.cp_spool.proofs.Search.{any_here, any_past, equal, unequal}
use Rattle.cp_spool.proofs.queue.UserQueue.has_key.Goals as goal

pub returns-then-deck-key : goal.returns-then-deck-key
returns-then-deck-key c =
    let decks = c.args.self.now.decks in
    let found : slice_get decks c.loop-index.index ≡ Some c.in-Some.deck = sym c.in-Some.ensures.value in
    sym (c.loop-index.invariant ∙ any_here (λ (w : Waiting). w.key == c.args.key) decks c.loop-index.index
    c.in-Some.deck found (equal c.in-Some.deck.key c.args.key c.if-deck-key.true))

pub loop-index-preserved : goal.loop-index-preserved
loop-index-preserved c =
    let decks = c.args.self.now.decks in
    let found : slice_get decks c.loop-index.index ≡ Some c.in-Some.deck = sym c.in-Some.ensures.value in
    c.loop-index.invariant ∙ any_past (λ (w : Waiting). w.key == c.args.key) decks c.loop-index.index c.in-Some.deck
    found (unequal c.in-Some.deck.key c.args.key c.if-deck-key.false)
