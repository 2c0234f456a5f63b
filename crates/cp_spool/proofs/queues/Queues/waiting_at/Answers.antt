use Rattle.std.proofs.Common.{◌≡◌, ◌==◌, sym, ◌∙◌, Some}
use Rattle.std.specs.Prelude.{slice_get}
use Rattle.unit_record.specs.Reader.{DeckValue}
use Rattle.cp_spool.specs.Queues.{files_of}
use Rattle.cp_spool.proofs.Search.{equal, position_here, position_past, unequal}
use Rattle.cp_spool.proofs.queues.Queues.waiting_at.Goals as goal

pub returns-then-label-clause-value : goal.returns-then-label-clause-value
returns-then-label-clause-value c =
    let decks = (files_of c.args.self.now.users c.args.user).decks in
    let found : slice_get decks c.loop-index.index ≡ Some c.in-Some.deck = sym c.in-Some.ensures.value in
    sym (c.loop-index.invariant ∙ position_here (λ (deck : DeckValue). deck.label == c.args.label) decks
    c.loop-index.index c.in-Some.deck found
    (equal c.in-Some.deck.label c.args.label (sym c.label.ensures ∙ c.if-label.true)))

pub loop-index-preserved : goal.loop-index-preserved
loop-index-preserved c =
    let decks = (files_of c.args.self.now.users c.args.user).decks in
    let found : slice_get decks c.loop-index.index ≡ Some c.in-Some.deck = sym c.in-Some.ensures.value in
    c.loop-index.invariant ∙ position_past (λ (deck : DeckValue). deck.label == c.args.label) decks c.loop-index.index
    c.in-Some.deck found (unequal c.in-Some.deck.label c.args.label (λ e. c.if-label.false (c.label.ensures ∙ e)))
