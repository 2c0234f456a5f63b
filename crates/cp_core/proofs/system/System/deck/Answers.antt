use Rattle.std.proofs.Common.{sym, subst}
use Rattle.cp_core.specs.Histories.{IsReplied}
use Rattle.machine_devices.specs.declared.event.Event.TheVariants.{Deck}
use Rattle.machine_devices.specs.declared.reply.Reply.{Reply}
use Rattle.cp_core.proofs.Steps.{deck_cut, deck_given, if_err, is_nothing, is_something, no_deck}
use Rattle.cp_core.proofs.system.System.deck.Goals as goal

pub returns-then-is_empty-clause-step : goal.returns-then-is_empty-clause-step
returns-then-is_empty-clause-step c =
    subst (λ (reply : Reply).
    IsReplied c.args.self.now
    (record { event = Deck c.args.user c.args.cards; reply = reply; seen = c.args.self.now }))
    (sym c.silent.ensures)
    (no_deck c.args.self.now c.args.user c.args.cards c.next_file-number.ensures.between
    (is_nothing c.args.cards.now c.is_empty.result c.is_empty.ensures c.if-is_empty.true))

pub returns-in_err-delivered-clause-cut : goal.returns-in_err-delivered-clause-cut
returns-in_err-delivered-clause-cut c =
    if_err c.from_residual.result _
    (deck_cut c.args.self.now c.give.new.self c.args.user c.args.cards c.next_file-number.ensures.between
    (is_something c.args.cards.now c.is_empty.result c.is_empty.ensures c.if-is_empty.false)
    c.in_err-delivered.ensures.err)

pub returns-clause-step : goal.returns-clause-step
returns-clause-step c =
    let g = c.in_ok-delivered.ensures in
    deck_given c.args.self.now c.give.new.self c.args.user c.args.cards c.in_ok-delivered.delivered
    c.next_file-number.ensures.between
    (is_something c.args.cards.now c.is_empty.result c.is_empty.ensures c.if-is_empty.false) g.delivered g.come
    g.rest
