use Rattle.std.proofs.Common.{◌≡◌, ◌<◌, List, length, subst, sym, ◌∙◌, ap, Some, None}
use Rattle.std.specs.Prelude.{slice_get}
use Rattle.cp_spool.specs.Keys.{QueueKeys, queue_of}
use Rattle.cp_spool.proofs.Moves.{file_there}
use Rattle.cp_spool.proofs.queues.Queues.deck.Goals as goal

pub returns-in-None-clause-value : goal.returns-in-None-clause-value
returns-in-None-clause-value c =
    let queues = c.self.inside.users.items in
    let is = c.queue_at.ensures ∙ ap (λ (qs : List QueueKeys). queue_of qs c.args.user) c.deref.ensures.value in
    let found : slice_get (queue_of queues c.args.user).decks c.args.index ≡ Some c.in_ok-waiting.waiting =
    ap (λ (q : QueueKeys). slice_get q.decks c.args.index) (sym is) ∙ sym c.deck.ensures.value ∙ c.in_ok-waiting.was
    in
    let inside : c.args.index < length (queue_of queues c.args.user).decks =
    subst (λ (q : QueueKeys). c.args.index < length q.decks) is c.in_ok-waiting.ensures.inside in
    absurd (file_there c.self.inside.files queues c.args.user c.args.index c.in_ok-waiting.waiting c.self.invariant
    inside found (sym c.in-None.ensures))
