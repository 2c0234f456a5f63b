use Rattle.std.proofs.Common.{◌≡◌, ◌<◌, List, length, map, subst, sym, refl, ◌∙◌, ap, Some, None, arith}
use Rattle.std.specs.Prelude.{slice_get}
use Rattle.cp_spool.specs.declared.queue.Waiting.{Waiting}
use Rattle.cp_spool.specs.Keys.{IsSound, QueueKeys, queue_of, user_files}
use Rattle.cp_spool.specs.Queues.{QueuesValue, deck_of, files_of, with_deck, with_files}
use Rattle.cp_spool.proofs.Moves.{inside_of, none_inside, punched_seen, sound_delivered, users_delivered}
use Rattle.cp_spool.proofs.queues.Queues.send.Goals as goal

pub unreachable-requires : goal.unreachable-requires
unreachable-requires c =
    let files = c.self.inside.files in
    let queues = c.self.inside.users.items in
    let is = c.queue_at.ensures ∙ ap (λ (qs : List QueueKeys). queue_of qs c.args.from) c.deref.ensures.value in
    let within : c.args.index < length (queue_of queues c.args.from).punched =
    punched_seen files queues c.args.self.now.users c.args.from c.args.index
    (ap (λ (v : QueuesValue). v.users) c.self.view_is) c.requires.index in
    let none : slice_get (queue_of queues c.args.from).punched c.args.index ≡ None =
    ap (λ (q : QueueKeys). slice_get q.punched c.args.index) (sym is) ∙ sym c.punched.ensures.value ∙ c.in-None.is
    in
    none_inside (queue_of queues c.args.from).punched c.args.index within none

pub invariant_of-self : goal.invariant_of-self
invariant_of-self c = subst (λ (qs : List QueueKeys). IsSound c.self.inside.files qs)
    (sym c.in_err-push_waiting.ensures.err) c.self.invariant

pub invariant_of-self-2 : goal.invariant_of-self-2
invariant_of-self-2 c =
    let files = c.self.inside.files in
    let queues = c.self.inside.users.items in
    let w : Waiting = record { label = c.args.label; sender = c.args.sender; key = c.in-Some.key } in
    let seen = ap (λ (v : QueuesValue). v.users) c.self.view_is in
    let is = c.queue_at.ensures ∙ ap (λ (qs : List QueueKeys). queue_of qs c.args.from) c.deref.ensures.value in
    let within : c.args.index < length (queue_of queues c.args.from).punched =
    punched_seen files queues c.args.self.now.users c.args.from c.args.index seen c.requires.index in
    let found : slice_get (queue_of queues c.args.from).punched c.args.index ≡ Some c.in-Some.key =
    ap (λ (q : QueueKeys). slice_get q.punched c.args.index) (sym is) ∙ sym c.punched.ensures.value ∙ c.in-Some.is
    in
    subst (λ (qs : List QueueKeys). IsSound files qs) (sym c.in_ok-push_waiting.ensures.ok)
    (sound_delivered files queues c.args.from c.args.index c.args.to c.in-Some.key c.self.invariant
    (inside_of files queues c.args.self.now.users c.args.to seen c.requires.to) within found w refl)

pub returns-clause-ok : goal.returns-clause-ok
returns-clause-ok c =
    let files = c.self.inside.files in
    let queues = c.self.inside.users.items in
    let w : Waiting = record { label = c.args.label; sender = c.args.sender; key = c.in-Some.key } in
    let seen = ap (λ (v : QueuesValue). v.users) c.self.view_is in
    let is = c.queue_at.ensures ∙ ap (λ (qs : List QueueKeys). queue_of qs c.args.from) c.deref.ensures.value in
    let within : c.args.index < length (queue_of queues c.args.from).punched =
    punched_seen files queues c.args.self.now.users c.args.from c.args.index seen c.requires.index in
    let found : slice_get (queue_of queues c.args.from).punched c.args.index ≡ Some c.in-Some.key =
    ap (λ (q : QueueKeys). slice_get q.punched c.args.index) (sym is) ∙ sym c.punched.ensures.value ∙ c.in-Some.is
    in
    ap (λ (qs : List QueueKeys). map (user_files files) qs) c.in_ok-push_waiting.ensures.ok
    ∙ users_delivered files queues c.args.from c.args.index c.args.to c.in-Some.key c.self.invariant
    (inside_of files queues c.args.self.now.users c.args.to seen c.requires.to) within found w refl
    ∙ ap (λ (v : QueuesValue).
    with_files c.args.to (with_deck
    (deck_of ((files_of v.users c.args.from).punched) c.args.index c.args.label c.args.sender)
    (files_of v.users c.args.to)) v.users) c.self.view_is
