use Rattle.std.proofs.Common.{◌≡◌, ◌<◌, ℕ, List, length, map, subst, sym, refl, ◌∙◌, ap, Some, None}
use Rattle.slab.specs.Slab.{Slab, get}
use Rattle.unit_record.specs.declared.output.Target.TheVariants as targets
use Rattle.unit_record.specs.Reader.{DeckValue}
use Rattle.cp_spool.specs.declared.queue.Waiting.{Waiting}
use Rattle.cp_spool.specs.File.{SpoolFileValue, cards_in}
use Rattle.cp_spool.specs.Keys.{IsSound, QueueKeys, user_files}
use Rattle.cp_spool.specs.Queues.{QueuesValue, UserFiles, files_of, with_deck, with_files}
use Rattle.cp_spool.proofs.Sound.{sound_like}
use Rattle.cp_spool.proofs.Moves.{inside_of, sound_given, users_given}
use Rattle.cp_spool.proofs.queues.Queues.give.Goals as goal

pub invariant_of-self : goal.invariant_of-self
invariant_of-self c =
    sound_like c.self.inside.files c.reserve.new.self
    (λ k. ap (λ (s : Slab SpoolFileValue). get s k) c.reserve.ensures.rest_kept) c.self.inside.users.items
    c.self.invariant

pub invariant_of-self-in_err-push_waiting : goal.invariant_of-self-in_err-push_waiting
invariant_of-self-in_err-push_waiting c =
    subst (λ (qs : List QueueKeys). IsSound c.reserve.new.self qs) (sym c.in_err-push_waiting.ensures.err)
    (sound_like c.self.inside.files c.reserve.new.self
    (λ k. ap (λ (s : Slab SpoolFileValue). get s k) c.reserve.ensures.rest_kept) c.self.inside.users.items
    c.self.invariant)

pub invariant_of-self-2 : goal.invariant_of-self-2
invariant_of-self-2 c =
    let queues = c.self.inside.users.items in
    let w : Waiting = record { label = c.args.label; sender = c.args.sender; key = c.vacant_key-key.result } in
    let sound : IsSound c.reserve.new.self queues =
    sound_like c.self.inside.files c.reserve.new.self
    (λ k. ap (λ (s : Slab SpoolFileValue). get s k) c.reserve.ensures.rest_kept) queues c.self.invariant in
    let inside : c.args.user < length queues =
    inside_of c.self.inside.files queues c.args.self.now.users c.args.user
    (ap (λ (v : QueuesValue). v.users) c.self.view_is) c.requires in
    let key : c.vacant_key-key.result ≡ c.insert_reserved-key.result =
    c.vacant_key-key.ensures.value ∙ sym c.insert_reserved-key.ensures.key in
    subst (λ (qs : List QueueKeys). IsSound c.insert_reserved-key.new.self qs) (sym c.in_ok-push_waiting.ensures.ok)
    (sound_given c.reserve.new.self c.insert_reserved-key.new.self queues c.args.user c.insert_reserved-key.result
    c.new.result sound c.insert_reserved-key.ensures.was_vacant c.insert_reserved-key.ensures.updates inside w key
    (λ deck. ap (λ (f : SpoolFileValue). f.target) c.new.ensures ∙ ap (λ (n : ℕ). targets.User n)
    c.number.ensures.value))

pub returns-clause-ok : goal.returns-clause-ok
returns-clause-ok c =
    let queues = c.self.inside.users.items in
    let w : Waiting = record { label = c.args.label; sender = c.args.sender; key = c.vacant_key-key.result } in
    let sound : IsSound c.reserve.new.self queues =
    sound_like c.self.inside.files c.reserve.new.self
    (λ k. ap (λ (s : Slab SpoolFileValue). get s k) c.reserve.ensures.rest_kept) queues c.self.invariant in
    let inside : c.args.user < length queues =
    inside_of c.self.inside.files queues c.args.self.now.users c.args.user
    (ap (λ (v : QueuesValue). v.users) c.self.view_is) c.requires in
    let key : c.vacant_key-key.result ≡ c.insert_reserved-key.result =
    c.vacant_key-key.ensures.value ∙ sym c.insert_reserved-key.ensures.key in
    ap (λ (qs : List QueueKeys). map (user_files c.insert_reserved-key.new.self) qs) c.in_ok-push_waiting.ensures.ok
    ∙ users_given c.reserve.new.self c.insert_reserved-key.new.self queues c.args.user c.insert_reserved-key.result
    c.new.result sound c.insert_reserved-key.ensures.was_vacant c.insert_reserved-key.ensures.updates inside w key
    ∙ ap (λ (f : SpoolFileValue).
    let d : DeckValue = record { label = c.args.label; sender = c.args.sender; cards = cards_in f.contents } in
    with_files c.args.user (with_deck d (files_of (map (user_files c.reserve.new.self) queues) c.args.user))
    (map (user_files c.reserve.new.self) queues)) c.new.ensures
    ∙ ap (λ (us : List UserFiles).
    let d : DeckValue = record { label = c.args.label; sender = c.args.sender; cards = c.args.cards.items } in
    with_files c.args.user (with_deck d (files_of us c.args.user)) us)
    (ap (λ (s : Slab SpoolFileValue). map (user_files s) queues) c.reserve.ensures.rest_kept ∙ ap
    (λ (v : QueuesValue). v.users) c.self.view_is)
