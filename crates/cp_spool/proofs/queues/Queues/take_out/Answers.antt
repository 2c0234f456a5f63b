use Rattle.std.proofs.Common.{◌<◌, List, length, map, subst, sym, refl, ◌∙◌, ap}
use Rattle.slab.specs.Slab.{get}
use Rattle.cp_spool.specs.Keys.{IsSound, QueueKeys, is_given, queue_of, user_files}
use Rattle.cp_spool.specs.Queues.{QueuesValue, files_of, with_files, without_deck}
use Rattle.cp_spool.proofs.Moves.{deck_inside, decks_seen, keys_seen, sound_taken, users_taken}
use Rattle.cp_spool.proofs.queues.Queues.take_out.Goals as goal

pub invariant_of-self : goal.invariant_of-self
invariant_of-self c =
    let files = c.self.inside.files in
    let queues = c.self.inside.users.items in
    let there : c.args.index < length (queue_of queues c.args.user).decks =
    decks_seen files queues c.args.self.now.users c.args.user c.args.index
    (ap (λ (v : QueuesValue). v.users) c.self.view_is) c.requires in
    subst (λ (qs : List QueueKeys). IsSound c.discard.new.files qs) (sym c.take_waiting-key.ensures.after)
    (sound_taken files c.discard.new.files queues c.args.user c.args.index c.take_waiting-key.result c.self.invariant
    (deck_inside queues c.args.user c.args.index there) (keys_seen (queue_of queues c.args.user) c.args.index there)
    (sym c.take_waiting-key.ensures.key) (is_given (get files c.take_waiting-key.result)) refl
    c.discard.ensures.given c.discard.ensures.made)

pub returns : goal.returns
returns c =
    let files = c.self.inside.files in
    let queues = c.self.inside.users.items in
    let there : c.args.index < length (queue_of queues c.args.user).decks =
    decks_seen files queues c.args.self.now.users c.args.user c.args.index
    (ap (λ (v : QueuesValue). v.users) c.self.view_is) c.requires in
    ap (λ (qs : List QueueKeys). map (user_files c.discard.new.files) qs) c.take_waiting-key.ensures.after
    ∙ users_taken files c.discard.new.files queues c.args.user c.args.index c.take_waiting-key.result c.self.invariant
    (deck_inside queues c.args.user c.args.index there) (keys_seen (queue_of queues c.args.user) c.args.index there)
    (sym c.take_waiting-key.ensures.key) (is_given (get files c.take_waiting-key.result)) refl
    c.discard.ensures.given c.discard.ensures.made
    ∙ ap (λ (v : QueuesValue).
    with_files c.args.user (without_deck c.args.index (files_of v.users c.args.user)) v.users) c.self.view_is
