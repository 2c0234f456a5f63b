use Rattle.std.proofs.Common.{◌≡◌, ◌<◌, ℕ, List, length, map, subst, sym, ◌∙◌, ap, false, refl}
use Rattle.std.proofs.Math.Seq.{map-set_same}
use Rattle.cp_spool.specs.File.{SpoolFileValue, closed_file, is_deck}
use Rattle.cp_spool.specs.Keys.{IsMade, IsSound, QueueKeys, no_keys, queue_of, user_files, with_printed_key}
use Rattle.cp_spool.specs.Queues.{QueuesValue, file_of, files_of, with_files, with_printed}
use Rattle.cp_spool.proofs.Moves.{print_there, sound_closed_print, users_closed_print}
use Rattle.cp_spool.proofs.queues.Queues.close_printed.Goals as goal

pub invariant_of-self : goal.invariant_of-self
invariant_of-self c =
    let files = c.self.inside.files in
    let queues = c.self.inside.users.items in
    let inside : c.args.user < length queues =
    print_there queues c.args.self.now.room.printed c.args.user
    (ap (λ (v : QueuesValue). v.room.printed) c.self.view_is) c.requires.room in
    let made : IsMade c.new.result = ap (λ (x : SpoolFileValue). is_deck x.contents) c.new.ensures in
    subst (λ (qs : List QueueKeys). IsSound c.insert_reserved-key.new.self qs) (sym c.push_printed.ensures)
    (sound_closed_print files c.insert_reserved-key.new.self queues c.args.user c.insert_reserved-key.result
    c.new.result c.self.invariant c.insert_reserved-key.ensures.was_vacant c.insert_reserved-key.ensures.updates
    inside made)

pub returns-clause-users : goal.returns-clause-users
returns-clause-users c =
    let files = c.self.inside.files in
    let queues = c.self.inside.users.items in
    let inside : c.args.user < length queues =
    print_there queues c.args.self.now.room.printed c.args.user
    (ap (λ (v : QueuesValue). v.room.printed) c.self.view_is) c.requires.room in
    let us = map (user_files files) queues in
    ap (λ (qs : List QueueKeys). map (user_files c.insert_reserved-key.new.self) qs) c.push_printed.ensures
    ∙ users_closed_print files c.insert_reserved-key.new.self queues c.args.user c.insert_reserved-key.result
    c.new.result c.self.invariant c.insert_reserved-key.ensures.was_vacant c.insert_reserved-key.ensures.updates
    inside
    ∙ ap (λ (x : SpoolFileValue). with_files c.args.user (with_printed (closed_file x) (files_of us c.args.user)) us)
    c.new.ensures
    ∙ ap (λ (v : QueuesValue).
    with_files c.args.user (with_printed (file_of c.args.to c.args.entries.items) (files_of v.users c.args.user))
    v.users) c.self.view_is

pub returns-clause-punched : goal.returns-clause-punched
returns-clause-punched c =
    let queues = c.self.inside.users.items in
    ap (λ (qs : List QueueKeys). map (λ (q : QueueKeys). q.punch_room) qs) c.push_printed.ensures
    ∙ map-set_same (λ (q : QueueKeys). q.punch_room) queues c.args.user
    (with_printed_key c.insert_reserved-key.result (queue_of queues c.args.user)) no_keys refl
    ∙ ap (λ (v : QueuesValue). v.room.punched) c.self.view_is
