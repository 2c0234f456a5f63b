use Rattle.std.proofs.Common.{◌≡◌, ◌<◌, ℕ, List, length, map, set, subst, sym, refl, ◌∙◌, ap}
use Rattle.slab.specs.Slab.{Slab, get}
use Rattle.cp_spool.specs.File.{SpoolFileValue}
use Rattle.cp_spool.specs.Keys.{IsSound, QueueKeys, queue_of, user_files}
use Rattle.cp_spool.specs.Queues.{QueuesValue, UserFiles}
use Rattle.cp_spool.proofs.Sound.{sound_like}
use Rattle.cp_spool.proofs.Moves.{inside_of, roomier_sound, users_roomier}
use Rattle.cp_spool.proofs.queues.Queues.reserve.Goals as goal

module _ (files files' : Slab SpoolFileValue) (same : files' ≡ record files { capacity = files'.capacity })
    (queues queues' : List QueueKeys) (users : List UserFiles) (user : ℕ) (seen : map (user_files files) queues ≡ users)
    (inside : user < length users)
    (rest : (let q = queue_of queues' user in queues'
    ≡ set queues user (record (queue_of queues user) { punch_room = q.punch_room; print_room = q.print_room }))) where
  sound_now : IsSound files queues → IsSound files' queues'
  sound_now sound =
      subst (λ (qs : List QueueKeys). IsSound files' qs) (sym rest)
      (roomier_sound files' queues user (queue_of queues' user).punch_room (queue_of queues' user).print_room
      (inside_of files queues users user seen inside)
      (sound_like files files' (λ k. ap (λ (s : Slab SpoolFileValue). get s k) same) queues sound))

  users_now : map (user_files files') queues' ≡ users
  users_now =
      ap (λ (qs : List QueueKeys). map (user_files files') qs) rest
      ∙ users_roomier files' queues user (queue_of queues' user).punch_room (queue_of queues' user).print_room
      ∙ ap (λ (s : Slab SpoolFileValue). map (user_files s) queues) same
      ∙ seen

pub invariant_of-self : goal.invariant_of-self
invariant_of-self c =
    sound_like c.self.inside.files c.reserve.new.self
    (λ k. ap (λ (s : Slab SpoolFileValue). get s k) c.reserve.ensures.rest_kept) c.self.inside.users.items
    c.self.invariant

pub invariant_of-self-in_err-reserve_closed : goal.invariant_of-self-in_err-reserve_closed
invariant_of-self-in_err-reserve_closed c =
    sound_now c.self.inside.files c.reserve.new.self c.reserve.ensures.rest_kept c.self.inside.users.items
    c.reserve_closed.new.users.items c.args.self.now.users c.args.user
    (ap (λ (v : QueuesValue). v.users) c.self.view_is) c.requires c.reserve_closed.ensures.rest c.self.invariant

pub returns-in_err-reserve_closed-clause-users : goal.returns-in_err-reserve_closed-clause-users
returns-in_err-reserve_closed-clause-users c =
    users_now c.self.inside.files c.reserve.new.self c.reserve.ensures.rest_kept c.self.inside.users.items
    c.reserve_closed.new.users.items c.args.self.now.users c.args.user
    (ap (λ (v : QueuesValue). v.users) c.self.view_is) c.requires c.reserve_closed.ensures.rest

pub invariant_of-self-2 : goal.invariant_of-self-2
invariant_of-self-2 c =
    sound_now c.self.inside.files c.reserve.new.self c.reserve.ensures.rest_kept c.self.inside.users.items
    c.reserve_closed.new.users.items c.args.self.now.users c.args.user
    (ap (λ (v : QueuesValue). v.users) c.self.view_is) c.requires c.reserve_closed.ensures.rest c.self.invariant

pub returns-clause-users : goal.returns-clause-users
returns-clause-users c =
    users_now c.self.inside.files c.reserve.new.self c.reserve.ensures.rest_kept c.self.inside.users.items
    c.reserve_closed.new.users.items c.args.self.now.users c.args.user
    (ap (λ (v : QueuesValue). v.users) c.self.view_is) c.requires c.reserve_closed.ensures.rest
