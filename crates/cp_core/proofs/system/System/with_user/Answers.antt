use Rattle.std.proofs.Common.{rules, ◌≡◌, ◌∙◌, ap, arith, length, set, subst, sym, List, ℕ}
use Rattle.std.specs.Vec.{with_items}
use Rattle.std.proofs.lemmas.List.{with_items_is}
use Rattle.cp_frames.specs.Layout.{bytes_of}
use Rattle.cp_dat.specs.Supplied.{IsBetweenUnits}
use Rattle.cp_core.specs.Lending.{IsLeft, seat_of}
use Rattle.cp_core.specs.System.{SystemView}
use Rattle.cp_core.specs.UserMachines.{SeatParts, seat_on, seats_on, user_with}
use Rattle.cp_core.proofs.Systems.{has_seat}
use Rattle.cp_core.proofs.Owned.{length-seats}
use Rattle.cp_core.proofs.Lending.{IsSeat, confined_seen, does_seen, fits, keeps_seen, others_seen, owned, rest_seen}
use Rattle.cp_core.proofs.Lending.{seat_at, system_left, users}
use Rattle.cp_core.proofs.system.System.with_user.Goals as goal

pub index_mut-seat-requires : goal.index_mut-seat-requires
index_mut-seat-requires g c =
    let s = c.self.inside in
    let inside = has_seat (seats_on s.queues s.users.items) s.volumes s.frames.storages s.directory
    c.args.self.now.users c.args.user c.self.invariant.0.whole (ap (λ (v : SystemView). v.users) c.self.view_is)
    c.requires in
    omega (arith, inside, s.users.ok.0, length-seats s.queues s.users.items)

pub with_storage-requires : goal.with_storage-requires
with_storage-requires g c =
    let s = c.self.inside in
    let u = c.seat.inside in
    let seat : SeatParts = seat_of u.machine u.devices u.minidisks.items u.keys.items u.reuse in
    let at : IsSeat s.queues s.users.items s.volumes s.frames s.directory c.args.user seat =
    seat_at s.queues s.users.items s.volumes s.frames s.directory c.args.self.now.users c.args.user
    c.index_mut-seat.result.now seat c.self.invariant (ap (λ (v : SystemView). v.users) c.self.view_is) c.requires
    c.index_mut-seat.ensures.value c.seat.view_is in
    record {
      large = rw c.number_of-number.ensures (fits at).large;
      keyed = rw (c.number_of-number.ensures, c.deref_mut.ensures.value) (fits at).keyed;
      between = at.system.between;
      users = users at;
      owner = owned at;
    }

pub invariant_of-self : goal.invariant_of-self
invariant_of-self g c =
    let s = c.self.inside in
    let u = c.seat.inside in
    let n = c.with_storage.new in
    let q = n.shared.queues.now in
    let volumes = n.shared.volumes.now in
    let frames = n.shared.frames.now in
    let seat : SeatParts = seat_of u.machine u.devices u.minidisks.items u.keys.items u.reuse in
    let seat' : SeatParts = seat_of n.machine n.devices n.minidisks.items (with_items u.keys n.keys).items n.reuse in
    let at : IsSeat s.queues s.users.items s.volumes s.frames s.directory c.args.user seat =
    seat_at s.queues s.users.items s.volumes s.frames s.directory c.args.self.now.users c.args.user
    c.index_mut-seat.result.now seat c.self.invariant (ap (λ (v : SystemView). v.users) c.self.view_is) c.requires
    c.index_mut-seat.ensures.value c.seat.view_is in
    let first = c.with_storage.ensures.left.left in
    let left : IsLeft s.queues q s.volumes volumes s.frames frames c.args.user seat seat' = record {
      others = subst (λ (k : ℕ). frames.storages ≡ set s.frames.storages k (bytes_of frames k))
          c.number_of-number.ensures first.others;
      size = subst (λ (k : ℕ). length (bytes_of frames k) ≡ length (bytes_of s.frames k)) c.number_of-number.ensures
          first.size;
      keys = sym (with_items u.keys n.keys).ok.0 ∙ u.keys.ok.0;
      between = first.between;
      other_users = first.other_users;
      other_disks = first.other_disks;
    } in
    let all = system_left at left in
    search rules

pub returns : goal.returns
returns g c =
    let s = c.self.inside in
    let u = c.seat.inside in
    let n = c.with_storage.new in
    let q = n.shared.queues.now in
    let volumes = n.shared.volumes.now in
    let frames = n.shared.frames.now in
    let seat : SeatParts = seat_of u.machine u.devices u.minidisks.items u.keys.items u.reuse in
    let seat' : SeatParts = seat_of n.machine n.devices n.minidisks.items (with_items u.keys n.keys).items n.reuse in
    let at : IsSeat s.queues s.users.items s.volumes s.frames s.directory c.args.user seat =
    seat_at s.queues s.users.items s.volumes s.frames s.directory c.args.self.now.users c.args.user
    c.index_mut-seat.result.now seat c.self.invariant (ap (λ (v : SystemView). v.users) c.self.view_is) c.requires
    c.index_mut-seat.ensures.value c.seat.view_is in
    let first = c.with_storage.ensures.left.left in
    let left : IsLeft s.queues q s.volumes volumes s.frames frames c.args.user seat seat' = record {
      others = subst (λ (k : ℕ). frames.storages ≡ set s.frames.storages k (bytes_of frames k))
          c.number_of-number.ensures first.others;
      size = subst (λ (k : ℕ). length (bytes_of frames k) ≡ length (bytes_of s.frames k)) c.number_of-number.ensures
          first.size;
      keys = sym (with_items u.keys n.keys).ok.0 ∙ u.keys.ok.0;
      between = first.between;
      other_users = first.other_users;
      other_disks = first.other_disks;
    } in
    let Done : ℕ → List ℕ → List ℕ → Type 0 =
    λ k before after. g.W.UserOp.Does c.args.work.now s.directory k
    (user_with (seat_on s.queues (record seat { keys = before })) s.volumes (bytes_of s.frames k)) s.frames.supply
    c.with_storage.result (user_with (seat_on q (record seat' { keys = after })) volumes (bytes_of frames k))
    frames.supply in
    let begun : Done c.args.user c.deref_mut.result.now n.keys =
    subst (λ (k : ℕ). Done k c.deref_mut.result.now n.keys) c.number_of-number.ensures c.with_storage.ensures.does in
    let second : Done c.args.user u.keys.items n.keys =
    subst (λ (ks : List ℕ). Done c.args.user ks n.keys) c.deref_mut.ensures.value begun in
    let done : Done c.args.user u.keys.items (with_items u.keys n.keys).items =
    subst (λ (ks : List ℕ). Done c.args.user u.keys.items ks)
    (sym (with_items_is u.keys n.keys (omega (arith, c.with_storage.auto.keys, c.deref_mut.ensures.len)))) second in
    let Kept : ℕ → List ℕ → Type 0 =
    λ k before. g.W.UserOp.Keeps c.args.work.now k
    (user_with (seat_on s.queues (record seat { keys = before })) s.volumes (bytes_of s.frames k)) s.frames.supply
    c.with_storage.result u.reuse n.reuse in
    let kept : Kept c.args.user u.keys.items =
    subst (λ (ks : List ℕ). Kept c.args.user ks) c.deref_mut.ensures.value
    (subst (λ (k : ℕ). Kept k c.deref_mut.result.now) c.number_of-number.ensures c.with_storage.ensures.keeps) in
    let does = does_seen at left s.files.items s.is_spent c.args.self.now c.self.view_is c.requires
    (λ directory old supply new.
    g.W.UserOp.Does c.args.work.now directory c.args.user old supply c.with_storage.result new frames.supply) done in
    let keeps = keeps_seen at left s.files.items s.is_spent c.args.self.now c.self.view_is c.requires
    (λ e supply old new. g.W.UserOp.Keeps c.args.work.now c.args.user e supply c.with_storage.result old new) kept in
    let others_kept = others_seen at left s.files.items s.is_spent c.args.self.now c.self.view_is c.requires in
    let rest = rest_seen at left s.files.items s.is_spent c.args.self.now c.self.view_is c.requires in
    let confined = confined_seen at left s.files.items s.is_spent c.args.self.now c.self.view_is c.requires in
    record {
      does = search rules;
      keeps = search rules;
      others_kept = search rules;
      rest = search rules;
      confined = search rules;
      between_before = subst (λ (v : SystemView). IsBetweenUnits v.supply) c.self.view_is at.system.between;
      between = search rules;
    }
