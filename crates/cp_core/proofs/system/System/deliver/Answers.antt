use Rattle.std.proofs.Common.{◌≡◌, ◌∙◌, ◌<◌, ◌++◌, ◌∷◌, [], ap, arith, get_or, length, set, subst, sym, List, ℕ, refl}
use Rattle.std.proofs.lemmas.List.{get_or_default}
use Rattle.cp_volumes.proofs.Seats.{neighbours_still}
use Rattle.cp_spool.specs.Queues.{KeepsOthers}
use Rattle.cp_core.specs.UserMachines.{Fits, UserParts, seat_on, seats_on, user_with}
use Rattle.cp_core.specs.Whole.{IsSystem, no_user}
use Rattle.cp_volumes.specs.Shared.{SharedMinidisk, placements_of}
use Rattle.s370_channel.specs.Reading.{as_reached}
use Rattle.cp_dat.specs.Lent.{set_own}
use Rattle.machine_devices.specs.Equipped.{Equipped, nobody}
use Rattle.machine_devices.specs.Life.{Event as Local, Leaves}
use Rattle.cp_core.specs.Parcels.{contents}
use Rattle.cp_core.specs.System.{SystemView, user_at, users_of}
use Rattle.cp_core.proofs.Systems.{change, has_seat, is_user, seat_fits, seated_on, whole_on, on_err, on_ok}
use Rattle.cp_core.proofs.Systems.{received_seen, refused_seen, seen, transported}
use Rattle.cp_core.proofs.Owned.{contents_same, length-seats, owner_is, owners_on, punched_are, see_same, seat_here}
use Rattle.cp_core.proofs.Owned.{set-seats, there_same}
use Rattle.cp_core.proofs.system.System.deliver.Goals as goal

pub index_mut-requires : goal.index_mut-requires
index_mut-requires c =
    let inside = has_seat (seats_on c.self.inside.queues c.self.inside.users.items) c.self.inside.volumes
    c.self.inside.frames.storages c.self.inside.directory c.args.self.now.users c.args.to c.self.invariant.0.whole
    (ap (λ (s : SystemView). s.users) c.self.view_is) c.requires.to in omega
    (arith, inside, c.self.inside.users.ok.0, length-seats c.self.inside.queues c.self.inside.users.items)

pub invariant_of-self : goal.invariant_of-self
invariant_of-self c =
    let queues = c.self.inside.queues in
    let machine = seat_on queues c.index_mut.result.now in
    let here = seat_here queues c.self.inside.users.items c.args.to c.index_mut.result.now c.index_mut.ensures.value in
    let left = seat_on c.receive.new.queues c.receive.new.self in
    let seated : c.args.to < length (seats_on queues c.self.inside.users.items) =
    has_seat (seats_on queues c.self.inside.users.items) c.self.inside.volumes c.self.inside.frames.storages
    c.self.inside.directory c.args.self.now.users c.args.to c.self.invariant.0.whole
    (ap (λ (s : SystemView). s.users) c.self.view_is) c.requires.to in
    let seats : c.args.to < length c.self.inside.users.items =
    subst (λ (n : ℕ). c.args.to < n) (length-seats queues c.self.inside.users.items) seated in
    let owner = owner_is queues c.self.inside.users.items c.args.to c.index_mut.result.now c.self.invariant.1 seats
    c.index_mut.ensures.value in
    let keeps = subst (λ (u : ℕ). KeepsOthers u queues.users c.receive.new.queues.users) owner
    c.receive.ensures.other_users.others in
    let now : seats_on c.receive.new.queues (set c.self.inside.users.items c.args.to c.receive.new.self)
    ≡ set (seats_on queues c.self.inside.users.items) c.args.to left =
    set-seats queues c.receive.new.queues c.self.inside.users.items c.args.to c.receive.new.self
    (see_same queues c.receive.new.queues c.self.inside.users.items c.args.to c.self.invariant.1 keeps) in
    let user = c.args.to in
    let inside = is_user (seats_on c.self.inside.queues c.self.inside.users.items) c.self.inside.volumes
    c.self.inside.frames.storages c.self.inside.directory c.args.self.now.users user c.self.invariant.0.whole
    (ap (λ (s : SystemView). s.users) c.self.view_is) c.requires.to in
    let there : user < length (seats_on c.self.inside.queues c.self.inside.users.items) =
    omega (arith, inside, c.self.invariant.0.whole.seated) in
    let seat : machine ≡ get_or (seats_on c.self.inside.queues c.self.inside.users.items) user no_user =
    here ∙ get_or_default (seats_on c.self.inside.queues c.self.inside.users.items) user machine no_user there in
    let stay : left.minidisks
    ≡ (get_or (seats_on c.self.inside.queues c.self.inside.users.items) user no_user).minidisks =
    c.receive.ensures.minidisks ∙ ap (λ (u : UserParts). u.minidisks) seat in
    let fits : Fits left (get_or c.self.inside.frames.storages user []) =
    (let f = seat_fits (seats_on c.self.inside.queues c.self.inside.users.items) c.self.inside.frames.storages
    c.self.inside.directory user machine c.self.invariant.0.whole inside here in
    record { large = f.large; keyed = omega (arith, f.keyed, ap (λ (ks : List ℕ). length ks) c.receive.ensures.keys) })
    in (
      subst (λ (xs : List UserParts). IsSystem xs c.self.inside.volumes c.self.inside.frames c.self.inside.directory)
          (sym now)
          (record {
            whole = whole_on (seats_on c.self.inside.queues c.self.inside.users.items) c.self.inside.frames.storages
                c.self.inside.frames.storages c.self.inside.directory user left c.self.invariant.0.whole
                (set_own c.self.inside.frames.storages user []) fits;
            disks = seated_on (seats_on c.self.inside.queues c.self.inside.users.items) c.self.inside.volumes
                c.self.inside.volumes user left c.self.invariant.0.disks
                (neighbours_still c.self.inside.volumes
                (get_or (seats_on c.self.inside.queues c.self.inside.users.items) user no_user).minidisks left.minidisks
                (ap (λ (m : List SharedMinidisk). placements_of m) stay));
            there = c.self.invariant.0.there;
            between = c.self.invariant.0.between;
          }),
      owners_on queues c.receive.new.queues c.self.inside.users.items c.args.to c.receive.new.self c.self.invariant.1
          keeps (c.receive.ensures.other_users.user ∙ owner),
    )

pub returns-clause-ok : goal.returns-clause-ok
returns-clause-ok c =
    let queues = c.self.inside.queues in
    let machine = seat_on queues c.index_mut.result.now in
    let here = seat_here queues c.self.inside.users.items c.args.to c.index_mut.result.now c.index_mut.ensures.value in
    let left = seat_on c.receive.new.queues c.receive.new.self in
    let seated : c.args.to < length (seats_on queues c.self.inside.users.items) =
    has_seat (seats_on queues c.self.inside.users.items) c.self.inside.volumes c.self.inside.frames.storages
    c.self.inside.directory c.args.self.now.users c.args.to c.self.invariant.0.whole
    (ap (λ (s : SystemView). s.users) c.self.view_is) c.requires.to in
    let seats : c.args.to < length c.self.inside.users.items =
    subst (λ (n : ℕ). c.args.to < n) (length-seats queues c.self.inside.users.items) seated in
    let owner = owner_is queues c.self.inside.users.items c.args.to c.index_mut.result.now c.self.invariant.1 seats
    c.index_mut.ensures.value in
    let keeps = subst (λ (u : ℕ). KeepsOthers u queues.users c.receive.new.queues.users) owner
    c.receive.ensures.other_users.others in
    let now : seats_on c.receive.new.queues (set c.self.inside.users.items c.args.to c.receive.new.self)
    ≡ set (seats_on queues c.self.inside.users.items) c.args.to left =
    set-seats queues c.receive.new.queues c.self.inside.users.items c.args.to c.receive.new.self
    (see_same queues c.receive.new.queues c.self.inside.users.items c.args.to c.self.invariant.1 keeps) in
    let changed = change (seats_on c.self.inside.queues c.self.inside.users.items) c.self.inside.volumes
    c.self.inside.volumes c.self.inside.frames.storages c.self.inside.frames.storages c.self.inside.directory
    c.args.self.now.users c.args.to machine left c.self.invariant.0.whole
    (ap (λ (s : SystemView). s.users) c.self.view_is) c.requires.to here
    (set_own c.self.inside.frames.storages c.args.to []) (λ k differs. refl) in
    let are = punched_are queues c.self.inside.users.items c.self.inside.volumes c.self.inside.frames.storages
    c.self.inside.directory c.args.self.now.users c.self.invariant.0.whole
    (ap (λ (s : SystemView). s.users) c.self.view_is) c.self.invariant.1 in
    let is = contents_same queues c.args.self.now are c.args.parcel c.requires.there in
    on_ok c.receive.result _ _
    (λ h. subst (λ (xs : List UserParts).
    Leaves as_reached (contents c.args.self.now c.args.parcel) (user_at c.args.self.now c.args.to)
    (get_or (users_of xs c.self.inside.volumes c.self.inside.frames.storages) c.args.to nobody)) (sym now)
    (transported (Leaves as_reached (contents c.args.self.now c.args.parcel)) _ _ _ _ changed.old changed.new
    (subst (λ (l : Local). Leaves as_reached l
    (user_with machine c.self.inside.volumes (get_or c.self.inside.frames.storages c.args.to []))
    (user_with left c.self.inside.volumes (get_or c.self.inside.frames.storages c.args.to []))) is h)))
    (c.receive.ensures.ok c.self.inside.volumes (get_or c.self.inside.frames.storages c.args.to []))

pub returns-clause-rest : goal.returns-clause-rest
returns-clause-rest c =
    let queues = c.self.inside.queues in
    let machine = seat_on queues c.index_mut.result.now in
    let here = seat_here queues c.self.inside.users.items c.args.to c.index_mut.result.now c.index_mut.ensures.value in
    let left = seat_on c.receive.new.queues c.receive.new.self in
    let seated : c.args.to < length (seats_on queues c.self.inside.users.items) =
    has_seat (seats_on queues c.self.inside.users.items) c.self.inside.volumes c.self.inside.frames.storages
    c.self.inside.directory c.args.self.now.users c.args.to c.self.invariant.0.whole
    (ap (λ (s : SystemView). s.users) c.self.view_is) c.requires.to in
    let seats : c.args.to < length c.self.inside.users.items =
    subst (λ (n : ℕ). c.args.to < n) (length-seats queues c.self.inside.users.items) seated in
    let owner = owner_is queues c.self.inside.users.items c.args.to c.index_mut.result.now c.self.invariant.1 seats
    c.index_mut.ensures.value in
    let keeps = subst (λ (u : ℕ). KeepsOthers u queues.users c.receive.new.queues.users) owner
    c.receive.ensures.other_users.others in
    let now : seats_on c.receive.new.queues (set c.self.inside.users.items c.args.to c.receive.new.self)
    ≡ set (seats_on queues c.self.inside.users.items) c.args.to left =
    set-seats queues c.receive.new.queues c.self.inside.users.items c.args.to c.receive.new.self
    (see_same queues c.receive.new.queues c.self.inside.users.items c.args.to c.self.invariant.1 keeps) in
    let changed = change (seats_on c.self.inside.queues c.self.inside.users.items) c.self.inside.volumes
    c.self.inside.volumes c.self.inside.frames.storages c.self.inside.frames.storages c.self.inside.directory
    c.args.self.now.users c.args.to machine left c.self.invariant.0.whole
    (ap (λ (s : SystemView). s.users) c.self.view_is) c.requires.to here
    (set_own c.self.inside.frames.storages c.args.to []) (λ k differs. refl) in
    let Now : List UserParts → Type 0 =
    λ xs. (let new = seen xs c.self.inside.volumes c.self.inside.frames.storages c.self.inside.directory
    c.self.inside.frames.supply c.self.inside.files.items c.self.inside.is_spent in new
    ≡ record c.args.self.now { users = set c.args.self.now.users c.args.to (get_or new.users c.args.to nobody) }) in
    on_ok c.receive.result (Now (set (seats_on queues c.self.inside.users.items) c.args.to left))
    (Now (seats_on c.receive.new.queues (set c.self.inside.users.items c.args.to c.receive.new.self)))
    (subst Now (sym now))
    (on_ok c.receive.result _ _
    (λ h. received_seen (seats_on c.self.inside.queues c.self.inside.users.items) c.self.inside.volumes
    c.self.inside.frames.storages c.self.inside.directory c.self.inside.frames.supply c.self.inside.files.items
    c.self.inside.is_spent c.args.self.now c.args.to machine left changed c.self.view_is here
    (ap (λ (m : List SharedMinidisk). placements_of m) c.receive.ensures.minidisks) c.receive.ensures.kept)
    (c.receive.ensures.ok c.self.inside.volumes (get_or c.self.inside.frames.storages c.args.to [])))

pub returns-clause-err : goal.returns-clause-err
returns-clause-err c =
    let queues = c.self.inside.queues in
    let machine = seat_on queues c.index_mut.result.now in
    let here = seat_here queues c.self.inside.users.items c.args.to c.index_mut.result.now c.index_mut.ensures.value in
    let left = seat_on c.receive.new.queues c.receive.new.self in
    let seated : c.args.to < length (seats_on queues c.self.inside.users.items) =
    has_seat (seats_on queues c.self.inside.users.items) c.self.inside.volumes c.self.inside.frames.storages
    c.self.inside.directory c.args.self.now.users c.args.to c.self.invariant.0.whole
    (ap (λ (s : SystemView). s.users) c.self.view_is) c.requires.to in
    let seats : c.args.to < length c.self.inside.users.items =
    subst (λ (n : ℕ). c.args.to < n) (length-seats queues c.self.inside.users.items) seated in
    let owner = owner_is queues c.self.inside.users.items c.args.to c.index_mut.result.now c.self.invariant.1 seats
    c.index_mut.ensures.value in
    let keeps = subst (λ (u : ℕ). KeepsOthers u queues.users c.receive.new.queues.users) owner
    c.receive.ensures.other_users.others in
    let now : seats_on c.receive.new.queues (set c.self.inside.users.items c.args.to c.receive.new.self)
    ≡ set (seats_on queues c.self.inside.users.items) c.args.to left =
    set-seats queues c.receive.new.queues c.self.inside.users.items c.args.to c.receive.new.self
    (see_same queues c.receive.new.queues c.self.inside.users.items c.args.to c.self.invariant.1 keeps) in
    let changed = change (seats_on c.self.inside.queues c.self.inside.users.items) c.self.inside.volumes
    c.self.inside.volumes c.self.inside.frames.storages c.self.inside.frames.storages c.self.inside.directory
    c.args.self.now.users c.args.to machine left c.self.invariant.0.whole
    (ap (λ (s : SystemView). s.users) c.self.view_is) c.requires.to here
    (set_own c.self.inside.frames.storages c.args.to []) (λ k differs. refl) in
    let Now : List UserParts → Type 0 =
    λ xs. (let new = seen xs c.self.inside.volumes c.self.inside.frames.storages c.self.inside.directory
    c.self.inside.frames.supply c.self.inside.files.items c.self.inside.is_spent in new ≡ c.args.self.now) in
    on_err c.receive.result (Now (set (seats_on queues c.self.inside.users.items) c.args.to left))
    (Now (seats_on c.receive.new.queues (set c.self.inside.users.items c.args.to c.receive.new.self)))
    (subst Now (sym now))
    (on_err c.receive.result _ _
    (refused_seen (seats_on c.self.inside.queues c.self.inside.users.items) c.self.inside.volumes
    c.self.inside.frames.storages c.self.inside.directory c.self.inside.frames.supply c.self.inside.files.items
    c.self.inside.is_spent c.args.self.now c.args.to machine left changed c.self.view_is here
    (ap (λ (m : List SharedMinidisk). placements_of m) c.receive.ensures.minidisks) c.receive.ensures.kept)
    (c.receive.ensures.err c.self.inside.volumes (get_or c.self.inside.frames.storages c.args.to [])))

pub receive-requires : goal.receive-requires
receive-requires c =
    let queues = c.self.inside.queues in
    let seated : c.args.to < length (seats_on queues c.self.inside.users.items) =
    has_seat (seats_on queues c.self.inside.users.items) c.self.inside.volumes c.self.inside.frames.storages
    c.self.inside.directory c.args.self.now.users c.args.to c.self.invariant.0.whole
    (ap (λ (s : SystemView). s.users) c.self.view_is) c.requires.to in
    let seats : c.args.to < length c.self.inside.users.items =
    subst (λ (n : ℕ). c.args.to < n) (length-seats queues c.self.inside.users.items) seated in
    let owner = owner_is queues c.self.inside.users.items c.args.to c.index_mut.result.now c.self.invariant.1 seats
    c.index_mut.ensures.value in
    let are = punched_are queues c.self.inside.users.items c.self.inside.volumes c.self.inside.frames.storages
    c.self.inside.directory c.args.self.now.users c.self.invariant.0.whole
    (ap (λ (s : SystemView). s.users) c.self.view_is) c.self.invariant.1 in
    record {
      owner = omega (arith, owner, seats, c.self.invariant.1.as_many);
      there = there_same queues c.args.self.now are c.args.parcel c.requires.there;
    }
