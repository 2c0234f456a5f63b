-- One lending: a work is done with a user's machine, whose storage is borrowed, and the system goes on with what that
-- leaves.
use Rattle.std.proofs.Common.{◌≡◌, ◌∙◌, ◌<◌, ap, arith, get_or, length, set, subst, sym, List, ℕ, Bool}
use Rattle.std.proofs.lemmas.List.{get_or-set_same, get_or_default, length-map}
use Rattle.ckd_volume.specs.Volume.{VolumeFormat}
use Rattle.cp_directory.specs.Users.{DirectoryUser}
use Rattle.cp_frames.specs.Layout.{FrameSupply, Pool, bytes_of}
use Rattle.cp_spool.specs.Queues.{KeepsOthers, QueuesValue}
use Rattle.cp_volumes.specs.Keeping.{there_still}
use Rattle.cp_volumes.specs.Shared.{IsConfined, IsUsers, KeepsOtherDisks, Placement, placements_of}
use Rattle.machine_devices.specs.Equipped.{Equipped, nobody}
use Rattle.machine_devices.specs.declared.files.FileNote.{FileNote}
use Rattle.cp_core.specs.Lending.{IsLeft}
use Rattle.cp_core.specs.Owners.{AreOwners}
use Rattle.cp_resident.specs.Reuse.{ReuseValue, kept_none}
use Rattle.cp_core.specs.System.{SystemView, kept_of, placements_at, user_at, users_of}
use Rattle.cp_core.specs.UserMachines.{Fits, SeatParts, UserParts, seat_on, seats_on, user_with}
use Rattle.cp_core.specs.Whole.{IsSystem, no_user}
use Rattle.cp_core.proofs.Owned.{length-seats, owner_is, owners_on, see_same, seat_here, set-seats}
use Rattle.cp_core.proofs.Systems.{IsChange, change, get-kept, get-placements, has_seat, lent_seen, seat_fits}
use Rattle.cp_core.proofs.Systems.{seated_on, seen, sees_same, set-kept, whole_on}

-- the seat of a user among those of a system
pub record IsSeat (q : QueuesValue) (seats : List SeatParts) (volumes : List VolumeFormat) (pool : Pool)
    (directory : List DirectoryUser) (user : ℕ) (seat : SeatParts) : Type 0 where
  pub system : IsSystem (seats_on q seats) volumes pool directory
  pub owners : AreOwners seats q
  pub inside : user < length (seats_on q seats)
  pub here : seat ≡ get_or seats user seat

-- of a system that is seen so
abbrev pub IsSeen : QueuesValue → List SeatParts → List VolumeFormat → Pool → List DirectoryUser → List FileNote → Bool
    → SystemView → Type 0
IsSeen q seats volumes pool directory files is_spent old =
    seen (seats_on q seats) volumes pool.storages directory pool.supply files is_spent ≡ old

-- The user at a place is the one whose parts are there.
pub seat_at : (q : QueuesValue) (seats : List SeatParts) (volumes : List VolumeFormat) (pool : Pool)
    (directory : List DirectoryUser) (us : List Equipped) (user : ℕ) (s seat : SeatParts)
    → IsSystem (seats_on q seats) volumes pool directory × AreOwners seats q
    → users_of (seats_on q seats) volumes pool.storages ≡ us → user < length us → s ≡ get_or seats user s → seat ≡ s
    → IsSeat q seats volumes pool directory user seat
seat_at q seats volumes pool directory us user s seat all e h at same = record {
  system = all.0;
  owners = all.1;
  inside = has_seat (seats_on q seats) volumes pool.storages directory us user all.0.whole e h;
  here = subst (λ (x : SeatParts). x ≡ get_or seats user x) (sym same) at;
}

module _ {q : QueuesValue} {seats : List SeatParts} {volumes : List VolumeFormat} {pool : Pool} {directory : List
    DirectoryUser} {user : ℕ} {seat : SeatParts} (at : IsSeat q seats volumes pool directory user seat) where
  pub few : user < length seats
  few = subst (λ (n : ℕ). user < n) (length-seats q seats) at.inside

  pub owner : seat.devices.user ≡ user
  owner = owner_is q seats user seat at.owners few at.here

  pub owned : seat.devices.user < length q.users
  owned = omega (arith, owner, few, at.owners.as_many)

  shown : seat_on q seat ≡ get_or (seats_on q seats) user (seat_on q seat)
  shown = seat_here q seats user seat at.here

  alone : seat_on q seat ≡ get_or (seats_on q seats) user no_user
  alone = shown ∙ get_or_default (seats_on q seats) user (seat_on q seat) no_user at.inside

  pub fits : Fits (seat_on q seat) (bytes_of pool user)
  fits = seat_fits (seats_on q seats) pool.storages directory user (seat_on q seat) at.system.whole
      (omega (arith, at.inside, at.system.whole.seated)) shown

  pub users : IsUsers volumes (placements_of seat.minidisks)
  users = subst (λ (u : UserParts). IsUsers volumes (placements_of u.minidisks)) (sym alone)
      (at.system.disks.seated user)

  module _ {q' : QueuesValue} {volumes' : List VolumeFormat} {pool' : Pool} {seat' : SeatParts}
      (left : IsLeft q q' volumes volumes' pool pool' user seat seat') where
    keeps : KeepsOthers user q.users q'.users
    keeps = subst (λ (u : ℕ). KeepsOthers u q.users q'.users) owner left.other_users.others

    now : seats_on q' (set seats user seat') ≡ set (seats_on q seats) user (seat_on q' seat')
    now = set-seats q q' seats user seat' (see_same q q' seats user at.owners keeps)

    kept : KeepsOtherDisks (record {
      volumes = volumes;
      minidisks = (get_or (seats_on q seats) user no_user).minidisks;
    })
        (record { volumes = volumes'; minidisks = seat'.minidisks })
    kept = subst (λ (u : UserParts).
        KeepsOtherDisks (record { volumes = volumes; minidisks = u.minidisks })
        (record { volumes = volumes'; minidisks = seat'.minidisks })) alone left.other_disks

    still : Fits (seat_on q' seat') (bytes_of pool' user)
    still = record {
      large = omega (arith, fits.large, left.size);
      keyed = omega (arith, fits.keyed, left.size, left.keys);
    }

    -- what is always so of the system's parts is so of what is left
    pub system_left : IsSystem (seats_on q' (set seats user seat')) volumes' pool' directory
        × AreOwners (set seats user seat') q'
    system_left = (
      subst (λ (xs : List UserParts). IsSystem xs volumes' pool' directory) (sym now)
          (record {
            whole = whole_on (seats_on q seats) pool.storages pool'.storages directory user (seat_on q' seat')
                at.system.whole left.others still;
            disks = seated_on (seats_on q seats) volumes volumes' user (seat_on q' seat') at.system.disks kept;
            there = there_still (placements_of (get_or (seats_on q seats) user no_user).minidisks) volumes volumes'
                kept.confined at.system.there;
            between = left.between;
          }),
      owners_on q q' seats user seat' at.owners keeps (left.other_users.user ∙ owner),
    )

    module _ (files : List FileNote) (is_spent : Bool) (old : SystemView)
        (is : IsSeen q seats volumes pool directory files is_spent old) (there : user < length old.users) where
      changed : IsChange (seats_on q seats) volumes volumes' pool.storages pool'.storages old.users user
          (seat_on q seat) (seat_on q' seat')
      changed = change (seats_on q seats) volumes volumes' pool.storages pool'.storages directory old.users user
          (seat_on q seat) (seat_on q' seat') at.system.whole (ap (λ (s : SystemView). s.users) is) there shown
          left.others (sees_same (seats_on q seats) volumes volumes' user seat'.minidisks at.system.disks kept)

      -- what was done with the machine was done with the user's
      pub does_seen : (Does : List DirectoryUser → Equipped → FrameSupply → Equipped → Type 0)
          → Does directory (user_with (seat_on q seat) volumes (bytes_of pool user)) pool.supply
          (user_with (seat_on q' seat') volumes' (bytes_of pool' user))
          → Does old.directory (user_at old user) old.supply
          (get_or (users_of (seats_on q' (set seats user seat')) volumes' pool'.storages) user nobody)
      does_seen Does done =
          let first : Does directory (user_at old user) pool.supply
          (user_with (seat_on q' seat') volumes' (bytes_of pool' user)) =
          subst (λ (m : Equipped).
          Does directory m pool.supply (user_with (seat_on q' seat') volumes' (bytes_of pool' user)))
          (sym changed.old) done in
          let second : Does directory (user_at old user) pool.supply
          (get_or (users_of (set (seats_on q seats) user (seat_on q' seat')) volumes' pool'.storages) user nobody) =
          subst (λ (m : Equipped). Does directory (user_at old user) pool.supply m) (sym changed.new) first in
          let third : Does directory (user_at old user) pool.supply
          (get_or (users_of (seats_on q' (set seats user seat')) volumes' pool'.storages) user nobody) =
          subst (λ (xs : List UserParts).
          Does directory (user_at old user) pool.supply (get_or (users_of xs volumes' pool'.storages) user nobody))
          (sym now) second in
          subst (λ (s : SystemView).
          Does s.directory (user_at old user) s.supply
          (get_or (users_of (seats_on q' (set seats user seat')) volumes' pool'.storages) user nobody)) is third

      -- nothing else that is seen has changed but the volumes and the frames
      pub rest_seen : (let new = seen (seats_on q' (set seats user seat')) volumes' pool'.storages directory
          pool'.supply files is_spent in new
          ≡ record old {
            users = set old.users user (get_or new.users user nobody);
            supply = pool'.supply;
            volumes = volumes';
            kept = new.kept;
          })
      rest_seen =
          let Rest : List UserParts → Type 0 =
          λ xs. (let new = seen xs volumes' pool'.storages directory pool'.supply files is_spent in new
          ≡ record old {
            users = set old.users user (get_or new.users user nobody);
            supply = pool'.supply;
            volumes = volumes';
            kept = new.kept;
          }) in
          subst Rest (sym now)
          (lent_seen (seats_on q seats) volumes volumes' pool.storages pool'.storages directory pool.supply pool'.supply
          files is_spent old user (seat_on q seat) (seat_on q' seat') changed is shown left.other_disks.placements)

      -- of the programs that are kept his alone have changed
      pub kept_before : get_or old.kept user (kept_none 0) ≡ seat.reuse
      kept_before =
          ap (λ (s : SystemView). get_or s.kept user (kept_none 0)) (sym is) ∙ get-kept (seats_on q seats) user
          (seat_on q seat) at.inside
          ∙ ap (λ (u : UserParts). u.reuse) (sym shown)

      pub kept_now : kept_of (seats_on q' (set seats user seat')) ≡ set old.kept user seat'.reuse
      kept_now =
          ap kept_of now ∙ set-kept (seats_on q seats) user (seat_on q' seat') ∙ ap
          (λ (s : SystemView). set s.kept user seat'.reuse) is

      pub kept_after : get_or (kept_of (seats_on q' (set seats user seat'))) user (kept_none 0) ≡ seat'.reuse
      kept_after =
          let within : user < length old.kept =
          omega (
            arith,
            at.inside,
            length-map (seats_on q seats) (λ (u : UserParts). u.reuse),
            ap (λ (s : SystemView). length s.kept) is,
          ) in
          ap (λ (rs : List ReuseValue). get_or rs user (kept_none 0)) kept_now ∙ get_or-set_same old.kept user
          seat'.reuse (kept_none 0) within

      -- what a work keeps of them it keeps of the user's
      pub keeps_seen : (Keeps : Equipped → FrameSupply → ReuseValue → ReuseValue → Type 0)
          → Keeps (user_with (seat_on q seat) volumes (bytes_of pool user)) pool.supply seat.reuse seat'.reuse
          → Keeps (user_at old user) old.supply (get_or old.kept user (kept_none 0))
          (get_or (kept_of (seats_on q' (set seats user seat'))) user (kept_none 0))
      keeps_seen Keeps keeps =
          let first : Keeps (user_at old user) pool.supply seat.reuse seat'.reuse =
          subst (λ (m : Equipped). Keeps m pool.supply seat.reuse seat'.reuse) (sym changed.old) keeps in
          let second : Keeps (user_at old user) old.supply seat.reuse seat'.reuse =
          subst (λ (s : SystemView). Keeps (user_at old user) s.supply seat.reuse seat'.reuse) is first in
          let third : Keeps (user_at old user) old.supply (get_or old.kept user (kept_none 0)) seat'.reuse =
          subst (λ (r : ReuseValue). Keeps (user_at old user) old.supply r seat'.reuse) (sym kept_before) second in
          subst (λ (r : ReuseValue). Keeps (user_at old user) old.supply (get_or old.kept user (kept_none 0)) r)
          (sym kept_after) third

      pub others_seen : kept_of (seats_on q' (set seats user seat'))
          ≡ set old.kept user (get_or (kept_of (seats_on q' (set seats user seat'))) user (kept_none 0))
      others_seen = kept_now ∙ ap (λ (r : ReuseValue). set old.kept user r) (sym kept_after)

      pub confined_seen : IsConfined (placements_at old user) old.volumes volumes'
      confined_seen =
          let stood = subst (λ (s : List Placement). IsConfined s volumes volumes')
          (sym (get-placements (seats_on q seats) user)) kept.confined in
          subst (λ (s : SystemView). IsConfined (placements_at s user) s.volumes volumes') is stood
