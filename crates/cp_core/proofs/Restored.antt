-- A system whose parts were restored, each in the place of one with the same base.
use Rattle.std.specs.Prelude.{slice_get, Some}
use Rattle.std.proofs.Common.{◌≡◌, ◌∙◌, Bool, ℕ, zero, suc, List, [], ◌∷◌, false, length, replicate, get_or, map, drop}
use Rattle.std.proofs.Common.{refl, sym, ap, subst, arith}
use Rattle.std.proofs.Math.ListN.{get_or-map}
use Rattle.std.proofs.lemmas.List.{length-map}
use Rattle.ckd_volume.specs.Volume.{VolumeFormat}
use Rattle.cp_dat.specs.Supplied.{IsBetweenUnits}
use Rattle.cp_directory.specs.Users.{DirectoryUser}
use Rattle.cp_frames.specs.Layout.{FrameSupply, Pool}
use Rattle.cp_spool.specs.Queues.{QueuesValue}
use Rattle.cp_volumes.specs.Shared.{AllLeaveBe, AreThere, IsUsers, Placement, placements_of}
use Rattle.cp_volumes.proofs.Seats.{users_on}
use Rattle.machine_devices.specs.declared.files.FileNote.{FileNote}
use Rattle.cp_core.specs.Owners.{AreOwners}
use Rattle.cp_core.specs.Saved.{AreAlike, HasSameBase, SeatBase, base_of}
use Rattle.cp_core.specs.System.{SystemView, placements_among}
use Rattle.cp_core.specs.UserMachines.{SeatParts, seats_on}
use Rattle.cp_core.specs.Whole.{AreSeated, IsSystem, IsWhole, no_user}
use Rattle.cp_core.proofs.Owned.{length-seats}
use Rattle.cp_core.proofs.Systems.{get-placements, length-users, seen}

-- Volumes are alike if they are the same.
pub alike_same : (volumes : List VolumeFormat) → AreAlike volumes volumes
alike_same volumes = record { count = refl; sizes = λ index. refl; volsers = λ index. refl }

-- ---- what a base says

bases_placements : (q : QueuesValue) (seats : List SeatParts)
    → placements_among (seats_on q seats) ≡ map (λ (b : SeatBase). b.placements) (map base_of seats)
bases_placements q [] = refl
bases_placements q (s ∷ seats) =
    ap (λ (ss : List (List Placement)). placements_of s.minidisks ∷ ss) (bases_placements q seats)

bases_keys : (q : QueuesValue) (seats : List SeatParts) (k : ℕ)
    → length (get_or (seats_on q seats) k no_user).keys
    ≡ get_or (map (λ (b : SeatBase). b.keys) (map base_of seats)) k 0
bases_keys q [] k = refl
bases_keys q (s ∷ seats) zero = refl
bases_keys q (s ∷ seats) (suc k) = bases_keys q seats k

abbrev first_user : List SeatBase → ℕ
first_user [] = 0
first_user (b ∷ bases) = b.user

owners_too : (seats seats' : List SeatParts) → map base_of seats' ≡ map base_of seats → (P : ℕ → ℕ → Type 0)
    → ((k : ℕ) (s : SeatParts) → slice_get seats k ≡ Some s → P s.devices.user k) → (k : ℕ) (s : SeatParts)
    → slice_get seats' k ≡ Some s → P s.devices.user k
owners_too [] [] e P own k s at = own k s at
owners_too [] (y ∷ ys) e P own k s at = absurd (cc)
owners_too (x ∷ xs) [] e P own k s at = absurd (cc)
owners_too (x ∷ xs) (y ∷ ys) e P own zero s at =
    let same : y ≡ s = cc in
    let user : y.devices.user ≡ x.devices.user = ap first_user e in
    subst (λ (z : SeatParts). P z.devices.user 0) same (subst (λ (u : ℕ). P u 0) (sym user) (own 0 x refl))
owners_too (x ∷ xs) (y ∷ ys) e P own (suc k) s at =
    owners_too xs ys (ap (λ (bases : List SeatBase). drop 1 bases) e) (λ u j. P u (suc j)) (λ j t h. own (suc j) t h) k
    s at

-- ---- a system

module _ (q q' : QueuesValue) (seats seats' : List SeatParts) (same : map base_of seats' ≡ map base_of seats) where
  as_many : length seats' ≡ length seats
  as_many = sym (length-map seats' base_of) ∙ ap (λ (bases : List SeatBase). length bases) same ∙ length-map seats
      base_of

  pub placements_too : placements_among (seats_on q' seats') ≡ placements_among (seats_on q seats)
  placements_too =
      bases_placements q' seats' ∙ ap (λ (bases : List SeatBase). map (λ (b : SeatBase). b.placements) bases) same ∙ sym
      (bases_placements q seats)

  stands_at_too : (k : ℕ) → placements_of (get_or (seats_on q' seats') k no_user).minidisks
      ≡ placements_of (get_or (seats_on q seats) k no_user).minidisks
  stands_at_too k =
      sym (get-placements (seats_on q' seats') k) ∙ ap (λ (ss : List (List Placement)). get_or ss k []) placements_too ∙
      get-placements (seats_on q seats) k

  keys_too : (k : ℕ) → length (get_or (seats_on q' seats') k no_user).keys
      ≡ length (get_or (seats_on q seats) k no_user).keys
  keys_too k =
      bases_keys q' seats' k ∙ ap (λ (bases : List SeatBase). get_or (map (λ (b : SeatBase). b.keys) bases) k 0) same ∙
      sym (bases_keys q seats k)

  seats_as_many : length (seats_on q' seats') ≡ length (seats_on q seats)
  seats_as_many = length-seats q' seats' ∙ as_many ∙ sym (length-seats q seats)

  pub owners_restored : AreOwners seats q → length q'.users ≡ length q.users → AreOwners seats' q'
  owners_restored owners users = record {
    own = owners_too seats seats' same (λ u k. u ≡ k) owners.own;
    as_many = users ∙ owners.as_many ∙ sym as_many;
  }

  storages_as_many : (storages storages' : List (List ℕ)) → map length storages' ≡ map length storages
      → length storages' ≡ length storages
  storages_as_many storages storages' sizes =
      sym (length-map storages' length) ∙ ap (λ (ns : List ℕ). length ns) sizes ∙ length-map storages length

  storage_too : (storages storages' : List (List ℕ)) → map length storages' ≡ map length storages → (k : ℕ)
      → length (get_or storages' k []) ≡ length (get_or storages k [])
  storage_too storages storages' sizes k =
      sym (get_or-map length storages' k []) ∙ ap (λ (ns : List ℕ). get_or ns k 0) sizes ∙ get_or-map length storages k
      []

  whole_restored : (storages storages' : List (List ℕ)) (directory : List DirectoryUser)
      → map length storages' ≡ map length storages → IsWhole (seats_on q seats) storages directory
      → IsWhole (seats_on q' seats') storages' directory
  whole_restored storages storages' directory sizes whole = record {
    seated = seats_as_many ∙ whole.seated;
    stored = storages_as_many storages storages' sizes ∙ whole.stored;
    few = whole.few;
    fits = λ k less. (let fits = whole.fits k less in record {
      large = omega (arith, fits.large, storage_too storages storages' sizes k);
      keyed = omega (arith, fits.keyed, storage_too storages storages' sizes k, keys_too k);
    });
  }

  seated_restored : (volumes volumes' : List VolumeFormat) → AreAlike volumes volumes'
      → AreSeated (seats_on q seats) volumes → AreSeated (seats_on q' seats') volumes'
  seated_restored volumes volumes' alike seated = record {
    seated = λ k. (subst (λ (s : List Placement). IsUsers volumes' s) (sym (stands_at_too k))
        (users_on volumes volumes' (placements_of (get_or (seats_on q seats) k no_user).minidisks) alike.sizes
        (seated.seated k)));
    apart = λ j k i t differs at.
        (subst (λ (s : List Placement). AllLeaveBe s t) (sym (stands_at_too j))
        (seated.apart j k i t differs (ap (λ (s : List Placement). slice_get s i) (sym (stands_at_too k)) ∙ at)));
  }

  between_restored : (supply supply' : FrameSupply) → supply'.pins ≡ supply.pins
      → length supply'.owners ≡ length supply.owners → IsBetweenUnits supply → IsBetweenUnits supply'
  between_restored supply supply' pins frames between = record {
    idle = pins ∙ between.idle ∙ ap (λ (n : ℕ). replicate n false) (sym frames);
    many = omega (arith, between.many, frames);
  }

  pub system_restored : (volumes volumes' : List VolumeFormat) (pool pool' : Pool) (directory : List DirectoryUser)
      → AreAlike volumes volumes' → AreThere volumes' → map length pool'.storages ≡ map length pool.storages
      → pool'.supply.pins ≡ pool.supply.pins → length pool'.supply.owners ≡ length pool.supply.owners
      → IsSystem (seats_on q seats) volumes pool directory → IsSystem (seats_on q' seats') volumes' pool' directory
  system_restored volumes volumes' pool pool' directory alike there sizes pins frames system = record {
    whole = whole_restored pool.storages pool'.storages directory sizes system.whole;
    disks = seated_restored volumes volumes' alike system.disks;
    there = there;
    between = between_restored pool.supply pool'.supply pins frames system.between;
  }

  -- it has the base of the one in whose place it is
  pub base_restored : (volumes volumes' : List VolumeFormat) (pool pool' : Pool) (directory : List DirectoryUser)
      (files files' : List FileNote) (spent spent' : Bool) (old : SystemView)
      → map length pool'.storages ≡ map length pool.storages → IsWhole (seats_on q seats) pool.storages directory
      → AreAlike volumes volumes'
      → seen (seats_on q seats) volumes pool.storages directory pool.supply files spent ≡ old
      → HasSameBase old (seen (seats_on q' seats') volumes' pool'.storages directory pool'.supply files' spent')
  base_restored volumes volumes' pool pool' directory files files' spent spent' old sizes whole alike is =
      let stored : length (seats_on q seats) ≡ length pool.storages = whole.seated ∙ sym whole.stored in
      let stored' : length (seats_on q' seats') ≡ length pool'.storages =
      seats_as_many ∙ stored ∙ sym (storages_as_many pool.storages pool'.storages sizes) in
      record {
        directory = ap (λ (s : SystemView). s.directory) is;
        placements = placements_too ∙ ap (λ (s : SystemView). s.placements) is;
        users = length-users (seats_on q' seats') volumes' pool'.storages stored' ∙ seats_as_many ∙ sym
            (length-users (seats_on q seats) volumes pool.storages stored) ∙ ap (λ (s : SystemView). length s.users) is;
        volumes = subst (λ (s : SystemView). AreAlike s.volumes volumes') is alike;
      }
