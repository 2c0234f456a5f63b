-- The parts of a system at boot.
use Rattle.s370_store.specs.Memory.{memory_of}
use Rattle.std.proofs.Common.{true, All, Err, Result, ◌≡◌, ℕ, ◌*◌, ◌<◌, ◌≤◌, List, [], ◌∷◌, ◌++◌, length, map, get_or}
use Rattle.std.proofs.Common.{zero, suc, refl, sym, ◌∙◌, ap, arith, replicate, subst, Bool, false, Option, None}
use Rattle.std.specs.Prelude.{nat_le, nat_lt, reverse, slice_get}
use Rattle.std.specs.List.{list_all, range_with_len}
use Rattle.std.proofs.lemmas.List.{length-replicate}
use Rattle.std.proofs.lemmas.Bool.Decides.{nat_tests}
use Rattle.std.proofs.lemmas.List.Elements.{All-head, All-nil, All-tail}
use Rattle.ckd_volume.specs.Volume.{VolumeFormat}
use Rattle.machine_channels.specs.Disks.{DiskAt}
use Rattle.cp_directory.specs.Users.{DirectoryUser}
use Rattle.cp_frames.specs.declared.numbers.UserPage.{UserPage}
use Rattle.cp_frames.specs.Layout.{FrameSupply}
use Rattle.cp_dat.specs.Supplied.{IsBetweenUnits}
use Rattle.machine_panel.specs.Machine.{Machine, machine_of, unused}
use Rattle.machine_devices.specs.Devices.{DevicesValue, are_apart, can_attach, devices_new}
use Rattle.cp_directory.specs.Grammar.{AreDifferent, HasLawfulDevices}
use Rattle.machine_devices.specs.Equipped.{Equipped}
use Rattle.cp_resident.specs.Reuse.{ReuseValue, kept_none}
use Rattle.cp_core.specs.UserMachines.{Fits, IsUnused, UserParts, user_with}
use Rattle.machine_devices.specs.declared.attaching.AttachError.{AttachError}
use Rattle.machine_devices.specs.declared.attaching.AttachError.TheVariants as attaching
use Rattle.cp_core.specs.declared.events.BootError.TheVariants as errors
use Rattle.cp_core.specs.Boot.{AreNewUsers, IsNewUser, boot_error, free_supply, places_in}
use Rattle.cp_core.specs.System.{SystemView, kept_of, placements_among, users_of}
use Rattle.cp_volumes.specs.Shared.{AllLeaveBe, IsUsers, SharedMinidisk, Placement, disks_on, placements_of}
use Rattle.cp_placement.specs.Seating.{AreDisks, AreLawful, IsLawful, minidisks_at, seats_of, user_is_past, user_lacks}
use Rattle.cp_placement.proofs.Seated.{are_disks, is_users, users_apart}
use Rattle.cp_directory.specs.Users.{AreApart, addresses_of}
use Rattle.cp_directory.specs.declared.minidisk.MinidiskStatement.{MinidiskStatement}
use Rattle.std.specs.List.{find, position}
use Rattle.cp_core.specs.Whole.{AreNew, AreSeated, IsNew, IsWhole, no_user}

-- the devices of a lawful user can be attached
low_all : (xs : List ℕ) → All (λ address. address ≤ 0x5FF) xs
    → list_all (λ (address : ℕ). nat_lt address 0x600) xs ≡ true
low_all [] h = refl
low_all (x ∷ xs) h =
    let one : nat_lt x 0x600 ≡ true = low_true x (All-head (λ (a : ℕ). a ≤ 0x5FF) x xs h) in
    let rest : list_all (λ (address : ℕ). nat_lt address 0x600) xs ≡ true =
    low_all xs (All-tail (λ (a : ℕ). a ≤ 0x5FF) x xs h) in
    rw (one, rest) refl
  where
    low_true : (n : ℕ) → n ≤ 0x5FF → nat_lt n 0x600 ≡ true
    low_true n h = grind (arith, nat_tests)

different_apart : (xs : List ℕ) → AreDifferent xs → are_apart xs ≡ true
different_apart [] h = refl
different_apart (x ∷ xs) h = rw (h.0, different_apart xs h.1) refl

-- A user with lawful devices can have them all attached.
pub lawful_attach : (user : DirectoryUser) → HasLawfulDevices user → can_attach (addresses_of user) ≡ true
lawful_attach user h =
    let few : nat_le (length (addresses_of user)) 32 ≡ true = few_true (length (addresses_of user)) h.few in
    rw (few, low_all (addresses_of user) h.low, different_apart (addresses_of user) h.different) refl
  where
    few_true : (n : ℕ) → n ≤ 32 → nat_le n 32 ≡ true
    few_true n h = grind (arith, nat_tests)

-- The addresses of a user's placed minidisks are those of his statements.
pub seat_addresses : (volumes : List VolumeFormat) (ms : List MinidiskStatement)
    → map (λ (d : SharedMinidisk). d.address) (seats_of volumes ms) ≡ map (λ (m : MinidiskStatement). m.address) ms
seat_addresses volumes [] = refl
seat_addresses volumes (m ∷ ms) = ap (λ (xs : List ℕ). m.address ∷ xs) (seat_addresses volumes ms)

-- A refusal that is reported is the one that was found.
pub err_same : {A E : Type 0} (x y : E) → (let reported : Result A E = Err x in reported ≡ Err y) → x ≡ y
err_same x y e = cc

-- A device that is there twice is reported as such.
pub device_told : (e : AttachError) → boot_error e ≡ errors.DuplicateDevice → e ≡ attaching.Address
device_told attaching.Memory h = cc
device_told attaching.Address h = refl

-- one seat more
pub new_more : (volumes : List VolumeFormat) (seats : List UserParts) (users : List DirectoryUser) (seat : UserParts)
    (user : DirectoryUser) → AreNew volumes seats users → IsNew volumes seat user
    → AreNew volumes (seats ++ seat ∷ []) (users ++ user ∷ [])
new_more volumes [] [] seat user h n = (n, tt)
new_more volumes [] (u ∷ us) seat user h n = absurd h
new_more volumes (s ∷ ss) [] seat user h n = absurd h
new_more volumes (s ∷ ss) (u ∷ us) seat user h n = (h.0, new_more volumes ss us seat user h.1 n)

-- the storages of these users at boot
abbrev pub blank : List DirectoryUser → List (List ℕ)
blank users = map (λ pages. replicate (pages * 4096) 0) (map (λ (user : DirectoryUser). user.pages) users)

-- Users who were just made are as a boot leaves them.
pub new_users : (volumes : List VolumeFormat) (seats : List UserParts) (users : List DirectoryUser)
    → AreNew volumes seats users → AreNewUsers volumes users (users_of seats volumes (blank users))
new_users volumes [] [] h = tt
new_users volumes [] (u ∷ us) h = absurd h
new_users volumes (s ∷ ss) [] h = absurd h
new_users volumes (s ∷ ss) (u ∷ us) h = (h.0.off, new_users volumes ss us h.1)

length_new : (volumes : List VolumeFormat) (seats : List UserParts) (users : List DirectoryUser)
    → AreNew volumes seats users → length seats ≡ length users
length_new volumes [] [] h = refl
length_new volumes [] (u ∷ us) h = absurd h
length_new volumes (s ∷ ss) [] h = absurd h
length_new volumes (s ∷ ss) (u ∷ us) h = ap suc (length_new volumes ss us h.1)

length_blank : (users : List DirectoryUser) → length (blank users) ≡ length users
length_blank [] = refl
length_blank (u ∷ us) = ap suc (length_blank us)

fits_new : (volumes : List VolumeFormat) (seat : UserParts) (user : DirectoryUser) → IsNew volumes seat user
    → Fits seat (replicate (user.pages * 4096) 0)
fits_new volumes seat user n =
    let keys : length seat.keys ≡ user.pages * 2 =
    ap (λ (m : Equipped). length m.machine.core.processor.keys) n.off.new ∙ length-replicate {A = ℕ}
    (length {A = ℕ} (replicate (user.pages * 2) 0)) 0 ∙ length-replicate {A = ℕ} (user.pages * 2) 0 in
    let bytes : length {A = ℕ} (replicate (user.pages * 4096) 0) ≡ user.pages * 4096 =
    length-replicate {A = ℕ} (user.pages * 4096) 0 in
    record { large = omega (arith, bytes, n.sized); keyed = omega (arith, bytes, keys) }

all_fit : (volumes : List VolumeFormat) (seats : List UserParts) (users : List DirectoryUser)
    → AreNew volumes seats users → (k : ℕ) → k < length users
    → Fits (get_or seats k no_user) (get_or (blank users) k [])
all_fit volumes [] [] h k l = absurd (omega arith)
all_fit volumes [] (u ∷ us) h k l = absurd h
all_fit volumes (s ∷ ss) [] h k l = absurd h
all_fit volumes (s ∷ ss) (u ∷ us) h zero l = fits_new volumes s u h.0
all_fit volumes (s ∷ ss) (u ∷ us) h (suc k) l = all_fit volumes ss us h.1 k (omega arith)

-- A system whose users were just made is whole.
pub whole_new : (volumes : List VolumeFormat) (seats : List UserParts) (users : List DirectoryUser)
    → AreNew volumes seats users → length users ≤ 64 → IsWhole seats (blank users) users
whole_new volumes seats users h few =
    record {
      seated = length_new volumes seats users h;
      stored = length_blank users;
      few = few;
      fits = all_fit volumes seats users h;
    }

made : (a a' b b' : List (Option UserPage)) (c c' : List Bool) (d d' : List ℕ) (e e' : ℕ) → a ≡ a' → b ≡ b' → c ≡ c'
    → d ≡ d' → e ≡ e' → (let s : FrameSupply = record { owners = a; slots = b; pins = c; order = d; page_ins = e } in s
    ≡ record { owners = a'; slots = b'; pins = c'; order = d'; page_ins = e' })
made a a' b b' c c' d d' e e' p q r t u = rw (p, q, r, t, u) refl

-- frames and slots at boot, of which none is pinned
pub new_supply : (supply : FrameSupply) (frames slots : ℕ) → supply.owners ≡ replicate frames None
    → supply.slots ≡ replicate slots None → supply.pins ≡ replicate frames false
    → supply.order ≡ reverse (range_with_len 0 frames) → supply.page_ins ≡ 0 → supply ≡ free_supply frames slots
new_supply supply frames slots owners taken pins order count =
    made supply.owners _ supply.slots _ supply.pins _ supply.order _ supply.page_ins _ owners taken pins order count

-- A pool that is free lies between two units.
pub between_new : (supply : FrameSupply) (frames slots : ℕ) → supply ≡ free_supply frames slots → 16 ≤ frames
    → IsBetweenUnits supply
between_new supply frames slots is enough =
    let count : length {A = Option UserPage} (replicate frames None) ≡ frames =
    length-replicate {A = Option UserPage} frames None in
    let none : IsBetweenUnits (free_supply frames slots) =
    record { idle = ap (λ (n : ℕ). replicate n false) (sym count); many = omega (arith, count, enough) } in
    subst (λ (s : FrameSupply). IsBetweenUnits s) (sym is) none

as_seen : (m m' : Machine) (d d' : DevicesValue) (disks : List DiskAt) → m ≡ m' → d ≡ d'
    → (let e : Equipped = record { machine = m; devices = d; disks = disks } in e
    ≡ record { machine = m'; devices = d'; disks = disks })
as_seen m m' d d' disks a b = rw (a, b) refl

-- a user's machine at boot, by what it is with any storage of zeros
pub off_new : (volumes : List VolumeFormat) (u : UserParts) (user : DirectoryUser)
    → u.keys ≡ replicate (user.pages * 2) 0 → AreDisks volumes user.minidisks (disks_on volumes u.minidisks)
    → IsUnused u.parts (devices_new (places_in user.devices)) (disks_on volumes u.minidisks)
    → u.devices ≡ devices_new (places_in user.devices)
    → IsNewUser volumes user (user_with u volumes (replicate (user.pages * 4096) 0))
off_new volumes u user k disks h d =
    let bytes : List ℕ = replicate (user.pages * 4096) 0 in
    let keys : List ℕ = replicate (user.pages * 2) 0 in
    let b : replicate (length bytes) 0 ≡ bytes =
    ap (λ (n : ℕ). replicate n 0) (length-replicate {A = ℕ} (user.pages * 4096) 0) in
    let e : replicate (length keys) 0 ≡ u.keys =
    ap (λ (n : ℕ). replicate n 0) (length-replicate {A = ℕ} (user.pages * 2) 0) ∙ sym k in
    let m : machine_of u.parts (memory_of bytes u.keys) ≡ unused (memory_of bytes keys) h.subchannels =
    sym (ap (λ (xs : List ℕ). machine_of u.parts (memory_of xs (replicate (length keys) 0))) b ∙ ap
    (λ (xs : List ℕ). machine_of u.parts (memory_of bytes xs)) e) ∙ h.off (memory_of bytes keys) in
    record {
      subchannels = h.subchannels;
      disks = disks;
      attached = h.attached;
      new = as_seen _ _ _ _ (disks_on volumes u.minidisks) m d;
    }

-- the system at boot, by its parts
pub boot_seen : (us : List Equipped) (directory : List DirectoryUser) (volumes : List VolumeFormat)
    (ss : List (List Placement)) (ks ks' : List ReuseValue) (supply supply' : FrameSupply) → supply ≡ supply' → ks ≡ ks'
    → (let s : SystemView = record {
      users = us;
      directory = directory;
      supply = supply;
      files = [];
      volumes = volumes;
      placements = ss;
      kept = ks;
      is_spent = false;
    } in s
    ≡ record {
      users = us;
      directory = directory;
      supply = supply';
      files = [];
      volumes = volumes;
      placements = ss;
      kept = ks';
      is_spent = false;
    })
boot_seen us directory volumes ss ks ks' supply supply' b e = rw (b, e) refl

-- ---- where minidisks are

-- The addresses of minidisks are those of the disks that the user sees.
pub disk_addresses : (volumes : List VolumeFormat) (ds : List SharedMinidisk)
    → map (λ (d : SharedMinidisk). d.address) ds ≡ map (λ (disk : DiskAt). disk.address) (disks_on volumes ds)
disk_addresses volumes [] = refl
disk_addresses volumes (d ∷ ds) = ap (λ (xs : List ℕ). d.address ∷ xs) (disk_addresses volumes ds)

pub seat_new : (volumes : List VolumeFormat) (seats : List UserParts) (users : List DirectoryUser)
    → AreNew volumes seats users → (k : ℕ)
    → (get_or seats k no_user).minidisks ≡ seats_of volumes (minidisks_at users k)
seat_new volumes [] [] h k = refl
seat_new volumes [] (u ∷ us) h k = absurd h
seat_new volumes (s ∷ ss) [] h k = absurd h
seat_new volumes (s ∷ ss) (u ∷ us) h zero = h.0.seated
seat_new volumes (s ∷ ss) (u ∷ us) h (suc k) = seat_new volumes ss us h.1 k

-- The placements of new users are those of their statements.
pub placements_new : (volumes : List VolumeFormat) (seats : List UserParts) (users : List DirectoryUser)
    → AreNew volumes seats users → (k : ℕ)
    → get_or (placements_among seats) k [] ≡ placements_of (seats_of volumes (minidisks_at users k))
placements_new volumes [] [] h k = refl
placements_new volumes [] (u ∷ us) h k = absurd h
placements_new volumes (s ∷ ss) [] h k = absurd h
placements_new volumes (s ∷ ss) (u ∷ us) h zero = ap (λ (m : List SharedMinidisk). placements_of m) h.0.seated
placements_new volumes (s ∷ ss) (u ∷ us) h (suc k) = placements_new volumes ss us h.1 k

-- no program is kept at boot
pub kept_new : (volumes : List VolumeFormat) (seats : List UserParts) (users : List DirectoryUser)
    → AreNew volumes seats users
    → kept_of seats ≡ map (λ (placements : List Placement). kept_none (length placements)) (placements_among seats)
kept_new volumes [] [] h = refl
kept_new volumes [] (u ∷ us) h = absurd h
kept_new volumes (s ∷ ss) [] h = absurd h
kept_new volumes (s ∷ ss) (u ∷ us) h =
    ap (λ (r : ReuseValue). r ∷ kept_of ss) h.0.forgot ∙ ap
    (λ (rs : List ReuseValue). kept_none (length (placements_of s.minidisks)) ∷ rs) (kept_new volumes ss us h.1)

-- those of one user more are lawful
pub lawful_on : (users : List DirectoryUser) (user : DirectoryUser) → ((k : ℕ) → AreLawful (minidisks_at users k))
    → AreLawful user.minidisks → (k : ℕ) → AreLawful (minidisks_at (users ++ user ∷ []) k)
lawful_on [] user h is zero = is
lawful_on [] user h is (suc k) = All-nil IsLawful
lawful_on (u ∷ us) user h is zero = h zero
lawful_on (u ∷ us) user h is (suc k) = lawful_on us user (λ j. h (suc j)) is k

-- New users have their minidisks in place, apart from each other.
pub seated_new : (volumes : List VolumeFormat) (seats : List UserParts) (users : List DirectoryUser)
    → AreNew volumes seats users → AreApart users → ((j : ℕ) → AreLawful (minidisks_at users j))
    → find (user_lacks volumes) users ≡ None → position (user_is_past volumes) users ≡ None → AreSeated seats volumes
seated_new volumes seats users h apart lawful there inside =
    let same : (k : ℕ) → placements_of (get_or seats k no_user).minidisks
    ≡ placements_of (seats_of volumes (minidisks_at users k)) =
    λ k. ap (λ (m : List SharedMinidisk). placements_of m) (seat_new volumes seats users h k) in
    record {
      seated = λ k. (subst (λ (s : List Placement). IsUsers volumes s) (sym (same k))
          (is_users volumes users k apart lawful there inside));
      apart = λ j k i t differs at.
          (subst (λ (s : List Placement). AllLeaveBe s t) (sym (same j))
          (users_apart volumes users apart lawful there j k i t differs
          (ap (λ (s : List Placement). slice_get s i) (sym (same k)) ∙ at)));
    }
