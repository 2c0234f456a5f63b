-- The users of a system, of whom one's machine and storage change.
use Rattle.std.specs.Prelude.{OnErr, OnOk, slice_get}
use Rattle.std.proofs.Common.{Result, Ok, Err, ◌≡◌, ℕ, ◌<◌, Bool, List, [], ◌∷◌, length, map, get_or, set, zero}
use Rattle.std.proofs.Common.{suc, refl, sym, subst, ◌∙◌, ap, arith, get_or-set_same, length-set}
use Rattle.std.proofs.lemmas.List.{get_or_default}
use Rattle.ckd_volume.specs.Volume.{VolumeFormat}
use Rattle.cp_directory.specs.Users.{DirectoryUser}
use Rattle.cp_frames.specs.Layout.{FrameSupply}
use Rattle.cp_dat.specs.Lent.{set_own}
use Rattle.machine_devices.specs.Equipped.{Equipped, nobody}
use Rattle.machine_devices.specs.UserDirectory.{is_logged_on}
use Rattle.cp_resident.specs.Reuse.{ReuseValue, kept_none}
use Rattle.cp_core.specs.UserMachines.{Fits, UserParts, user_with}
use Rattle.cp_core.specs.System.{SystemView, kept_of, logged_on_of, placements_among, users_of}
use Rattle.cp_volumes.specs.Shared.{AllLeaveBe, IsUsers, KeepsOtherDisks, SharedMinidisk}
use Rattle.cp_volumes.specs.Shared.{Placement, disks_on, placement_of, placements_of}
use Rattle.cp_volumes.proofs.Seats.{disks_stay, placement_at, users_on}
use Rattle.cp_core.specs.Whole.{AreSeated, IsWhole, no_user}
use Rattle.machine_devices.specs.declared.files.FileNote.{FileNote}

-- There are as many users as parts of users.
pub length-users : (seats : List UserParts) (volumes : List VolumeFormat) (storages : List (List ℕ))
    → length seats ≡ length storages → length (users_of seats volumes storages) ≡ length seats
length-users [] volumes storages e = refl
length-users (seat ∷ seats) volumes [] e = absurd (omega arith)
length-users (seat ∷ seats) volumes (bytes ∷ storages) e =
    let rest = length-users seats volumes storages (omega arith) in omega arith

-- A user is made of his parts, the volumes and his storage.
pub get-users : (seats : List UserParts) (volumes : List VolumeFormat) (storages : List (List ℕ)) (i : ℕ)
    (s : UserParts) (b : List ℕ) (m : Equipped) → i < length seats → length seats ≡ length storages
    → get_or (users_of seats volumes storages) i m ≡ user_with (get_or seats i s) volumes (get_or storages i b)
get-users [] volumes storages i s b m h e = absurd (omega arith)
get-users (seat ∷ seats) volumes [] i s b m h e = absurd (omega arith)
get-users (seat ∷ seats) volumes (bytes ∷ storages) zero s b m h e = refl
get-users (seat ∷ seats) volumes (bytes ∷ storages) (suc i) s b m h e =
    get-users seats volumes storages i s b m (omega arith) (omega arith)

-- a user sees his disks as they were
abbrev pub SeesSame : List VolumeFormat → List VolumeFormat → UserParts → Type 0
SeesSame volumes volumes' seat = disks_on volumes' seat.minidisks ≡ disks_on volumes seat.minidisks

same_with : (seat : UserParts) (volumes volumes' : List VolumeFormat) (bytes : List ℕ) → SeesSame volumes volumes' seat
    → user_with seat volumes' bytes ≡ user_with seat volumes bytes
same_with seat volumes volumes' bytes e = rw e refl

users_same : (seats : List UserParts) (volumes volumes' : List VolumeFormat) (storages : List (List ℕ))
    → ((k : ℕ) → SeesSame volumes volumes' (get_or seats k no_user))
    → users_of seats volumes' storages ≡ users_of seats volumes storages
users_same [] volumes volumes' storages h = refl
users_same (seat ∷ seats) volumes volumes' [] h = refl
users_same (seat ∷ seats) volumes volumes' (bytes ∷ storages) h =
    let first : user_with seat volumes' bytes ≡ user_with seat volumes bytes =
    same_with seat volumes volumes' bytes (h 0) in
    let others : users_of seats volumes' storages ≡ users_of seats volumes storages =
    users_same seats volumes volumes' storages (λ k. h (suc k)) in
    rw (first, others) refl

pub set-users : (seats : List UserParts) (volumes volumes' : List VolumeFormat) (storages : List (List ℕ)) (i : ℕ)
    (s : UserParts) (b : List ℕ) → ((k : ℕ) → (k ≡ i → ⊥) → SeesSame volumes volumes' (get_or seats k no_user))
    → users_of (set seats i s) volumes' (set storages i b)
    ≡ set (users_of seats volumes storages) i (user_with s volumes' b)
set-users [] volumes volumes' storages i s b h = refl
set-users (seat ∷ seats) volumes volumes' [] zero s b h = refl
set-users (seat ∷ seats) volumes volumes' [] (suc i) s b h = refl
set-users (seat ∷ seats) volumes volumes' (bytes ∷ storages) zero s b h =
    ap (λ (us : List Equipped). user_with s volumes' b ∷ us)
    (users_same seats volumes volumes' storages (λ k. h (suc k) (λ same. grind arith)))
set-users (seat ∷ seats) volumes volumes' (bytes ∷ storages) (suc i) s b h =
    let first : user_with seat volumes' bytes ≡ user_with seat volumes bytes =
    same_with seat volumes volumes' bytes (h 0 (λ same. grind arith)) in
    let others : users_of (set seats i s) volumes' (set storages i b)
    ≡ set (users_of seats volumes storages) i (user_with s volumes' b) =
    set-users seats volumes volumes' storages i s b (λ k differs. h (suc k) (λ same. differs (grind arith))) in
    rw (first, others) refl

-- ---- one user's programs run

-- what a work on the minidisks of one user leaves of those of the others
pub sees_same : (seats : List UserParts) (volumes volumes' : List VolumeFormat) (user : ℕ) (new : List SharedMinidisk)
    → AreSeated seats volumes
    → KeepsOtherDisks (record { volumes = volumes; minidisks = (get_or seats user no_user).minidisks })
    (record { volumes = volumes'; minidisks = new })
    → (k : ℕ) → (k ≡ user → ⊥) → SeesSame volumes volumes' (get_or seats k no_user)
sees_same seats volumes volumes' user new seated kept k differs =
    disks_stay volumes volumes' (get_or seats k no_user).minidisks
    (λ j e at. kept.confined.others (placement_of e)
    (seated.apart user k j (placement_of e) (λ same. differs (sym same))
    (placement_at (get_or seats k no_user).minidisks j e at)))

same_placements : (seats : List UserParts) (user : ℕ) (seat' : UserParts)
    → placements_of seat'.minidisks ≡ placements_of (get_or seats user no_user).minidisks → (k : ℕ)
    → placements_of (get_or (set seats user seat') k no_user).minidisks
    ≡ placements_of (get_or seats k no_user).minidisks
same_placements [] user seat' e k = refl
same_placements (seat ∷ seats) zero seat' e zero = e
same_placements (seat ∷ seats) zero seat' e (suc k) = refl
same_placements (seat ∷ seats) (suc user) seat' e zero = refl
same_placements (seat ∷ seats) (suc user) seat' e (suc k) = same_placements seats user seat' e k

-- Users stay in their places on the volumes after one has worked.
pub seated_on : (seats : List UserParts) (volumes volumes' : List VolumeFormat) (user : ℕ) (seat' : UserParts)
    → AreSeated seats volumes
    → KeepsOtherDisks (record { volumes = volumes; minidisks = (get_or seats user no_user).minidisks })
    (record { volumes = volumes'; minidisks = seat'.minidisks })
    → AreSeated (set seats user seat') volumes'
seated_on seats volumes volumes' user seat' seated kept =
    let same = same_placements seats user seat' kept.placements in
    record {
      seated = λ k. (subst (λ (s : List Placement). IsUsers volumes' s) (sym (same k))
          (users_on volumes volumes' (placements_of (get_or seats k no_user).minidisks) kept.confined.sizes
          (seated.seated k)));
      apart = λ j k i t differs at.
          (subst (λ (s : List Placement). AllLeaveBe s t) (sym (same j))
          (seated.apart j k i t differs (ap (λ (s : List Placement). slice_get s i) (sym (same k)) ∙ at)));
    }

-- ---- one seat and its storage change

-- What one user's work changes of the system.
pub record IsChange (seats : List UserParts) (volumes volumes' : List VolumeFormat) (storages storages' : List (List ℕ))
    (us : List Equipped) (user : ℕ) (seat seat' : UserParts) : Type 0 where
  pub old : get_or us user nobody ≡ user_with seat volumes (get_or storages user [])
  pub new : get_or (users_of (set seats user seat') volumes' storages') user nobody
      ≡ user_with seat' volumes' (get_or storages' user [])
  pub users : users_of (set seats user seat') volumes' storages'
      ≡ set us user (get_or (users_of (set seats user seat') volumes' storages') user nobody)

-- One user's work changes his machine and leaves all others.
pub change : (seats : List UserParts) (volumes volumes' : List VolumeFormat) (storages storages' : List (List ℕ))
    (directory : List DirectoryUser) (us : List Equipped) (user : ℕ) (seat seat' : UserParts)
    → IsWhole seats storages directory → users_of seats volumes storages ≡ us → user < length us
    → seat ≡ get_or seats user seat → storages' ≡ set storages user (get_or storages' user [])
    → ((k : ℕ) → (k ≡ user → ⊥) → SeesSame volumes volumes' (get_or seats k no_user))
    → IsChange seats volumes volumes' storages storages' us user seat seat'
change seats volumes volumes' storages storages' directory us user seat seat' whole e h same others seen =
    let same_length : length seats ≡ length storages = omega (arith, whole.seated, whole.stored) in
    let inside : user < length seats = omega (arith, length-users seats volumes storages same_length, ap length e) in
    let b' = get_or storages' user [] in
    let s : seat ≡ get_or seats user no_user = same ∙ get_or_default seats user seat no_user inside in
    let o : get_or us user nobody ≡ user_with seat volumes (get_or storages user []) =
    ap (λ (xs : List Equipped). get_or xs user nobody) (sym e) ∙ get-users seats volumes storages user no_user [] nobody
    inside same_length
    ∙ ap (λ (x : UserParts). user_with x volumes (get_or storages user [])) (sym s) in
    let all : users_of (set seats user seat') volumes' storages' ≡ set us user (user_with seat' volumes' b') =
    ap (λ (x : List (List ℕ)). users_of (set seats user seat') volumes' x) others ∙ set-users seats volumes volumes'
    storages user seat' b' seen ∙ ap (λ (x : List Equipped). set x user (user_with seat' volumes' b')) e in
    let n : get_or (users_of (set seats user seat') volumes' storages') user nobody ≡ user_with seat' volumes' b' =
    ap (λ (x : List Equipped). get_or x user nobody) all ∙ get_or-set_same us user (user_with seat' volumes' b') nobody
    h in
    record { old = o; new = n; users = all ∙ ap (λ (x : Equipped). set us user x) (sym n) }

-- The placements of a user are those of his minidisks.
pub get-placements : (seats : List UserParts) (user : ℕ)
    → get_or (placements_among seats) user [] ≡ placements_of (get_or seats user no_user).minidisks
get-placements [] user = refl
get-placements (seat ∷ seats) zero = refl
get-placements (seat ∷ seats) (suc user) = get-placements seats user

kept_placements : (seats : List UserParts) (user : ℕ) (seat seat' : UserParts) → seat ≡ get_or seats user seat
    → placements_of seat'.minidisks ≡ placements_of seat.minidisks
    → placements_among (set seats user seat') ≡ placements_among seats
kept_placements [] user seat seat' same kept = refl
kept_placements (s ∷ seats) zero seat seat' same kept =
    ap (λ (d : List Placement). d ∷ placements_among seats)
    (kept ∙ ap (λ (x : UserParts). placements_of x.minidisks) same)
kept_placements (s ∷ seats) (suc user) seat seat' same kept =
    ap (λ (ds : List (List Placement)). placements_of s.minidisks ∷ ds)
    (kept_placements seats user seat seat' same kept)

same_kept : (seats : List UserParts) (user : ℕ) (seat seat' : UserParts) → seat ≡ get_or seats user seat
    → seat'.reuse ≡ seat.reuse → kept_of (set seats user seat') ≡ kept_of seats
same_kept [] user seat seat' same kept = refl
same_kept (s ∷ seats) zero seat seat' same kept =
    ap (λ (r : ReuseValue). r ∷ kept_of seats) (kept ∙ ap (λ (x : UserParts). x.reuse) same)
same_kept (s ∷ seats) (suc user) seat seat' same kept =
    ap (λ (rs : List ReuseValue). s.reuse ∷ rs) (same_kept seats user seat seat' same kept)

-- what is kept of a user's programs, by his seat
pub get-kept : (seats : List UserParts) (user : ℕ) (s : UserParts) → user < length seats
    → get_or (kept_of seats) user (kept_none 0) ≡ (get_or seats user s).reuse
get-kept [] user s h = absurd (omega arith)
get-kept (seat ∷ seats) zero s h = refl
get-kept (seat ∷ seats) (suc user) s h = get-kept seats user s (omega arith)

-- Setting a user sets the programs that are cached for him.
pub set-kept : (seats : List UserParts) (user : ℕ) (s : UserParts)
    → kept_of (set seats user s) ≡ set (kept_of seats) user s.reuse
set-kept [] user s = refl
set-kept (seat ∷ seats) zero s = refl
set-kept (seat ∷ seats) (suc user) s = ap (λ (rs : List ReuseValue). seat.reuse ∷ rs) (set-kept seats user s)

-- the system as it is seen, by its parts
abbrev pub seen : List UserParts → List VolumeFormat → List (List ℕ) → List DirectoryUser → FrameSupply → List FileNote
    → Bool → SystemView
seen seats volumes storages directory supply files is_spent =
    record {
      users = users_of seats volumes storages;
      directory = directory;
      supply = supply;
      files = files;
      volumes = volumes;
      placements = placements_among seats;
      kept = kept_of seats;
      is_spent = is_spent;
    }

with_users : (us us' : List Equipped) (ss ss' : List (List Placement)) (ks ks' : List ReuseValue)
    (directory : List DirectoryUser) (supply : FrameSupply) (files : List FileNote) (volumes : List VolumeFormat)
    (is_spent : Bool) → us' ≡ us → ss' ≡ ss → ks' ≡ ks
    → (let s : SystemView = record {
      users = us';
      directory = directory;
      supply = supply;
      files = files;
      volumes = volumes;
      placements = ss';
      kept = ks';
      is_spent = is_spent;
    } in s
    ≡ record {
      users = us;
      directory = directory;
      supply = supply;
      files = files;
      volumes = volumes;
      placements = ss;
      kept = ks;
      is_spent = is_spent;
    })
with_users us us' ss ss' ks ks' directory supply files volumes is_spent e g h = rw (e, g, h) refl

-- a storage that was lent changes its user, the volumes and the frames, and nothing else that is seen
pub lent_seen : (seats : List UserParts) (volumes volumes' : List VolumeFormat) (storages storages' : List (List ℕ))
    (directory : List DirectoryUser) (supply supply' : FrameSupply) (files : List FileNote) (is_spent : Bool)
    (old : SystemView) (user : ℕ) (seat seat' : UserParts)
    → IsChange seats volumes volumes' storages storages' old.users user seat seat'
    → seen seats volumes storages directory supply files is_spent ≡ old → seat ≡ get_or seats user seat
    → placements_of seat'.minidisks ≡ placements_of seat.minidisks
    → (let new = seen (set seats user seat') volumes' storages' directory supply' files is_spent in new
    ≡ record old {
      users = set old.users user (get_or new.users user nobody);
      supply = supply';
      volumes = volumes';
      kept = new.kept;
    })
lent_seen seats volumes volumes' storages storages' directory supply supply' files is_spent old user seat seat' changed
    is same stay =
    with_users _ _ _ _ _ _ directory supply' files volumes' is_spent changed.users
    (kept_placements seats user seat seat' same stay) refl
    ∙ ap (λ (s : SystemView).
    record s {
      users = set old.users user (get_or (users_of (set seats user seat') volumes' storages') user nobody);
      supply = supply';
      volumes = volumes';
      kept = kept_of (set seats user seat');
    }) is

-- a parcel changes its receiver
pub received_seen : (seats : List UserParts) (volumes : List VolumeFormat) (storages : List (List ℕ))
    (directory : List DirectoryUser) (supply : FrameSupply) (files : List FileNote) (is_spent : Bool) (old : SystemView)
    (user : ℕ) (seat seat' : UserParts) → IsChange seats volumes volumes storages storages old.users user seat seat'
    → seen seats volumes storages directory supply files is_spent ≡ old → seat ≡ get_or seats user seat
    → placements_of seat'.minidisks ≡ placements_of seat.minidisks → seat'.reuse ≡ seat.reuse
    → (let new = seen (set seats user seat') volumes storages directory supply files is_spent in new
    ≡ record old { users = set old.users user (get_or new.users user nobody) })
received_seen seats volumes storages directory supply files is_spent old user seat seat' changed is same stay reuse =
    with_users _ _ _ _ _ _ directory supply files volumes is_spent changed.users
    (kept_placements seats user seat seat' same stay) (same_kept seats user seat seat' same reuse)
    ∙ ap (λ (s : SystemView).
    record s { users = set old.users user (get_or (users_of (set seats user seat') volumes storages) user nobody) })
    is

-- one that was refused changes no user
pub refused_seen : (seats : List UserParts) (volumes : List VolumeFormat) (storages : List (List ℕ))
    (directory : List DirectoryUser) (supply : FrameSupply) (files : List FileNote) (is_spent : Bool) (old : SystemView)
    (user : ℕ) (seat seat' : UserParts) → IsChange seats volumes volumes storages storages old.users user seat seat'
    → seen seats volumes storages directory supply files is_spent ≡ old → seat ≡ get_or seats user seat
    → placements_of seat'.minidisks ≡ placements_of seat.minidisks → seat'.reuse ≡ seat.reuse
    → user_with seat' volumes (get_or storages user []) ≡ user_with seat volumes (get_or storages user [])
    → (let new = seen (set seats user seat') volumes storages directory supply files is_spent in new ≡ old)
refused_seen seats volumes storages directory supply files is_spent old user seat seat' changed is same stay reuse
    refused =
    let kept : users_of (set seats user seat') volumes storages ≡ old.users =
    changed.users ∙ ap (λ (e : Equipped). set old.users user e) (changed.new ∙ refused ∙ sym changed.old) ∙ sym
    (set_own old.users user nobody) in
    with_users _ _ _ _ _ _ directory supply files volumes is_spent kept
    (kept_placements seats user seat seat' same stay) (same_kept seats user seat seat' same reuse)
    ∙ ap (λ (s : SystemView). record s { users = old.users }) is

-- ---- a seat

-- the seat of a user fits his storage
pub seat_fits : (seats : List UserParts) (storages : List (List ℕ)) (directory : List DirectoryUser) (user : ℕ)
    (seat : UserParts) → IsWhole seats storages directory → user < length directory → seat ≡ get_or seats user seat
    → Fits seat (get_or storages user [])
seat_fits seats storages directory user seat whole h same =
    let inside : user < length seats = omega (arith, whole.seated) in
    let s : seat ≡ get_or seats user no_user = same ∙ get_or_default seats user seat no_user inside in
    rw s (whole.fits user h)

-- a user's seat and storage change, and still fit
fits_each : (seats : List UserParts) (storages : List (List ℕ)) (user : ℕ) (seat' : UserParts) (b : List ℕ) (n k : ℕ)
    → ((j : ℕ) → j < n → Fits (get_or seats j no_user) (get_or storages j [])) → Fits seat' b → length seats ≡ n
    → length storages ≡ n → k < n → Fits (get_or (set seats user seat') k no_user) (get_or (set storages user b) k [])
fits_each [] storages user seat' b n k all new e f l = absurd (omega arith)
fits_each (s ∷ ss) [] user seat' b n k all new e f l = absurd (omega arith)
fits_each (s ∷ ss) (x ∷ xs) zero seat' b n zero all new e f l = new
fits_each (s ∷ ss) (x ∷ xs) zero seat' b n (suc k) all new e f l = all (suc k) l
fits_each (s ∷ ss) (x ∷ xs) (suc user) seat' b n zero all new e f l = all 0 l
fits_each (s ∷ ss) (x ∷ xs) (suc user) seat' b n (suc k) all new e f l =
    fits_each ss xs user seat' b (length ss) k (λ j less. all (suc j) (omega arith)) new refl (omega arith)
    (omega arith)

-- The system stays whole after one user's work.
pub whole_on : (seats : List UserParts) (storages storages' : List (List ℕ)) (directory : List DirectoryUser) (user : ℕ)
    (seat' : UserParts) → IsWhole seats storages directory → storages' ≡ set storages user (get_or storages' user [])
    → Fits seat' (get_or storages' user []) → IsWhole (set seats user seat') storages' directory
whole_on seats storages storages' directory user seat' whole others fits =
    subst (λ (xs : List (List ℕ)). IsWhole (set seats user seat') xs directory) (sym others)
    (record {
      seated = length-set seats user seat' ∙ whole.seated;
      stored = length-set storages user (get_or storages' user []) ∙ whole.stored;
      few = whole.few;
      fits = λ k less. fits_each seats storages user seat' (get_or storages' user []) (length directory) k whole.fits
          fits whole.seated whole.stored less;
    })

-- a user who has a machine is a user of the directory
pub is_user : (seats : List UserParts) (volumes : List VolumeFormat) (storages : List (List ℕ))
    (directory : List DirectoryUser) (us : List Equipped) (user : ℕ) → IsWhole seats storages directory
    → users_of seats volumes storages ≡ us → user < length us → user < length directory
is_user seats volumes storages directory us user whole e h =
    let same_length : length seats ≡ length storages = omega (arith, whole.seated, whole.stored) in
    omega (arith, length-users seats volumes storages same_length, ap length e, whole.seated)

-- a user's machine, by his seat
pub seat_is : (seats : List UserParts) (volumes : List VolumeFormat) (storages : List (List ℕ))
    (directory : List DirectoryUser) (us : List Equipped) (user : ℕ) (seat : UserParts)
    → IsWhole seats storages directory → users_of seats volumes storages ≡ us → user < length us
    → seat ≡ get_or seats user seat
    → get_or us user nobody ≡ user_with seat volumes (get_or us user nobody).machine.core.processor.bytes
seat_is seats volumes storages directory us user seat whole e h same =
    let same_length : length seats ≡ length storages = omega (arith, whole.seated, whole.stored) in
    let inside : user < length seats = omega (arith, length-users seats volumes storages same_length, ap length e) in
    let s : seat ≡ get_or seats user no_user = same ∙ get_or_default seats user seat no_user inside in
    let m : get_or us user nobody ≡ user_with seat volumes (get_or storages user []) =
    ap (λ (xs : List Equipped). get_or xs user nobody) (sym e) ∙ get-users seats volumes storages user no_user [] nobody
    inside same_length
    ∙ ap (λ (x : UserParts). user_with x volumes (get_or storages user [])) (sym s) in
    m ∙ ap (user_with seat volumes) (sym (ap (λ (x : Equipped). x.machine.core.processor.bytes) m))

-- the bytes of a user's machine are his storage
pub bytes_are : (seats : List UserParts) (volumes : List VolumeFormat) (storages : List (List ℕ))
    (directory : List DirectoryUser) (us : List Equipped) (user : ℕ) → IsWhole seats storages directory
    → users_of seats volumes storages ≡ us → user < length us
    → get_or storages user [] ≡ (get_or us user nobody).machine.core.processor.bytes
bytes_are seats volumes storages directory us user whole e h =
    let same_length : length seats ≡ length storages = omega (arith, whole.seated, whole.stored) in
    let inside : user < length seats = omega (arith, length-users seats volumes storages same_length, ap length e) in
    sym (ap (λ (xs : List Equipped). (get_or xs user nobody).machine.core.processor.bytes) (sym e) ∙ ap
    (λ (x : Equipped). x.machine.core.processor.bytes)
    (get-users seats volumes storages user no_user [] nobody inside same_length))

-- what holds of the machine of a seat before and after, holds of the user's machine
pub transported : (P : Equipped → Equipped → Type 0) (old old' new new' : Equipped) → old' ≡ old → new' ≡ new
    → P old new → P old' new'
transported P old old' new new' e f h =
    subst (λ (m : Equipped). P m new') (sym e) (subst (λ (m : Equipped). P old m) (sym f) h)

-- ---- who is logged on

-- The users who are logged on are those whose machines say so.
pub modes_of : (seats : List UserParts) (volumes : List VolumeFormat) (storages : List (List ℕ))
    → length seats ≡ length storages
    → map (λ (seat : UserParts). is_logged_on seat.parts.mode) seats ≡ logged_on_of (users_of seats volumes storages)
modes_of [] volumes storages e = refl
modes_of (seat ∷ seats) volumes [] e = absurd (omega arith)
modes_of (seat ∷ seats) volumes (bytes ∷ storages) e =
    ap (λ (on : List Bool). is_logged_on seat.parts.mode ∷ on) (modes_of seats volumes storages (omega arith))

-- a user who has a machine has a seat, and one of at most 64
pub has_seat : (seats : List UserParts) (volumes : List VolumeFormat) (storages : List (List ℕ))
    (directory : List DirectoryUser) (us : List Equipped) (user : ℕ) → IsWhole seats storages directory
    → users_of seats volumes storages ≡ us → user < length us → user < length seats
has_seat seats volumes storages directory us user whole e h =
    let inside = is_user seats volumes storages directory us user whole e h in omega (arith, inside, whole.seated)

pub is_few : (seats : List UserParts) (volumes : List VolumeFormat) (storages : List (List ℕ))
    (directory : List DirectoryUser) (us : List Equipped) (user : ℕ) → IsWhole seats storages directory
    → users_of seats volumes storages ≡ us → user < length us → user < 64
is_few seats volumes storages directory us user whole e h =
    let inside = is_user seats volumes storages directory us user whole e h in omega (arith, inside, whole.few)

-- ---- by an answer

-- What follows on an answer holds on it.
pub on_ok : {A E : Type 0} (r : Result A E) (P Q : Type 0) → (P → Q) → OnOk r P → OnOk r Q
on_ok (Ok a) P Q f h = f h
on_ok (Err e) P Q f h = h

-- What follows on an error holds on it.
pub on_err : {A E : Type 0} (r : Result A E) (P Q : Type 0) → (P → Q) → OnErr r P → OnErr r Q
on_err (Ok a) P Q f h = h
on_err (Err e) P Q f h = f h
