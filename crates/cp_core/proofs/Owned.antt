-- Seats with the files of all users, of which one user's change.
use Rattle.std.proofs.Common.{◌≡◌, ◌≢◌, ◌∙◌, Bool, ℕ, zero, suc, ◌<◌, List, [], ◌∷◌, ◌++◌, length, replicate, get_or}
use Rattle.std.proofs.Common.{map, set, Some, refl, sym, ap, subst, arith}
use Rattle.std.specs.Prelude.{slice_get}
use Rattle.std.proofs.Math.ListN.{get_or-map}
use Rattle.std.proofs.lemmas.List.{get_or-set_other, get_or_default, length-replicate, length-set}
use Rattle.cp_spool.specs.Queues.{KeepsOthers, QueuesValue, UserFiles, files_of, no_files}
use Rattle.cp_spool.proofs.Others.{as_many}
use Rattle.machine_devices.specs.Lent.{DevicesParts, KeepsOtherUsers, devices_with}
use Rattle.ckd_volume.specs.Volume.{VolumeFormat}
use Rattle.cp_directory.specs.Users.{DirectoryUser}
use Rattle.unit_record.specs.Output.{FileValue}
use Rattle.unit_record.specs.declared.reader.Sender.TheVariants as senders
use Rattle.cp_spool.specs.Queues.{cards_of}
use Rattle.machine_devices.specs.Devices.{no_places}
use Rattle.machine_devices.specs.Equipped.{Equipped, nobody}
use Rattle.machine_devices.specs.Lent.{parts_new}
use Rattle.machine_devices.specs.UserDirectory.{is_logged_on}
use Rattle.machine_devices.specs.Life.{Deck as Gets}
use Rattle.cp_core.specs.Parcels.{IsThere, IsThereIn, contents, contents_in}
use Rattle.cp_core.specs.System.{SystemView, user_at, users_of}
use Rattle.cp_core.specs.UserMachines.{SeatParts, UserParts, seat_on, seats_on, unowned, user_with}
use Rattle.cp_core.specs.Whole.{IsWhole, no_user}
use Rattle.cp_core.specs.declared.delivery.Parcel.{Parcel}
use Rattle.cp_core.specs.declared.delivery.Parcel.TheVariants as parcels
use Rattle.cp_core.proofs.Systems.{get-users, has_seat}
use Rattle.cp_core.specs.Owners.{AreOwners}

-- The parts of a user with his files are found at his place.
pub seat_here : (q : QueuesValue) (seats : List SeatParts) (i : ℕ) (s : SeatParts) → s ≡ get_or seats i s
    → seat_on q s ≡ get_or (seats_on q seats) i (seat_on q s)
seat_here q seats i s same = ap (seat_on q) same ∙ sym (get_or-map (seat_on q) seats i s)

-- There are as many users with their files as users.
pub length-seats : (q : QueuesValue) (seats : List SeatParts) → length (seats_on q seats) ≡ length seats
length-seats q [] = refl
length-seats q (s ∷ ss) = ap suc (length-seats q ss)

-- who is logged on
pub modes_on : (q : QueuesValue) (seats : List SeatParts)
    → map (λ (seat : UserParts). is_logged_on seat.parts.mode) (seats_on q seats)
    ≡ map (λ (s : SeatParts). is_logged_on s.parts.mode) seats
modes_on q [] = refl
modes_on q (s ∷ ss) = ap (λ (on : List Bool). is_logged_on s.parts.mode ∷ on) (modes_on q ss)

-- what every other user sees of his files is as it was
abbrev pub SeeSame : QueuesValue → QueuesValue → List SeatParts → (ℕ → Type 0) → Type 0
SeeSame q q' seats P = (k : ℕ) (s : SeatParts) → slice_get seats k ≡ Some s → P k → seat_on q' s ≡ seat_on q s

all_same : (q q' : QueuesValue) (seats : List SeatParts) → SeeSame q q' seats (λ k. Unit {0})
    → seats_on q' seats ≡ seats_on q seats
all_same q q' [] h = refl
all_same q q' (s ∷ ss) h = rw (h 0 s refl tt, all_same q q' ss (λ k x at differs. h (suc k) x at tt)) refl

-- Users with their files are set as the users are.
pub set-seats : (q q' : QueuesValue) (seats : List SeatParts) (i : ℕ) (s' : SeatParts)
    → SeeSame q q' seats (λ k. k ≡ i → ⊥) → seats_on q' (set seats i s') ≡ set (seats_on q seats) i (seat_on q' s')
set-seats q q' [] i s' h = refl
set-seats q q' (s ∷ ss) zero s' h =
    ap (λ (us : List UserParts). seat_on q' s' ∷ us)
    (all_same q q' ss (λ k x at differs. h (suc k) x at (λ same. grind arith)))
set-seats q q' (s ∷ ss) (suc i) s' h =
    let first : seat_on q' s ≡ seat_on q s = h 0 s refl (λ same. grind arith) in
    let others : seats_on q' (set ss i s') ≡ set (seats_on q ss) i (seat_on q' s') =
    set-seats q q' ss i s' (λ k x at differs. h (suc k) x at (λ same. differs (grind arith))) in
    rw (first, others) refl

files_stay : (users users' : List UserFiles) (i k : ℕ) → KeepsOthers i users users' → k ≢ i
    → files_of users' k ≡ files_of users k
files_stay users users' i k keeps differs =
    ap (λ (us : List UserFiles). files_of us k) keeps ∙ get_or-set_other users i k (files_of users' i) no_files differs

seat_files : (s : SeatParts) (f g : UserFiles) → f ≡ g
    → (let u : UserParts = record {
      parts = s.parts;
      devices = devices_with s.devices f;
      minidisks = s.minidisks;
      keys = s.keys;
      reuse = s.reuse;
    } in u
    ≡ record {
      parts = s.parts;
      devices = devices_with s.devices g;
      minidisks = s.minidisks;
      keys = s.keys;
      reuse = s.reuse;
    })
seat_files s f g e = rw e refl

-- Queues that agree on other users show these the same files.
pub see_same : (q q' : QueuesValue) (seats : List SeatParts) (i : ℕ) → AreOwners seats q
    → KeepsOthers i q.users q'.users → SeeSame q q' seats (λ k. k ≡ i → ⊥)
see_same q q' seats i owners keeps k s at differs =
    seat_files s (files_of q'.users s.devices.user) (files_of q.users s.devices.user)
    (files_stay q.users q'.users i s.devices.user keeps (λ same. differs (sym (owners.own k s at) ∙ same)))

-- an owner stays one
got_set : (seats : List SeatParts) (i : ℕ) (s' : SeatParts) (k : ℕ) (s : SeatParts) (Q : ℕ → SeatParts → Type 0)
    → Q i s' → ((j : ℕ) (x : SeatParts) → slice_get seats j ≡ Some x → Q j x) → slice_get (set seats i s') k ≡ Some s
    → Q k s
got_set [] i s' k s Q now before at = before k s at
got_set (x ∷ xs) zero s' zero s Q now before at = let same : s' ≡ s = cc in subst (λ (y : SeatParts). Q 0 y) same now
got_set (x ∷ xs) zero s' (suc k) s Q now before at = before (suc k) s at
got_set (x ∷ xs) (suc i) s' zero s Q now before at = before 0 s at
got_set (x ∷ xs) (suc i) s' (suc k) s Q now before at =
    got_set xs i s' k s (λ j y. Q (suc j) y) now (λ j y h. before (suc j) y h) at

-- Users own their files still after one has changed his own.
pub owners_on : (q q' : QueuesValue) (seats : List SeatParts) (i : ℕ) (s' : SeatParts) → AreOwners seats q
    → KeepsOthers i q.users q'.users → s'.devices.user ≡ i → AreOwners (set seats i s') q'
owners_on q q' seats i s' owners keeps own = record {
  own = λ k s at. got_set seats i s' k s (λ j x. x.devices.user ≡ j) own owners.own at;
  as_many = as_many q.users q'.users i keeps ∙ owners.as_many ∙ sym (length-set seats i s');
}

-- whose files a seat has
owner_at : (seats : List SeatParts) (i : ℕ) (s : SeatParts) → i < length seats → s ≡ get_or seats i s
    → slice_get seats i ≡ Some s
owner_at [] i s h e = absurd (omega arith)
owner_at (x ∷ xs) zero s h e = ap (λ (y : SeatParts). Some y) (sym e)
owner_at (x ∷ xs) (suc i) s h e = owner_at xs i s (omega arith) e

-- The owner of the files at a place is the user there.
pub owner_is : (q : QueuesValue) (seats : List SeatParts) (i : ℕ) (s : SeatParts) → AreOwners seats q → i < length seats
    → s ≡ get_or seats i s → s.devices.user ≡ i
owner_is q seats i s owners inside same = owners.own i s (owner_at seats i s inside same)

-- there is still an owner
pub owner_still : (d d' : DevicesParts) (q q' : QueuesValue) → KeepsOtherUsers d q d' q' → d.user < length q.users
    → d'.user < length q'.users
owner_still d d' q q' keeps inside = omega (arith, inside, keeps.user, as_many q.users q'.users d.user keeps.others)

-- ---- what is delivered

-- the parts of nobody, as they are kept
pub no_seat : SeatParts
no_seat = record {
  parts = no_user.parts;
  devices = parts_new no_places 0;
  minidisks = [];
  keys = [];
  reuse = no_user.reuse;
}

-- a user's closed files are those of all that are his
pub punched_are : (q : QueuesValue) (seats : List SeatParts) (volumes : List VolumeFormat) (storages : List (List ℕ))
    (directory : List DirectoryUser) (us : List Equipped) → IsWhole (seats_on q seats) storages directory
    → users_of (seats_on q seats) volumes storages ≡ us → AreOwners seats q → (from : ℕ) → from < length us
    → (get_or us from nobody).devices.punched ≡ (files_of q.users from).punched
punched_are q seats volumes storages directory us whole e owners from h =
    let seated : from < length (seats_on q seats) =
    has_seat (seats_on q seats) volumes storages directory us from whole e h in
    let inside : from < length seats = subst (λ (n : ℕ). from < n) (length-seats q seats) seated in
    let same_length : length (seats_on q seats) ≡ length storages = omega (arith, whole.seated, whole.stored) in
    let s = get_or seats from no_seat in
    let at : get_or us from nobody ≡ user_with (seat_on q s) volumes (get_or storages from []) =
    ap (λ (xs : List Equipped). get_or xs from nobody) (sym e) ∙ get-users (seats_on q seats) volumes storages from
    (seat_on q no_seat) [] nobody seated same_length
    ∙ ap (λ (x : UserParts). user_with x volumes (get_or storages from [])) (get_or-map (seat_on q) seats from no_seat)
    in
    let owner : s.devices.user ≡ from =
    owner_is q seats from s owners inside (sym (get_or_default seats from s no_seat inside)) in
    ap (λ (x : Equipped). x.devices.punched) at ∙ ap (λ (u : ℕ). (files_of q.users u).punched) owner

module _ (q : QueuesValue) (s : SystemView)
    (are : (from : ℕ) → from < length s.users
    → (user_at s from).devices.punched ≡ (files_of q.users from).punched) where
  pub contents_same : (parcel : Parcel) → IsThere s parcel → contents_in q parcel ≡ contents s parcel
  contents_same (parcels.Deck number sender cards) h = refl
  contents_same (parcels.Message line) h = refl
  contents_same (parcels.File from index number) h =
      ap (λ (files : List FileValue).
      Gets (record { label = number; sender = senders.User from; cards = cards_of (slice_get files index) }))
      (sym (are from h.0))

  pub there_same : (parcel : Parcel) → IsThere s parcel → IsThereIn q parcel
  there_same (parcels.Deck number sender cards) h = tt
  there_same (parcels.Message line) h = tt
  there_same (parcels.File from index number) h =
      subst (λ (files : List FileValue). index < length files) (are from h.0) h.1

-- ---- at boot

files_none : (n user : ℕ) → files_of (replicate n no_files) user ≡ no_files
files_none zero user = refl
files_none (suc n) zero = refl
files_none (suc n) (suc user) = files_none n user

-- With empty queues each user has no files.
pub seats_new : (q : QueuesValue) (seats : List SeatParts) (n : ℕ) → q.users ≡ replicate n no_files
    → seats_on q seats ≡ map unowned seats
seats_new q [] n e = refl
seats_new q (s ∷ ss) n e =
    let first : seat_on q s ≡ unowned s =
    seat_files s (files_of q.users s.devices.user) no_files
    (ap (λ (us : List UserFiles). files_of us s.devices.user) e ∙ files_none n s.devices.user) in
    rw (first, seats_new q ss n e) refl

-- With empty queues each user owns his files.
pub owners_new : (q : QueuesValue) (seats : List SeatParts)
    → ((k : ℕ) (s : SeatParts) → slice_get seats k ≡ Some s → s.devices.user ≡ k)
    → q.users ≡ replicate (length seats) no_files → AreOwners seats q
owners_new q seats own e =
    record { own = own; as_many = ap (λ (us : List UserFiles). length us) e ∙ length-replicate (length seats) no_files }

more_at : (seats : List SeatParts) (s : SeatParts) (k : ℕ) (x : SeatParts) (Q : ℕ → SeatParts → Type 0)
    → Q (length seats) s → ((j : ℕ) (y : SeatParts) → slice_get seats j ≡ Some y → Q j y)
    → slice_get (seats ++ s ∷ []) k ≡ Some x → Q k x
more_at [] s zero x Q now before at = let same : s ≡ x = cc in subst (λ (y : SeatParts). Q 0 y) same now
more_at [] s (suc k) x Q now before at = absurd (cc)
more_at (y ∷ ys) s zero x Q now before at = before 0 x at
more_at (y ∷ ys) s (suc k) x Q now before at =
    more_at ys s k x (λ j z. Q (suc j) z) now (λ j z h. before (suc j) z h) at

-- One more user owns the files at the next place.
pub owners_more : (seats : List SeatParts) (s : SeatParts) → s.devices.user ≡ length seats
    → ((k : ℕ) (x : SeatParts) → slice_get seats k ≡ Some x → x.devices.user ≡ k) → (k : ℕ) (x : SeatParts)
    → slice_get (seats ++ s ∷ []) k ≡ Some x → x.devices.user ≡ k
owners_more seats s is own k x at = more_at seats s k x (λ j y. y.devices.user ≡ j) is own at
