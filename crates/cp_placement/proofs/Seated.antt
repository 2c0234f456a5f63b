-- The minidisks of a directory's users, seated on their volumes: each has the cylinders of its extent, and none writes
-- on another.
use Rattle.std.specs.Prelude.{refl, ◌≡◌, ◌⊎◌, slice_get}
use Rattle.std.proofs.Common.{ℕ, zero, suc, ◌+◌, ◌-◌, ◌<◌, ◌≤◌, inl, inr, ◌&&◌, ◌||◌, Bool, true, false, not, max}
use Rattle.std.proofs.Common.{AllPairs, List, [], ◌∷◌, ◌++◌, length, get_or, replicate, Option, Some, None, is_some}
use Rattle.std.proofs.Common.{nat_lt, nat_le, if◌then◌else◌, ap, sym, ◌∙◌, subst, arith}
use Rattle.std.specs.List.{find, list_all, list_any, position}
use Rattle.std.proofs.lemmas.Bool.Decides.{nat_tests}
use Rattle.std.proofs.lemmas.List.Elements.{All-nil}
use Rattle.std.proofs.lemmas.List.Folds.{find_at}
use Rattle.std.proofs.lemmas.Slice.Eq.{bytes_eq-Decides}
use Rattle.ckd_volume.specs.Volume.{VolumeFormat}
use Rattle.cp_directory.specs.Extents.{Extent, conflicts, is_read_only, is_volser, padded}
use Rattle.cp_directory.specs.Grammar.{Conflicts}
use Rattle.cp_directory.specs.Names.{is_letter_or_digit}
use Rattle.cp_directory.specs.Users.{DirectoryUser, minidisks_of}
use Rattle.cp_directory.specs.Users.{AreApart as AreUsersApart}
use Rattle.cp_directory.specs.declared.extent.DiskMode.{DiskMode}
use Rattle.cp_directory.specs.declared.extent.DiskMode.TheVariants.{ReadOnly, Writable}
use Rattle.cp_directory.specs.declared.minidisk.MinidiskStatement.{MinidiskStatement}
use Rattle.cp_directory.proofs.Conflicts.{all_three, conflict_again, conflict_turned}
use Rattle.cp_minidisk.specs.Minidisk.{minidisk_new, users_disk}
use Rattle.cp_volumes.specs.Shared.{AllLeaveBe, AreApart, IsSeated, IsUsers, LeavesBe, Placement, disk_on, disks_on}
use Rattle.cp_volumes.specs.Shared.{no_volume, placement_of, placements_of, volume_at}
use Rattle.cp_placement.specs.Seating.{AreDisks, AreLawful, IsDiskOn, IsLawful, ends_past, extent_in, has_volser}
use Rattle.cp_placement.specs.Seating.{index_of, is_past, lacks_volume, minidisks_at, seat_of, seats_of, user_is_past}
use Rattle.cp_placement.specs.Seating.{user_lacks, volume_named}
use Rattle.cp_placement.proofs.Found.{found_such, unplaced}

-- ---- what is at a place of a list

fails_of : (a b : Bool) → (a || b) ≡ false → (a ≡ false) × (b ≡ false)
fails_of true b h = cc
fails_of false b h = (refl, h)

module _ {A : Type 0} where
  some_is : (x y : A) → Some x ≡ Some y → x ≡ y
  some_is x y e = cc

  within : (xs : List A) (i : ℕ) (x : A) → slice_get xs i ≡ Some x → i < length xs
  within [] i x e = cc
  within (y ∷ ys) zero x e = omega arith
  within (y ∷ ys) (suc i) x e = let less : i < length ys = within ys i x e in omega arith

  at_place : (xs : List A) (i : ℕ) (x d : A) → slice_get xs i ≡ Some x → get_or xs i d ≡ x
  at_place [] i x d e = cc
  at_place (y ∷ ys) zero x d e = cc
  at_place (y ∷ ys) (suc i) x d e = at_place ys i x d e

  of_first : (xs ys : List A) (i : ℕ) (x : A) → slice_get xs i ≡ Some x → slice_get (xs ++ ys) i ≡ Some x
  of_first [] ys i x e = cc
  of_first (z ∷ xs) ys zero x e = e
  of_first (z ∷ xs) ys (suc i) x e = of_first xs ys i x e

  of_second : (xs ys : List A) (i : ℕ) → slice_get (xs ++ ys) (length xs + i) ≡ slice_get ys i
  of_second [] ys i = let same : 0 + i ≡ i = omega arith in ap (slice_get ys) same
  of_second (z ∷ xs) ys i =
      let same : suc (length xs) + i ≡ suc (length xs + i) = omega arith in
      ap (slice_get (z ∷ (xs ++ ys))) same ∙ of_second xs ys i

  fails_at : (p : A → Bool) (xs : List A) (i : ℕ) (x : A) → list_any p xs ≡ false → slice_get xs i ≡ Some x
      → p x ≡ false
  fails_at p [] i x none e = cc
  fails_at p (y ∷ ys) zero x none e =
      subst (λ (z : A). p z ≡ false) (some_is y x e) (fails_of (p y) (list_any p ys) none).0
  fails_at p (y ∷ ys) (suc i) x none e = fails_at p ys i x (fails_of (p y) (list_any p ys) none).1 e

  -- each is so related to each later one
  record ArePairs (R : A → A → Type 0) (xs : List A) : Type 0 where
    pair : (i j : ℕ) (x y : A) → i < j → slice_get xs i ≡ Some x → slice_get xs j ≡ Some y → R x y

  are_pairs : (R : A → A → Type 0) (xs : List A) → AllPairs R xs → ArePairs R xs
  are_pairs R xs h = record {
    pair = λ i j x y less a b.
        let first : get_or xs i x ≡ x = at_place xs i x x a in
        let second : get_or xs j x ≡ y = at_place xs j y x b in
        subst (λ (z : A). R z y) first (subst (λ (z : A). R (get_or xs i x) z) second (h i j x less (within xs j y b)));
  }

  pairs_first : (R : A → A → Type 0) (xs ys : List A) → ArePairs R (xs ++ ys) → ArePairs R xs
  pairs_first R xs ys h = record {
    pair = λ i j x y less a b.
        h.pair i j x y less (of_first xs ys i x a) (of_first xs ys j y b);
  }

  pairs_second : (R : A → A → Type 0) (xs ys : List A) → ArePairs R (xs ++ ys) → ArePairs R ys
  pairs_second R xs ys h =
      record {
        pair = λ i j x y less a b.
            h.pair (length xs + i) (length xs + j) x y (omega arith) (of_second xs ys i ∙ a) (of_second xs ys j ∙ b);
      }

  pairs_across : (R : A → A → Type 0) (xs ys : List A) (i j : ℕ) (x y : A) → ArePairs R (xs ++ ys)
      → slice_get xs i ≡ Some x → slice_get ys j ≡ Some y → R x y
  pairs_across R xs ys i j x y h a b =
      let less : i < length xs = within xs i x a in
      h.pair i (length xs + j) x y (omega arith) (of_first xs ys i x a) (of_second xs ys j ∙ b)

-- ---- the minidisks of one user among those of all

-- where a minidisk of a user is among all
record IsAmong (users : List DirectoryUser) (m : MinidiskStatement) : Type 0 where
  place : ℕ
  is : slice_get (minidisks_of users) place ≡ Some m

among : (users : List DirectoryUser) (k i : ℕ) (m : MinidiskStatement) → slice_get (minidisks_at users k) i ≡ Some m
    → IsAmong users m
among [] k i m e = cc
among (u ∷ us) zero i m e = record { place = i; is = of_first u.minidisks (minidisks_of us) i m e }
among (u ∷ us) (suc k) i m e =
    let rest = among us k i m e in
    record {
      place = length u.minidisks + rest.place;
      is = of_second u.minidisks (minidisks_of us) rest.place ∙ rest.is;
    }

pairs_of_one : (R : MinidiskStatement → MinidiskStatement → Type 0) (users : List DirectoryUser) (k : ℕ)
    → ArePairs R (minidisks_of users)
    → ArePairs R (minidisks_at users k)
pairs_of_one R [] k h = h
pairs_of_one R (u ∷ us) zero h = pairs_first R u.minidisks (minidisks_of us) h
pairs_of_one R (u ∷ us) (suc k) h = pairs_of_one R us k (pairs_second R u.minidisks (minidisks_of us) h)

pairs_of_two : (R : MinidiskStatement → MinidiskStatement → Type 0) (users : List DirectoryUser) (j k i l : ℕ)
    (m n : MinidiskStatement)
    → ArePairs R (minidisks_of users) → j < k → slice_get (minidisks_at users j) i ≡ Some m
    → slice_get (minidisks_at users k) l ≡ Some n → R m n
pairs_of_two R [] j k i l m n h less a b = cc
pairs_of_two R (u ∷ us) j zero i l m n h less a b = absurd (omega arith)
pairs_of_two R (u ∷ us) zero (suc k) i l m n h less a b =
    let rest = among us k l n b in
    pairs_across R u.minidisks (minidisks_of us) i rest.place m n h a rest.is
pairs_of_two R (u ∷ us) (suc j) (suc k) i l m n h less a b =
    pairs_of_two R us j k i l m n (pairs_second R u.minidisks (minidisks_of us) h) (omega arith) a b

-- ---- serial numbers

both_of : (a b : Bool) → (a && b) ≡ true → (a ≡ true) × (b ≡ true)
both_of true true h = (refl, refl)
both_of true false h = cc
both_of false b h = cc

-- a word of letters and digits is reported from the blanks after it
unpadded : (a b : List ℕ) (m n : ℕ) → list_all is_letter_or_digit a ≡ true → list_all is_letter_or_digit b ≡ true
    → a ++ replicate m 32 ≡ b ++ replicate n 32 → a ≡ b
unpadded [] [] m n p q e = refl
unpadded [] (y ∷ b) zero n p q e = cc
unpadded [] (y ∷ b) (suc m) n p q e =
    let is : y ≡ 32 = cc in
    let lawful : is_letter_or_digit y ≡ true = (both_of (is_letter_or_digit y) (list_all is_letter_or_digit b) q).0 in
    let blank : is_letter_or_digit 32 ≡ true = subst (λ (c : ℕ). is_letter_or_digit c ≡ true) is lawful in
    cc
unpadded (x ∷ a) [] m zero p q e = cc
unpadded (x ∷ a) [] m (suc n) p q e =
    let is : x ≡ 32 = cc in
    let lawful : is_letter_or_digit x ≡ true = (both_of (is_letter_or_digit x) (list_all is_letter_or_digit a) p).0 in
    let blank : is_letter_or_digit 32 ≡ true = subst (λ (c : ℕ). is_letter_or_digit c ≡ true) is lawful in
    cc
unpadded (x ∷ a) (y ∷ b) m n p q e =
    let head : x ≡ y = cc in
    let tail : a ++ replicate m 32 ≡ b ++ replicate n 32 = cc in
    let rest : a ≡ b = unpadded a b m n (both_of (is_letter_or_digit x) (list_all is_letter_or_digit a) p).1
    (both_of (is_letter_or_digit y) (list_all is_letter_or_digit b) q).1 tail in
    rw (head, rest) refl

pub one_volser : (a b : List ℕ) → is_volser a ≡ true → is_volser b ≡ true → padded a ≡ padded b → a ≡ b
one_volser a b p q e =
    unpadded a b (6 - length a) (6 - length b)
    (all_three (nat_le 1 (length a)) (nat_le (length a) 6) (list_all is_letter_or_digit a) p).2
    (all_three (nat_le 1 (length b)) (nat_le (length b) 6) (list_all is_letter_or_digit b) q).2 e

-- ---- the volume of a minidisk

-- it is at its index
record IsFound (volumes : List VolumeFormat) (m : MinidiskStatement) : Type 0 where
  volume : VolumeFormat
  named : volume_named volumes m.extent.volser ≡ Some volume
  here : slice_get volumes (index_of volumes m.extent.volser) ≡ Some volume
  at : volume_at volumes (index_of volumes m.extent.volser) ≡ volume
  volser : volume.volser ≡ padded m.extent.volser

found_where : (volumes : List VolumeFormat) (m : MinidiskStatement) (o : Option VolumeFormat)
    → volume_named volumes m.extent.volser ≡ o → not (is_some o) ≡ false → IsFound volumes m
found_where volumes m None is h = cc
found_where volumes m (Some v) is h =
    let place : slice_get volumes (index_of volumes m.extent.volser) ≡ Some v =
    sym (find_at (has_volser m.extent.volser) volumes) ∙ is in
    record {
      volume = v;
      named = is;
      here = place;
      at = at_place volumes (index_of volumes m.extent.volser) v no_volume place;
      volser = (bytes_eq-Decides v.volser (padded m.extent.volser)).0
          (found_such (has_volser m.extent.volser) volumes v is);
    }

is_found : (volumes : List VolumeFormat) (m : MinidiskStatement) → lacks_volume volumes m ≡ false → IsFound volumes m
is_found volumes m h = found_where volumes m (volume_named volumes m.extent.volser) refl h

-- minidisks on one volume have one serial number
one_name : (volumes : List VolumeFormat) (m n : MinidiskStatement) → IsFound volumes m → IsFound volumes n → IsLawful m
    → IsLawful n → index_of volumes m.extent.volser ≡ index_of volumes n.extent.volser
    → m.extent.volser ≡ n.extent.volser
one_name volumes m n f g p q same =
    let volume : f.volume ≡ g.volume = sym f.at ∙ ap (volume_at volumes) same ∙ g.at in
    let volsers : padded m.extent.volser ≡ padded n.extent.volser =
    sym f.volser ∙ ap (λ (v : VolumeFormat). v.volser) volume ∙ g.volser in
    one_volser m.extent.volser n.extent.volser p.named q.named volsers

-- ---- extents that do not conflict

written : (m : DiskMode) → not (is_read_only m) ≡ true → m ≡ Writable
written Writable h = refl
written ReadOnly h = cc

unconflicted : (e f : Extent) → conflicts e f ≡ false → Conflicts e f → ⊥
unconflicted e f free h = let yes = conflict_again e f h in cc

apart_where : (s c t d : ℕ) (a b : Bool) → nat_le (s + c) t ≡ a → nat_le (t + d) s ≡ b → ((t < s + c) → (s < t + d) → ⊥)
    → (s + c ≤ t) ⊎ (t + d ≤ s)
apart_where s c t d true b p q free = inl (grind (arith, nat_tests))
apart_where s c t d false true p q free = inr (grind (arith, nat_tests))
apart_where s c t d false false p q free = absurd (free (grind (arith, nat_tests)) (grind (arith, nat_tests)))

extents_apart : (e f : Extent) → e.volser ≡ f.volser → e.mode ≡ Writable → 0 < e.count → 0 < f.count
    → (Conflicts e f → ⊥) → AreApart (extent_in e) (extent_in f)
extents_apart e f same mode p q free =
    apart_where e.start e.count f.start f.count (nat_le (e.start + e.count) f.start)
    (nat_le (f.start + f.count) e.start) refl refl (λ less more. free (record {
      same = same;
      cylinder = max e.start f.start;
      in_one = (omega arith, omega arith);
      in_other = (omega arith, omega arith);
      written = inl mode;
    }))

-- ---- where they are

-- the minidisk whose are is the one of this place
record IsPlacementOf (volumes : List VolumeFormat) (ms : List MinidiskStatement) (i : ℕ) (s : Placement) : Type 0 where
  minidisk : MinidiskStatement
  at : slice_get ms i ≡ Some minidisk
  is : placement_of (seat_of volumes minidisk) ≡ s

placement_of_one : (volumes : List VolumeFormat) (ms : List MinidiskStatement) (i : ℕ) (s : Placement)
    → slice_get (placements_of (seats_of volumes ms)) i ≡ Some s → IsPlacementOf volumes ms i s
placement_of_one volumes [] i s e = cc
placement_of_one volumes (m ∷ ms) zero s e =
    record { minidisk = m; at = refl; is = some_is (placement_of (seat_of volumes m)) s e }
placement_of_one volumes (m ∷ ms) (suc i) s e = let rest =
    placement_of_one volumes ms i s e in record { minidisk = rest.minidisk; at = rest.at; is = rest.is }

seated_on : (volumes : List VolumeFormat) (m : MinidiskStatement) → IsFound volumes m → is_past volumes m ≡ false
    → IsSeated volumes (placement_of (seat_of volumes m))
seated_on volumes m f h =
    let inside : ends_past m.extent (Some f.volume) ≡ false =
    subst (λ (o : Option VolumeFormat). ends_past m.extent o ≡ false) f.named h in
    subst (λ (v : VolumeFormat). m.extent.start + m.extent.count ≤ length v.cylinders) (sym f.at)
    (grind (arith, nat_tests))

be_where : (volumes : List VolumeFormat) (m n : MinidiskStatement) → IsFound volumes m → IsFound volumes n → IsLawful m
    → IsLawful n → (Conflicts m.extent n.extent → ⊥)
    → LeavesBe (placement_of (seat_of volumes m)) (placement_of (seat_of volumes n))
be_where volumes m n f g p q free same mode =
    extents_apart m.extent n.extent (one_name volumes m n f g p q same) (written m.extent.mode mode) p.some q.some free

-- ---- the users of a directory

-- what none of the users has, none of his minidisks has
none_on : (q : MinidiskStatement → Bool) (u : DirectoryUser) (us : List DirectoryUser) (b : Bool)
    → list_any q u.minidisks ≡ b
    → ((k : ℕ) → find (λ (v : DirectoryUser). list_any q v.minidisks) us ≡ None
    → list_any q (minidisks_at us k) ≡ false) → (k : ℕ)
    → (if b then Some u else find (λ (v : DirectoryUser). list_any q v.minidisks) us) ≡ None
    → list_any q (minidisks_at (u ∷ us) k) ≡ false
none_on q u us true is rest k h = cc
none_on q u us false is rest zero h = is
none_on q u us false is rest (suc k) h = rest k h

none_of_one : (q : MinidiskStatement → Bool) (users : List DirectoryUser) (k : ℕ)
    → find (λ (u : DirectoryUser). list_any q u.minidisks) users ≡ None → list_any q (minidisks_at users k) ≡ false
none_of_one q [] k h = refl
none_of_one q (u ∷ us) k h = none_on q u us (list_any q u.minidisks) refl (λ j. none_of_one q us j) k h

-- each minidisk of each user has its volume
pub none_lacks : (volumes : List VolumeFormat) (users : List DirectoryUser) (k : ℕ)
    → find (user_lacks volumes) users ≡ None → list_any (lacks_volume volumes) (minidisks_at users k) ≡ false
none_lacks volumes users k there = none_of_one (lacks_volume volumes) users k there

pub minidisks_here : (users : List DirectoryUser) (k : ℕ) (d : DirectoryUser) → k < length users
    → minidisks_at users k ≡ (get_or users k d).minidisks
minidisks_here [] k d h = absurd (omega arith)
minidisks_here (u ∷ us) zero d h = refl
minidisks_here (u ∷ us) (suc k) d h = minidisks_here us k d (omega arith)

-- those of one user more are lawful
pub lawful_more : (users : List DirectoryUser) (n : ℕ) (d : DirectoryUser)
    → ((k : ℕ) → k < n → AreLawful (minidisks_at users k)) → n < length users → AreLawful (get_or users n d).minidisks
    → (k : ℕ) → k < n + 1 → AreLawful (minidisks_at users k)
lawful_more users n d h inside is k less = by (nat_lt k n) refl
  where
    by : (b : Bool) → nat_lt k n ≡ b → AreLawful (minidisks_at users k)
    by true e = h k (grind (arith, nat_tests))
    by false e =
        let last : n ≡ k = grind (arith, nat_tests) in
        subst (λ (j : ℕ). AreLawful (minidisks_at users j)) last
        (subst AreLawful (sym (minidisks_here users n d inside)) is)

-- where those of every user are, none is past the last
pub all_lawful : (users : List DirectoryUser) → ((k : ℕ) → k < length users → AreLawful (minidisks_at users k))
    → (k : ℕ) → AreLawful (minidisks_at users k)
all_lawful [] h k = All-nil IsLawful
all_lawful (u ∷ us) h zero = h zero (omega arith)
all_lawful (u ∷ us) h (suc k) = all_lawful us (λ j less. h (suc j) (omega arith)) k

lawful_at : (ms : List MinidiskStatement) (i : ℕ) (m : MinidiskStatement) → AreLawful ms → slice_get ms i ≡ Some m
    → IsLawful m
lawful_at ms i m h at = subst IsLawful (at_place ms i m m at) (h i m (within ms i m at))

disks_where : (volumes : List VolumeFormat) (m : MinidiskStatement) (o : Option VolumeFormat) (f : IsFound volumes m)
    → o ≡ Some f.volume → IsDiskOn o m (disk_on volumes (seat_of volumes m))
disks_where volumes m None f e = cc
disks_where volumes m (Some v) f e =
    let at : volume_at volumes (index_of volumes m.extent.volser) ≡ v = f.at ∙ sym (some_is v f.volume e) in
    ap (λ (w : VolumeFormat). record { address = m.address; unit = users_disk w (minidisk_new (extent_in m.extent)) })
    at

-- the disks that a user sees are those of his minidisks
pub are_disks : (volumes : List VolumeFormat) (ms : List MinidiskStatement) → list_any (lacks_volume volumes) ms ≡ false
    → AreDisks volumes ms (disks_on volumes (seats_of volumes ms))
are_disks volumes [] h = tt
are_disks volumes (m ∷ ms) h =
    let both = fails_of (lacks_volume volumes m) (list_any (lacks_volume volumes) ms) h in
    let f = is_found volumes m both.0 in
    (disks_where volumes m (volume_named volumes m.extent.volser) f f.named, are_disks volumes ms both.1)

-- one of two different numbers is the less
differ : (i j : ℕ) → (i ≡ j → ⊥) → (i < j) ⊎ (j < i)
differ i j free = by (nat_lt i j) (nat_lt j i) refl refl
  where
    by : (a b : Bool) → nat_lt i j ≡ a → nat_lt j i ≡ b → (i < j) ⊎ (j < i)
    by true b p q = inl (grind (arith, nat_tests))
    by false true p q = inr (grind (arith, nat_tests))
    by false false p q = absurd (free (grind (arith, nat_tests)))

module _ (volumes : List VolumeFormat) (users : List DirectoryUser) (apart : AreUsersApart users)
    (lawful : (j : ℕ) → AreLawful (minidisks_at users j)) (there : find (user_lacks volumes) users ≡ None) where
  found_in : (k i : ℕ) (m : MinidiskStatement) → slice_get (minidisks_at users k) i ≡ Some m → IsFound volumes m
  found_in k i m at = is_found volumes m
      (fails_at (lacks_volume volumes) (minidisks_at users k) i m (none_of_one (lacks_volume volumes) users k there) at)

  abbrev Free : MinidiskStatement → MinidiskStatement → Type 0
  Free m n = conflicts m.extent n.extent ≡ false

  pairs : ArePairs Free (minidisks_of users)
  pairs = are_pairs Free (minidisks_of users) apart

  free_where : (k i j : ℕ) (m n : MinidiskStatement) → slice_get (minidisks_at users k) i ≡ Some m
      → slice_get (minidisks_at users k) j ≡ Some n → (i < j) ⊎ (j < i) → Conflicts m.extent n.extent → ⊥
  free_where k i j m n a b (inl less) h =
      unconflicted m.extent n.extent ((pairs_of_one Free users k pairs).pair i j m n less a b) h
  free_where k i j m n a b (inr less) h =
      unconflicted n.extent m.extent ((pairs_of_one Free users k pairs).pair j i n m less b a)
      (conflict_turned m.extent n.extent h)

  free_of_two : (j k i l : ℕ) (m n : MinidiskStatement) → slice_get (minidisks_at users j) i ≡ Some m
      → slice_get (minidisks_at users k) l ≡ Some n → (j < k) ⊎ (k < j) → Conflicts m.extent n.extent → ⊥
  free_of_two j k i l m n a b (inl less) h =
      unconflicted m.extent n.extent (pairs_of_two Free users j k i l m n pairs less a b) h
  free_of_two j k i l m n a b (inr less) h =
      unconflicted n.extent m.extent (pairs_of_two Free users k j l i n m pairs less b a)
      (conflict_turned m.extent n.extent h)

  leaves_be : (j k i l : ℕ) (s t : Placement) (a : IsPlacementOf volumes (minidisks_at users j) i s)
      (b : IsPlacementOf volumes (minidisks_at users k) l t) → (Conflicts a.minidisk.extent b.minidisk.extent → ⊥)
      → LeavesBe s t
  leaves_be j k i l s t a b free =
      let m = a.minidisk in
      let n = b.minidisk in
      let be : LeavesBe (placement_of (seat_of volumes m)) (placement_of (seat_of volumes n)) =
      be_where volumes m n (found_in j i m a.at) (found_in k l n b.at)
      (lawful_at (minidisks_at users j) i m (lawful j) a.at) (lawful_at (minidisks_at users k) l n (lawful k) b.at)
      free in
      subst (λ (x : Placement). LeavesBe x t) a.is
      (subst (λ (x : Placement). LeavesBe (placement_of (seat_of volumes m)) x) b.is be)

-- the minidisks of one user are seated, and none writes on another
pub is_users : (volumes : List VolumeFormat) (users : List DirectoryUser) (k : ℕ) → AreUsersApart users
    → ((j : ℕ) → AreLawful (minidisks_at users j)) → find (user_lacks volumes) users ≡ None
    → position (user_is_past volumes) users ≡ None
    → IsUsers volumes (placements_of (seats_of volumes (minidisks_at users k)))
is_users volumes users k apart lawful there inside = record {
  seated = λ i s at.
      (let a = placement_of_one volumes (minidisks_at users k) i s at in
      let m = a.minidisk in
      let none : list_any (is_past volumes) (minidisks_at users k) ≡ false =
      none_of_one (is_past volumes) users k (unplaced (user_is_past volumes) users inside) in
      subst (IsSeated volumes) a.is
      (seated_on volumes m (found_in volumes users apart lawful there k i m a.at)
      (fails_at (is_past volumes) (minidisks_at users k) i m none a.at)));
  apart = λ i j s t p q free.
      (let a = placement_of_one volumes (minidisks_at users k) i s p in
      let b = placement_of_one volumes (minidisks_at users k) j t q in
      leaves_be volumes users apart lawful there k k i j s t a b
      (free_where volumes users apart lawful there k i j a.minidisk b.minidisk a.at b.at (differ i j free)));
}

-- no minidisk of another user is written on by this one's
pub users_apart : (volumes : List VolumeFormat) (users : List DirectoryUser) → AreUsersApart users
    → ((j : ℕ) → AreLawful (minidisks_at users j)) → find (user_lacks volumes) users ≡ None
    → (j k i : ℕ) (t : Placement) → (j ≡ k → ⊥)
    → slice_get (placements_of (seats_of volumes (minidisks_at users k))) i ≡ Some t
    → AllLeaveBe (placements_of (seats_of volumes (minidisks_at users j))) t
users_apart volumes users apart lawful there j k i t free at l s is =
    let a = placement_of_one volumes (minidisks_at users j) l s is in
    let b = placement_of_one volumes (minidisks_at users k) i t at in
    leaves_be volumes users apart lawful there j k l i s t a b
    (free_of_two volumes users apart lawful there j k l i a.minidisk b.minidisk a.at b.at (differ j k free))
