-- Which guesses are remembered, and which the next one is held back by.
use Rattle.std.proofs.Common.{◌≡◌, ◌≢◌, ◌⊎◌, inl, inr, ◌<◌, ◌≤◌, ◌+◌, ◌&&◌, ℕ, Bool, true, false, eqb, leb, ltb}
use Rattle.std.proofs.Common.{cond, List, [], ◌∷◌, ◌++◌, length, get_or, set, drop, Option, Some, None}
use Rattle.std.proofs.Common.{refl, ap, sym, ◌∙◌, arith, get_or-set_same}
use Rattle.std.specs.Prelude.{count_by, position}
use Rattle.std.proofs.lemmas.Bool.{lt-ltb, ltb-true}
use Rattle.std.proofs.lemmas.Bool.Decides.{leb_tells}
use Rattle.std.proofs.lemmas.List.{set_past, length-set}
use Rattle.std.proofs.lemmas.List.Sums.{sum_by-set, sum_by-cons, sum_by_push, sum_by-le, get_or-le-sum_by}
use Rattle.std.proofs.lemmas.List.Quantifiers.{position-Some}
use Rattle.std.proofs.lemmas.Slice.Eq.{bytes_eq-Decides}
use Rattle.std.specs.Str.{bytes_eq}
use Rattle.logon_desk.specs.Guesses.{after_right, asked_of, guessed, holds_back, in_place, is_of, is_over, last_at}
use Rattle.logon_desk.specs.Guesses.{last_names, last_of, no_guess, noted_at, remembered, right_after, right_at}
use Rattle.logon_desk.specs.Guesses.{wait_of}
use Rattle.logon_desk.specs.declared.guesses.GuessedName.{GuessedName}
use Rattle.logon_desk.proofs.Hearing.{not_both}
use Rattle.logon_desk.proofs.On.{both_true, eqb_is, eqb_self}

-- counts

none_by : (b : Bool) → b ≡ false → cond b 1 0 ≤ 0
none_by true h = absurd (not_both true refl h)
none_by false h = omega arith

some_by : (b : Bool) → b ≡ true → 1 ≤ cond b 1 0
some_by true h = omega arith
some_by false h = absurd (not_both false h refl)

most_by : (b : Bool) → cond b 1 0 ≤ 1
most_by true = omega arith
most_by false = omega arith

-- Where no element passes, none is counted.
pub none_count : {X : Type 0} (p : X → Bool) (xs : List X)
    → ((k : ℕ) (d : X) → k < length xs → p (get_or xs k d) ≡ false) → count_by p xs ≡ 0
none_count p xs h = let le = sum_by-le (λ x. cond (p x) 1 0) 0 xs (λ k d w. none_by (p (get_or xs k d)) (h k d w)) in
    omega arith

-- An element that passes is counted.
pub found_count : {X : Type 0} (p : X → Bool) (xs : List X) (k : ℕ) (d : X) → k < length xs
    → p (get_or xs k d) ≡ true → 0 < count_by p xs
found_count p xs k d w h =
    let le = get_or-le-sum_by (λ x. cond (p x) 1 0) xs k d w in
    let one = some_by (p (get_or xs k d)) h in omega arith

count_set_by : {X : Type 0} (p : X → Bool) (xs : List X) (i : ℕ) (y d : X)
    → (p y ≡ true → p (get_or xs i d) ≡ true)
    → ((leb (length xs) i ≡ true) × (length xs ≤ i)) ⊎ ((leb (length xs) i ≡ false) × (i < length xs))
    → (b c : Bool) → p y ≡ b → p (get_or xs i d) ≡ c → count_by p (set xs i y) ≤ count_by p xs
count_set_by p xs i y d h (inl w) b c e f =
    let same = ap (count_by p) (set_past xs i y w.1) in omega arith
count_set_by p xs i y d h (inr w) true true e f =
    let sums = sum_by-set (λ x. cond (p x) 1 0) xs i y d w.1 in
    let new = most_by (p y) in
    let old = some_by (p (get_or xs i d)) f in omega arith
count_set_by p xs i y d h (inr w) true false e f = absurd (not_both (p (get_or xs i d)) (h e) f)
count_set_by p xs i y d h (inr w) false c e f =
    let sums = sum_by-set (λ x. cond (p x) 1 0) xs i y d w.1 in
    let new = none_by (p y) e in omega arith

-- Setting an element counts no more, if the new one passes only where the old one did.
pub count_set : {X : Type 0} (p : X → Bool) (xs : List X) (i : ℕ) (y d : X)
    → (p y ≡ true → p (get_or xs i d) ≡ true) → count_by p (set xs i y) ≤ count_by p xs
count_set p xs i y d h = count_set_by p xs i y d h (leb_tells (length xs) i) (p y) (p (get_or xs i d)) refl refl

count_drop : {X : Type 0} (p : X → Bool) (xs : List X) → count_by p (drop 1 xs) ≤ count_by p xs
count_drop p [] = omega arith
count_drop p (x ∷ rest) = let sums = sum_by-cons (λ y. cond (p y) 1 0) x rest in omega arith

last_count_by : (p : GuessedName → Bool) (names : List GuessedName) (b : Bool)
    → count_by p (cond b (drop 1 names) names) ≤ count_by p names
last_count_by p names true = count_drop p names
last_count_by p names false = omega arith

placed_count : (p : GuessedName → Bool) (names : List GuessedName) (g : GuessedName) (o : Option ℕ) → p g ≡ false
    → count_by p (in_place names g o) ≤ count_by p names
placed_count p names g None fails =
    let last = last_count_by p (names ++ g ∷ []) (ltb 1024 (length (names ++ g ∷ []))) in
    let more = sum_by_push (λ x. cond (p x) 1 0) names g in
    let new = none_by (p g) fails in omega arith
placed_count p names g (Some place) fails = count_set p names place g g (λ h. absurd (not_both (p g) h fails))

noted_count : (p : GuessedName → Bool) (names : List GuessedName) (g : GuessedName) (now : ℕ) (o : Option ℕ)
    → p g ≡ false → count_by p (noted_at names g now o) ≤ count_by p names
noted_count p names g now None fails = placed_count p names g (position (is_over now) names) fails
noted_count p names g now (Some place) fails = count_set p names place g g (λ h. absurd (not_both (p g) h fails))

-- whose the guesses are that are remembered

and_is : (a b : Bool) → a ≡ true → b ≡ true → (a && b) ≡ true
and_is true b h k = k
and_is false b h k = absurd (not_both false h refl)

-- A name is equal to itself.
pub bytes_self : (xs : List ℕ) → bytes_eq xs xs ≡ true
bytes_self xs = (bytes_eq-Decides xs xs).1 refl

last_is_by : (names : List GuessedName) (name : List ℕ) (address : ℕ) (o : Option ℕ)
    → position (is_of name address) names ≡ o → is_of name address (last_at names name address o) ≡ true
last_is_by names name address None e = and_is (bytes_eq name name) (eqb address address) (bytes_self name)
    (eqb_self address)
last_is_by names name address (Some place) e =
    (position-Some (is_of name address) names place (no_guess name address) e).1

-- The guesses at a name from an address that are remembered are at that name and from there.
pub last_is : (names : List GuessedName) (name : List ℕ) (address : ℕ)
    → is_of name address (last_of names name address) ≡ true
last_is names name address = last_is_by names name address (position (is_of name address) names) refl

-- Guesses are at one name and from one address.
pub one_key : (g : GuessedName) (name other : List ℕ) (address from : ℕ) → is_of name address g ≡ true
    → is_of other from g ≡ true → (name ≡ other) × (address ≡ from)
one_key g name other address from h k =
    let one = both_true (bytes_eq g.name name) (eqb g.address address) h in
    let two = both_true (bytes_eq g.name other) (eqb g.address from) k in (
      sym ((bytes_eq-Decides g.name name).0 one.0) ∙ (bytes_eq-Decides g.name other).0 two.0,
      sym (eqb_is g.address address one.1) ∙ eqb_is g.address from two.1,
    )

no_by : (b : Bool) → (b ≡ true → ⊥) → b ≡ false
no_by true h = absurd (h refl)
no_by false h = refl

held_by : (g : GuessedName) (name : List ℕ) (address later : ℕ) → holds_back name address later g ≡ true
    → is_of name address g ≡ true
held_by g name address later h = (both_true (is_of name address g) (ltb later g.free) h).0

-- a guess of which the host is asked counts for no other name, and for none from another address
pub asked_others : (names : List GuessedName) (name other : List ℕ) (address from now later : ℕ)
    → (name ≡ other → address ≢ from)
    → count_by (holds_back other from later) (asked_of names name address now) ≤ count_by (holds_back other from later)
    names
asked_others names name other address from now later differs =
    let g = guessed (last_of names name address) now in
    noted_count (holds_back other from later) names g now (position (is_of name address) names)
    (no_by (holds_back other from later g) (λ h.
    let key = one_key g name other address from (last_is names name address) (held_by g other from later h) in
    differs key.0 key.1))

wait_cases : (a b c e f : Bool) → cond a 0 (cond b 250 (cond c 500 (cond e 1000 (cond f 2000 4000)))) ≤ 4000
wait_cases true b c e f = omega arith
wait_cases false true c e f = omega arith
wait_cases false false true e f = omega arith
wait_cases false false false true f = omega arith
wait_cases false false false false true = omega arith
wait_cases false false false false false = omega arith

-- No guess holds back the next one for longer than four seconds.
pub wait_bound : (owed : ℕ) → wait_of owed ≤ 4000
wait_bound owed = wait_cases (ltb owed 5000) (ltb owed 15000) (ltb owed 25000) (ltb owed 35000) (ltb owed 45000)

-- A guess of which the host is asked holds back none four seconds later.
pub asked_briefly : (names : List GuessedName) (name other : List ℕ) (address from now later : ℕ) → now + 4000 ≤ later
    → count_by (holds_back other from later) (asked_of names name address now) ≤ count_by (holds_back other from later)
    names
asked_briefly names name other address from now later h =
    let g = guessed (last_of names name address) now in
    noted_count (holds_back other from later) names g now (position (is_of name address) names)
    (no_by (holds_back other from later g) (λ k.
    let free = ltb-true later g.free (both_true (is_of other from g) (ltb later g.free) k).1 in
    omega (arith, wait_bound (remembered (last_of names name address).until now))))

-- a right guess

right_by : (names : List GuessedName) (name : List ℕ) (address from now later : ℕ) (o : Option ℕ)
    → count_by (holds_back name from later) (right_at names now o) ≤ count_by (holds_back name from later) names
right_by names name address from now later None = omega arith
right_by names name address from now later (Some place) =
    count_set (holds_back name from later) names place (record (get_or names place (no_guess [] 0)) {
      until = right_after (get_or names place (no_guess [] 0)).until now;
    }) (no_guess [] 0) (λ h. h)

-- A right guess holds back none that was not held back.
pub right_count : (names : List GuessedName) (name other : List ℕ) (address from now later : ℕ)
    → count_by (holds_back other from later) (after_right names name address now) ≤ count_by (holds_back other from
    later) names
right_count names name other address from now later =
    right_by names other address from now later (position (is_of name address) names)

-- the next guess is held back

kept_by : (p : GuessedName → Bool) (n g : GuessedName) (rest : List GuessedName) (b : Bool) → p g ≡ true
    → 0 < count_by p (cond b (rest ++ g ∷ []) (n ∷ (rest ++ g ∷ [])))
kept_by p n g rest true h =
    let more = sum_by_push (λ x. cond (p x) 1 0) rest g in
    let new = some_by (p g) h in omega arith
kept_by p n g rest false h =
    let more = sum_by_push (λ x. cond (p x) 1 0) (n ∷ rest) g in
    let new = some_by (p g) h in omega arith

kept_last : (p : GuessedName → Bool) (names : List GuessedName) (g : GuessedName) → p g ≡ true
    → 0 < count_by p (last_names (names ++ g ∷ []))
kept_last p [] g h = found_count p (g ∷ []) 0 g (omega arith) h
kept_last p (n ∷ rest) g h = kept_by p n g rest (ltb 1024 (length (n ∷ (rest ++ g ∷ [])))) h

set_counts : (p : GuessedName → Bool) (names : List GuessedName) (place : ℕ) (g : GuessedName)
    → place < length names → p g ≡ true → 0 < count_by p (set names place g)
set_counts p names place g w h =
    found_count p (set names place g) place g (omega (arith, length-set names place g))
    (ap p (get_or-set_same names place g g w) ∙ h)

placed_counts : (p : GuessedName → Bool) (names : List GuessedName) (g : GuessedName) (now : ℕ) (o : Option ℕ)
    → position (is_over now) names ≡ o → p g ≡ true → 0 < count_by p (in_place names g o)
placed_counts p names g now None e h = kept_last p names g h
placed_counts p names g now (Some place) e h =
    set_counts p names place g (position-Some (is_over now) names place g e).0 h

noted_counts : (p : GuessedName → Bool) (names : List GuessedName) (name : List ℕ) (address : ℕ) (g : GuessedName)
    (now : ℕ) (o : Option ℕ) → position (is_of name address) names ≡ o → p g ≡ true
    → 0 < count_by p (noted_at names g now o)
noted_counts p names name address g now None e h = placed_counts p names g now (position (is_over now) names) refl h
noted_counts p names name address g now (Some place) e h =
    set_counts p names place g (position-Some (is_of name address) names place g e).0 h

-- A guess of which the host is asked holds back the next one.
pub asked_holds : (names : List GuessedName) (name : List ℕ) (address now later : ℕ)
    → later < now + wait_of (remembered (last_of names name address).until now)
    → 0 < count_by (holds_back name address later) (asked_of names name address now)
asked_holds names name address now later h =
    let g = guessed (last_of names name address) now in
    noted_counts (holds_back name address later) names name address g now (position (is_of name address) names) refl
    (and_is (is_of name address g) (ltb later g.free) (last_is names name address) (lt-ltb later g.free h))
