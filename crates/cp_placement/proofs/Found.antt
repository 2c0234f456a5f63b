-- What is found where one of a list is.
use Rattle.std.proofs.Common.{◌≡◌, Bool, true, false, List, [], ◌∷◌, length, Some, None, refl, subst, ◌∙◌, ℕ, ◌<◌, ◌≤◌}
use Rattle.std.proofs.Common.{nat_lt, arith, zero, suc, get_or}
use Rattle.std.specs.Prelude.{◌||◌, if◌then◌else◌}
use Rattle.std.specs.List.{find, list_any, position, position_or_len}
use Rattle.std.proofs.lemmas.Grind.{common_steps}
use Rattle.std.proofs.lemmas.List.Quantifiers.{position-Some}
use Rattle.std.proofs.lemmas.List.Folds.{find_at}
use Rattle.std.proofs.lemmas.Option.{slice_get_past}
use Rattle.std.proofs.lemmas.Bool.Decides.{nat_tests}

found_where : {A : Type 0} (p : A → Bool) (x : A) (xs : List A) (b : Bool) → p x ≡ b → (b || list_any p xs) ≡ true
    → (list_any p xs ≡ true → find p xs ≡ None → ⊥) → (if b then Some x else find p xs) ≡ None → ⊥
found_where p x xs true is any rest none = cc
found_where p x xs false is any rest none = rest any none

-- where one of them is such, one is found
pub found_any : {A : Type 0} (p : A → Bool) (xs : List A) → list_any p xs ≡ true → find p xs ≡ None → ⊥
found_any p [] any none = cc
found_any p (x ∷ xs) any none = found_where p x xs (p x) refl any (found_any p xs) none

unfound_where : {A : Type 0} (p : A → Bool) (x : A) (xs : List A) (b : Bool) → p x ≡ b
    → (if b then Some x else find p xs) ≡ None → (p x ≡ false) × (find p xs ≡ None)
unfound_where p x xs true is none = cc
unfound_where p x xs false is none = (is, none)

-- where none is found, none is such
pub unfound_at : {A : Type 0} (p : A → Bool) (xs : List A) (i : ℕ) (d : A) → find p xs ≡ None → i < length xs
    → p (get_or xs i d) ≡ false
unfound_at p [] i d none inside = absurd (omega arith)
unfound_at p (x ∷ xs) zero d none inside = (unfound_where p x xs (p x) refl none).0
unfound_at p (x ∷ xs) (suc i) d none inside = unfound_at p xs i d (unfound_where p x xs (p x) refl none).1 (omega arith)

any_where : (b c : Bool) → (b || c) ≡ false → (b ≡ false) × (c ≡ false)
any_where true c h = cc
any_where false c h = (refl, h)

pub none_at : {A : Type 0} (p : A → Bool) (xs : List A) (i : ℕ) (d : A) → list_any p xs ≡ false → i < length xs
    → p (get_or xs i d) ≡ false
none_at p [] i d none inside = absurd (omega arith)
none_at p (x ∷ xs) zero d none inside = (any_where (p x) (list_any p xs) none).0
none_at p (x ∷ xs) (suc i) d none inside = none_at p xs i d (any_where (p x) (list_any p xs) none).1 (omega arith)

some_is : {A : Type 0} (x y : A) → Some x ≡ Some y → x ≡ y
some_is x y e = cc

such_where : {A : Type 0} (p : A → Bool) (x y : A) (xs : List A) (b : Bool) → p x ≡ b
    → (if b then Some x else find p xs) ≡ Some y → (find p xs ≡ Some y → p y ≡ true) → p y ≡ true
such_where p x y xs true is found rest = subst (λ z. p z ≡ true) (some_is x y found) is
such_where p x y xs false is found rest = rest found

-- what is found is such
pub found_such : {A : Type 0} (p : A → Bool) (xs : List A) (y : A) → find p xs ≡ Some y → p y ≡ true
found_such p [] y found = cc
found_such p (x ∷ xs) y found = such_where p x y xs (p x) refl found (found_such p xs y)

-- ---- by its place

-- what has the place that is found is such
pub position_such : {A : Type 0} (p : A → Bool) (xs : List A) (i : ℕ) (d : A) → position p xs ≡ Some i
    → p (get_or xs i d) ≡ true
position_such p xs i d e = (position-Some p xs i d e).1

past_where : (n len : ℕ) (b : Bool) → nat_lt n len ≡ b → (if b then Some n else None) ≡ None → len ≤ n
past_where n len true is e = cc
past_where n len false is e = grind (arith, nat_tests)

-- where no place is found, nothing is
pub unplaced : {A : Type 0} (p : A → Bool) (xs : List A) → position p xs ≡ None → find p xs ≡ None
unplaced p xs none =
    let n = position_or_len p xs in
    find_at p xs ∙ slice_get_past xs n (past_where n (length xs) (nat_lt n (length xs)) refl none)

-- and none is such
pub unplaced_at : {A : Type 0} (p : A → Bool) (xs : List A) (i : ℕ) (d : A) → position p xs ≡ None → i < length xs
    → p (get_or xs i d) ≡ false
unplaced_at p xs i d none inside = unfound_at p xs i d (unplaced p xs none) inside

-- the place that is found is the first at which it passes
pub placed : {A : Type 0} (p : A → Bool) (xs : List A) (i : ℕ) → position p xs ≡ Some i → position_or_len p xs ≡ i
placed p xs i e = grind (arith, common_steps)
