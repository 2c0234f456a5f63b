-- A place in a line, and the line around it.
use Rattle.std.proofs.Common.{◌≡◌, ◌+◌, ◌<◌, ◌||◌, ℕ, zero, suc, Bool, true, false, cond, List, [], ◌∷◌, ◌++◌, All}
use Rattle.std.proofs.Common.{length, take, drop, get_or, Option, Some, None, refl, ap, sym, ◌∙◌, add-one, arith, subst}
use Rattle.std.specs.Prelude.{if◌then◌else◌}
use Rattle.std.specs.List.{list_any, position, position_from, remove}
use Rattle.std.proofs.lemmas.Iterator.Adapters.{position_from-zero}
use Rattle.std.proofs.lemmas.List.{get_or-take, length-take-le}
use Rattle.std.proofs.lemmas.List.Folds.{list_any_none}
use Rattle.std.proofs.lemmas.List.Quantifiers.{position-Some}
use Rattle.cp_dispatch.specs.Turns.{IsTaken, without}

-- the first such one goes, and all others stay
without_at : {X : Type 0} (p : X → Bool) (xs : List X) (k : ℕ) (d : X) → k < length xs → p (get_or xs k d) ≡ true
    → ((i : ℕ) → i < k → p (get_or xs i d) ≡ false) → without p xs ≡ take k xs ++ drop (suc k) xs
without_at p [] k d h is misses = absurd (omega arith)
without_at p (x ∷ xs) zero d h is misses = rw is refl
without_at p (x ∷ xs) (suc k) d h is misses = rw (misses 0 (omega arith))
    (ap (λ l. x ∷ l) (without_at p xs k d (omega arith) is (λ i less. misses (suc i) (omega (arith, less)))))

-- the one at its place goes
pub without_placed : {X : Type 0} (p : X → Bool) (xs : List X) (k : ℕ) (d : X) → position p xs ≡ Some k
    → without p xs ≡ remove xs k
without_placed p xs k d e =
    let found = position-Some p xs k d e in
    without_at p xs k d found.0 found.1 found.2

none_step : (b : Bool) (r : Option ℕ) (i : ℕ) (a : Bool) → cond b (Some i) r ≡ None → (r ≡ None → a ≡ false)
    → (b || a) ≡ false
none_step true r i a h f = cc
none_step false r i a h f = f h

none_from : {X : Type 0} (p : X → Bool) (i : ℕ) (xs : List X) → position_from p i xs ≡ None → list_any p xs ≡ false
none_from p i [] h = refl
none_from p i (x ∷ xs) h = none_step (p x) (position_from p (i + 1) xs) i (list_any p xs) h (none_from p (i + 1) xs)

-- where there is no place there is no such one
pub none_placed : {X : Type 0} (p : X → Bool) (xs : List X) → position p xs ≡ None → list_any p xs ≡ false
none_placed p xs h = none_from p 0 xs (sym (position_from-zero p xs) ∙ h)

keep_step : {X : Type 0} (b a : Bool) (x : X) (xs ys : List X) → (b || a) ≡ false → (a ≡ false → ys ≡ xs)
    → (if b then xs else x ∷ ys) ≡ x ∷ xs
keep_step true a x xs ys h f = cc
keep_step false a x xs ys h f = ap (λ l. x ∷ l) (f h)

without_none : {X : Type 0} (p : X → Bool) (xs : List X) → list_any p xs ≡ false → without p xs ≡ xs
without_none p [] h = refl
without_none p (x ∷ xs) h = keep_step (p x) (list_any p xs) x xs (without p xs) h (without_none p xs)

-- nobody goes where there is no place
pub without_unplaced : {X : Type 0} (p : X → Bool) (xs : List X) → position p xs ≡ None → without p xs ≡ xs
without_unplaced p xs h = without_none p xs (none_placed p xs h)

around : {X : Type 0} (xs : List X) (k : ℕ) (d : X) → k < length xs → xs ≡ take k xs ++ get_or xs k d ∷ drop (suc k) xs
around [] k d h = absurd (omega arith)
around (x ∷ xs) zero d h = refl
around (x ∷ xs) (suc k) d h = ap (λ l. x ∷ l) (around xs k d (omega arith))

more : {X : Type 0} (xs : List X) (k : ℕ) (d : X) → k < length xs → take (suc k) xs ≡ take k xs ++ get_or xs k d ∷ []
more [] k d h = absurd (omega arith)
more (x ∷ xs) zero d h = refl
more (x ∷ xs) (suc k) d h = ap (λ l. x ∷ l) (more xs k d (omega arith))

passed : {X : Type 0} (p : X → Bool) (xs : List X) (k : ℕ) (d : X) → ((i : ℕ) → i < k → p (get_or xs i d) ≡ false)
    → k < length xs → list_any p (take k xs) ≡ false
passed p [] k d misses h = absurd (omega arith)
passed p (x ∷ xs) zero d misses h = refl
passed p (x ∷ xs) (suc k) d misses h = rw (misses 0 (omega arith))
    (passed p xs k d (λ i less. misses (suc i) (omega (arith, less))) (omega arith))

-- the one at the first place is taken, and the line turns
pub taken_placed : {X : Type 0} (p : X → Bool) (xs : List X) (k : ℕ) (one : X) (ys : List X) → position p xs ≡ Some k
    → one ≡ get_or xs k one → ys ≡ drop (k + 1) xs ++ take (k + 1) xs → IsTaken p xs one ys
taken_placed p xs k one ys e is turned =
    let found = position-Some p xs k one e in
    record {
      before = take k xs;
      after = drop (suc k) xs;
      split = around xs k one found.0 ∙ ap (λ x. take k xs ++ x ∷ drop (suc k) xs) (sym is);
      passed = passed p xs k one found.2 found.0;
      is_ready = ap p is ∙ found.1;
      turned = (rw add-one at turned) ∙ ap (λ l. drop (suc k) xs ++ l) (more xs k one found.0
          ∙ ap (λ x. take k xs ++ x ∷ []) (sym is));
    }

-- the first of all is taken
pub taken_first : {X : Type 0} (p : X → Bool) (xs : List X) (one : X) (ys : List X) → 0 < length xs → p one ≡ true
    → one ≡ get_or xs 0 one → ys ≡ drop 1 xs ++ take 1 xs → IsTaken p xs one ys
taken_first p [] one ys h ok is turned = absurd (omega (arith, h))
taken_first p (x ∷ xs) one ys h ok is turned = record {
  before = [];
  after = xs;
  split = ap (λ y. y ∷ xs) (sym is);
  passed = refl;
  is_ready = ok;
  turned = turned ∙ ap (λ y. xs ++ y ∷ []) (sym is);
}
