-- A step of a search along a list, and of a copy.
use Rattle.std.proofs.Common.{◌≡◌, ◌≢◌, ℕ, zero, suc, ◌+◌, ◌==◌, Bool, true, false, List, [], ◌∷◌, drop, Some, ◌∙◌, ap}
use Rattle.std.proofs.Common.{◌++◌, arith, sym, take}
use Rattle.std.specs.Prelude.{slice_get, if◌then◌else◌, ◌||◌}
use Rattle.std.specs.List.{list_any, position_from}
use Rattle.std.proofs.Math.Seq.{take-suc}
use Rattle.std.proofs.lemmas.Bool.Decides.{nat_tests}
use Rattle.std.proofs.lemmas.Option.{get_or_from_slice_get, slice_get_within}

drop_at : {X : Type 0} (xs : List X) (i : ℕ) (x : X) → slice_get xs i ≡ Some x → drop i xs ≡ x ∷ drop (suc i) xs
drop_at [] zero x e = absurd (cc)
drop_at [] (suc i) x e = absurd (cc)
drop_at (y ∷ ys) zero x e = let same : y ≡ x = cc in ap (λ z. z ∷ ys) same
drop_at (y ∷ ys) (suc i) x e = drop_at ys i x e

module _ {X : Type 0} (p : X → Bool) (xs : List X) (i : ℕ) (x : X) (found : slice_get xs i ≡ Some x) where
  pub position_here : p x ≡ true → position_from p i (drop i xs) ≡ Some i
  position_here h = ap (λ ys. position_from p i ys) (drop_at xs i x found) ∙ ap
      (λ (b : Bool). if b then Some i else position_from p (i + 1) (drop (suc i) xs)) h

  pub position_past : p x ≡ false → position_from p i (drop i xs) ≡ position_from p (i + 1) (drop (i + 1) xs)
  position_past h =
      ap (λ ys. position_from p i ys) (drop_at xs i x found)
      ∙ ap (λ (b : Bool). if b then Some i else position_from p (i + 1) (drop (suc i) xs)) h
      ∙ ap (λ (n : ℕ). position_from p (i + 1) (drop n xs)) (let e : suc i ≡ i + 1 = omega arith in e)

  pub any_here : p x ≡ true → list_any p (drop i xs) ≡ true
  any_here h = ap (list_any p) (drop_at xs i x found) ∙ ap (λ (b : Bool). b || list_any p (drop (suc i) xs)) h

  pub any_past : p x ≡ false → list_any p (drop i xs) ≡ list_any p (drop (i + 1) xs)
  any_past h =
      ap (list_any p) (drop_at xs i x found)
      ∙ ap (λ (b : Bool). b || list_any p (drop (suc i) xs)) h
      ∙ ap (λ (n : ℕ). list_any p (drop n xs)) (let e : suc i ≡ i + 1 = omega arith in e)

-- What is taken and the next one are one more.
pub take_next : {X : Type 0} (xs : List X) (i : ℕ) (x : X) → slice_get xs i ≡ Some x
    → take i xs ++ x ∷ [] ≡ take (i + 1) xs
take_next xs i x found =
    ap (λ y. take i xs ++ y ∷ []) (let is : x ≡ _ = sym (get_or_from_slice_get xs i x x found) in is)
    ∙ sym (take-suc xs i x (slice_get_within xs i x found))
    ∙ ap (λ (n : ℕ). take n xs) (let e : suc i ≡ i + 1 = omega arith in e)

-- Equal numbers are compared as equal.
pub equal : (a b : ℕ) → a ≡ b → (a == b) ≡ true
equal a b h = grind (arith, nat_tests)

-- Different numbers are compared as different.
pub unequal : (a b : ℕ) → a ≢ b → (a == b) ≡ false
unequal a b h = grind (arith, nat_tests)
