-- Laws of the ends of writes.
use Rattle.std.specs.Prelude.{ℕ, ◌-◌, zero, suc, ◌≡◌, ◌<◌, ◌≤◌, refl, List, [], ◌∷◌, ◌++◌, length, take, replicate}
use Rattle.std.specs.Prelude.{slice_set, slice_index_or}
use Rattle.std.proofs.Common.{sym, ◌∙◌, ap, arith, append_assoc}
use Rattle.std.proofs.lemmas.List.{length-append, length-replicate, length-take}
use Rattle.ckd_volume.specs.End.{padded, zeros_to}

-- outside a list nothing is set
pub set_past : {X : Type 0} (xs : List X) (i : ℕ) (x : X) → length xs ≤ i → slice_set xs i x ≡ xs
set_past [] i x le = refl
set_past (y ∷ ys) zero x le = absurd (omega arith)
set_past (y ∷ ys) (suc i) x le = ap (λ l. y ∷ l) (set_past ys i x (omega arith))

-- count, key and data one after another
pub append_all : (a b k d : List ℕ) → ((a ++ b) ++ k) ++ d ≡ (a ++ b) ++ (k ++ d)
append_all a b k d = append_assoc (a ++ b) k d

-- what is there is set
pub set_own : {X : Type 0} (xs : List X) (i : ℕ) (d : X) → slice_set xs i (slice_index_or xs i d) ≡ xs
set_own [] i d = refl
set_own (x ∷ xs) zero d = refl
set_own (x ∷ xs) (suc i) d = ap (λ ys. x ∷ ys) (set_own xs i d)

-- What is padded to a length has that length.
pub padded_long : (n : ℕ) (xs : List ℕ) → length (padded n xs) ≡ n
padded_long n xs =
    omega (
      arith,
      length-append (take n xs) (replicate (n - length (take n xs)) 0),
      length-replicate (n - length (take n xs)) zero,
      length-take n xs,
    )

-- one more zero
pub zero_on : (xs : List ℕ) (n : ℕ) → length xs < n → zeros_to n (xs ++ 0 ∷ []) ≡ zeros_to n xs
zero_on xs n lt =
    let left : n - length (xs ++ 0 ∷ []) ≡ n - length xs - 1 = omega (arith, length-append xs (0 ∷ [])) in
    append_assoc xs (0 ∷ []) (replicate (n - length (xs ++ 0 ∷ [])) zero)
    ∙ ap (λ k. xs ++ (zero ∷ replicate k zero)) left ∙ ap (λ l. xs ++ l)
    (sym (by_one (n - length xs) (omega arith)))
  where
    by_one : (k : ℕ) → 0 < k → replicate k zero ≡ zero ∷ replicate (k - 1) zero
    by_one zero lt = absurd (omega arith)
    by_one (suc k) lt = let e : suc k - 1 ≡ k = omega arith in rw e refl

-- outside a list nothing is found
pub at_past : {X : Type 0} (xs : List X) (i : ℕ) (d : X) → length xs ≤ i → slice_index_or xs i d ≡ d
at_past [] i d le = refl
at_past (y ∷ ys) zero d le = absurd (omega arith)
at_past (y ∷ ys) (suc i) d le = at_past ys i d (omega arith)
