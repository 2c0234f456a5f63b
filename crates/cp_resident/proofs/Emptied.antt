-- Places of which none has a program.
use Rattle.std.specs.Prelude.{ℕ, suc, ◌+◌, ◌<◌, ◌≤◌, ◌≡◌, All, List, [], ◌∷◌, length, replicate, Option, None}
use Rattle.std.specs.Prelude.{slice_index_or, slice_set}
use Rattle.std.proofs.Common.{◌∙◌, ap, refl, subst, arith}
use Rattle.std.proofs.Math.Decide.{dec_lt}
use Rattle.std.proofs.lemmas.List.{get_or-set_other, get_or-set_same}

-- One more element is set to None.
pub more_none : {X : Type 0} (xs : List (Option X)) (n : ℕ) → n < length xs
    → ((k : ℕ) (d : Option X) → k < n → slice_index_or xs k d ≡ None) → (k : ℕ) (d : Option X) → k < n + 1
    → slice_index_or (slice_set xs n None) k d ≡ None
more_none xs n lt before k d less = elim (dec_lt k n) [
  | yes below ↦ get_or-set_other xs n k None d (λ same. omega (arith, below, same)) ∙ before k d below
  | no last ↦ (let is : n ≡ k = omega (arith, less, last) in subst
      (λ (j : ℕ). slice_index_or (slice_set xs n None) j d ≡ None) is (get_or-set_same xs n None d lt))
]

-- After the last element all are None.
pub all_none : {X : Type 0} (xs : List (Option X)) (n : ℕ) → length xs ≤ n
    → ((k : ℕ) (d : Option X) → k < n → slice_index_or xs k d ≡ None) → All (λ (o : Option X). o ≡ None) xs
all_none xs n all before = λ k d lt. before k d (omega (arith, lt, all))

-- A list whose elements are all None is None repeated.
pub none_each : {X : Type 0} (xs : List (Option X)) → All (λ (o : Option X). o ≡ None) xs
    → xs ≡ replicate (length xs) None
none_each {X = X} [] all = refl
none_each {X = X} (x ∷ xs) all =
    ap (λ (o : Option X). o ∷ xs) (all 0 None (omega arith)) ∙ ap (λ (os : List (Option X)). None ∷ os)
    (none_each xs (λ k d low. all (suc k) d (omega (arith, low))))
