-- Bytes moved one by one, and one more.
use Rattle.std.specs.Prelude.{ℕ, zero, suc, ◌+◌, ◌≡◌, List, [], ◌∷◌, ◌++◌, refl, length, ◌<◌, take, slice_set}
use Rattle.std.specs.Prelude.{slice_index}
use Rattle.std.proofs.Common.{ap, arith, ◌∙◌, sym}
use Rattle.std.proofs.lemmas.List.{take_more_set, take_more}
use Rattle.s370_walk.specs.Hardware.{Machine, given, after_giving, after_taking}

module _ {D : Type 0} (machine : Machine D) where
  pub given-one : (d : D) (n : ℕ) → given machine d (n + 1) ≡ given machine d n ++ machine.gives
      (after_giving machine d n) ∷ []
  given-one d zero = refl
  given-one d (suc n) = let e : suc n + 1 ≡ suc (n + 1) = omega arith in ap (λ k. given machine d k) e
      ∙ ap (λ bs. machine.gives d ∷ bs) (given-one (machine.gave d) n)

  pub after_giving-one : (d : D) (n : ℕ) → after_giving machine d (n + 1) ≡ machine.gave (after_giving machine d n)
  after_giving-one d zero = refl
  after_giving-one d (suc n) = let e : suc n + 1 ≡ suc (n + 1) = omega arith in ap (λ k. after_giving machine d k) e
      ∙ after_giving-one (machine.gave d) n

  pub after_taking-one : (d : D) (bs : List ℕ) (b : ℕ) → after_taking machine d (bs ++ b ∷ []) ≡ machine.took
      (after_taking machine d bs) b
  after_taking-one d [] b = refl
  after_taking-one d (c ∷ bs) b = after_taking-one (machine.took d c) bs b

  pub length-given : (d : D) (n : ℕ) → length (given machine d n) ≡ n
  length-given d zero = refl
  length-given d (suc n) = ap suc (length-given (machine.gave d) n)

-- one byte more of a slice
pub one_given : {D : Type 0} (machine : Machine D) (d e : D) (into : List ℕ) (i byte : ℕ) → i < length into
    → take i into ≡ given machine d i → e ≡ after_giving machine d i → byte ≡ machine.gives e
    → take (i + 1) (slice_set into i byte) ≡ given machine d (i + 1)
one_given machine d e into i byte lt so_far at gives =
    take_more_set into i byte lt ∙ ap (λ bs. bs ++ byte ∷ []) so_far
    ∙ ap (λ b. given machine d i ++ b ∷ []) (gives ∙ ap (λ x. machine.gives x) at) ∙ sym (given-one machine d i)

-- A byte that is taken after others makes one more that are taken.
pub one_taken : {D : Type 0} (machine : Machine D) (d e f : D) (from : List ℕ) (i : ℕ) → i < length from
    → e ≡ after_taking machine d (take i from) → f ≡ machine.took e (slice_index from i)
    → f ≡ after_taking machine d (take (i + 1) from)
one_taken machine d e f from i lt at took =
    took ∙ ap (λ x. machine.took x (slice_index from i)) at ∙ sym
    (after_taking-one machine d (take i from) (slice_index from i))
    ∙ ap (after_taking machine d) (sym (take_more from i 0 lt))
