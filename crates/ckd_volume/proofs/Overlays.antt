-- Copies over the cylinders of a volume.
use Rattle.std.proofs.Common.{ℕ, zero, suc, ◌≡◌, ◌<◌, List, [], ◌∷◌, length, replicate, refl, ap, arith, sym, ◌∙◌}
use Rattle.std.specs.Prelude.{Option, None, Some, slice_index_or, slice_set}
use Rattle.std.proofs.lemmas.List.{set-get_or}
use Rattle.ckd_volume.specs.Front.{Cylinder}
use Rattle.ckd_volume.specs.Trial.{overlaid}

-- the cylinder of a number
pub overlaid_copy : (cylinders : List Cylinder) (copies : List (Option Cylinder)) (index : ℕ) (copy : Cylinder)
    → index < length cylinders → slice_index_or copies index None ≡ Some copy
    → slice_index_or (overlaid cylinders copies) index [] ≡ copy
overlaid_copy [] copies index copy inside is = absurd (omega (arith, inside))
overlaid_copy (c ∷ cylinders) [] index copy inside is = absurd cc
overlaid_copy (c ∷ cylinders) (None ∷ copies) zero copy inside is = absurd cc
overlaid_copy (c ∷ cylinders) (Some d ∷ copies) zero copy inside is = cc
overlaid_copy (c ∷ cylinders) (None ∷ copies) (suc index) copy inside is = overlaid_copy cylinders copies index copy
    (omega (arith, inside)) is
overlaid_copy (c ∷ cylinders) (Some d ∷ copies) (suc index) copy inside is = overlaid_copy cylinders copies index copy
    (omega (arith, inside)) is

-- A cylinder without a copy is read from the volume itself.
pub overlaid_own : (cylinders : List Cylinder) (copies : List (Option Cylinder)) (index : ℕ)
    → slice_index_or copies index None ≡ None → slice_index_or
    (overlaid cylinders copies) index [] ≡ slice_index_or cylinders index []
overlaid_own [] copies index is = refl
overlaid_own (c ∷ cylinders) [] index is = refl
overlaid_own (c ∷ cylinders) (None ∷ copies) zero is = refl
overlaid_own (c ∷ cylinders) (Some d ∷ copies) zero is = absurd cc
overlaid_own (c ∷ cylinders) (None ∷ copies) (suc index) is = overlaid_own cylinders copies index is
overlaid_own (c ∷ cylinders) (Some d ∷ copies) (suc index) is = overlaid_own cylinders copies index is

-- a copy comes, or another
pub overlaid_set : (cylinders : List Cylinder) (copies : List (Option Cylinder)) (index : ℕ) (copy : Cylinder)
    → index < length cylinders → index < length copies → overlaid cylinders
    (slice_set copies index (Some copy)) ≡ slice_set (overlaid cylinders copies) index copy
overlaid_set [] copies index copy inside room = absurd (omega (arith, inside))
overlaid_set (c ∷ cylinders) [] index copy inside room = absurd (omega (arith, room))
overlaid_set (c ∷ cylinders) (None ∷ copies) zero copy inside room = refl
overlaid_set (c ∷ cylinders) (Some d ∷ copies) zero copy inside room = refl
overlaid_set (c ∷ cylinders) (None ∷ copies) (suc index) copy inside room = ap (λ cs. c ∷ cs)
    (overlaid_set cylinders copies index copy (omega (arith, inside)) (omega (arith, room)))
overlaid_set (c ∷ cylinders) (Some d ∷ copies) (suc index) copy inside room = ap (λ cs. d ∷ cs)
    (overlaid_set cylinders copies index copy (omega (arith, inside)) (omega (arith, room)))

-- a copy that is like its cylinder changes nothing
pub copied_same : (cylinders : List Cylinder) (copies : List (Option Cylinder)) (index : ℕ) (copy : Cylinder)
    → slice_index_or copies index None ≡ None → copy ≡ slice_index_or cylinders index []
    → overlaid cylinders (slice_set copies index (Some copy)) ≡ overlaid cylinders copies
copied_same [] copies index copy away is = refl
copied_same (c ∷ cylinders) [] index copy away is = refl
copied_same (c ∷ cylinders) (None ∷ copies) zero copy away is = ap (λ d. d ∷ overlaid cylinders copies) is
copied_same (c ∷ cylinders) (Some d ∷ copies) zero copy away is = absurd cc
copied_same (c ∷ cylinders) (None ∷ copies) (suc index) copy away is = ap (λ cs. c ∷ cs)
    (copied_same cylinders copies index copy away is)
copied_same (c ∷ cylinders) (Some d ∷ copies) (suc index) copy away is = ap (λ cs. d ∷ cs)
    (copied_same cylinders copies index copy away is)

-- Without copies the cylinders are the volume's own.
pub overlaid_none : (cylinders : List Cylinder) (n : ℕ) → overlaid cylinders (replicate n None) ≡ cylinders
overlaid_none [] n = refl
overlaid_none (c ∷ cylinders) zero = refl
overlaid_none (c ∷ cylinders) (suc n) = ap (λ cs. c ∷ cs) (overlaid_none cylinders n)

-- Setting a cylinder to itself changes nothing.
pub same_set : (cylinders : List Cylinder) (index : ℕ) → slice_set cylinders index
    (slice_index_or cylinders index []) ≡ cylinders
same_set cylinders index = set-get_or cylinders index []

-- Copies change no number of cylinders.
pub overlaid_long : (cylinders : List Cylinder) (copies : List (Option Cylinder))
    → length (overlaid cylinders copies) ≡ length cylinders
overlaid_long [] copies = refl
overlaid_long (c ∷ cylinders) [] = refl
overlaid_long (c ∷ cylinders) (None ∷ copies) = ap suc (overlaid_long cylinders copies)
overlaid_long (c ∷ cylinders) (Some d ∷ copies) = ap suc (overlaid_long cylinders copies)

-- Of two values that are set at one index the second stays.
pub set_again : {X : Type 0} (xs : List X) (i : ℕ) (y z : X) → slice_set (slice_set xs i y) i z ≡ slice_set xs i z
set_again [] i y z = refl
set_again (x ∷ xs) zero y z = refl
set_again (x ∷ xs) (suc i) y z = ap (λ ys. x ∷ ys) (set_again xs i y z)

default_free : {X : Type 0} (xs : List X) (i : ℕ) (d e : X) → i < length xs
    → slice_index_or xs i d ≡ slice_index_or xs i e
default_free [] i d e inside = absurd (omega (arith, inside))
default_free (x ∷ xs) zero d e inside = refl
default_free (x ∷ xs) (suc i) d e inside = default_free xs i d e (omega (arith, inside))

-- A copy that is found is the one at its index.
pub copy_there : (copies : List (Option Cylinder)) (index : ℕ) (found : Option Cylinder) (copy : Cylinder)
    → index < length copies → found ≡ slice_index_or copies index found → found ≡ Some copy
    → slice_index_or copies index None ≡ Some copy
copy_there copies index found copy inside at is = default_free copies index None found inside ∙ sym at ∙ is
