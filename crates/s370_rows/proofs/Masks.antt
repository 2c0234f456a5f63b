-- Steps of a walk over the four bytes that a mask selects from.
use Rattle.std.proofs.Common.{◌≡◌, ℕ, zero, suc, ◌+◌, ◌<◌, true, false, [], ◌∷◌, ◌++◌}
use Rattle.std.proofs.Common.{eqb-true, arith, refl, add-one}
use Rattle.std.proofs.lemmas.Bool.Decides.{nat_tests}
use Rattle.std.proofs.lemmas.List.{append-nil}
use Rattle.s370_rows.specs.Mask.{byte_at, mask_bit, selected_before, selected_count, selected_front}
use Rattle.s370_rows.specs.Mask.{selects}

selected_bit : (mask k : ℕ) → selects mask k ≡ true → mask_bit mask k ≡ 1
selected_bit mask k s = eqb-true (mask_bit mask k) 1 s

passed_bit : (mask k : ℕ) → selects mask k ≡ false → mask_bit mask k ≡ 0
passed_bit mask k s = grind (arith, nat_tests)

-- A byte that the mask selects is counted.
pub count_selected : (mask k : ℕ) → selects mask k ≡ true → selected_before mask (k + 1) ≡ selected_before mask k + 1
count_selected mask k s = let one = selected_bit mask k s in rw add-one (omega arith)

-- A byte that the mask does not select is not counted.
pub count_passed : (mask k : ℕ) → selects mask k ≡ false → selected_before mask (k + 1) ≡ selected_before mask k
count_passed mask k s = let z = passed_bit mask k s in rw add-one (omega arith)

-- a byte that is selected is one of those that are counted
pub is_counted : (mask k : ℕ) → k < 4 → selects mask k ≡ true → selected_before mask k < selected_count mask
is_counted mask zero l s = let b = selected_bit mask 0 s in omega arith
is_counted mask (suc zero) l s = let b = selected_bit mask 1 s in omega arith
is_counted mask (suc (suc zero)) l s = let b = selected_bit mask 2 s in omega arith
is_counted mask (suc (suc (suc zero))) l s = let b = selected_bit mask 3 s in omega arith
is_counted mask (suc (suc (suc (suc k)))) l s = absurd (omega arith)

-- A byte that the mask selects is appended to those selected before.
pub front_selected : (word mask k : ℕ) → selects mask k ≡ true
    → selected_front word mask (k + 1) ≡ selected_front word mask k ++ (byte_at word k ∷ [])
front_selected word mask k s = rw (add-one, s) refl

-- A byte that the mask does not select is not appended.
pub front_passed : (word mask k : ℕ) → selects mask k ≡ false
    → selected_front word mask (k + 1) ≡ selected_front word mask k
front_passed word mask k s = rw (add-one, s) (append-nil (selected_front word mask k))
