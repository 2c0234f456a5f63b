-- Decimal numbers, and those that 64 bits do not hold.
use Rattle.std.proofs.Common.{◌≡◌, ℕ, ◌+◌, ◌*◌, ◌-◌, ◌^◌, ◌<◌, ◌≤◌, Bool, true, false, cond, List, [], ◌∷◌, Some, None}
use Rattle.std.proofs.Common.{nat_lt, refl, arith}
use Rattle.std.proofs.lemmas.Bool.{lt-ltb, ltb-false, ltb-true}
use Rattle.std.specs.Option.{option_and_then}
use Rattle.text_words.specs.Numbers.{is_digit, number_from}
use Rattle.cp_console.specs.Operands.{in_64_bits}

-- A file number has 64 bits.
pub fits : (n : ℕ) → n < 2 ^ 64 → in_64_bits n ≡ Some n
fits n h = rw (lt-ltb n (2 ^ 64) h) refl

-- what the digits spell, where the first of them may already be too much
large_on : (n : ℕ) (b : Bool) → nat_lt n (2 ^ 64) ≡ b → 2 ^ 64 ≤ n → in_64_bits n ≡ None
large_on n false h k = rw h refl
large_on n true h k = absurd (omega (arith, ltb-true n (2 ^ 64) h, k))

kept : (n c : ℕ) (digits : List ℕ) (b : Bool)
    → option_and_then in_64_bits (number_from (n * 10 + (c - 48)) digits) ≡ None
    → option_and_then in_64_bits (cond b (number_from (n * 10 + (c - 48)) digits) None) ≡ None
kept n c digits false h = refl
kept n c digits true h = h

-- more digits make a number that is too large no smaller
stays_large : (n : ℕ) (digits : List ℕ) → 2 ^ 64 ≤ n → option_and_then in_64_bits (number_from n digits) ≡ None
stays_large n [] h = large_on n (nat_lt n (2 ^ 64)) refl h
stays_large n (c ∷ digits) h = kept n c digits (is_digit c) (stays_large (n * 10 + (c - 48)) digits (omega (arith, h)))

refused_on : (n : ℕ) (digits : List ℕ) (b : Bool) → nat_lt n (2 ^ 64) ≡ b → cond b (Some n) None ≡ None
    → option_and_then in_64_bits (number_from n digits) ≡ None
refused_on n digits true e h = cc
refused_on n digits false e h = stays_large n digits (omega (arith, ltb-false n (2 ^ 64) e))

digit_on : (n c : ℕ) (digits : List ℕ) (b : Bool) → cond b (in_64_bits (n * 10 + (c - 48))) None ≡ None
    → option_and_then in_64_bits (cond b (number_from (n * 10 + (c - 48)) digits) None) ≡ None
digit_on n c digits false h = refl
digit_on n c digits true h = refused_on (n * 10 + (c - 48)) digits (nat_lt (n * 10 + (c - 48)) (2 ^ 64)) refl h

-- a digit that makes no number of 64 bits makes none with more digits after it
pub refused : (n c : ℕ) (digits : List ℕ) → cond (is_digit c) (in_64_bits (n * 10 + (c - 48))) None ≡ None
    → option_and_then in_64_bits (number_from n (c ∷ digits)) ≡ None
refused n c digits h = digit_on n c digits (is_digit c) h
