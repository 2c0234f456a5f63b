-- Decimal and hexadecimal numbers.
use Rattle.std.specs.Prelude.{ℕ, ◌+◌, ◌*◌, ◌-◌, ◌&&◌, Bool, if◌then◌else◌, nat_le, List, [], ◌∷◌}
use Rattle.std.specs.Prelude.{length, Option, Some, None}
use Rattle.std.specs.Option.{option_and_then}

-- one of `0` to `9`
abbrev pub is_digit : ℕ → Bool
is_digit c = nat_le 48 c && nat_le c 57

-- the number that these digits spell, after those that spell n
abbrev pub number_from : ℕ → List ℕ → Option ℕ
number_from n [] = Some n
number_from n (c ∷ cs) = if is_digit c then number_from (n * 10 + (c - 48)) cs else None

-- the number that at least one and at most so many decimal digits spell
abbrev pub decimal_of : ℕ → List ℕ → Option ℕ
decimal_of most digits = if nat_le 1 (length digits) && nat_le (length digits) most
    then number_from 0 digits else None

-- the value of a hexadecimal digit, `0` to `9` or `A` to `F`
abbrev pub digit_value : ℕ → Option ℕ
digit_value c =
    if is_digit c then Some (c - 48)
    else if nat_le 65 c && nat_le c 70 then Some (c - 55)
    else None

-- the number that these digits spell, after those that spell n
abbrev pub hexadecimal_from : ℕ → List ℕ → Option ℕ
hexadecimal_from n [] = Some n
hexadecimal_from n (c ∷ cs) =
    option_and_then (λ digit. hexadecimal_from (n * 16 + digit) cs) (digit_value c)

-- the number that at least and at most so many hexadecimal digits spell
abbrev pub hexadecimal_of : ℕ → ℕ → List ℕ → Option ℕ
hexadecimal_of least most digits =
    if nat_le least (length digits) && nat_le (length digits) most then hexadecimal_from 0 digits
    else None
