-- The operations on a register and another operand, over whole numbers: GA22-7000, "General
-- Instructions".
use Rattle.std.specs.Prelude.{ℕ, zero, suc, ◌+◌, ◌-◌, ◌%◌, ◌^◌, ◌==◌, nat_lt, if◌then◌else◌, Bool}
use Rattle.std.specs.Prelude.{false, not, bit_and, bit_or, bit_xor, ℤ, pos, negsuc, ◌+ℤ◌, ◌-ℤ◌}
use Rattle.std.specs.Prelude.{neg_ℤ, unsigned_abs}
use Rattle.std.specs.Int.{w32, w64, cast_signed, cast_unsigned}
use Rattle.s370_rows.specs.declared.arithmetic.Arithmetic.{Arithmetic}
use Rattle.s370_rows.specs.declared.arithmetic.Arithmetic.TheVariants.{Load, LoadAndTest}
use Rattle.s370_rows.specs.declared.arithmetic.Arithmetic.TheVariants.{LoadPositive, LoadNegative}
use Rattle.s370_rows.specs.declared.arithmetic.Arithmetic.TheVariants.{LoadComplement, Compare}
use Rattle.s370_rows.specs.declared.arithmetic.Arithmetic.TheVariants.{CompareLogical, Add}
use Rattle.s370_rows.specs.declared.arithmetic.Arithmetic.TheVariants.{Subtract, AddLogical}
use Rattle.s370_rows.specs.declared.arithmetic.Arithmetic.TheVariants.{SubtractLogical, And, Or}
use Rattle.s370_rows.specs.declared.arithmetic.Arithmetic.TheVariants.{ExclusiveOr}
use Rattle.s370_rows.specs.declared.arithmetic.Computed.{Computed}

-- a word as a signed number
abbrev pub signed : ℕ → ℤ
signed a = cast_signed w32 a

-- ---- condition codes

-- of a signed number: 0 zero, 1 negative, 2 positive
abbrev pub sign_code : ℤ → ℕ
sign_code (pos zero) = 0
sign_code (pos (suc n)) = 2
sign_code (negsuc n) = 1

-- of two numbers: 0 equal, 1 the first is low, 2 it is high
abbrev pub order_code : ℕ → ℕ → ℕ
order_code a b = if a == b then 0 else (if nat_lt a b then 1 else 2)

-- the condition code of a result without sign: 0 zero, 1 not zero
abbrev pub zero_code : ℕ → ℕ
zero_code n = if n == 0 then 0 else 1

-- of a sum without sign: its low 32 bits are not zero, and it has a carry
abbrev pub carry_code : ℕ → ℕ
carry_code x = zero_code (x % 2 ^ 32) + (if nat_lt x (2 ^ 32) then 0 else 2)

-- ---- results

-- a value, with a condition code
abbrev pub plain : ℕ → ℕ → Computed
plain value condition = record { value = value; condition = condition; overflows = false }

-- whether an integer fits 32 bits in two's complement
abbrev pub fits_word : ℤ → Bool
fits_word (pos n) = nat_lt n (2 ^ 31)
fits_word (negsuc n) = nat_lt n (2 ^ 31)

-- the low bits of a signed result, whose exact value may not fit
abbrev pub exact : ℕ → ℤ → Computed
exact low z = record {
  value = low;
  condition = if fits_word z then sign_code z else 3;
  overflows = not (fits_word z);
}

-- the low 32 bits of an integer, which overflows if it does not fit
abbrev pub exact_number : ℤ → Computed
exact_number z = exact (cast_unsigned w64 z % 2 ^ 32) z

-- what an operation makes of the condition code cc, the contents a of its register and its other
-- operand b
abbrev pub computed : Arithmetic → ℕ → ℕ → ℕ → Computed
computed Load cc a b = plain b cc
computed LoadAndTest cc a b = plain b (sign_code (signed b))
computed LoadPositive cc a b = exact_number (pos (unsigned_abs (signed b)))
computed LoadNegative cc a b = exact_number (neg_ℤ (pos (unsigned_abs (signed b))))
computed LoadComplement cc a b = exact_number (neg_ℤ (signed b))
computed Compare cc a b = plain a (sign_code (signed a -ℤ signed b))
computed CompareLogical cc a b = plain a (order_code a b)
computed Add cc a b = exact ((a + b) % 2 ^ 32) (signed a +ℤ signed b)
computed Subtract cc a b = exact ((a + (2 ^ 32 - b)) % 2 ^ 32) (signed a -ℤ signed b)
computed AddLogical cc a b = plain ((a + b) % 2 ^ 32) (carry_code (a + b))
computed SubtractLogical cc a b =
    plain ((a + (2 ^ 32 - b)) % 2 ^ 32) (carry_code (a + (2 ^ 32 - 1 - b) + 1))
computed And cc a b = plain (bit_and a b) (zero_code (bit_and a b))
computed Or cc a b = plain (bit_or a b) (zero_code (bit_or a b))
computed ExclusiveOr cc a b = plain (bit_xor a b) (zero_code (bit_xor a b))
