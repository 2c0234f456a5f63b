-- Products and quotients: GA22-7000, "Multiply", "Multiply Halfword" and "Divide".
use Rattle.std.specs.Prelude.{◌≡◌, ℕ, zero, ◌+◌, ◌%◌, ◌^◌, if◌then◌else◌, slice_index, Option, Some}
use Rattle.std.specs.Prelude.{None, Result, Ok, Err, ℤ, pos, ◌*ℤ◌, int_div, int_rem}
use Rattle.std.specs.Int.{w32, w64, cast_unsigned}
use Rattle.s370_psw.specs.declared.program.ProgramCode.{ProgramCode}
use Rattle.s370_psw.specs.declared.program.ProgramCode.TheVariants.{FixedPointDivide}
use Rattle.s370_rows.specs.declared.cpu.Cpu.{Cpu}
use Rattle.s370_rows.specs.declared.product.Quotient.{Quotient}
use Rattle.s370_rows.specs.Arithmetic.{signed, fits_word}
use Rattle.s370_rows.specs.Pair.{pair_of, with_pair, signed_pair}
use Rattle.s370_rows.specs.Registers.{Ended, with_register, done}

-- the product of two words as signed numbers, in 64 bits, which it fits
abbrev pub product : ℕ → ℕ → ℕ
product a b = cast_unsigned w64 (signed a *ℤ signed b)

-- M, MR: the pair from r on takes the product of its second register and b
abbrev pub multiplied : Cpu → ℕ → ℕ → Ended
multiplied cpu r b = done (with_pair cpu r (product (slice_index cpu.general (r + 1)) b))

-- MH: register r takes the low 32 bits of its product with b; that more are lost is not reported
abbrev pub multiplied_halfword : Cpu → ℕ → ℕ → Ended
multiplied_halfword cpu r b =
    done (with_register cpu r (product (slice_index cpu.general r) b % 2 ^ 32))

-- a quotient towards zero, and a remainder with the sign of the dividend
pub record Division : Type 0 where
  pub quotient : ℤ
  pub remainder : ℤ

-- none where b is zero or the quotient does not fit a word
abbrev pub divided : ℤ → ℤ → Option Division
divided a (pos zero) = None
divided a b = if fits_word (int_div a b)
    then Some (record { quotient = int_div a b; remainder = int_rem a b }) else None

-- the remainder goes to register r and the quotient to the one after it
abbrev pub division_left : Cpu → ℕ → Option Division → Result Ended ProgramCode
division_left cpu r None = Err FixedPointDivide
division_left cpu r (Some d) =
    Ok (done (with_register (with_register cpu r (cast_unsigned w32 d.remainder)) (r + 1)
    (cast_unsigned w32 d.quotient)))

-- D, DR: the pair from r on is divided by b
abbrev pub quotient_left : Cpu → ℕ → ℕ → Result Ended ProgramCode
quotient_left cpu r b = division_left cpu r (divided (signed_pair (pair_of cpu r)) (signed b))

-- what code that divides may answer
abbrev pub MeetsDivision : Option Division → Option Quotient → Type 0
MeetsDivision d None = d ≡ None
MeetsDivision d (Some q) = d ≡ Some (record { quotient = q.quotient; remainder = q.remainder })
