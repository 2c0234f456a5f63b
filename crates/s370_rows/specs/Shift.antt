-- Shifts of a register and of a pair: GA22-7000, "Shift Left Single" and the seven that follow it.
use Rattle.std.specs.Prelude.{ℕ, ◌+◌, ◌*◌, ◌/◌, ◌%◌, ◌^◌, nat_lt, if◌then◌else◌, Bool, false, true}
use Rattle.std.specs.Prelude.{ℤ, pos, negsuc, ◌*ℤ◌, slice_index}
use Rattle.std.specs.Int.{w32, w64, cast_unsigned}
use Rattle.s370_rows.specs.declared.cpu.Cpu.{Cpu}
use Rattle.s370_rows.specs.declared.arithmetic.Computed.{Computed}
use Rattle.s370_rows.specs.declared.shift.ComputedPair.{ComputedPair}
use Rattle.s370_rows.specs.declared.shift.Shift.{Shift}
use Rattle.s370_rows.specs.declared.shift.Shift.TheVariants.{Right, Left, RightLogical, LeftLogical}
use Rattle.s370_rows.specs.Arithmetic.{signed, fits_word, sign_code, plain}
use Rattle.s370_rows.specs.Pair.{pair_of, with_pair, signed_pair}
use Rattle.s370_rows.specs.Registers.{Ended, overflow_ending, with_register, with_condition}

-- the number divided by 2 to the n, rounded down
abbrev pub floored : ℤ → ℕ → ℤ
floored (pos k) n = pos (k / 2 ^ n)
floored (negsuc k) n = negsuc (k / 2 ^ n)

-- ---- a register

-- a word shifted right, filled with its sign
abbrev pub right_word : ℕ → ℕ → Computed
right_word a n = let x = floored (signed a) n in plain (cast_unsigned w32 x) (sign_code x)

-- what fits, or else the sign bit and the low 31 bits
abbrev pub left_word : ℕ → ℕ → Computed
left_word a n =
    let x = signed a *ℤ pos (2 ^ n) in
    if fits_word x
    then plain (cast_unsigned w32 x) (sign_code x)
    else record {
      value = a / 2 ^ 31 * 2 ^ 31 + a * 2 ^ n % 2 ^ 31;
      condition = 3;
      overflows = true;
    }

-- the register contents a, shifted by n bits; cc is the condition code before
abbrev pub word_shift : Shift → ℕ → ℕ → ℕ → Computed
word_shift Right cc a n = right_word a n
word_shift Left cc a n = left_word a n
word_shift RightLogical cc a n = plain (a / 2 ^ n) cc
word_shift LeftLogical cc a n = plain (a * 2 ^ n % 2 ^ 32) cc

-- SRA, SLA, SRL, SLL
abbrev pub word_shifted : Shift → Cpu → ℕ → ℕ → Ended
word_shifted op cpu r n =
    let x = word_shift op cpu.psw.condition (slice_index cpu.general r) n in
    record {
      ending = overflow_ending cpu x.overflows;
      cpu = with_condition (with_register cpu r x.value) x.condition;
    }

-- ---- a pair

-- whether an integer fits 64 bits in two's complement
abbrev pub fits_pair : ℤ → Bool
fits_pair (pos n) = nat_lt n (2 ^ 63)
fits_pair (negsuc n) = nat_lt n (2 ^ 63)

-- a value of a pair, with a condition code, that does not overflow
abbrev pub plain_pair : ℕ → ℕ → ComputedPair
plain_pair value condition = record { value = value; condition = condition; overflows = false }

-- a pair shifted right, filled with its sign
abbrev pub right_pair : ℕ → ℕ → ComputedPair
right_pair a n = let x = floored (signed_pair a) n in plain_pair (cast_unsigned w64 x) (sign_code x)

-- a pair shifted left under its sign, which overflows if a bit unlike the sign is lost
abbrev pub left_pair : ℕ → ℕ → ComputedPair
left_pair a n =
    let x = signed_pair a *ℤ pos (2 ^ n) in
    if fits_pair x
    then plain_pair (cast_unsigned w64 x) (sign_code x)
    else record {
      value = a / 2 ^ 63 * 2 ^ 63 + a * 2 ^ n % 2 ^ 63;
      condition = 3;
      overflows = true;
    }

-- a pair shifted
abbrev pub pair_shift : Shift → ℕ → ℕ → ℕ → ComputedPair
pair_shift Right cc a n = right_pair a n
pair_shift Left cc a n = left_pair a n
pair_shift RightLogical cc a n = plain_pair (a / 2 ^ n) cc
pair_shift LeftLogical cc a n = plain_pair (a * 2 ^ n % 2 ^ 64) cc

-- SRDA, SLDA, SRDL, SLDL
abbrev pub pair_shifted : Shift → Cpu → ℕ → ℕ → Ended
pair_shifted op cpu r n =
    let x = pair_shift op cpu.psw.condition (pair_of cpu r) n in
    record {
      ending = overflow_ending cpu x.overflows;
      cpu = with_condition (with_pair cpu r x.value) x.condition;
    }
