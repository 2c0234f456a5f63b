-- CVB and CVD: GA22-7000, "Convert to Binary" and "Convert to Decimal".
use Rattle.std.specs.Prelude.{◌≡◌, ℕ, zero, suc, ◌+◌, ◌*◌, ◌/◌, ◌%◌, ◌^◌, ◌==◌, nat_lt}
use Rattle.std.specs.Prelude.{if◌then◌else◌, ◌&&◌, ◌||◌, Bool, true, [], ◌∷◌, slice_index, Option}
use Rattle.std.specs.Prelude.{Some, None, Result, Ok, Err, ℤ, pos, neg_ℤ, unsigned_abs, int_lt}
use Rattle.std.specs.Int.{w64, cast_unsigned, to_be_bytes}
use Rattle.s370_psw.specs.declared.program.ProgramCode.{ProgramCode}
use Rattle.s370_psw.specs.declared.program.ProgramCode.TheVariants.{Data, FixedPointDivide}
use Rattle.s370_rows.specs.declared.cpu.Cpu.{Cpu}
use Rattle.s370_rows.specs.declared.instruction.Instruction.{Instruction}
use Rattle.s370_rows.specs.declared.ending.Completion.{Completion}
use Rattle.s370_rows.specs.declared.ending.Completion.TheVariants.{Done, Interrupted}
use Rattle.s370_rows.specs.Arithmetic.{signed, fits_word}
use Rattle.s370_rows.specs.Formats.{r1_of, r2_of, indexed_address}
use Rattle.s370_rows.specs.Registers.{Ended, with_register}
use Rattle.s370_rows.specs.State.{State}
use Rattle.s370_rows.specs.Rows.{Row, Left, checked, fetch_test, store_test, doubleword_at, writes}
use Rattle.s370_rows.specs.Rows.{over}

-- the n low digits of x in the base `from`, as digits in the base `to`
unfoldable pub rebased : ℕ → ℕ → ℕ → ℕ → ℕ
rebased to from zero x = 0
rebased to from (suc n) x = x % from + to * rebased to from n (x / from)

-- whether the n low digits of x, four bits each, are decimal
unfoldable pub is_decimal : ℕ → ℕ → Bool
is_decimal zero x = true
is_decimal (suc n) x = nat_lt (x % 16) 10 && is_decimal n (x / 16)

-- the number of 15 digits that x is in decimal
abbrev pub decimal_value : ℕ → Option ℕ
decimal_value x = if is_decimal 15 x then Some (rebased 10 16 15 x) else None

-- the signs B and D are minus
abbrev pub with_sign : ℕ → ℕ → ℤ
with_sign sign n = if (sign == 11) || (sign == 13) then neg_ℤ (pos n) else pos n

-- the number with the sign of a decimal sign digit
abbrev pub signed_by : ℕ → Option ℕ → Option ℤ
signed_by sign None = None
signed_by sign (Some n) = Some (with_sign sign n)

-- a doubleword as a signed number; none where a digit is above 9 or the sign below A
abbrev pub signed_value : ℕ → Option ℤ
signed_value d = if nat_lt (d % 16) 10 then None else signed_by (d % 16) (decimal_value (d / 16))

-- R1 takes the low 32 bits of a number; one that does not fit is a divide exception after that
abbrev pub binary_left : Cpu → ℕ → Option ℤ → Result Ended ProgramCode
binary_left cpu r None = Err Data
binary_left cpu r (Some z) =
    Ok (record {
      ending = if fits_word z then Done else Interrupted FixedPointDivide;
      cpu = with_register cpu r (cast_unsigned w64 z % 2 ^ 32);
    })

-- how an instruction over registers ends that may be refused
abbrev pub over_result : Result Ended ProgramCode → Result Left ProgramCode
over_result (Ok e) = Ok (over e)
over_result (Err code) = Err code

-- what code over registers may answer that may be refused: what is left; or the code, with nothing
-- changed
abbrev pub MeetsEnded : Result Ended ProgramCode → Cpu → Result Completion ProgramCode → Cpu
    → Type 0
MeetsEnded e old (Ok ending) new = e ≡ Ok (record { ending = ending; cpu = new })
MeetsEnded e old (Err code) new = (e ≡ Err code) × (new ≡ old)

-- CVB
abbrev pub binary_loaded : State → Instruction → Row
binary_loaded m i =
    let a = indexed_address m.cpu (r2_of i) i.second_half in
    let left = binary_left m.cpu (r1_of i) (signed_value (doubleword_at m.bytes a)) in
    record { refused = None; tests = fetch_test a 8 ∷ []; leaves = over_result left }

-- 15 decimal digits of the number that a word is, and a sign: C plus, D minus
unfoldable pub decimal_of : ℕ → ℕ
decimal_of a = rebased 16 10 15 (unsigned_abs (signed a)) * 16 +
    (if int_lt (signed a) (pos 0) then 13 else 12)

-- CVD
abbrev pub decimal_stored : State → Instruction → Row
decimal_stored m i =
    let a = indexed_address m.cpu (r2_of i) i.second_half in
    checked (store_test a 8 ∷ [])
    (writes m a (to_be_bytes w64 (decimal_of (slice_index m.cpu.general (r1_of i)))))
