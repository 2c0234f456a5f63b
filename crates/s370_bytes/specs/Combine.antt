-- Strings that are changed from left to right, byte by byte, by bytes that may have been changed
-- before: GA22-7000, "Move", "Move Numerics", "Move Zones", "AND", "OR" and "Exclusive OR".
use Rattle.std.specs.Prelude.{ℕ, zero, suc, ◌+◌, ◌-◌, ◌*◌, ◌/◌, ◌%◌, nat_lt, ◌&&◌, if◌then◌else◌}
use Rattle.std.specs.Prelude.{bit_and, bit_or, bit_xor, List, [], ◌∷◌, slice_index, slice_set}
use Rattle.std.specs.Prelude.{slice_range, None}
use Rattle.s370_rows.specs.declared.cpu.Cpu.{Cpu}
use Rattle.s370_rows.specs.declared.instruction.Instruction.{Instruction}
use Rattle.s370_rows.specs.declared.ending.Completion.TheVariants.{Done}
use Rattle.s370_rows.specs.Arithmetic.{zero_code}
use Rattle.s370_rows.specs.Formats.{based_address}
use Rattle.s370_rows.specs.Registers.{with_condition}
use Rattle.s370_rows.specs.State.{State}
use Rattle.s370_rows.specs.Rows.{Row, checked, fetch_test, store_test}
use Rattle.s370_bytes.specs.declared.combine.Combine.{Combine}
use Rattle.s370_bytes.specs.declared.combine.Combine.TheVariants.{Move, MoveNumerics, MoveZones}
use Rattle.s370_bytes.specs.declared.combine.Combine.TheVariants.{And, Or, ExclusiveOr}
use Rattle.s370_bytes.specs.Strings.{number}

-- a byte x of the first operand and a byte y of the second
abbrev pub combined : Combine → ℕ → ℕ → ℕ
combined Move x y = y
combined MoveNumerics x y = x / 16 * 16 + y % 16
combined MoveZones x y = y / 16 * 16 + x % 16
combined And x y = bit_and x y
combined Or x y = bit_or x y
combined ExclusiveOr x y = bit_xor x y

-- n bytes from a on, combined with those from b on, from left to right
abbrev pub changed : Combine → List ℕ → ℕ → ℕ → ℕ → List ℕ
changed op bytes a b zero = bytes
changed op bytes a b (suc n) =
    let sofar = changed op bytes a b n in
    slice_set sofar (a + n) (combined op (slice_index sofar (a + n)) (slice_index sofar (b + n)))

-- the n bytes that they are then
abbrev pub made_of : Combine → List ℕ → ℕ → ℕ → ℕ → List ℕ
made_of op bytes a b n = slice_range (changed op bytes a b n) a (a + n)

-- the condition code: of AND, OR and EXCLUSIVE OR, whether the result is zero
abbrev pub combined_condition : Combine → Cpu → List ℕ → Cpu
combined_condition And cpu xs = with_condition cpu (zero_code (number xs))
combined_condition Or cpu xs = with_condition cpu (zero_code (number xs))
combined_condition ExclusiveOr cpu xs = with_condition cpu (zero_code (number xs))
combined_condition _ cpu xs = cpu

-- MVN, MVC, MVZ, NC, OC, XC of n bytes at a and at b
abbrev pub strings_combined : Combine → State → ℕ → ℕ → ℕ → Row
strings_combined op m a b n =
    let made = made_of op m.bytes a b n in
    checked (store_test a n ∷ fetch_test b n ∷ [])
    (record {
      ending = Done;
      cpu = combined_condition op m.cpu made;
      stores = record { start = a; written = made } ∷ [];
      keyed = None;
    })

-- of the bytes that the instruction names
abbrev pub string_combined : Combine → State → Instruction → Row
string_combined op m i = strings_combined op m (based_address m.cpu i.second_half)
    (based_address m.cpu i.third_half) (i.second_byte + 1)

-- how far after its source a byte is made, where that is less than n
abbrev pub lag_of : ℕ → ℕ → ℕ → ℕ
lag_of a b n = if nat_lt b a && nat_lt (a - b) n then a - b else n

-- byte k of a source, or past the lag the byte made that far before
abbrev pub lagged : List ℕ → List ℕ → ℕ → ℕ → ℕ
lagged source made lag k = if nat_lt k lag then slice_index source k else slice_index made (k - lag)
