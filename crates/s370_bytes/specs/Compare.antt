-- CLC: GA22-7000, "Compare Logical".
use Rattle.std.specs.Prelude.{ℕ, suc, ◌+◌, ◌==◌, if◌then◌else◌, List, [], ◌∷◌, slice_range}
use Rattle.s370_rows.specs.declared.instruction.Instruction.{Instruction}
use Rattle.s370_rows.specs.Arithmetic.{order_code}
use Rattle.s370_rows.specs.Formats.{based_address}
use Rattle.s370_rows.specs.Registers.{with_condition, done}
use Rattle.s370_rows.specs.State.{State}
use Rattle.s370_rows.specs.Rows.{Row, checked, over, fetch_test}
use Rattle.s370_bytes.specs.Strings.{number}

-- how many pairs are equal before the first that is not
abbrev pub equal_pairs : List ℕ → List ℕ → ℕ
equal_pairs (x ∷ xs) (y ∷ ys) = if x == y then suc (equal_pairs xs ys) else 0
equal_pairs _ _ = 0

-- the condition code of two strings of one length, as numbers
abbrev pub string_order : List ℕ → List ℕ → ℕ
string_order xs ys = order_code (number xs) (number ys)

-- CLC
abbrev pub strings_compared : State → Instruction → Row
strings_compared m i =
    let n = i.second_byte + 1 in
    let a = based_address m.cpu i.second_half in
    let b = based_address m.cpu i.third_half in
    let code = string_order (slice_range m.bytes a (a + n)) (slice_range m.bytes b (b + n)) in
    checked (fetch_test a n ∷ fetch_test b n ∷ []) (over (done (with_condition m.cpu code)))
