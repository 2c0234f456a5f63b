-- Strings of decimal digits: one digit in a byte with a zone, or two in a byte and a sign at the
-- right. GA22-7000, "Move with Offset", "Pack" and "Unpack".
use Rattle.std.specs.Prelude.{ℕ, zero, suc, ◌+◌, ◌-◌, ◌*◌, ◌/◌, ◌%◌, ◌==◌, nat_lt, if◌then◌else◌}
use Rattle.std.specs.Prelude.{List, [], ◌∷◌, length, slice_index, slice_range}
use Rattle.s370_rows.specs.declared.instruction.Instruction.{Instruction}
use Rattle.s370_rows.specs.Formats.{based_address}
use Rattle.s370_rows.specs.State.{State}
use Rattle.s370_rows.specs.Rows.{Row, checked, fetch_test, store_test, writes}
use Rattle.s370_bytes.specs.declared.digits.Layout.{Layout}
use Rattle.s370_bytes.specs.declared.digits.Layout.TheVariants.{MoveWithOffset, Pack, Unpack}

-- byte k from the right, zero where there is none
abbrev pub from_right : List ℕ → ℕ → ℕ
from_right xs k = if nat_lt k (length xs) then slice_index xs (length xs - 1 - k) else 0

-- digit k from the right, two in a byte
abbrev pub digit : List ℕ → ℕ → ℕ
digit xs k = if k % 2 == 0 then from_right xs (k / 2) % 16 else from_right xs (k / 2) / 16

-- a byte with its two digits exchanged
abbrev pub exchanged : ℕ → ℕ
exchanged x = x % 16 * 16 + x / 16

-- byte k from the right of the result, of a first operand and a second
abbrev pub laid_out : Layout → List ℕ → List ℕ → ℕ → ℕ
laid_out MoveWithOffset xs ys k =
    digit ys (2 * k) * 16 + (if k == 0 then from_right xs 0 % 16 else digit ys (2 * k - 1))
laid_out Pack xs ys k =
    if k == 0 then exchanged (from_right ys 0)
    else from_right ys (2 * k) % 16 * 16 + from_right ys (2 * k - 1) % 16
laid_out Unpack xs ys k =
    if k == 0 then exchanged (from_right ys 0) else 240 + digit ys (k + 1)

-- n bytes, of which f says byte k from the right
abbrev pub string_of : ℕ → (ℕ → ℕ) → List ℕ
string_of zero f = []
string_of (suc n) f = f n ∷ string_of n f

-- MVO, PACK, UNPK: both operands are read before the result is stored
abbrev pub digits_laid_out : Layout → State → Instruction → Row
digits_laid_out layout m i =
    let n1 = i.second_byte / 16 + 1 in
    let n2 = i.second_byte % 16 + 1 in
    let a = based_address m.cpu i.second_half in
    let b = based_address m.cpu i.third_half in
    let byte = laid_out layout (slice_range m.bytes a (a + n1)) (slice_range m.bytes b (b + n2)) in
    checked (store_test a n1 ∷ fetch_test b n2 ∷ []) (writes m a (string_of n1 byte))
