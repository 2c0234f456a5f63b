-- ICM, STCM and CLM: GA22-7000, "Insert Characters under Mask", "Store Characters under Mask" and
-- "Compare Logical Characters under Mask".
use Rattle.std.specs.Prelude.{ℕ, zero, suc, ◌+◌, ◌-◌, ◌/◌, ◌%◌, ◌^◌, ◌==◌, nat_le, if◌then◌else◌}
use Rattle.std.specs.Prelude.{Bool, List, [], ◌∷◌, ◌++◌, slice_index, slice_range, max}
use Rattle.std.specs.Int.{w32, from_be_bytes, to_be_bytes}
use Rattle.s370_rows.specs.declared.cpu.Cpu.{Cpu}
use Rattle.s370_rows.specs.declared.instruction.Instruction.{Instruction}
use Rattle.s370_rows.specs.Formats.{r1_of, r2_of, based_address}
use Rattle.s370_rows.specs.Registers.{with_register, with_condition, done}
use Rattle.s370_rows.specs.State.{State}
use Rattle.s370_rows.specs.Rows.{Row, checked, over, writes, fetch_test, store_test}
use Rattle.s370_bytes.specs.Strings.{number}
use Rattle.s370_bytes.specs.Compare.{string_order}

-- the mask has the bit that stands for byte k of a register, from the left
abbrev pub is_chosen : ℕ → ℕ → Bool
is_chosen mask k = mask / 2 ^ (3 - k) % 2 == 1

-- how many of the first k bytes a mask chooses
abbrev pub chosen_before : ℕ → ℕ → ℕ
chosen_before mask zero = 0
chosen_before mask (suc k) = chosen_before mask k + (if is_chosen mask k then 1 else 0)

-- those of the first k bytes that a mask chooses
abbrev pub chosen_from : ℕ → List ℕ → ℕ → List ℕ
chosen_from mask xs zero = []
chosen_from mask xs (suc k) = chosen_from mask xs k
    ++ (if is_chosen mask k then slice_index xs k ∷ [] else [])

-- byte k of four, into those of which a mask chooses that other bytes are put in order
abbrev pub byte_inserted : ℕ → List ℕ → List ℕ → ℕ → ℕ
byte_inserted mask xs ys k = if is_chosen mask k then slice_index ys (chosen_before mask k)
    else slice_index xs k

-- the same of all four bytes
unfoldable pub chosen_count : ℕ → ℕ
chosen_count mask = chosen_before mask 4

unfoldable pub chosen : ℕ → List ℕ → List ℕ
chosen mask xs = chosen_from mask xs 4

unfoldable pub inserted : ℕ → List ℕ → List ℕ → List ℕ
inserted mask xs ys =
    byte_inserted mask xs ys 0 ∷ byte_inserted mask xs ys 1 ∷ byte_inserted mask xs ys 2 ∷
    byte_inserted mask xs ys 3 ∷ []

-- the bytes of a register
abbrev pub bytes_of : Cpu → ℕ → List ℕ
bytes_of cpu r = to_be_bytes w32 (slice_index cpu.general r)

-- how many bytes are tested, of which a mask chooses k: one where it chooses none
abbrev pub tested_count : ℕ → ℕ
tested_count k = max 1 k

-- the condition code: 0 zero or nothing inserted, 1 the first bit is one, 2 it is zero
abbrev pub inserted_code : List ℕ → ℕ
inserted_code ys = if number ys == 0 then 0 else (if nat_le 128 (slice_index ys 0) then 1 else 2)

-- the register with the bytes inserted, and the condition code
abbrev pub with_inserted : Cpu → ℕ → ℕ → List ℕ → Cpu
with_inserted cpu r mask ys =
    with_condition (with_register cpu r (from_be_bytes w32 (inserted mask (bytes_of cpu r) ys)))
    (inserted_code ys)

-- ICM
abbrev pub characters_inserted : State → Instruction → Row
characters_inserted m i =
    let a = based_address m.cpu i.second_half in
    let k = chosen_count (r2_of i) in
    checked (fetch_test a (tested_count k) ∷ [])
    (over (done (with_inserted m.cpu (r1_of i) (r2_of i) (slice_range m.bytes a (a + k)))))

-- STCM
abbrev pub characters_stored : State → Instruction → Row
characters_stored m i =
    let a = based_address m.cpu i.second_half in
    let k = chosen_count (r2_of i) in
    checked (store_test a (tested_count k) ∷ [])
    (writes m a (chosen (r2_of i) (bytes_of m.cpu (r1_of i))))

-- CLM
abbrev pub characters_compared : State → Instruction → Row
characters_compared m i =
    let a = based_address m.cpu i.second_half in
    let k = chosen_count (r2_of i) in
    let code = string_order (chosen (r2_of i) (bytes_of m.cpu (r1_of i)))
    (slice_range m.bytes a (a + k)) in
    checked (fetch_test a (tested_count k) ∷ []) (over (done (with_condition m.cpu code)))
