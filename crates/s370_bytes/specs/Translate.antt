-- TR and TRT: GA22-7000, "Translate" and "Translate and Test".
use Rattle.std.specs.Prelude.{ℕ, zero, suc, ◌+◌, ◌*◌, ◌/◌, ◌^◌, ◌==◌, nat_lt, nat_le, ◌||◌, Bool}
use Rattle.std.specs.Prelude.{if◌then◌else◌, List, [], ◌∷◌, slice_index, slice_set, slice_range}
use Rattle.s370_num.specs.Address.{storage_address}
use Rattle.s370_rows.specs.declared.cpu.Cpu.{Cpu}
use Rattle.s370_rows.specs.declared.instruction.Instruction.{Instruction}
use Rattle.s370_rows.specs.Formats.{based_address}
use Rattle.s370_rows.specs.Registers.{with_register, with_condition, done}
use Rattle.s370_rows.specs.State.{State}
use Rattle.s370_rows.specs.Rows.{Row, checked, over, writes, fetch_test, store_test}

-- n bytes from a on, each replaced from left to right by the byte of the table at t that it names
abbrev pub translated : List ℕ → ℕ → ℕ → ℕ → List ℕ
translated bytes a t zero = bytes
translated bytes a t (suc n) =
    let sofar = translated bytes a t n in
    slice_set sofar (a + n) (slice_index sofar (t + slice_index sofar (a + n)))

-- the n bytes that they are then
abbrev pub translation : List ℕ → ℕ → ℕ → ℕ → List ℕ
translation bytes a t n = slice_range (translated bytes a t n) a (a + n)

-- TR
abbrev pub string_translated : State → Instruction → Row
string_translated m i =
    let n = i.second_byte + 1 in
    let a = based_address m.cpu i.second_half in
    let t = based_address m.cpu i.third_half in
    checked (store_test a n ∷ fetch_test t 256 ∷ []) (writes m a (translation m.bytes a t n))

-- no byte of the n from a on is one of the table at t
abbrev pub are_disjoint : ℕ → ℕ → ℕ → Bool
are_disjoint a n t = nat_le (a + n) t || nat_le (t + 256) a

-- how many bytes have a function byte of zero before the first that has not
abbrev pub zeros : List ℕ → List ℕ → ℕ
zeros table [] = 0
zeros table (x ∷ xs) = if slice_index table x == 0 then suc (zeros table xs) else 0

-- the registers after the n bytes xs from a on were tested: register 1 takes an address in its
-- right 24 bits, and register 2 a function byte in its right eight
abbrev pub scanned : Cpu → ℕ → ℕ → List ℕ → List ℕ → Cpu
scanned cpu a n xs table =
    let k = zeros table xs in
    let address = slice_index cpu.general 1 / 2 ^ 24 * 2 ^ 24 + storage_address (a + k) in
    let byte = slice_index cpu.general 2 / 256 * 256 + slice_index table (slice_index xs k) in
    if nat_lt k n
    then with_condition (with_register (with_register cpu 1 address) 2 byte)
    (if k + 1 == n then 2 else 1)
    else with_condition cpu 0

-- TRT
abbrev pub string_scanned : State → Instruction → Row
string_scanned m i =
    let n = i.second_byte + 1 in
    let a = based_address m.cpu i.second_half in
    let t = based_address m.cpu i.third_half in
    checked (fetch_test a n ∷ fetch_test t 256 ∷ [])
    (over (done (scanned m.cpu a n (slice_range m.bytes a (a + n))
    (slice_range m.bytes t (t + 256)))))
