-- Several registers in words of storage: GA22-7000, "Load Multiple" and "Store Multiple".
use Rattle.std.specs.Prelude.{ℕ, zero, suc, ◌+◌, ◌-◌, ◌*◌, ◌%◌, List, [], ◌∷◌, ◌++◌, slice_index}
use Rattle.std.specs.Prelude.{slice_set}
use Rattle.std.specs.Int.{w32, to_be_bytes}
use Rattle.s370_rows.specs.declared.instruction.Instruction.{Instruction}
use Rattle.s370_rows.specs.Formats.{r1_of, r2_of, based_address}
use Rattle.s370_rows.specs.Registers.{done}
use Rattle.s370_rows.specs.State.{State}
use Rattle.s370_rows.specs.Rows.{Row, checked, over, writes, word_at, fetch_test, store_test}

-- how many registers there are from one to another, where 0 follows 15
abbrev pub register_count : ℕ → ℕ → ℕ
register_count r1 r3 = (r3 + 16 - r1) % 16 + 1

-- the words of n registers from r on, in order
abbrev pub words_from : List ℕ → ℕ → ℕ → List ℕ
words_from registers r zero = []
words_from registers r (suc n) = words_from registers r n
    ++ to_be_bytes w32 (slice_index registers ((r + n) % 16))

-- the registers, of which n from r on are loaded with the words from a on
abbrev pub loaded_from : List ℕ → List ℕ → ℕ → ℕ → ℕ → List ℕ
loaded_from bytes registers a r zero = registers
loaded_from bytes registers a r (suc n) =
    slice_set (loaded_from bytes registers a r n) ((r + n) % 16) (word_at bytes (a + 4 * n))

-- STM
abbrev pub multiple_stored : State → Instruction → Row
multiple_stored m i =
    let a = based_address m.cpu i.second_half in
    let k = register_count (r1_of i) (r2_of i) in
    checked (store_test a (4 * k) ∷ []) (writes m a (words_from m.cpu.general (r1_of i) k))

-- LM
abbrev pub multiple_loaded : State → Instruction → Row
multiple_loaded m i =
    let a = based_address m.cpu i.second_half in
    let k = register_count (r1_of i) (r2_of i) in
    checked (fetch_test a (4 * k) ∷ [])
    (over (done (record m.cpu { general = loaded_from m.bytes m.cpu.general a (r1_of i) k })))
