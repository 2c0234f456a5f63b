-- Bytes of a register under a mask of four bits: GA22-7000, "Insert Characters under Mask", "Store
-- Characters under Mask" and "Compare Logical Characters under Mask".
use Rattle.std.specs.Prelude.{ℕ, zero, suc, ◌+◌, ◌-◌, ◌/◌, ◌%◌, ◌^◌, ◌==◌, nat_le, if◌then◌else◌}
use Rattle.std.specs.Prelude.{Bool, List, [], ◌∷◌, ◌++◌, slice_index}
use Rattle.std.specs.Int.{w32, from_be_bytes, to_be_bytes}
use Rattle.s370_rows.specs.declared.cpu.Cpu.{Cpu}
use Rattle.s370_rows.specs.Arithmetic.{order_code}
use Rattle.s370_rows.specs.Registers.{Ended, with_register, with_condition, done}

-- byte k of a word, the leftmost being 0
abbrev pub byte_at : ℕ → ℕ → ℕ
byte_at word k = slice_index (to_be_bytes w32 word) k

-- bit k of a mask, which selects byte k of a word
abbrev pub mask_bit : ℕ → ℕ → ℕ
mask_bit mask k = mask / 2 ^ (3 - k) % 2

-- whether a mask selects byte k
abbrev pub selects : ℕ → ℕ → Bool
selects mask k = mask_bit mask k == 1

-- how many bytes a mask selects of the n leftmost
abbrev pub selected_before : ℕ → ℕ → ℕ
selected_before mask zero = 0
selected_before mask (suc n) = selected_before mask n + mask_bit mask n

-- how many bytes it selects
abbrev pub selected_count : ℕ → ℕ
selected_count mask = selected_before mask 4

-- the bytes that it selects of the n leftmost of a word
abbrev pub selected_front : ℕ → ℕ → ℕ → List ℕ
selected_front word mask zero = []
selected_front word mask (suc n) = selected_front word mask n
    ++ (if selects mask n then byte_at word n ∷ [] else [])

-- STCM: the bytes of a word that a mask selects
abbrev pub selected_bytes : ℕ → ℕ → List ℕ
selected_bytes word mask = selected_front word mask 4

-- at most four bytes as the left part of a word, with zeros after them
abbrev pub left_word : List ℕ → ℕ
left_word bytes = from_be_bytes w32 bytes

-- byte k of a word of which the selected bytes are taken, in order, from others
abbrev pub inserted_byte : ℕ → ℕ → List ℕ → ℕ → ℕ
inserted_byte word mask bytes k =
    if selects mask k then slice_index bytes (selected_before mask k) else byte_at word k

-- the word whose selected bytes are taken from others
abbrev pub inserted : ℕ → ℕ → List ℕ → ℕ
inserted word mask bytes =
    let at = inserted_byte word mask bytes in
    from_be_bytes w32 (at 0 ∷ at 1 ∷ at 2 ∷ at 3 ∷ [])

-- 0 where all inserted bits are zero or there are none, 1 where the first is one, else 2
abbrev pub inserted_code : List ℕ → ℕ
inserted_code bytes =
    if left_word bytes == 0 then 0 else (if nat_le (2 ^ 31) (left_word bytes) then 1 else 2)

-- ICM: bytes take the place of those of register r that the mask selects
abbrev pub bytes_inserted : Cpu → ℕ → ℕ → List ℕ → Ended
bytes_inserted cpu r mask bytes =
    done (with_condition (with_register cpu r (inserted (slice_index cpu.general r) mask bytes))
    (inserted_code bytes))

-- CLM: the bytes of register r that the mask selects are compared with as many others
abbrev pub bytes_compared : Cpu → ℕ → ℕ → List ℕ → Ended
bytes_compared cpu r mask bytes =
    done (with_condition cpu
    (order_code (left_word (selected_bytes (slice_index cpu.general r) mask))
    (left_word bytes)))
