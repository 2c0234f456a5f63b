-- The rows that store an operand.
use Rattle.std.specs.Prelude.{ℕ, ◌%◌, ◌^◌, ◌==◌, ◌&&◌, List, [], ◌∷◌, slice_index, Option, Some}
use Rattle.std.specs.Prelude.{None}
use Rattle.std.specs.Int.{w16, w32, w64, to_be_bytes}
use Rattle.s370_rows.specs.declared.ending.Completion.TheVariants.{Done}
use Rattle.s370_rows.specs.declared.immediate.ByteChange.{ByteChange}
use Rattle.s370_rows.specs.declared.instruction.Instruction.{Instruction}
use Rattle.s370_rows.specs.Formats.{r1_of, r2_of, based_address}
use Rattle.s370_rows.specs.Immediate.{changed_byte}
use Rattle.s370_rows.specs.Registers.{with_condition}
use Rattle.s370_rows.specs.State.{State}
use Rattle.s370_rows.specs.Rows.{Row, Stored, checked, store_test, writes, word_at, doubleword_at}
use Rattle.s370_rows.specs.Swap.{compared_swap, compared_swap_pair}
use Rattle.s370_bytes.specs.Combine.{string_combined}
use Rattle.s370_bytes.specs.Decimal.{decimal_stored}
use Rattle.s370_bytes.specs.Digits.{digits_laid_out}
use Rattle.s370_bytes.specs.Long.{long_moved}
use Rattle.s370_bytes.specs.Masks.{characters_stored}
use Rattle.s370_bytes.specs.Multiple.{multiple_stored}
use Rattle.s370_bytes.specs.Translate.{string_translated}
use Rattle.s370_cpu.specs.declared.opcodes.StoreRow.{StoreRow}
use Rattle.s370_cpu.specs.declared.opcodes.StoreRow.TheVariants.{StoreWord, StoreHalfword}
use Rattle.s370_cpu.specs.declared.opcodes.StoreRow.TheVariants.{StoreCharacter, StoreCharacters}
use Rattle.s370_cpu.specs.declared.opcodes.StoreRow.TheVariants.{StoreMultiple, ConvertToDecimal}
use Rattle.s370_cpu.specs.declared.opcodes.StoreRow.TheVariants.{ChangeByte, SwapWord}
use Rattle.s370_cpu.specs.declared.opcodes.StoreRow.TheVariants.{SwapDoubleword, CombineStrings}
use Rattle.s370_cpu.specs.declared.opcodes.StoreRow.TheVariants.{Translate, LayOut, MoveLong}
use Rattle.s370_cpu.specs.FetchRows.{only_where, operand_of}

-- ST: register R1 goes to the word at the second operand's address
abbrev pub word_stored : State → Instruction → Row
word_stored m i =
    let a = operand_of m i in
    checked (store_test a 4 ∷ [])
    (writes m a (to_be_bytes w32 (slice_index m.cpu.general (r1_of i))))

-- STH: its two rightmost bytes
abbrev pub halfword_stored : State → Instruction → Row
halfword_stored m i =
    let a = operand_of m i in
    checked (store_test a 2 ∷ [])
    (writes m a (to_be_bytes w16 (slice_index m.cpu.general (r1_of i) % 2 ^ 16)))

-- STC: its rightmost byte
abbrev pub character_stored : State → Instruction → Row
character_stored m i =
    let a = operand_of m i in
    checked (store_test a 1 ∷ []) (writes m a (slice_index m.cpu.general (r1_of i) % 2 ^ 8 ∷ []))

-- MVI, TS, NI, OI, XI
abbrev pub byte_changed : ByteChange → State → Instruction → Row
byte_changed change m i =
    let a = based_address m.cpu i.second_half in
    let x = changed_byte change m.cpu.psw.condition (slice_index m.bytes a) i.second_byte in
    checked (store_test a 1 ∷ [])
    (record {
      ending = Done;
      cpu = with_condition m.cpu x.condition;
      stores = record { start = a; written = x.byte ∷ [] } ∷ [];
      keyed = None;
    })

-- ---- compare and swap

-- the word that storage takes in a swap, if it takes one
abbrev pub word_taken : ℕ → Option ℕ → List Stored
word_taken a None = []
word_taken a (Some n) = record { start = a; written = to_be_bytes w32 n } ∷ []

-- the doubleword that storage takes in a swap, if it takes one
abbrev pub doubleword_taken : ℕ → Option ℕ → List Stored
doubleword_taken a None = []
doubleword_taken a (Some n) = record { start = a; written = to_be_bytes w64 n } ∷ []

-- CS, whose operand is on a word
abbrev pub word_swapped : State → Instruction → Row
word_swapped m i =
    let a = based_address m.cpu i.second_half in
    let s = compared_swap m.cpu (r1_of i) (r2_of i) (word_at m.bytes a) in
    only_where (a % 4 == 0)
    (checked (store_test a 4 ∷ [])
    (record { ending = Done; cpu = s.cpu; stores = word_taken a s.stored; keyed = None }))

-- CDS, whose operand is on a doubleword, and whose pairs are named by their even registers
abbrev pub doubleword_swapped : State → Instruction → Row
doubleword_swapped m i =
    let a = based_address m.cpu i.second_half in
    let s = compared_swap_pair m.cpu (r1_of i) (r2_of i) (doubleword_at m.bytes a) in
    only_where ((r1_of i % 2 == 0) && ((r2_of i % 2 == 0) && (a % 8 == 0)))
    (checked (store_test a 8 ∷ [])
    (record { ending = Done; cpu = s.cpu; stores = doubleword_taken a s.stored; keyed = None }))

-- ---- one line for each family

-- the row of each family that stores an operand
abbrev pub store_row : StoreRow → State → Instruction → Row
store_row StoreWord m i = word_stored m i
store_row StoreHalfword m i = halfword_stored m i
store_row StoreCharacter m i = character_stored m i
store_row StoreCharacters m i = characters_stored m i
store_row StoreMultiple m i = multiple_stored m i
store_row ConvertToDecimal m i = decimal_stored m i
store_row (ChangeByte change) m i = byte_changed change m i
store_row SwapWord m i = word_swapped m i
store_row SwapDoubleword m i = doubleword_swapped m i
store_row (CombineStrings op) m i = string_combined op m i
store_row Translate m i = string_translated m i
store_row (LayOut layout) m i = digits_laid_out layout m i
store_row MoveLong m i = long_moved m i
