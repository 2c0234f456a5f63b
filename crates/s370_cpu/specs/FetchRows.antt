-- The rows that fetch their operands, and change registers alone.
use Rattle.std.specs.Prelude.{◌≡◌, ℕ, ◌%◌, ◌==◌, Bool, if◌then◌else◌, [], ◌∷◌, slice_index, None}
use Rattle.s370_psw.specs.declared.ProgramCode.TheVariants.{Specification}
use Rattle.s370_rows.specs.declared.arithmetic.Arithmetic.{Arithmetic}
use Rattle.s370_rows.specs.declared.immediate.ByteTest.{ByteTest}
use Rattle.s370_rows.specs.declared.instruction.Instruction.{Instruction}
use Rattle.s370_rows.specs.Formats.{r1_of, r2_of, based_address, indexed_address}
use Rattle.s370_rows.specs.Halfword.{halfword_operand}
use Rattle.s370_rows.specs.Immediate.{byte_code}
use Rattle.s370_rows.specs.Load.{byte_inserted}
use Rattle.s370_rows.specs.Product.{multiplied, multiplied_halfword, quotient_left}
use Rattle.s370_rows.specs.Registers.{arithmetic, done, with_condition}
use Rattle.s370_rows.specs.Results.{over_result}
use Rattle.s370_rows.specs.State.{State}
use Rattle.s370_rows.specs.Rows.{Row, checked, suppressed, over, fetch_test, half_at, word_at}
use Rattle.s370_bytes.specs.Compare.{strings_compared}
use Rattle.s370_bytes.specs.Decimal.{binary_loaded}
use Rattle.s370_bytes.specs.Long.{long_compared}
use Rattle.s370_bytes.specs.Masks.{characters_inserted, characters_compared}
use Rattle.s370_bytes.specs.Multiple.{multiple_loaded}
use Rattle.s370_bytes.specs.Translate.{string_scanned}
use Rattle.s370_cpu.specs.declared.opcodes.FetchRow.{FetchRow}
use Rattle.s370_cpu.specs.declared.opcodes.FetchRow.TheVariants.{Word, Halfword, MultiplyWord}
use Rattle.s370_cpu.specs.declared.opcodes.FetchRow.TheVariants.{MultiplyHalfword, DivideWord}
use Rattle.s370_cpu.specs.declared.opcodes.FetchRow.TheVariants.{ConvertToBinary, InsertCharacter}
use Rattle.s370_cpu.specs.declared.opcodes.FetchRow.TheVariants.{InsertCharacters}
use Rattle.s370_cpu.specs.declared.opcodes.FetchRow.TheVariants.{CompareCharacters, LoadMultiple}
use Rattle.s370_cpu.specs.declared.opcodes.FetchRow.TheVariants.{TestByte, CompareStrings}
use Rattle.s370_cpu.specs.declared.opcodes.FetchRow.TheVariants.{ScanString, CompareLong}

-- a row is carried out only where this holds: GA22-7000, "Specification Exception"
abbrev pub only_where : Bool → Row → Row
only_where b r = if b then r else suppressed Specification

-- ---- an operand with an index

-- the address of the second operand
abbrev pub operand_of : State → Instruction → ℕ
operand_of m i = indexed_address m.cpu (r2_of i) i.second_half

-- the word of the second operand
abbrev pub word_of : State → Instruction → ℕ
word_of m i = word_at m.bytes (operand_of m i)

-- the halfword of the second operand, with its sign extended
abbrev pub half_of : State → Instruction → ℕ
half_of m i = halfword_operand (half_at m.bytes (operand_of m i))

-- N, CL, O, X, L, C, A, S, AL, SL
abbrev pub word_operation : Arithmetic → State → Instruction → Row
word_operation op m i = checked (fetch_test (operand_of m i) 4 ∷ [])
    (over (arithmetic op m.cpu (r1_of i) (word_of m i)))

-- LH, CH, AH, SH
abbrev pub halfword_operation : Arithmetic → State → Instruction → Row
halfword_operation op m i =
    checked (fetch_test (operand_of m i) 2 ∷ [])
    (over (arithmetic op m.cpu (r1_of i) (half_of m i)))

-- MH
abbrev pub halfword_multiplied : State → Instruction → Row
halfword_multiplied m i =
    checked (fetch_test (operand_of m i) 2 ∷ [])
    (over (multiplied_halfword m.cpu (r1_of i) (half_of m i)))

-- M, whose pair is named by its even register
abbrev pub word_multiplied : State → Instruction → Row
word_multiplied m i =
    only_where (r1_of i % 2 == 0)
    (checked (fetch_test (operand_of m i) 4 ∷ []) (over (multiplied m.cpu (r1_of i) (word_of m i))))

-- D, whose pair is named by its even register
abbrev pub word_divided : State → Instruction → Row
word_divided m i =
    only_where (r1_of i % 2 == 0)
    (record {
      refused = None;
      tests = fetch_test (operand_of m i) 4 ∷ [];
      leaves = over_result (quotient_left m.cpu (r1_of i) (word_of m i));
    })

-- IC
abbrev pub character_inserted : State → Instruction → Row
character_inserted m i =
    checked (fetch_test (operand_of m i) 1 ∷ [])
    (over (byte_inserted m.cpu (r1_of i) (slice_index m.bytes (operand_of m i))))

-- ---- an operand and an immediate byte

-- TM, CLI
abbrev pub byte_tested : ByteTest → State → Instruction → Row
byte_tested test m i =
    let a = based_address m.cpu i.second_half in
    let code = byte_code test (slice_index m.bytes a) i.second_byte in
    checked (fetch_test a 1 ∷ []) (over (done (with_condition m.cpu code)))

-- ---- one line for each family

-- the row of each family that fetches its operands
abbrev pub fetch_row : FetchRow → State → Instruction → Row
fetch_row (Word op) m i = word_operation op m i
fetch_row (Halfword op) m i = halfword_operation op m i
fetch_row MultiplyWord m i = word_multiplied m i
fetch_row MultiplyHalfword m i = halfword_multiplied m i
fetch_row DivideWord m i = word_divided m i
fetch_row ConvertToBinary m i = binary_loaded m i
fetch_row InsertCharacter m i = character_inserted m i
fetch_row InsertCharacters m i = characters_inserted m i
fetch_row CompareCharacters m i = characters_compared m i
fetch_row LoadMultiple m i = multiple_loaded m i
fetch_row (TestByte test) m i = byte_tested test m i
fetch_row CompareStrings m i = strings_compared m i
fetch_row ScanString m i = string_scanned m i
fetch_row CompareLong m i = long_compared m i
