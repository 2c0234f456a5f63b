-- Only instructions for the supervisor state ask a device.
use Rattle.std.proofs.Common.{◌≡◌, ℕ, ℤ, Bool, true, false, Option, Some, None, Result, Ok, Err, subst}
use Rattle.std.specs.Prelude.{if◌then◌else◌}
use Rattle.s370_psw.specs.declared.ProgramCode.{ProgramCode}
use Rattle.s370_rows.specs.declared.cpu.Cpu.{Cpu}
use Rattle.s370_rows.specs.declared.ending.Completion.{Completion}
use Rattle.s370_rows.specs.declared.ending.Completion.TheVariants.{Done, Branch, Again, Interrupted}
use Rattle.s370_rows.specs.declared.ending.Completion.TheVariants.{SupervisorCall as Called, InputOutput as Asked}
use Rattle.s370_rows.specs.declared.ending.IoOperation.{IoOperation}
use Rattle.s370_rows.specs.declared.instruction.Instruction.{Instruction}
use Rattle.s370_rows.specs.declared.place.Place.{Place}
use Rattle.s370_rows.specs.State.{State}
use Rattle.s370_rows.specs.Registers.{Ended}
use Rattle.s370_rows.specs.Product.{Division, division_left}
use Rattle.s370_rows.specs.Results.{over_result}
use Rattle.s370_rows.specs.Rows.{Row, Left, Outcome, judged, unless, outcome_of, fault_of}
use Rattle.s370_bytes.specs.Decimal.{binary_left, over_result as over_number}
use Rattle.s370_cpu.specs.declared.opcodes.Opcode.{Opcode}
use Rattle.s370_cpu.specs.declared.opcodes.Opcode.TheVariants.{Invalid, Supervised, SupervisorCall, Execute, Computes}
use Rattle.s370_cpu.specs.declared.opcodes.Opcode.TheVariants.{Fetches, Stores}
use Rattle.s370_cpu.specs.declared.opcodes.Branching.{Branching}
use Rattle.s370_cpu.specs.declared.opcodes.Branching.TheVariants.{Count, Condition, Link}
use Rattle.s370_cpu.specs.declared.opcodes.RegisterRow.{RegisterRow}
use Rattle.s370_cpu.specs.declared.opcodes.RegisterRow.TheVariants.{SetProgramMask, Register, Multiply, Divide}
use Rattle.s370_cpu.specs.declared.opcodes.RegisterRow.TheVariants.{LoadAddress, ShiftWord, ShiftPair, BranchRegister}
use Rattle.s370_cpu.specs.declared.opcodes.RegisterRow.TheVariants.{BranchTo, BranchOnIndex}
use Rattle.s370_cpu.specs.declared.opcodes.FetchRow.{FetchRow}
use Rattle.s370_cpu.specs.declared.opcodes.FetchRow.TheVariants.{Word, Halfword, MultiplyWord, MultiplyHalfword}
use Rattle.s370_cpu.specs.declared.opcodes.FetchRow.TheVariants.{DivideWord, ConvertToBinary, InsertCharacter}
use Rattle.s370_cpu.specs.declared.opcodes.FetchRow.TheVariants.{InsertCharacters, CompareCharacters, LoadMultiple}
use Rattle.s370_cpu.specs.declared.opcodes.FetchRow.TheVariants.{TestByte, CompareStrings, ScanString, CompareLong}
use Rattle.s370_cpu.specs.declared.opcodes.StoreRow.{StoreRow}
use Rattle.s370_cpu.specs.declared.opcodes.StoreRow.TheVariants.{StoreWord, StoreHalfword, StoreCharacter}
use Rattle.s370_cpu.specs.declared.opcodes.StoreRow.TheVariants.{StoreCharacters, StoreMultiple, ConvertToDecimal}
use Rattle.s370_cpu.specs.declared.opcodes.StoreRow.TheVariants.{ChangeByte, SwapWord, SwapDoubleword, CombineStrings}
use Rattle.s370_cpu.specs.declared.opcodes.StoreRow.TheVariants.{Translate, LayOut, MoveLong}
use Rattle.s370_cpu.specs.Opcodes.{opcode_at}
use Rattle.s370_cpu.specs.RegisterRows.{branched, register_row}
use Rattle.s370_cpu.specs.FetchRows.{fetch_row}
use Rattle.s370_cpu.specs.StoreRows.{store_row}
use Rattle.s370_cpu.specs.Table.{is_supervised, row_named, row_of}

abbrev pub AsksNone : Completion → Type 0
AsksNone Done = Unit {0}
AsksNone (Branch a) = Unit {0}
AsksNone Again = Unit {0}
AsksNone (Interrupted code) = Unit {0}
AsksNone (Called n) = Unit {0}
AsksNone (Asked operation device) = ⊥

abbrev pub LeavesNone : Result Left ProgramCode → Type 0
LeavesNone (Err code) = Unit {0}
LeavesNone (Ok l) = AsksNone l.ending

abbrev pub EndsNone : Result Ended ProgramCode → Type 0
EndsNone (Err code) = Unit {0}
EndsNone (Ok e) = AsksNone e.ending

either_asks : (b : Bool) (x y : Completion) → AsksNone x → AsksNone y → AsksNone (if b then x else y)
either_asks true x y h k = h
either_asks false x y h k = k

ended_either : (b : Bool) (x y : Ended) → AsksNone x.ending → AsksNone y.ending → AsksNone (if b then x else y).ending
ended_either true x y h k = h
ended_either false x y h k = k

result_either : (b : Bool) (x y : Result Ended ProgramCode) → EndsNone x → EndsNone y → EndsNone (if b then x else y)
result_either true x y h k = h
result_either false x y h k = k

row_either : (b : Bool) (x y : Row) → LeavesNone x.leaves → LeavesNone y.leaves → LeavesNone (if b then x else y).leaves
row_either true x y h k = h
row_either false x y h k = k

-- A computation that asks for no device asks for none when it is over.
pub over_none : (r : Result Ended ProgramCode) → EndsNone r → LeavesNone (over_result r)
over_none (Ok e) h = h
over_none (Err code) h = tt

number_none : (r : Result Ended ProgramCode) → EndsNone r → LeavesNone (over_number r)
number_none (Ok e) h = h
number_none (Err code) h = tt

-- A division asks for no device.
pub division_none : (cpu : Cpu) (r : ℕ) (d : Option Division) → EndsNone (division_left cpu r d)
division_none cpu r None = tt
division_none cpu r (Some d) = tt

binary_none : (cpu : Cpu) (r : ℕ) (z : Option ℤ) → EndsNone (binary_left cpu r z)
binary_none cpu r None = tt
binary_none cpu r (Some z) = search (either_asks)

-- one line for each family of the table
branch_none : (b : Branching) (cpu : Cpu) (place : Place) (i : Instruction) (may : Bool) (target : ℕ)
    → AsksNone (branched b cpu place i may target).ending
branch_none Count cpu place i may target = search (either_asks)
branch_none Condition cpu place i may target = search (either_asks)
branch_none Link cpu place i may target = search (either_asks)

register_none : (row : RegisterRow) (cpu : Cpu) (place : Place) (i : Instruction)
    → EndsNone (register_row row cpu place i)
register_none SetProgramMask cpu place i = tt
register_none (Register op) cpu place i = search (either_asks)
register_none Multiply cpu place i = search (result_either)
register_none Divide cpu place i = search (result_either, division_none)
register_none LoadAddress cpu place i = tt
register_none (ShiftWord op) cpu place i = search (either_asks)
register_none (ShiftPair op) cpu place i = search (either_asks, result_either)
register_none (BranchRegister b) cpu place i = search (branch_none)
register_none (BranchTo b) cpu place i = search (branch_none)
register_none (BranchOnIndex b) cpu place i = search (either_asks)

-- A row that fetches an operand asks for no device.
pub fetch_none : (row : FetchRow) (m : State) (i : Instruction) → LeavesNone (fetch_row row m i).leaves
fetch_none (Word op) m i = search (either_asks)
fetch_none (Halfword op) m i = search (either_asks)
fetch_none MultiplyWord m i = search (row_either)
fetch_none MultiplyHalfword m i = tt
fetch_none DivideWord m i = search (row_either, over_none, division_none)
fetch_none ConvertToBinary m i = search (number_none, binary_none)
fetch_none InsertCharacter m i = tt
fetch_none InsertCharacters m i = tt
fetch_none CompareCharacters m i = tt
fetch_none LoadMultiple m i = tt
fetch_none (TestByte test) m i = tt
fetch_none CompareStrings m i = tt
fetch_none ScanString m i = tt
fetch_none CompareLong m i = search (row_either, ended_either)

store_none : (row : StoreRow) (m : State) (i : Instruction) → LeavesNone (store_row row m i).leaves
store_none StoreWord m i = tt
store_none StoreHalfword m i = tt
store_none StoreCharacter m i = tt
store_none StoreCharacters m i = tt
store_none StoreMultiple m i = tt
store_none ConvertToDecimal m i = tt
store_none (ChangeByte change) m i = tt
store_none SwapWord m i = search (row_either)
store_none SwapDoubleword m i = search (row_either)
store_none (CombineStrings op) m i = tt
store_none Translate m i = tt
store_none (LayOut layout) m i = tt
store_none MoveLong m i = search (row_either, ended_either)

row_none : (op : Opcode) (m : State) (place : Place) (i : Instruction) → is_supervised op ≡ false
    → LeavesNone (row_named op m place i).leaves
row_none Invalid m place i h = tt
row_none (Supervised c) m place i h = absurd (let e : true ≡ false = h in cc)
row_none SupervisorCall m place i h = tt
row_none Execute m place i h = tt
row_none (Computes row) m place i h = over_none (register_row row m.cpu place i) (register_none row m.cpu place i)
row_none (Fetches row) m place i h = fetch_none row m i
row_none (Stores row) m place i h = store_none row m i

unless_none : (o : Option ProgramCode) (r : Result Left ProgramCode) → LeavesNone r → LeavesNone (unless o r)
unless_none None r h = h
unless_none (Some code) r h = tt

abbrev OutcomeNone : Result Outcome ProgramCode → Type 0
OutcomeNone (Err code) = Unit {0}
OutcomeNone (Ok o) = AsksNone o.ending

outcome_none : (m : State) (r : Result Left ProgramCode) → LeavesNone r → OutcomeNone (outcome_of m r)
outcome_none m (Err code) h = tt
outcome_none m (Ok l) h = h

-- no row that is not for the supervisor state ends with a device that is asked
pub never_asks : (m new : State) (place : Place) (i : Instruction) (operation : IoOperation) (device : ℕ)
    → is_supervised (opcode_at i.opcode) ≡ false → (let o : Result Outcome ProgramCode = Ok
    (record { ending = Asked operation device; state = new }) in outcome_of m (judged m (row_of m place i)) ≡ o) → ⊥
never_asks m new place i operation device h e =
    let r = row_of m place i in
    subst OutcomeNone e (outcome_none m (judged m r) (unless_none r.refused (unless (fault_of m r.tests) r.leaves)
    (unless_none (fault_of m r.tests) r.leaves (row_none (opcode_at i.opcode) m place i h))))
