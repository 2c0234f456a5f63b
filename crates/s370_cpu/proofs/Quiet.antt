-- Each row of a steady operation code is quiet, if none of its overflows interrupts: the processor goes on after it,
-- and it changes no rights.
use Rattle.std.proofs.Common.{◌≡◌, ℕ, ◌-◌, ◌==◌, Bool, true, false, List, Option, Some, None, Result, Ok, Err, refl}
use Rattle.std.proofs.Common.{slice_index}
use Rattle.std.specs.Prelude.{if◌then◌else◌, ◌&&◌, nat_le, nat_lt}
use Rattle.s370_psw.specs.declared.ProgramCode.{ProgramCode}
use Rattle.s370_psw.specs.declared.ProgramCode.TheVariants.{Specification}
use Rattle.s370_rows.specs.Ending.{GoesOn}
use Rattle.s370_rows.specs.declared.cpu.Cpu.{Cpu}
use Rattle.s370_rows.specs.declared.ending.Completion.{Completion}
use Rattle.s370_rows.specs.declared.ending.Completion.TheVariants.{Done, Again}
use Rattle.s370_rows.specs.declared.instruction.Instruction.{Instruction}
use Rattle.s370_rows.specs.declared.place.Place.{Place}
use Rattle.s370_rows.specs.Arithmetic.{order_code}
use Rattle.s370_rows.specs.Product.{Division, division_left}
use Rattle.s370_rows.specs.Pair.{pair_of, with_pair}
use Rattle.s370_rows.specs.Registers.{Ended, done, with_condition, with_register}
use Rattle.s370_rows.specs.Results.{over_result}
use Rattle.s370_rows.specs.Rows.{Left, MeetsRow, after, over}
use Rattle.s370_rows.specs.State.{State}
use Rattle.s370_rows.specs.Swap.{Swapped}
use Rattle.s370_bytes.specs.declared.combine.Combine.{Combine}
use Rattle.s370_bytes.specs.declared.combine.Combine.TheVariants.{Move, MoveNumerics, MoveZones, And, Or, ExclusiveOr}
use Rattle.s370_bytes.specs.Combine.{combined_condition}
use Rattle.s370_bytes.specs.Compare.{equal_pairs}
use Rattle.s370_bytes.specs.Long.{compared_to, operand_of, part_ordered}
use Rattle.s370_cpu.specs.declared.opcodes.Branching.{Branching}
use Rattle.s370_cpu.specs.declared.opcodes.Branching.TheVariants.{Count, Condition, Link}
use Rattle.s370_cpu.specs.declared.opcodes.RegisterRow.{RegisterRow}
use Rattle.s370_cpu.specs.declared.opcodes.RegisterRow.TheVariants.{SetProgramMask, Register, Multiply, Divide}
use Rattle.s370_cpu.specs.declared.opcodes.RegisterRow.TheVariants.{LoadAddress, ShiftWord, ShiftPair, BranchRegister}
use Rattle.s370_cpu.specs.declared.opcodes.RegisterRow.TheVariants.{BranchTo, BranchOnIndex}
use Rattle.s370_cpu.specs.declared.opcodes.FetchRow.{FetchRow}
use Rattle.s370_cpu.specs.declared.opcodes.FetchRow.TheVariants.{Word, Halfword, MultiplyWord, MultiplyHalfword}
use Rattle.s370_cpu.specs.declared.opcodes.FetchRow.TheVariants.{DivideWord, ConvertToBinary, InsertCharacter}
use Rattle.s370_cpu.specs.declared.opcodes.FetchRow.TheVariants.{InsertCharacters, CompareCharacters, LoadMultiple}
use Rattle.s370_cpu.specs.declared.opcodes.FetchRow.TheVariants.{TestByte, CompareStrings, ScanString, CompareLong}
use Rattle.s370_cpu.specs.declared.opcodes.StoreRow.{StoreRow}
use Rattle.s370_cpu.specs.declared.opcodes.StoreRow.TheVariants.{StoreWord, StoreHalfword, StoreCharacter}
use Rattle.s370_cpu.specs.declared.opcodes.StoreRow.TheVariants.{StoreCharacters, StoreMultiple, ConvertToDecimal}
use Rattle.s370_cpu.specs.declared.opcodes.StoreRow.TheVariants.{ChangeByte, SwapWord, SwapDoubleword, CombineStrings}
use Rattle.s370_cpu.specs.declared.opcodes.StoreRow.TheVariants.{Translate, LayOut, MoveLong}
use Rattle.s370_cpu.specs.declared.opcodes.Opcode.{Opcode}
use Rattle.s370_cpu.specs.declared.opcodes.Opcode.TheVariants.{Invalid, Supervised, SupervisorCall, Execute, Computes}
use Rattle.s370_cpu.specs.declared.opcodes.Opcode.TheVariants.{Fetches, Stores}
use Rattle.s370_cpu.specs.Laws.{rights_of}
use Rattle.s370_cpu.specs.RegisterRows.{branched, register_row}
use Rattle.s370_cpu.specs.FetchRows.{fetch_row}
use Rattle.s370_cpu.specs.StoreRows.{doubleword_taken, store_row, word_taken}
use Rattle.s370_cpu.specs.Opcodes.{opcode_at}
use Rattle.s370_cpu.specs.Table.{is_steady, may_overflow, row_named, row_of}
use Rattle.s370_cpu.specs.Held.{MeetsAtOnce, MeetsSteady}
use Rattle.s370_cpu.proofs.Overflow.{NoOverflow, arithmetic_quiet, pair_shift_quiet, word_shift_quiet}
use Rattle.s370_cpu.proofs.Frequent.{IsQuiet, LeavesQuiet, branches_go_on, either_quiet, long_quiet, no_overflow}
use Rattle.s370_cpu.proofs.Frequent.{over_quiet, quick_of}

abbrev EndsQuiet : State → Result Ended ProgramCode → Type 0
EndsQuiet m (Err code) = Unit {0}
EndsQuiet m (Ok e) = IsQuiet m (over e)

-- what is left of registers
kept : (m : State) (e : Ended) → GoesOn e.ending → rights_of (record m { cpu = e.cpu }) ≡ rights_of m
    → EndsQuiet m (Ok e)
kept m e g h = record { goes_on = g; rights = h }

-- ---- rows that access no storage

result_quiet : (m : State) (r : Result Ended ProgramCode) → EndsQuiet m r → LeavesQuiet m (over_result r)
result_quiet m (Err code) h = tt
result_quiet m (Ok e) h = h

even_quiet : (m : State) (b : Bool) (r : Result Ended ProgramCode) → EndsQuiet m r
    → EndsQuiet m (if b then r else Err Specification)
even_quiet m true r h = h
even_quiet m false r h = tt

division_quiet : (m : State) (r : ℕ) (d : Option Division) → EndsQuiet m (division_left m.cpu r d)
division_quiet m r None = tt
division_quiet m r (Some d) = record { goes_on = tt; rights = refl }

branched_quiet : (b : Branching) (m : State) (place : Place) (i : Instruction) (may : Bool) (target : ℕ)
    → IsQuiet m (over (branched b m.cpu place i may target))
branched_quiet Count m place i may target = record { goes_on = branches_go_on _ _; rights = refl }
branched_quiet Condition m place i may target = record { goes_on = branches_go_on _ _; rights = refl }
branched_quiet Link m place i may target = record { goes_on = branches_go_on _ _; rights = refl }

register_quiet : (row : RegisterRow) (m : State) (place : Place) (i : Instruction)
    → NoOverflow (may_overflow (Computes row)) m → EndsQuiet m (register_row row m.cpu place i)
register_quiet SetProgramMask m place i none = record { goes_on = tt; rights = refl }
register_quiet (Register op) m place i none = arithmetic_quiet op m _ _ none
register_quiet Multiply m place i none = even_quiet m _ (Ok _) (kept m _ tt refl)
register_quiet Divide m place i none = search (even_quiet, division_quiet)
register_quiet LoadAddress m place i none = record { goes_on = tt; rights = refl }
register_quiet (ShiftWord op) m place i none = word_shift_quiet op m _ _ none
register_quiet (ShiftPair op) m place i none = even_quiet m _ (Ok _) (pair_shift_quiet op m _ _ none)
register_quiet (BranchRegister b) m place i none = branched_quiet b m place i _ _
register_quiet (BranchTo b) m place i none = branched_quiet b m place i _ _
register_quiet (BranchOnIndex b) m place i none = record { goes_on = branches_go_on _ _; rights = refl }

-- ---- rows that fetch

scanned_rights : (m : State) (b : Bool) (x y : Cpu) → rights_of (record m { cpu = x }) ≡ rights_of m
    → rights_of (record m { cpu = y }) ≡ rights_of m → rights_of (record m { cpu = if b then x else y }) ≡ rights_of m
scanned_rights m true x y h k = h
scanned_rights m false x y h k = k

ended_quiet : (m : State) (b : Bool) (cpu : Cpu) (code : ℕ) → rights_of (record m { cpu = cpu }) ≡ rights_of m
    → (let e : Ended = if b then done (with_condition cpu code) else (record { ending = Again; cpu = cpu }) in
    IsQuiet m (over e))
ended_quiet m true cpu code h = record { goes_on = tt; rights = h }
ended_quiet m false cpu code h = record { goes_on = tt; rights = h }

unequal_quiet : (m : State) (b c : Bool) (cpu : Cpu) (code : ℕ) → rights_of (record m { cpu = cpu }) ≡ rights_of m
    → (let e : Ended = if b then done (with_condition cpu code) else
    (if c then done (with_condition cpu 0) else (record { ending = Again; cpu = cpu })) in IsQuiet m (over e))
unequal_quiet m true c cpu code h = record { goes_on = tt; rights = h }
unequal_quiet m false c cpu code h = ended_quiet m c cpu 0 h

ordered_quiet : (m : State) (r1 r2 k j1 j2 : ℕ) (xs ys : List ℕ)
    → IsQuiet m (over (part_ordered m.cpu r1 r2 k j1 j2 xs ys))
ordered_quiet m r1 r2 k j1 j2 xs ys =
    let n = equal_pairs xs ys in
    let all = ((operand_of m.cpu r1).count - j1 == 0) && ((operand_of m.cpu r2).count - j2 == 0) in
    unequal_quiet m (nat_lt n k) all (compared_to m.cpu r1 r2 j1 j2 n)
    (order_code (slice_index xs n) (slice_index ys n)) refl

fetch_quiet : (row : FetchRow) (m : State) (i : Instruction) → NoOverflow (may_overflow (Fetches row)) m
    → is_steady (Fetches row) ≡ true → LeavesQuiet m (fetch_row row m i).leaves
fetch_quiet (Word op) m i none steady = arithmetic_quiet op m _ _ none
fetch_quiet (Halfword op) m i none steady = arithmetic_quiet op m _ _ none
fetch_quiet MultiplyWord m i none steady = search (either_quiet, over_quiet)
fetch_quiet MultiplyHalfword m i none steady = record { goes_on = tt; rights = refl }
fetch_quiet DivideWord m i none steady = search (either_quiet, result_quiet, division_quiet)
fetch_quiet ConvertToBinary m i none steady = absurd (let e : false ≡ true = steady in cc)
fetch_quiet InsertCharacter m i none steady = record { goes_on = tt; rights = refl }
fetch_quiet InsertCharacters m i none steady = record { goes_on = tt; rights = refl }
fetch_quiet CompareCharacters m i none steady = record { goes_on = tt; rights = refl }
fetch_quiet LoadMultiple m i none steady = record { goes_on = tt; rights = refl }
fetch_quiet (TestByte test) m i none steady = record { goes_on = tt; rights = refl }
fetch_quiet CompareStrings m i none steady = record { goes_on = tt; rights = refl }
fetch_quiet ScanString m i none steady = record { goes_on = tt; rights = scanned_rights m _ _ _ refl refl }
fetch_quiet CompareLong m i none steady = search (either_quiet, over_quiet, ordered_quiet)

-- ---- rows that store

condition_rights : (op : Combine) (m : State) (xs : List ℕ) → rights_of
    (record m { cpu = combined_condition op m.cpu xs }) ≡ rights_of m
condition_rights Move m xs = refl
condition_rights MoveNumerics m xs = refl
condition_rights MoveZones m xs = refl
condition_rights And m xs = refl
condition_rights Or m xs = refl
condition_rights ExclusiveOr m xs = refl

swap_quiet : (m : State) (a r1 r3 operand : ℕ) (b : Bool) → (let s : Swapped = if b then
    (record { cpu = with_condition m.cpu 0; stored = Some (slice_index m.cpu.general r3) }) else
    (record { cpu = with_condition (with_register m.cpu r1 operand) 1; stored = None }) in
    LeavesQuiet m (Ok (record { ending = Done; cpu = s.cpu; stores = word_taken a s.stored; keyed = None })))
swap_quiet m a r1 r3 operand true = record { goes_on = tt; rights = refl }
swap_quiet m a r1 r3 operand false = record { goes_on = tt; rights = refl }

swap_pair_quiet : (m : State) (a r1 r3 operand : ℕ) (b : Bool)
    → (let s : Swapped = if b then (record { cpu = with_condition m.cpu 0; stored = Some (pair_of m.cpu r3) }) else
    (record { cpu = with_condition (with_pair m.cpu r1 operand) 1; stored = None }) in
    LeavesQuiet m (Ok (record { ending = Done; cpu = s.cpu; stores = doubleword_taken a s.stored; keyed = None })))
swap_pair_quiet m a r1 r3 operand true = record { goes_on = tt; rights = refl }
swap_pair_quiet m a r1 r3 operand false = record { goes_on = tt; rights = refl }

store_quiet : (row : StoreRow) (m : State) (i : Instruction) → LeavesQuiet m (store_row row m i).leaves
store_quiet StoreWord m i = record { goes_on = tt; rights = refl }
store_quiet StoreHalfword m i = record { goes_on = tt; rights = refl }
store_quiet StoreCharacter m i = record { goes_on = tt; rights = refl }
store_quiet StoreCharacters m i = record { goes_on = tt; rights = refl }
store_quiet StoreMultiple m i = record { goes_on = tt; rights = refl }
store_quiet ConvertToDecimal m i = record { goes_on = tt; rights = refl }
store_quiet (ChangeByte change) m i = record { goes_on = tt; rights = refl }
store_quiet SwapWord m i = search (either_quiet, swap_quiet)
store_quiet SwapDoubleword m i = search (either_quiet, swap_pair_quiet)
store_quiet (CombineStrings op) m i = record { goes_on = tt; rights = condition_rights op m _ }
store_quiet Translate m i = record { goes_on = tt; rights = refl }
store_quiet (LayOut layout) m i = record { goes_on = tt; rights = refl }
store_quiet MoveLong m i = long_quiet m i

-- ---- all rows

pub steady_quiet : (op : Opcode) (m : State) (place : Place) (i : Instruction) → is_steady op ≡ true
    → NoOverflow (may_overflow op) m → LeavesQuiet m (row_named op m place i).leaves
steady_quiet Invalid m place i steady none = tt
steady_quiet (Supervised c) m place i steady none = absurd (let e : false ≡ true = steady in cc)
steady_quiet SupervisorCall m place i steady none = absurd (let e : false ≡ true = steady in cc)
steady_quiet Execute m place i steady none = tt
steady_quiet (Computes row) m place i steady none = result_quiet m _ (register_quiet row m place i none)
steady_quiet (Fetches row) m place i steady none = fetch_quiet row m i none steady
steady_quiet (Stores row) m place i steady none = store_quiet row m i

-- a row of a steady operation code, carried out at once or not at all
pub steady_of : (m : State) (place : Place) (i : Instruction) (present : ℕ → Bool) (answer : Option Completion)
    (m' : State) → is_steady (opcode_at i.opcode) ≡ true → NoOverflow (may_overflow (opcode_at i.opcode)) m
    → MeetsAtOnce (row_of m place i) present m answer m' → MeetsSteady (row_of m place i) present m answer m'
steady_of m place i present answer m' steady none row =
    quick_of (row_of m place i) present m answer m' (steady_quiet (opcode_at i.opcode) m place i steady none) row
