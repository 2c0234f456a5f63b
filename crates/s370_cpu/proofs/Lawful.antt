-- Each row of the table is lawful: what it stores it has tested, and in the problem state it changes no rights.
use Rattle.std.proofs.Common.{◌≡◌, ℕ, ◌+◌, ◌-◌, ◌*◌, ◌<◌, ◌≤◌, ◌==◌, Bool, true, false, List, [], ◌∷◌, length}
use Rattle.std.proofs.Common.{slice_range, slice_index, Option, Some, None, Result, Ok, Err, refl, inl, arith, ℤ}
use Rattle.std.specs.Prelude.{if◌then◌else◌, ◌&&◌, nat_lt, min}
use Rattle.std.proofs.lemmas.Bool.{both_ways}
use Rattle.s370_psw.specs.declared.ProgramCode.{ProgramCode}
use Rattle.s370_psw.specs.declared.ProgramCode.TheVariants.{PrivilegedOperation, Specification}
use Rattle.s370_store.specs.Access.{Test}
use Rattle.s370_rows.specs.declared.cpu.Cpu.{Cpu}
use Rattle.s370_rows.specs.declared.ending.Completion.{Completion}
use Rattle.s370_rows.specs.declared.ending.Completion.TheVariants.{Done, Again}
use Rattle.s370_rows.specs.declared.instruction.Instruction.{Instruction}
use Rattle.s370_rows.specs.declared.place.Place.{Place}
use Rattle.s370_rows.specs.State.{State}
use Rattle.s370_rows.specs.Formats.{r1_of, r2_of, based_address}
use Rattle.s370_rows.specs.Registers.{Ended, done, with_condition, with_register}
use Rattle.s370_rows.specs.Results.{over_result}
use Rattle.s370_rows.specs.Pair.{pair_of, with_pair}
use Rattle.s370_rows.specs.Arithmetic.{order_code}
use Rattle.s370_rows.specs.Product.{Division, division_left}
use Rattle.s370_rows.specs.Swap.{Swapped}
use Rattle.s370_rows.specs.Rows.{Row, Left, Stored, after, over, suppressed, store_test}
use Rattle.s370_bytes.specs.declared.combine.Combine.{Combine}
use Rattle.s370_bytes.specs.declared.combine.Combine.TheVariants.{Move, MoveNumerics, MoveZones, And, Or, ExclusiveOr}
use Rattle.s370_bytes.specs.Combine.{combined_condition}
use Rattle.s370_bytes.specs.Compare.{equal_pairs}
use Rattle.s370_bytes.specs.Decimal.{binary_left, decimal_of, over_result as over_number}
use Rattle.s370_bytes.specs.Long.{operand_of, with_operand, past, counts_code, part_ended, part_moved, part_ordered}
use Rattle.s370_bytes.specs.Long.{compared_to}
use Rattle.s370_bytes.specs.Masks.{bytes_of}
use Rattle.s370_bytes.specs.Multiple.{register_count, words_from}
use Rattle.s370_bytes.specs.Translate.{scanned}
use Rattle.s370_bytes.proofs.Within.{made_within, translation_within, padded_within, string_within, words_within}
use Rattle.s370_bytes.proofs.Within.{doubleword_within, chosen_within}
use Rattle.s370_cpu.specs.declared.opcodes.Branching.{Branching}
use Rattle.s370_cpu.specs.declared.opcodes.Branching.TheVariants.{Count, Condition, Link}
use Rattle.s370_cpu.specs.declared.opcodes.Control.{Control}
use Rattle.s370_cpu.specs.declared.opcodes.Control.TheVariants.{SetStorageKey, InsertStorageKey, SetSystemMask, LoadPsw}
use Rattle.s370_cpu.specs.declared.opcodes.Control.TheVariants.{StoreThenAnd, StoreThenOr, StoreControl, LoadControl}
use Rattle.s370_cpu.specs.declared.opcodes.Control.TheVariants.{InputOutput}
use Rattle.s370_cpu.specs.declared.opcodes.RegisterRow.{RegisterRow}
use Rattle.s370_cpu.specs.declared.opcodes.RegisterRow.TheVariants.{SetProgramMask, Register, Multiply, Divide}
use Rattle.s370_cpu.specs.declared.opcodes.RegisterRow.TheVariants.{LoadAddress, ShiftWord, ShiftPair, BranchRegister}
use Rattle.s370_cpu.specs.declared.opcodes.RegisterRow.TheVariants.{BranchTo, BranchOnIndex}
use Rattle.s370_cpu.specs.declared.opcodes.FetchRow.{FetchRow}
use Rattle.s370_cpu.specs.declared.opcodes.FetchRow.TheVariants.{Word, Halfword, MultiplyWord, MultiplyHalfword}
use Rattle.s370_cpu.specs.declared.opcodes.FetchRow.TheVariants.{DivideWord, ConvertToBinary, InsertCharacter}
use Rattle.s370_cpu.specs.declared.opcodes.FetchRow.TheVariants.{InsertCharacters, CompareCharacters, LoadMultiple}
use Rattle.s370_cpu.specs.declared.opcodes.FetchRow.TheVariants.{TestByte, CompareStrings, ScanString, CompareLong}
use Rattle.s370_cpu.specs.declared.opcodes.StoreRow.{StoreRow}
use Rattle.s370_cpu.specs.declared.opcodes.StoreRow.TheVariants.{StoreWord, StoreHalfword, StoreCharacter}
use Rattle.s370_cpu.specs.declared.opcodes.StoreRow.TheVariants.{StoreCharacters, StoreMultiple, ConvertToDecimal}
use Rattle.s370_cpu.specs.declared.opcodes.StoreRow.TheVariants.{ChangeByte, SwapWord, SwapDoubleword, CombineStrings}
use Rattle.s370_cpu.specs.declared.opcodes.StoreRow.TheVariants.{Translate, LayOut, MoveLong}
use Rattle.s370_cpu.specs.declared.opcodes.Opcode.{Opcode}
use Rattle.s370_cpu.specs.declared.opcodes.Opcode.TheVariants.{Invalid, Supervised, SupervisorCall, Execute, Computes}
use Rattle.s370_cpu.specs.declared.opcodes.Opcode.TheVariants.{Fetches, Stores}
use Rattle.s370_cpu.specs.Control.{control_named, named_block, storage_key_set, storage_key_inserted}
use Rattle.s370_cpu.specs.RegisterRows.{branched, register_row}
use Rattle.s370_cpu.specs.FetchRows.{fetch_row}
use Rattle.s370_cpu.specs.StoreRows.{store_row, word_taken, doubleword_taken}
use Rattle.s370_cpu.specs.Table.{row_named}
use Rattle.s370_cpu.specs.Laws.{IsTestedForStoring, rights_of, StaysInItsRights}

-- ---- rows

-- each byte of each store was tested for storing
abbrev pub AreTested : List Test → List Stored → Type 0
AreTested ts [] = Unit {0}
AreTested ts (s ∷ ss) =
    ((a : ℕ) → s.start ≤ a → a < s.start + length s.written → IsTestedForStoring ts a) × AreTested ts ss

abbrev LeavesTested : List Test → Result Left ProgramCode → Type 0
LeavesTested ts (Err code) = Unit {0}
LeavesTested ts (Ok l) = AreTested ts l.stores

-- A row stores only what it tested, and leaves its rights as they were.
pub record IsLawful (m : State) (ts : List Test) (l : Left) : Type 0 where
  pub stores : AreTested ts l.stores
  pub rights : StaysInItsRights m (after m l)

abbrev pub LeavesLawful : State → List Test → Result Left ProgramCode → Type 0
LeavesLawful m ts (Err code) = Unit {0}
LeavesLawful m ts (Ok l) = IsLawful m ts l

abbrev pub RowIsLawful : State → Row → Type 0
RowIsLawful m r = LeavesLawful m r.tests r.leaves

-- what changes registers alone
registers : (m : State) (ts : List Test) (e : Ended) → rights_of (record m { cpu = e.cpu }) ≡ rights_of m
    → LeavesLawful m ts (Ok (over e))
registers m ts e h = record { stores = tt; rights = λ problem. h }

-- what stores no more bytes than the first test has
one_store : (m : State) (ending : Completion) (cpu : Cpu) (a n : ℕ) (xs : List ℕ) (ts : List Test) → length xs ≤ n
    → rights_of (record m { cpu = cpu }) ≡ rights_of m →
    LeavesLawful m (store_test a n ∷ ts) (Ok (record {
      ending = ending;
      cpu = cpu;
      stores = record { start = a; written = xs } ∷ [];
      keyed = None;
    }))
one_store m ending cpu a n xs ts e h = record {
  stores = (λ b low high. inl (refl, low, omega (arith, e, high)), tt);
  rights = λ problem. h;
}

-- of two rows one
either_lawful : (m : State) (b : Bool) (r s : Row) → RowIsLawful m r → RowIsLawful m s
    → RowIsLawful m (if b then r else s)
either_lawful m true r s h k = h
either_lawful m false r s h k = k

-- what only the supervisor state has
supervisors : (m : State) (ts : List Test) (x : Result Left ProgramCode) → m.cpu.psw.problem ≡ false → LeavesTested ts x
    → LeavesLawful m ts x
supervisors m ts (Err code) f h = tt
supervisors m ts (Ok l) f h = record { stores = h; rights = λ problem. absurd (both_ways _ f problem) }

supervised_lawful : (m : State) (r : Row) (b : Bool) → m.cpu.psw.problem ≡ b → LeavesTested r.tests r.leaves
    → RowIsLawful m (if b then suppressed PrivilegedOperation else r)
supervised_lawful m r true e h = tt
supervised_lawful m r false e h = supervisors m r.tests r.leaves e h

either_tested : (b : Bool) (r s : Row) → LeavesTested r.tests r.leaves → LeavesTested s.tests s.leaves
    → (let x = if b then r else s in LeavesTested x.tests x.leaves)
either_tested true r s h k = h
either_tested false r s h k = k

key_set_tested : (m : State) (i : Instruction) (block : Result ℕ ProgramCode)
    → (let r = storage_key_set m i block in LeavesTested r.tests r.leaves)
key_set_tested m i (Ok block) = tt
key_set_tested m i (Err code) = tt

key_inserted_tested : (m : State) (i : Instruction) (block : Result ℕ ProgramCode)
    → (let r = storage_key_inserted m i block in LeavesTested r.tests r.leaves)
key_inserted_tested m i (Ok block) = tt
key_inserted_tested m i (Err code) = tt

-- a store of no more bytes than its test has
one_tested : (a n : ℕ) (xs : List ℕ) → length xs ≤ n → AreTested (store_test a n ∷ [])
    (record { start = a; written = xs } ∷ [])
one_tested a n xs e = (λ b low high. inl (refl, low, omega (arith, e, high)), tt)

mask_tested : (m : State) (i : Instruction) → (let a = based_address m.cpu i.second_half in
    AreTested (store_test a 1 ∷ []) (record { start = a; written = m.cpu.psw.system_mask ∷ [] } ∷ []))
mask_tested m i = one_tested (based_address m.cpu i.second_half) 1 (m.cpu.psw.system_mask ∷ []) (omega arith)

control_words_tested : (m : State) (i : Instruction) → (let a = based_address m.cpu i.second_half in
    let k = register_count (r1_of i) (r2_of i) in AreTested (store_test a (4 * k) ∷ [])
    (record { start = a; written = words_from m.cpu.control (r1_of i) k } ∷ []))
control_words_tested m i =
    let k = register_count (r1_of i) (r2_of i) in
    one_tested (based_address m.cpu i.second_half) (4 * k) (words_from m.cpu.control (r1_of i) k)
    (words_within m.cpu.control (r1_of i) k)

-- one line for each family of the table
control_tested : (c : Control) (m : State) (i : Instruction)
    → (let r = control_named c m i in LeavesTested r.tests r.leaves)
control_tested SetStorageKey m i = key_set_tested m i (named_block m i)
control_tested InsertStorageKey m i = key_inserted_tested m i (named_block m i)
control_tested SetSystemMask m i = tt
control_tested LoadPsw m i = search (either_tested)
control_tested StoreThenAnd m i = mask_tested m i
control_tested StoreThenOr m i = mask_tested m i
control_tested StoreControl m i = search (either_tested, control_words_tested)
control_tested LoadControl m i = search (either_tested)
control_tested (InputOutput operation) m i = tt

-- ---- rows that access no storage: the registers that they leave have the rights of those before

abbrev KeepRights : State → Result Ended ProgramCode → Type 0
KeepRights m (Err code) = Unit {0}
KeepRights m (Ok e) = rights_of (record m { cpu = e.cpu }) ≡ rights_of m

result_lawful : (m : State) (ts : List Test) (r : Result Ended ProgramCode) → KeepRights m r
    → LeavesLawful m ts (over_result r)
result_lawful m ts (Err code) h = tt
result_lawful m ts (Ok e) h = registers m ts e h

number_lawful : (m : State) (ts : List Test) (r : Result Ended ProgramCode) → KeepRights m r
    → LeavesLawful m ts (over_number r)
number_lawful m ts (Err code) h = tt
number_lawful m ts (Ok e) h = registers m ts e h

either_kept : (m : State) (b : Bool) (left : Result Ended ProgramCode) → KeepRights m left
    → KeepRights m (if b then left else Err Specification)
either_kept m true left h = h
either_kept m false left h = tt

division_rights : (m : State) (r : ℕ) (d : Option Division) → KeepRights m (division_left m.cpu r d)
division_rights m r None = tt
division_rights m r (Some d) = refl

number_rights : (m : State) (r : ℕ) (n : Option ℤ) → KeepRights m (binary_left m.cpu r n)
number_rights m r None = tt
number_rights m r (Some z) = refl

branched_rights : (b : Branching) (m : State) (place : Place) (i : Instruction) (may : Bool) (target : ℕ)
    → rights_of (record m { cpu = (branched b m.cpu place i may target).cpu }) ≡ rights_of m
branched_rights Count m place i may target = refl
branched_rights Condition m place i may target = refl
branched_rights Link m place i may target = refl

register_rights : (row : RegisterRow) (m : State) (place : Place) (i : Instruction)
    → KeepRights m (register_row row m.cpu place i)
register_rights SetProgramMask m place i = refl
register_rights (Register op) m place i = refl
register_rights Multiply m place i = search (either_kept)
register_rights Divide m place i = search (either_kept, division_rights)
register_rights LoadAddress m place i = refl
register_rights (ShiftWord op) m place i = refl
register_rights (ShiftPair op) m place i = search (either_kept)
register_rights (BranchRegister b) m place i = branched_rights b m place i _ _
register_rights (BranchTo b) m place i = branched_rights b m place i _ _
register_rights (BranchOnIndex b) m place i = refl

-- ---- rows that fetch

either_rights : (m : State) (b : Bool) (x y : Cpu) → rights_of (record m { cpu = x }) ≡ rights_of m
    → rights_of (record m { cpu = y }) ≡ rights_of m → rights_of (record m { cpu = if b then x else y }) ≡ rights_of m
either_rights m true x y h k = h
either_rights m false x y h k = k

-- what has ended, or comes again
ended_rights : (m : State) (b : Bool) (cpu : Cpu) (code : ℕ) → rights_of (record m { cpu = cpu }) ≡ rights_of m
    → (let e : Ended = if b then done (with_condition cpu code) else (record { ending = Again; cpu = cpu }) in
    rights_of (record m { cpu = e.cpu }) ≡ rights_of m)
ended_rights m true cpu code h = h
ended_rights m false cpu code h = h

scanned_rights : (m : State) (a n : ℕ) (xs table : List ℕ) → rights_of
    (record m { cpu = scanned m.cpu a n xs table }) ≡ rights_of m
scanned_rights m a n xs table = either_rights m _ _ _ refl refl

unequal_rights : (m : State) (b c : Bool) (cpu : Cpu) (code : ℕ) → rights_of (record m { cpu = cpu }) ≡ rights_of m
    → (let e : Ended = if b then done (with_condition cpu code) else
    (if c then done (with_condition cpu 0) else (record { ending = Again; cpu = cpu })) in
    rights_of (record m { cpu = e.cpu }) ≡ rights_of m)
unequal_rights m true c cpu code h = h
unequal_rights m false c cpu code h = ended_rights m c cpu 0 h

ordered_rights : (m : State) (r1 r2 k j1 j2 : ℕ) (xs ys : List ℕ)
    → rights_of (record m { cpu = (part_ordered m.cpu r1 r2 k j1 j2 xs ys).cpu }) ≡ rights_of m
ordered_rights m r1 r2 k j1 j2 xs ys =
    let n = equal_pairs xs ys in
    let all = ((operand_of m.cpu r1).count - j1 == 0) && ((operand_of m.cpu r2).count - j2 == 0) in
    unequal_rights m (nat_lt n k) all (compared_to m.cpu r1 r2 j1 j2 n)
    (order_code (slice_index xs n) (slice_index ys n)) refl

fetch_lawful : (row : FetchRow) (m : State) (i : Instruction) → RowIsLawful m (fetch_row row m i)
fetch_lawful (Word op) m i = registers m _ _ refl
fetch_lawful (Halfword op) m i = registers m _ _ refl
fetch_lawful MultiplyWord m i = search (either_lawful, registers)
fetch_lawful MultiplyHalfword m i = registers m _ _ refl
fetch_lawful DivideWord m i = search (either_lawful, result_lawful, division_rights)
fetch_lawful ConvertToBinary m i = number_lawful m _ _ (number_rights m _ _)
fetch_lawful InsertCharacter m i = registers m _ _ refl
fetch_lawful InsertCharacters m i = registers m _ _ refl
fetch_lawful CompareCharacters m i = registers m _ _ refl
fetch_lawful LoadMultiple m i = registers m _ _ refl
fetch_lawful (TestByte test) m i = registers m _ _ refl
fetch_lawful CompareStrings m i = registers m _ _ refl
fetch_lawful ScanString m i =
    let n = i.second_byte + 1 in
    let a = based_address m.cpu i.second_half in
    let t = based_address m.cpu i.third_half in
    registers m _ _ (scanned_rights m a n (slice_range m.bytes a (a + n)) (slice_range m.bytes t (t + 256)))
fetch_lawful CompareLong m i = search (either_lawful, registers, ordered_rights)

-- ---- rows that store

condition_rights : (op : Combine) (m : State) (xs : List ℕ) → rights_of
    (record m { cpu = combined_condition op m.cpu xs }) ≡ rights_of m
condition_rights Move m xs = refl
condition_rights MoveNumerics m xs = refl
condition_rights MoveZones m xs = refl
condition_rights And m xs = refl
condition_rights Or m xs = refl
condition_rights ExclusiveOr m xs = refl

-- what is stored in a swap, if anything is
word_swap_lawful : (m : State) (a r1 r3 operand : ℕ) (b : Bool) (ts : List Test)
    → (let s : Swapped = if b then (record {
      cpu = with_condition m.cpu 0;
      stored = Some (slice_index m.cpu.general r3);
    }) else (record {
      cpu = with_condition
          (with_register m.cpu r1 operand) 1;
      stored = None;
    }) in LeavesLawful m (store_test a 4 ∷ ts)
    (Ok (record { ending = Done; cpu = s.cpu; stores = word_taken a s.stored; keyed = None })))
word_swap_lawful m a r1 r3 operand true ts = one_store m _ _ a 4 _ ts (omega arith) refl
word_swap_lawful m a r1 r3 operand false ts = record { stores = tt; rights = λ problem. refl }

doubleword_swap_lawful : (m : State) (a r1 r3 operand : ℕ) (b : Bool) (ts : List Test)
    → (let s : Swapped = if b then (record { cpu = with_condition m.cpu 0; stored = Some (pair_of m.cpu r3) }) else
    (record { cpu = with_condition (with_pair m.cpu r1 operand) 1; stored = None }) in
    LeavesLawful m (store_test a 8 ∷ ts) (Ok (record {
      ending = Done;
      cpu = s.cpu;
      stores = doubleword_taken a s.stored;
      keyed = None;
    })))
doubleword_swap_lawful m a r1 r3 operand true ts = one_store m _ _ a 8 _ ts (omega arith) refl
doubleword_swap_lawful m a r1 r3 operand false ts = record { stores = tt; rights = λ problem. refl }

part_rights : (m : State) (r1 r2 k j : ℕ) → rights_of (record m { cpu = (part_ended m.cpu r1 r2 k j).cpu }) ≡ rights_of
    m
part_rights m r1 r2 k j =
    let o1 = operand_of m.cpu r1 in
    let o2 = operand_of m.cpu r2 in
    ended_rights m (o1.count - k == 0) (with_operand (with_operand m.cpu r1 (past o1 k)) r2 (past o2 j))
    (counts_code o1 o2) refl

part_lawful : (m : State) (r1 r2 : ℕ) → RowIsLawful m (part_moved m r1 r2)
part_lawful m r1 r2 =
    let k = min 256 (operand_of m.cpu r1).count in
    let j = min k (operand_of m.cpu r2).count in
    one_store m _ _ _ _ _ _ (padded_within m.bytes (operand_of m.cpu r2).address j (operand_of m.cpu r2).pad k
    (omega arith)) (part_rights m r1 r2 k j)

store_lawful : (row : StoreRow) (m : State) (i : Instruction) → RowIsLawful m (store_row row m i)
store_lawful StoreWord m i = one_store m _ _ _ 4 _ _ (omega arith) refl
store_lawful StoreHalfword m i = one_store m _ _ _ 2 _ _ (omega arith) refl
store_lawful StoreCharacter m i = one_store m _ _ _ 1 _ _ (omega arith) refl
store_lawful StoreCharacters m i = one_store m _ _ _ _ _ _ (chosen_within (r2_of i) (bytes_of m.cpu (r1_of i))) refl
store_lawful StoreMultiple m i = one_store m _ _ _ _ _ _ (words_within m.cpu.general (r1_of i)
    (register_count (r1_of i) (r2_of i))) refl
store_lawful ConvertToDecimal m i = one_store m _ _ _ 8 _ _ (doubleword_within
    (decimal_of (slice_index m.cpu.general (r1_of i)))) refl
store_lawful (ChangeByte change) m i = one_store m _ _ _ 1 _ _ (omega arith) refl
store_lawful SwapWord m i = search (either_lawful, word_swap_lawful)
store_lawful SwapDoubleword m i = search (either_lawful, doubleword_swap_lawful)
store_lawful (CombineStrings op) m i = one_store m _ _ _ _ _ _ (made_within op _ _ _ _) (condition_rights op m _)
store_lawful Translate m i = one_store m _ _ _ _ _ _ (translation_within _ _ _ _) refl
store_lawful (LayOut layout) m i = one_store m _ _ _ _ _ _ (string_within _ _) refl
store_lawful MoveLong m i = search (either_lawful, registers, part_lawful)

-- ---- all rows

-- Each row of the table is lawful.
pub row_lawful : (op : Opcode) (m : State) (place : Place) (i : Instruction) → RowIsLawful m (row_named op m place i)
row_lawful Invalid m place i = tt
row_lawful (Supervised c) m place i = supervised_lawful m (control_named c m i) m.cpu.psw.problem refl
    (control_tested c m i)
row_lawful SupervisorCall m place i = registers m _ _ refl
row_lawful Execute m place i = tt
row_lawful (Computes row) m place i = result_lawful m _ _ (register_rights row m place i)
row_lawful (Fetches row) m place i = fetch_lawful row m i
row_lawful (Stores row) m place i = store_lawful row m i
