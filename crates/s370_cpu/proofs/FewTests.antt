-- Each row of the table tests at most two ranges, each of at most 256 bytes; and one range at most where it may
-- interrupt.
use Rattle.std.proofs.Common.{◌≡◌, ℕ, zero, suc, ◌+◌, ◌*◌, ◌/◌, ◌%◌, ◌^◌, ◌<◌, ◌≤◌, Bool, true, false, [], ◌∷◌, length}
use Rattle.std.proofs.Common.{Option, Some, None, Result, Ok, Err, refl, arith}
use Rattle.std.specs.Prelude.{◌==◌, ◌&&◌, if◌then◌else◌, All, min}
use Rattle.std.proofs.lemmas.List.Elements.{All-nil, All-cons}
use Rattle.s370_psw.specs.declared.ProgramCode.{ProgramCode}
use Rattle.s370_psw.specs.declared.ProgramCode.TheVariants.{PrivilegedOperation, Specification}
use Rattle.s370_store.specs.Access.{Test}
use Rattle.s370_store.specs.declared.Access.{Access}
use Rattle.s370_rows.specs.declared.ending.Completion.{Completion}
use Rattle.s370_rows.specs.declared.ending.Completion.TheVariants.{Done, Branch, Again, Interrupted}
use Rattle.s370_rows.specs.declared.ending.Completion.TheVariants.{SupervisorCall as Called, InputOutput as Asked}
use Rattle.s370_rows.specs.declared.instruction.Instruction.{Instruction}
use Rattle.s370_rows.specs.declared.place.Place.{Place}
use Rattle.s370_rows.specs.State.{State}
use Rattle.s370_rows.specs.Formats.{r1_of, r2_of, based_address}
use Rattle.s370_rows.specs.Registers.{Ended}
use Rattle.s370_rows.specs.Rows.{Row, Left, checked, suppressed}
use Rattle.s370_bytes.specs.Long.{operand_of, destroys, longest, part_moved, part_compared}
use Rattle.s370_bytes.specs.Masks.{is_chosen, chosen_before, chosen_count, tested_count}
use Rattle.s370_bytes.specs.Multiple.{register_count}
use Rattle.s370_cpu.specs.declared.opcodes.Control.{Control}
use Rattle.s370_cpu.specs.declared.opcodes.Control.TheVariants.{SetStorageKey, InsertStorageKey, SetSystemMask, LoadPsw}
use Rattle.s370_cpu.specs.declared.opcodes.Control.TheVariants.{StoreThenAnd, StoreThenOr, StoreControl, LoadControl}
use Rattle.s370_cpu.specs.declared.opcodes.Control.TheVariants.{InputOutput}
use Rattle.s370_cpu.specs.declared.opcodes.FetchRow.{FetchRow}
use Rattle.s370_cpu.specs.declared.opcodes.FetchRow.TheVariants.{Word, Halfword, MultiplyWord, MultiplyHalfword}
use Rattle.s370_cpu.specs.declared.opcodes.FetchRow.TheVariants.{DivideWord, ConvertToBinary, InsertCharacter}
use Rattle.s370_cpu.specs.declared.opcodes.FetchRow.TheVariants.{InsertCharacters, CompareCharacters, LoadMultiple}
use Rattle.s370_cpu.specs.declared.opcodes.FetchRow.TheVariants.{TestByte, CompareStrings, ScanString, CompareLong}
use Rattle.s370_cpu.specs.declared.opcodes.StoreRow.{StoreRow}
use Rattle.s370_cpu.specs.declared.opcodes.StoreRow.TheVariants.{StoreWord, StoreHalfword, StoreCharacter}
use Rattle.s370_cpu.specs.declared.opcodes.StoreRow.TheVariants.{StoreCharacters, StoreMultiple, ConvertToDecimal}
use Rattle.s370_cpu.specs.declared.opcodes.StoreRow.TheVariants.{ChangeByte, SwapWord, SwapDoubleword, CombineStrings}
use Rattle.s370_cpu.specs.declared.opcodes.StoreRow.TheVariants.{Translate, LayOut, MoveLong}
use Rattle.s370_cpu.specs.declared.opcodes.Opcode.{Opcode}
use Rattle.s370_cpu.specs.declared.opcodes.Opcode.TheVariants.{Invalid, Supervised, SupervisorCall, Execute, Computes}
use Rattle.s370_cpu.specs.declared.opcodes.Opcode.TheVariants.{Fetches, Stores}
use Rattle.s370_cpu.specs.Opcodes.{opcode_at}
use Rattle.s370_cpu.specs.Control.{control_named, named_block, storage_key_set, storage_key_inserted}
use Rattle.s370_cpu.specs.FetchRows.{only_where, fetch_row}
use Rattle.s370_cpu.specs.StoreRows.{store_row}
use Rattle.s370_cpu.specs.Table.{row_of, row_named}
use Rattle.s370_cpu.specs.Laws.{FewTests}
use Rattle.s370_cpu.proofs.Asking.{AsksNone, LeavesNone, over_none, division_none, fetch_none}

-- ---- rows

-- how many ranges a row may test, by how it ends: one that may interrupt tests one, and one that asks a device, none
abbrev pub ranges_for : Completion → ℕ
ranges_for Done = 2
ranges_for (Branch a) = 2
ranges_for Again = 2
ranges_for (Interrupted code) = 1
ranges_for (Called n) = 1
ranges_for (Asked operation device) = 0

abbrev pub most_ranges : Option ProgramCode → Result Left ProgramCode → ℕ
most_ranges (Some code) leaves = 1
most_ranges None (Err code) = 1
most_ranges None (Ok l) = ranges_for l.ending

pub record Fits (r : Row) : Type 0 where
  pub ranges : length r.tests ≤ most_ranges r.refused r.leaves
  pub short : All (λ t. t.count ≤ 256) r.tests

-- of two rows one
either_fits : (b : Bool) (r s : Row) → Fits r → Fits s → Fits (if b then r else s)
either_fits true r s h k = h
either_fits false r s h k = k

-- ---- a row without a test, with one, and with two

none_fits : (refused : Option ProgramCode) (x : Result Left ProgramCode)
    → Fits (record { refused = refused; tests = []; leaves = x })
none_fits refused x = record { ranges = omega arith; short = All-nil (λ (t : Test). t.count ≤ 256) }

one_ending : (e : Completion) → AsksNone e → 1 ≤ ranges_for e
one_ending Done h = omega arith
one_ending (Branch a) h = omega arith
one_ending Again h = omega arith
one_ending (Interrupted code) h = omega arith
one_ending (Called n) h = omega arith
one_ending (Asked operation device) h = absurd h

one_range : (x : Result Left ProgramCode) → LeavesNone x → 1 ≤ most_ranges None x
one_range (Err code) h = omega arith
one_range (Ok l) h = one_ending l.ending h

one_fits : (access : Access) (a n : ℕ) (x : Result Left ProgramCode) → n ≤ 256 → LeavesNone x
    → Fits (record { refused = None; tests = record { access = access; start = a; count = n } ∷ []; leaves = x })
one_fits access a n x few h =
    let P : Test → Type 0 = λ t. t.count ≤ 256 in
    record {
      ranges = one_range x h;
      short = All-cons P (record { access = access; start = a; count = n }) [] few
          (All-nil P);
    }

abbrev IsQuiet : Completion → Type 0
IsQuiet e = ranges_for e ≡ 2

either_quiet : (b : Bool) (x y : Ended) → IsQuiet x.ending → IsQuiet y.ending → IsQuiet (if b then x else y).ending
either_quiet true x y h k = h
either_quiet false x y h k = k

two_fit : (access access' : Access) (a n b k : ℕ) (l : Left) → n ≤ 256 → k ≤ 256 → IsQuiet l.ending →
    Fits (checked (record { access = access; start = a; count = n } ∷ record {
      access = access';
      start = b;
      count = k;
    } ∷ []) l)
two_fit access access' a n b k l few less quiet =
    let P : Test → Type 0 = λ t. t.count ≤ 256 in
    let second : Test = record { access = access'; start = b; count = k } in
    record {
      ranges = omega (arith, quiet);
      short = All-cons P (record { access = access; start = a; count = n }) (second ∷ []) few
          (All-cons P second [] less (All-nil P));
    }

-- a row that is carried out only where something holds
only_fits : (b : Bool) (r : Row) → Fits r → Fits (only_where b r)
only_fits b r h = either_fits b r (suppressed Specification) h (none_fits (Some Specification) (Err Specification))

-- ---- how many bytes

registers_few : (r1 r3 : ℕ) → 4 * register_count r1 r3 ≤ 256
registers_few r1 r3 = omega arith

one_bit : (b : Bool) → (if b then 1 else 0) ≤ 1
one_bit true = omega arith
one_bit false = omega arith

before_few : (mask k : ℕ) → chosen_before mask k ≤ k
before_few mask zero = omega arith
before_few mask (suc k) = omega (arith, before_few mask k, one_bit (is_chosen mask k))

characters_few : (mask : ℕ) → tested_count (chosen_count mask) ≤ 256
unfolding chosen_count
characters_few mask = omega (arith, before_few mask 4)

-- ---- one line for each family of the table

key_set_fits : (m : State) (i : Instruction) (block : Result ℕ ProgramCode) → Fits (storage_key_set m i block)
key_set_fits m i (Ok block) = none_fits _ _
key_set_fits m i (Err code) = none_fits _ _

key_inserted_fits : (m : State) (i : Instruction) (block : Result ℕ ProgramCode) → Fits (storage_key_inserted m i block)
key_inserted_fits m i (Ok block) = none_fits _ _
key_inserted_fits m i (Err code) = none_fits _ _

control_fits : (c : Control) (m : State) (i : Instruction) → Fits (control_named c m i)
control_fits SetStorageKey m i = key_set_fits m i (named_block m i)
control_fits InsertStorageKey m i = key_inserted_fits m i (named_block m i)
control_fits SetSystemMask m i = one_fits _ _ 1 _ (omega arith) tt
control_fits LoadPsw m i = only_fits (based_address m.cpu i.second_half % 8 == 0) _ (one_fits _ _ 8 _ (omega arith) tt)
control_fits StoreThenAnd m i = one_fits _ _ 1 _ (omega arith) tt
control_fits StoreThenOr m i = one_fits _ _ 1 _ (omega arith) tt
control_fits StoreControl m i = only_fits (based_address m.cpu i.second_half % 4 == 0) _
    (one_fits _ _ _ _ (registers_few (r1_of i) (r2_of i)) tt)
control_fits LoadControl m i = only_fits (based_address m.cpu i.second_half % 4 == 0) _
    (one_fits _ _ _ _ (registers_few (r1_of i) (r2_of i)) tt)
control_fits (InputOutput operation) m i = none_fits _ _

part_compared_fits : (m : State) (r1 r2 : ℕ) → Fits (part_compared m r1 r2)
part_compared_fits m r1 r2 =
    let o1 = operand_of m.cpu r1 in
    let o2 = operand_of m.cpu r2 in
    let k = longest o1 o2 in
    two_fit _ _ _ (min k o1.count) _ (min k o2.count) _ (omega arith) (omega arith) (search (either_quiet))

part_moved_fits : (m : State) (r1 r2 : ℕ) → Fits (part_moved m r1 r2)
part_moved_fits m r1 r2 =
    let k = min 256 (operand_of m.cpu r1).count in
    two_fit _ _ _ k _ (min k (operand_of m.cpu r2).count) _ (omega arith) (omega arith) (search (either_quiet))

fetch_fits : (row : FetchRow) (m : State) (i : Instruction) → i.second_byte < 2 ^ 8 → Fits (fetch_row row m i)
fetch_fits (Word op) m i h = one_fits _ _ 4 _ (omega arith) (fetch_none (Word op) m i)
fetch_fits (Halfword op) m i h = one_fits _ _ 2 _ (omega arith) (fetch_none (Halfword op) m i)
fetch_fits MultiplyWord m i h = only_fits (r1_of i % 2 == 0) _ (one_fits _ _ 4 _ (omega arith) tt)
fetch_fits MultiplyHalfword m i h = one_fits _ _ 2 _ (omega arith) tt
fetch_fits DivideWord m i h = only_fits (r1_of i % 2 == 0) _
    (one_fits _ _ 4 _ (omega arith) (over_none _ (division_none m.cpu (r1_of i) _)))
fetch_fits ConvertToBinary m i h = one_fits _ _ 8 _ (omega arith) (fetch_none ConvertToBinary m i)
fetch_fits InsertCharacter m i h = one_fits _ _ 1 _ (omega arith) tt
fetch_fits InsertCharacters m i h = one_fits _ _ _ _ (characters_few (r2_of i)) tt
fetch_fits CompareCharacters m i h = one_fits _ _ _ _ (characters_few (r2_of i)) tt
fetch_fits LoadMultiple m i h = one_fits _ _ _ _ (registers_few (r1_of i) (r2_of i)) tt
fetch_fits (TestByte test) m i h = one_fits _ _ 1 _ (omega arith) tt
fetch_fits CompareStrings m i h = let n = i.second_byte + 1 in
    two_fit _ _ _ n _ n _ (omega (arith, h)) (omega (arith, h)) refl
fetch_fits ScanString m i h = two_fit _ _ _ (i.second_byte + 1) _ 256 _ (omega (arith, h)) (omega arith) refl
fetch_fits CompareLong m i h =
    let r1 = r1_of i in
    let r2 = r2_of i in
    only_fits ((r1 % 2 == 0) && (r2 % 2 == 0)) _
    (either_fits (((operand_of m.cpu r1).count == 0) && ((operand_of m.cpu r2).count == 0)) _ _ (none_fits _ _)
    (part_compared_fits m r1 r2))

store_fits : (row : StoreRow) (m : State) (i : Instruction) → i.second_byte < 2 ^ 8 → Fits (store_row row m i)
store_fits StoreWord m i h = one_fits _ _ 4 _ (omega arith) tt
store_fits StoreHalfword m i h = one_fits _ _ 2 _ (omega arith) tt
store_fits StoreCharacter m i h = one_fits _ _ 1 _ (omega arith) tt
store_fits StoreCharacters m i h = one_fits _ _ _ _ (characters_few (r2_of i)) tt
store_fits StoreMultiple m i h = one_fits _ _ _ _ (registers_few (r1_of i) (r2_of i)) tt
store_fits ConvertToDecimal m i h = one_fits _ _ 8 _ (omega arith) tt
store_fits (ChangeByte change) m i h = one_fits _ _ 1 _ (omega arith) tt
store_fits SwapWord m i h = only_fits (based_address m.cpu i.second_half % 4 == 0) _ (one_fits _ _ 4 _ (omega arith) tt)
store_fits SwapDoubleword m i h =
    only_fits ((r1_of i % 2 == 0) && ((r2_of i % 2 == 0) && (based_address m.cpu i.second_half % 8 == 0))) _
    (one_fits _ _ 8 _ (omega arith) tt)
store_fits (CombineStrings op) m i h = let n = i.second_byte + 1 in
    two_fit _ _ _ n _ n _ (omega (arith, h)) (omega (arith, h)) refl
store_fits Translate m i h = two_fit _ _ _ (i.second_byte + 1) _ 256 _ (omega (arith, h)) (omega arith) refl
store_fits (LayOut layout) m i h =
    two_fit _ _ _ (i.second_byte / 16 + 1) _ (i.second_byte % 16 + 1) _ (omega (arith, h)) (omega arith) refl
store_fits MoveLong m i h =
    let r1 = r1_of i in
    let r2 = r2_of i in
    let o1 = operand_of m.cpu r1 in
    let o2 = operand_of m.cpu r2 in
    only_fits ((r1 % 2 == 0) && (r2 % 2 == 0)) _
    (either_fits (o1.count == 0) _ _ (none_fits _ _) (either_fits (destroys o1 o2) _ _ (none_fits _ _)
    (part_moved_fits m r1 r2)))

-- ---- all rows

named_fits : (op : Opcode) (m : State) (place : Place) (i : Instruction) → i.second_byte < 2 ^ 8
    → Fits (row_named op m place i)
named_fits Invalid m place i h = none_fits _ _
named_fits (Supervised c) m place i h = either_fits m.cpu.psw.problem (suppressed PrivilegedOperation)
    (control_named c m i) (none_fits _ _) (control_fits c m i)
named_fits SupervisorCall m place i h = none_fits _ _
named_fits Execute m place i h = none_fits _ _
named_fits (Computes row) m place i h = none_fits _ _
named_fits (Fetches row) m place i h = fetch_fits row m i h
named_fits (Stores row) m place i h = store_fits row m i h

-- Each row has few tests, and each of few bytes.
pub row_fits : (m : State) (place : Place) (i : Instruction) → i.second_byte < 2 ^ 8 → Fits (row_of m place i)
row_fits m place i h = named_fits (opcode_at i.opcode) m place i h

ending_few : (e : Completion) → ranges_for e ≤ 2
ending_few Done = omega arith
ending_few (Branch a) = omega arith
ending_few Again = omega arith
ending_few (Interrupted code) = omega arith
ending_few (Called n) = omega arith
ending_few (Asked operation device) = omega arith

most_few : (refused : Option ProgramCode) (x : Result Left ProgramCode) → most_ranges refused x ≤ 2
most_few (Some code) x = omega arith
most_few None (Err code) = omega arith
most_few None (Ok l) = ending_few l.ending

-- Each instruction has few tests.
pub few_tests : FewTests
few_tests m place i h =
    let r = row_of m place i in let fits = row_fits m place i h in
    (omega (arith, fits.ranges, most_few r.refused r.leaves), fits.short)
