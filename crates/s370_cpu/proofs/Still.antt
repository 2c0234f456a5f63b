-- What an instruction that interrupts, or asks a device, has changed: registers, and no byte of storage and no key.
use Rattle.std.proofs.Common.{◌≡◌, ℕ, Bool, true, false, List, [], Option, Some, None, Result, Ok, Err, refl}
use Rattle.std.specs.Prelude.{if◌then◌else◌}
use Rattle.s370_psw.specs.declared.ProgramCode.{ProgramCode}
use Rattle.s370_psw.specs.declared.ProgramCode.TheVariants.{PrivilegedOperation}
use Rattle.s370_store.specs.Access.{Test}
use Rattle.s370_rows.specs.declared.cpu.Cpu.{Cpu}
use Rattle.s370_rows.specs.declared.ending.Completion.{Completion}
use Rattle.s370_rows.specs.declared.ending.Completion.TheVariants.{Done, Branch, Again, Interrupted}
use Rattle.s370_rows.specs.declared.ending.Completion.TheVariants.{SupervisorCall as Called, InputOutput as Asked}
use Rattle.s370_rows.specs.declared.instruction.Instruction.{Instruction}
use Rattle.s370_rows.specs.declared.place.Place.{Place}
use Rattle.s370_rows.specs.State.{State}
use Rattle.s370_rows.specs.Registers.{Ended}
use Rattle.s370_rows.specs.Results.{over_result}
use Rattle.s370_rows.specs.Rows.{Row, Left, judged, unless, outcome_of, over, suppressed, fault_of}
use Rattle.s370_bytes.specs.Decimal.{over_result as over_number}
use Rattle.s370_cpu.specs.declared.conclude.Stop.TheVariants.{Done as DoneStop, Program, Svc, InputOutput as AskedStop}
use Rattle.s370_cpu.specs.declared.conclude.Stop.TheVariants.{Privileged, Absent}
use Rattle.s370_cpu.specs.declared.opcodes.Opcode.{Opcode}
use Rattle.s370_cpu.specs.declared.opcodes.Opcode.TheVariants.{Invalid, Supervised, SupervisorCall, Execute, Computes}
use Rattle.s370_cpu.specs.declared.opcodes.Opcode.TheVariants.{Fetches, Stores}
use Rattle.s370_cpu.specs.declared.opcodes.FetchRow.{FetchRow}
use Rattle.s370_cpu.specs.declared.opcodes.FetchRow.TheVariants.{Word, Halfword, MultiplyWord, MultiplyHalfword}
use Rattle.s370_cpu.specs.declared.opcodes.FetchRow.TheVariants.{DivideWord, ConvertToBinary, InsertCharacter}
use Rattle.s370_cpu.specs.declared.opcodes.FetchRow.TheVariants.{InsertCharacters, CompareCharacters, LoadMultiple}
use Rattle.s370_cpu.specs.declared.opcodes.FetchRow.TheVariants.{TestByte, CompareStrings, ScanString, CompareLong}
use Rattle.s370_cpu.specs.declared.opcodes.StoreRow.{StoreRow}
use Rattle.s370_cpu.specs.declared.opcodes.StoreRow.TheVariants.{StoreWord, StoreHalfword, StoreCharacter}
use Rattle.s370_cpu.specs.declared.opcodes.StoreRow.TheVariants.{StoreCharacters, StoreMultiple, ConvertToDecimal}
use Rattle.s370_cpu.specs.declared.opcodes.StoreRow.TheVariants.{ChangeByte, SwapWord, SwapDoubleword, CombineStrings}
use Rattle.s370_cpu.specs.declared.opcodes.StoreRow.TheVariants.{Translate, LayOut, MoveLong}
use Rattle.s370_cpu.specs.declared.opcodes.Control.{Control}
use Rattle.s370_cpu.specs.declared.opcodes.Control.TheVariants.{SetStorageKey, InsertStorageKey, SetSystemMask, LoadPsw}
use Rattle.s370_cpu.specs.declared.opcodes.Control.TheVariants.{StoreThenAnd, StoreThenOr, StoreControl, LoadControl}
use Rattle.s370_cpu.specs.declared.opcodes.Control.TheVariants.{InputOutput}
use Rattle.s370_cpu.specs.Fetch.{fetched, halfwords_of}
use Rattle.s370_cpu.specs.Execute.{executed}
use Rattle.s370_cpu.specs.Opcodes.{opcode_at}
use Rattle.s370_cpu.specs.Control.{control_named, named_block, storage_key_set, storage_key_inserted}
use Rattle.s370_cpu.specs.RegisterRows.{register_row}
use Rattle.s370_cpu.specs.FetchRows.{fetch_row}
use Rattle.s370_cpu.specs.StoreRows.{store_row}
use Rattle.s370_cpu.specs.Table.{row_named, row_of, unit}
use Rattle.s370_cpu.specs.Unit.{Ran, place_at, concluded, carried, unit_executed, unit_fetched}

-- ---- rows

abbrev IsStill : Completion → Left → Type 0
IsStill Done l = Unit {0}
IsStill (Branch a) l = Unit {0}
IsStill Again l = Unit {0}
IsStill (Interrupted code) l = (l.stores ≡ []) × (l.keyed ≡ None)
IsStill (Called n) l = (l.stores ≡ []) × (l.keyed ≡ None)
IsStill (Asked operation device) l = (l.stores ≡ []) × (l.keyed ≡ None)

abbrev LeavesStill : Result Left ProgramCode → Type 0
LeavesStill (Err code) = Unit {0}
LeavesStill (Ok l) = IsStill l.ending l

-- what changes registers alone is still, however it ends
still_over : (ending : Completion) (l : Left) → l.stores ≡ [] → l.keyed ≡ None → IsStill ending l
still_over Done l s k = tt
still_over (Branch a) l s k = tt
still_over Again l s k = tt
still_over (Interrupted code) l s k = (s, k)
still_over (Called n) l s k = (s, k)
still_over (Asked operation device) l s k = (s, k)

over_still : (e : Ended) → LeavesStill (Ok (over e))
over_still e = still_over e.ending (over e) refl refl

either_still : (b : Bool) (r s : Row) → LeavesStill r.leaves → LeavesStill s.leaves
    → LeavesStill (if b then r else s).leaves
either_still true r s h k = h
either_still false r s h k = k

result_still : (r : Result Ended ProgramCode) → LeavesStill (over_result r)
result_still (Ok e) = over_still e
result_still (Err code) = tt

number_still : (r : Result Ended ProgramCode) → LeavesStill (over_number r)
number_still (Ok e) = over_still e
number_still (Err code) = tt

-- what is done, or done in part, may have stored
part_still : (b : Bool) (x y : Cpu) (l : Left) → (let e : Ended = if b then (record { ending = Done; cpu = x }) else
    (record { ending = Again; cpu = y }) in IsStill e.ending l)
part_still true x y l = tt
part_still false x y l = tt

key_set_still : (m : State) (i : Instruction) (block : Result ℕ ProgramCode)
    → LeavesStill (storage_key_set m i block).leaves
key_set_still m i (Ok block) = tt
key_set_still m i (Err code) = tt

key_inserted_still : (m : State) (i : Instruction) (block : Result ℕ ProgramCode)
    → LeavesStill (storage_key_inserted m i block).leaves
key_inserted_still m i (Ok block) = tt
key_inserted_still m i (Err code) = tt

-- one line for each family of the table
control_still : (c : Control) (m : State) (i : Instruction) → LeavesStill (control_named c m i).leaves
control_still SetStorageKey m i = key_set_still m i (named_block m i)
control_still InsertStorageKey m i = key_inserted_still m i (named_block m i)
control_still SetSystemMask m i = tt
control_still LoadPsw m i = search (either_still)
control_still StoreThenAnd m i = tt
control_still StoreThenOr m i = tt
control_still StoreControl m i = search (either_still)
control_still LoadControl m i = search (either_still)
control_still (InputOutput operation) m i = (refl, refl)

fetch_still : (row : FetchRow) (m : State) (i : Instruction) → LeavesStill (fetch_row row m i).leaves
fetch_still (Word op) m i = over_still _
fetch_still (Halfword op) m i = over_still _
fetch_still MultiplyWord m i = search (either_still)
fetch_still MultiplyHalfword m i = tt
fetch_still DivideWord m i = search (either_still, result_still)
fetch_still ConvertToBinary m i = number_still _
fetch_still InsertCharacter m i = tt
fetch_still InsertCharacters m i = tt
fetch_still CompareCharacters m i = tt
fetch_still LoadMultiple m i = tt
fetch_still (TestByte test) m i = tt
fetch_still CompareStrings m i = tt
fetch_still ScanString m i = tt
fetch_still CompareLong m i = search (either_still, over_still)

store_still : (row : StoreRow) (m : State) (i : Instruction) → LeavesStill (store_row row m i).leaves
store_still StoreWord m i = tt
store_still StoreHalfword m i = tt
store_still StoreCharacter m i = tt
store_still StoreCharacters m i = tt
store_still StoreMultiple m i = tt
store_still ConvertToDecimal m i = tt
store_still (ChangeByte change) m i = tt
store_still SwapWord m i = search (either_still)
store_still SwapDoubleword m i = search (either_still)
store_still (CombineStrings op) m i = tt
store_still Translate m i = tt
store_still (LayOut layout) m i = tt
store_still MoveLong m i = search (either_still, over_still, part_still)

row_still : (op : Opcode) (m : State) (place : Place) (i : Instruction) → LeavesStill (row_named op m place i).leaves
row_still Invalid m place i = tt
row_still (Supervised c) m place i = either_still m.cpu.psw.problem (suppressed PrivilegedOperation)
    (control_named c m i) tt (control_still c m i)
row_still SupervisorCall m place i = (refl, refl)
row_still Execute m place i = tt
row_still (Computes row) m place i = result_still (register_row row m.cpu place i)
row_still (Fetches row) m place i = fetch_still row m i
row_still (Stores row) m place i = store_still row m i

-- ---- units

-- a unit that interrupts, or asks a device, has left the bytes and the keys as they were
abbrev pub StaysStill : State → Ran → Type 0
StaysStill m r = elim r.stop [
  | DoneStop ↦ Unit {0}
  | Program code ilc ↦ (r.state.bytes ≡ m.bytes) × (r.state.keys ≡ m.keys)
  | Svc n ilc ↦ (r.state.bytes ≡ m.bytes) × (r.state.keys ≡ m.keys)
  | AskedStop operation device ↦ (r.state.bytes ≡ m.bytes) × (r.state.keys ≡ m.keys)
  | Privileged i ilc ↦ Unit {0}
  | Absent page ↦ Unit {0}
]

ended_still : (m : State) (place : Place) (ending : Completion) (l : Left) → IsStill ending l
    → StaysStill m (concluded m place (outcome_of m (Ok (record l { ending = ending }))))
ended_still m place Done l h = tt
ended_still m place (Branch a) l h = tt
ended_still m place Again l h = tt
ended_still m place (Interrupted code) l h = rw (h.0, h.1) (refl, refl)
ended_still m place (Called n) l h = rw (h.0, h.1) (refl, refl)
ended_still m place (Asked operation device) l h = rw (h.0, h.1) (refl, refl)

concluded_still : (m : State) (place : Place) (r : Result Left ProgramCode) → LeavesStill r
    → StaysStill m (concluded m place (outcome_of m r))
concluded_still m place (Err code) h = (refl, refl)
concluded_still m place (Ok l) h = ended_still m place l.ending l h

unless_still : (o : Option ProgramCode) (r : Result Left ProgramCode) → LeavesStill r → LeavesStill (unless o r)
unless_still None r h = h
unless_still (Some code) r h = tt

pub carried_still : (m : State) (place : Place) (i : Instruction) → StaysStill m (carried row_of m place i).ran
carried_still m place i =
    let r = row_of m place i in
    concluded_still m place (judged m r) (unless_still r.refused (unless (fault_of m r.tests) r.leaves)
    (unless_still (fault_of m r.tests) r.leaves (row_still (opcode_at i.opcode) m place i)))

executed_still : (m : State) (ss : List (List Test)) (place : Place) (r : Result Instruction ProgramCode)
    → StaysStill m (unit_executed row_of m ss place r).ran
executed_still m ss place (Err code) = (refl, refl)
executed_still m ss place (Ok i) = carried_still m place i

fetched_still : (m : State) (ss : List (List Test)) (r : Result Instruction ProgramCode)
    → StaysStill m (unit_fetched row_of m ss r).ran
fetched_still m ss (Err code) = (refl, refl)
fetched_still m ss (Ok i) = let x = executed m i in executed_still m _ (place_at m (halfwords_of i.opcode)) x.result

-- A unit that is refused leaves the state as it was.
pub unit_still : (m : State) → StaysStill m (unit m).ran
unit_still m = let f = fetched m m.cpu.psw.address in fetched_still m f.stages f.result
