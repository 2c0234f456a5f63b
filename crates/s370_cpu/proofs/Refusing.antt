-- What an instruction for the supervisor state that interrupts, or asks a device, has changed: the instruction address
-- alone.
use Rattle.std.proofs.Common.{◌≡◌, ℕ, Bool, true, false, Option, Some, None, Result, Ok, Err, refl, subst}
use Rattle.std.specs.Prelude.{if◌then◌else◌}
use Rattle.s370_psw.specs.declared.ProgramCode.{ProgramCode}
use Rattle.s370_psw.specs.declared.ProgramCode.TheVariants.{PrivilegedOperation}
use Rattle.s370_rows.specs.declared.cpu.Cpu.{Cpu}
use Rattle.s370_rows.specs.declared.ending.Completion.{Completion}
use Rattle.s370_rows.specs.declared.ending.Completion.TheVariants.{Done, Branch, Again, Interrupted}
use Rattle.s370_rows.specs.declared.ending.Completion.TheVariants.{SupervisorCall as Called, InputOutput as Asked}
use Rattle.s370_rows.specs.declared.instruction.Instruction.{Instruction}
use Rattle.s370_rows.specs.declared.place.Place.{Place}
use Rattle.s370_rows.specs.State.{State}
use Rattle.s370_rows.specs.Rows.{Row, Left, judged, unless, outcome_of, suppressed, fault_of}
use Rattle.s370_cpu.specs.declared.conclude.Stop.TheVariants.{Done as DoneStop, Program, Svc, InputOutput as AskedStop}
use Rattle.s370_cpu.specs.declared.conclude.Stop.TheVariants.{Privileged, Absent}
use Rattle.s370_cpu.specs.declared.opcodes.Opcode.{Opcode}
use Rattle.s370_cpu.specs.declared.opcodes.Opcode.TheVariants.{Invalid, Supervised, SupervisorCall, Execute, Computes}
use Rattle.s370_cpu.specs.declared.opcodes.Opcode.TheVariants.{Fetches, Stores}
use Rattle.s370_cpu.specs.declared.opcodes.Control.{Control}
use Rattle.s370_cpu.specs.declared.opcodes.Control.TheVariants.{SetStorageKey, InsertStorageKey, SetSystemMask, LoadPsw}
use Rattle.s370_cpu.specs.declared.opcodes.Control.TheVariants.{StoreThenAnd, StoreThenOr, StoreControl, LoadControl}
use Rattle.s370_cpu.specs.declared.opcodes.Control.TheVariants.{InputOutput}
use Rattle.s370_cpu.specs.Opcodes.{opcode_at}
use Rattle.s370_cpu.specs.Control.{control_named, named_block, storage_key_set, storage_key_inserted}
use Rattle.s370_cpu.specs.Table.{is_supervised, row_named, row_of}
use Rattle.s370_cpu.specs.Unit.{Ran, at_address, place_at, concluded, carried}

-- ---- rows

-- the registers are as they were, unless the instruction is done
abbrev IsUndone : State → Completion → Left → Type 0
IsUndone m Done l = Unit {0}
IsUndone m (Branch a) l = Unit {0}
IsUndone m Again l = Unit {0}
IsUndone m (Interrupted code) l = l.cpu ≡ m.cpu
IsUndone m (Called n) l = l.cpu ≡ m.cpu
IsUndone m (Asked operation device) l = l.cpu ≡ m.cpu

abbrev LeavesUndone : State → Result Left ProgramCode → Type 0
LeavesUndone m (Err code) = Unit {0}
LeavesUndone m (Ok l) = IsUndone m l.ending l

either_undone : (m : State) (b : Bool) (r s : Row) → LeavesUndone m r.leaves → LeavesUndone m s.leaves
    → LeavesUndone m (if b then r else s).leaves
either_undone m true r s h k = h
either_undone m false r s h k = k

key_set_undone : (m : State) (i : Instruction) (block : Result ℕ ProgramCode)
    → LeavesUndone m (storage_key_set m i block).leaves
key_set_undone m i (Ok block) = tt
key_set_undone m i (Err code) = tt

key_inserted_undone : (m : State) (i : Instruction) (block : Result ℕ ProgramCode)
    → LeavesUndone m (storage_key_inserted m i block).leaves
key_inserted_undone m i (Ok block) = tt
key_inserted_undone m i (Err code) = tt

control_undone : (c : Control) (m : State) (i : Instruction) → LeavesUndone m (control_named c m i).leaves
control_undone SetStorageKey m i = key_set_undone m i (named_block m i)
control_undone InsertStorageKey m i = key_inserted_undone m i (named_block m i)
control_undone SetSystemMask m i = tt
control_undone LoadPsw m i = search (either_undone)
control_undone StoreThenAnd m i = tt
control_undone StoreThenOr m i = tt
control_undone StoreControl m i = search (either_undone)
control_undone LoadControl m i = search (either_undone)
control_undone (InputOutput operation) m i = refl

row_undone : (op : Opcode) (m : State) (place : Place) (i : Instruction) → is_supervised op ≡ true
    → LeavesUndone m (row_named op m place i).leaves
row_undone Invalid m place i e = cc
row_undone (Supervised c) m place i e = either_undone m m.cpu.psw.problem (suppressed PrivilegedOperation)
    (control_named c m i) tt (control_undone c m i)
row_undone SupervisorCall m place i e = cc
row_undone Execute m place i e = cc
row_undone (Computes row) m place i e = cc
row_undone (Fetches row) m place i e = cc
row_undone (Stores row) m place i e = cc

-- ---- units

-- the registers are as they were, but for the instruction address, where it interrupts or asks a device
abbrev pub MovesOn : State → Place → Ran → Type 0
MovesOn m place r = elim r.stop [
  | DoneStop ↦ Unit {0}
  | Program code ilc ↦ r.state.cpu ≡ at_address m.cpu place.next
  | Svc n ilc ↦ r.state.cpu ≡ at_address m.cpu place.next
  | AskedStop operation device ↦ r.state.cpu ≡ at_address m.cpu place.next
  | Privileged i ilc ↦ Unit {0}
  | Absent page ↦ Unit {0}
]

ended_undone : (m : State) (place : Place) (ending : Completion) (l : Left) → IsUndone m ending l
    → MovesOn m place (concluded m place (outcome_of m (Ok (record l { ending = ending }))))
ended_undone m place Done l h = tt
ended_undone m place (Branch a) l h = tt
ended_undone m place Again l h = tt
ended_undone m place (Interrupted code) l h = rw h refl
ended_undone m place (Called n) l h = rw h refl
ended_undone m place (Asked operation device) l h = rw h refl

concluded_undone : (m : State) (place : Place) (r : Result Left ProgramCode) → LeavesUndone m r
    → MovesOn m place (concluded m place (outcome_of m r))
concluded_undone m place (Err code) h = refl
concluded_undone m place (Ok l) h = ended_undone m place l.ending l h

unless_undone : (m : State) (o : Option ProgramCode) (r : Result Left ProgramCode) → LeavesUndone m r
    → LeavesUndone m (unless o r)
unless_undone m None r h = h
unless_undone m (Some code) r h = tt

-- A privileged instruction moves the address on or is refused.
pub supervised_moves_on : (m : State) (place : Place) (i : Instruction) → is_supervised (opcode_at i.opcode) ≡ true
    → MovesOn m place (carried row_of m place i).ran
supervised_moves_on m place i e =
    let r = row_of m place i in
    concluded_undone m place (judged m r) (unless_undone m r.refused (unless (fault_of m r.tests) r.leaves)
    (unless_undone m (fault_of m r.tests) r.leaves (row_undone (opcode_at i.opcode) m place i e)))
