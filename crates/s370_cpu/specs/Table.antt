-- The instruction table, whole.
use Rattle.std.specs.Prelude.{◌≡◌, ℕ, true, false, Bool, [], None, Result}
use Rattle.s370_psw.specs.declared.ProgramCode.{ProgramCode}
use Rattle.s370_psw.specs.declared.ProgramCode.TheVariants.{Operation, Execute as ExecuteCode}
use Rattle.s370_rows.specs.declared.ending.Completion.TheVariants.{SupervisorCall as Called}
use Rattle.s370_rows.specs.declared.instruction.Instruction.{Instruction}
use Rattle.s370_rows.specs.declared.place.Place.{Place}
use Rattle.s370_rows.specs.State.{State}
use Rattle.s370_rows.specs.Registers.{Ended}
use Rattle.s370_rows.specs.Results.{over_result}
use Rattle.s370_rows.specs.Rows.{Row, unchecked, suppressed, unchanged}
use Rattle.s370_cpu.specs.declared.conclude.Stop.{Stop}
use Rattle.s370_cpu.specs.declared.conclude.Stop.TheVariants.{InputOutput, Privileged}
use Rattle.s370_cpu.specs.declared.opcodes.Opcode.{Opcode}
use Rattle.s370_cpu.specs.declared.opcodes.Opcode.TheVariants.{Invalid, Supervised, SupervisorCall}
use Rattle.s370_cpu.specs.declared.opcodes.Opcode.TheVariants.{Execute, Computes, Fetches, Stores}
use Rattle.s370_cpu.specs.declared.opcodes.RegisterRow.TheVariants.{Register, ShiftPair, ShiftWord}
use Rattle.s370_cpu.specs.declared.opcodes.FetchRow.TheVariants.{ConvertToBinary, Halfword, Word}
use Rattle.s370_rows.specs.declared.arithmetic.Arithmetic.{Arithmetic}
use Rattle.s370_rows.specs.declared.arithmetic.Arithmetic.TheVariants.{LoadPositive, LoadNegative}
use Rattle.s370_rows.specs.declared.arithmetic.Arithmetic.TheVariants.{LoadComplement, Add}
use Rattle.s370_rows.specs.declared.arithmetic.Arithmetic.TheVariants.{Subtract}
use Rattle.s370_rows.specs.declared.shift.Shift.TheVariants.{Left}
use Rattle.s370_cpu.specs.Opcodes.{opcode_at}
use Rattle.s370_cpu.specs.RegisterRows.{register_row}
use Rattle.s370_cpu.specs.FetchRows.{fetch_row}
use Rattle.s370_cpu.specs.StoreRows.{store_row}
use Rattle.s370_cpu.specs.Control.{control_row}
use Rattle.s370_cpu.specs.Unit.{Unit, Carries, MeetsUnit, place_at, carried, unit_over}

-- a row that accesses no storage
abbrev pub untested : Result Ended ProgramCode → Row
untested left = record { refused = None; tests = []; leaves = over_result left }

-- the row of each family, at a state and for an instruction at its place; EX has a row only as the
-- target of another
abbrev pub row_named : Opcode → State → Place → Instruction → Row
row_named Invalid m place i = suppressed Operation
row_named (Supervised c) m place i = control_row c m i
row_named SupervisorCall m place i = unchecked (unchanged m (Called i.second_byte))
row_named Execute m place i = suppressed ExecuteCode
row_named (Computes row) m place i = untested (register_row row m.cpu place i)
row_named (Fetches row) m place i = fetch_row row m i
row_named (Stores row) m place i = store_row row m i

-- the row of an instruction
abbrev pub row_of : State → Place → Instruction → Row
row_of m place i = row_named (opcode_at i.opcode) m place i

-- the unit at a state that is one instruction of this table, or the program interruption that comes
-- in its place
abbrev pub unit : State → Unit
unit m = unit_over row_of m

-- whether an operation code is for the supervisor state
abbrev pub is_supervised : Opcode → Bool
is_supervised (Supervised c) = true
is_supervised _ = false

-- whether the processor goes on after each instruction of an operation code that is carried out,
-- unless it overflows: those for the supervisor state, SVC and CVB are left out
abbrev pub is_steady : Opcode → Bool
is_steady (Supervised c) = false
is_steady SupervisorCall = false
is_steady (Fetches ConvertToBinary) = false
is_steady _ = true

-- whether an operation makes a signed number, which may not fit its register (the negative of LNR
-- always does)
abbrev pub is_signed : Arithmetic → Bool
is_signed LoadPositive = true
is_signed LoadNegative = true
is_signed LoadComplement = true
is_signed Add = true
is_signed Subtract = true
is_signed _ = false

-- whether an instruction of an operation code can overflow: GA22-7000, "Fixed-Point-Overflow
-- Exception"
abbrev pub may_overflow : Opcode → Bool
may_overflow (Computes (Register op)) = is_signed op
may_overflow (Computes (ShiftWord Left)) = true
may_overflow (Computes (ShiftPair Left)) = true
may_overflow (Fetches (Word op)) = is_signed op
may_overflow (Fetches (Halfword op)) = is_signed op
may_overflow _ = false

-- what `step` may answer: an instruction for the supervisor state is handed back after its fetch,
-- with nothing changed, so that no device is asked; every other instruction is the unit
abbrev pub MeetsStep : (ℕ → Bool) → State → Stop → State → Type 0
MeetsStep present old (Privileged i ilc) new =
    (new ≡ old) × (is_supervised (opcode_at i.opcode) ≡ true) × Carries old ilc i
MeetsStep present old (InputOutput operation device) new = ⊥
MeetsStep present old stop new = MeetsUnit (unit old) present old stop new

-- the rest of a unit whose instruction was handed back, with its length code
abbrev pub supervised : State → Instruction → ℕ → Unit
supervised m i ilc = carried row_of m (place_at m ilc) i
