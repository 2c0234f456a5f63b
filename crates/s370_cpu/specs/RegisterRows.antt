-- The rows that access no storage: what they leave of the registers, or what refuses them.
use Rattle.std.specs.Prelude.{ℕ, ◌%◌, ◌==◌, not, true, Bool, if◌then◌else◌, slice_index, Result, Ok}
use Rattle.std.specs.Prelude.{Err}
use Rattle.s370_psw.specs.declared.ProgramCode.{ProgramCode}
use Rattle.s370_psw.specs.declared.ProgramCode.TheVariants.{Specification}
use Rattle.s370_rows.specs.declared.cpu.Cpu.{Cpu}
use Rattle.s370_rows.specs.declared.instruction.Instruction.{Instruction}
use Rattle.s370_rows.specs.declared.place.Place.{Place}
use Rattle.s370_rows.specs.Branches.{counted_branch, conditional_branch, linked_branch}
use Rattle.s370_rows.specs.Branches.{index_branch}
use Rattle.s370_rows.specs.Formats.{r1_of, r2_of, based_address, indexed_address}
use Rattle.s370_rows.specs.Load.{program_mask_set, address_loaded}
use Rattle.s370_rows.specs.Product.{multiplied, quotient_left}
use Rattle.s370_rows.specs.Registers.{Ended, arithmetic}
use Rattle.s370_rows.specs.Shift.{word_shifted, pair_shifted}
use Rattle.s370_cpu.specs.declared.opcodes.Branching.{Branching}
use Rattle.s370_cpu.specs.declared.opcodes.Branching.TheVariants.{Count, Condition, Link}
use Rattle.s370_cpu.specs.declared.opcodes.RegisterRow.{RegisterRow}
use Rattle.s370_cpu.specs.declared.opcodes.RegisterRow.TheVariants.{SetProgramMask, Register}
use Rattle.s370_cpu.specs.declared.opcodes.RegisterRow.TheVariants.{Multiply, Divide, LoadAddress}
use Rattle.s370_cpu.specs.declared.opcodes.RegisterRow.TheVariants.{ShiftWord, ShiftPair}
use Rattle.s370_cpu.specs.declared.opcodes.RegisterRow.TheVariants.{BranchRegister, BranchTo}
use Rattle.s370_cpu.specs.declared.opcodes.RegisterRow.TheVariants.{BranchOnIndex}

-- BCT, BC, BAL and their forms with a register; may says whether there is an address to branch to
abbrev pub branched : Branching → Cpu → Place → Instruction → Bool → ℕ → Ended
branched Count cpu place i may target = counted_branch cpu (r1_of i) may target
branched Condition cpu place i may target = conditional_branch cpu (r1_of i) may target
branched Link cpu place i may target = linked_branch cpu place (r1_of i) may target

-- a pair of registers is named by the even one: GA22-7000, "Specification Exception"
abbrev pub with_even : ℕ → Result Ended ProgramCode → Result Ended ProgramCode
with_even r left = if r % 2 == 0 then left else Err Specification

-- by how many bits a shift is: the last six of its second operand's address
abbrev pub shift_count : Cpu → Instruction → ℕ
shift_count cpu i = based_address cpu i.second_half % 64

-- one line for each family
abbrev pub register_row : RegisterRow → Cpu → Place → Instruction → Result Ended ProgramCode
register_row SetProgramMask cpu place i = Ok (program_mask_set cpu (r1_of i))
register_row (Register op) cpu place i =
    Ok (arithmetic op cpu (r1_of i) (slice_index cpu.general (r2_of i)))
register_row Multiply cpu place i =
    with_even (r1_of i) (Ok (multiplied cpu (r1_of i) (slice_index cpu.general (r2_of i))))
register_row Divide cpu place i =
    with_even (r1_of i) (quotient_left cpu (r1_of i) (slice_index cpu.general (r2_of i)))
register_row LoadAddress cpu place i =
    Ok (address_loaded cpu (r1_of i) (indexed_address cpu (r2_of i) i.second_half))
register_row (ShiftWord op) cpu place i = Ok (word_shifted op cpu (r1_of i) (shift_count cpu i))
register_row (ShiftPair op) cpu place i =
    with_even (r1_of i) (Ok (pair_shifted op cpu (r1_of i) (shift_count cpu i)))
register_row (BranchRegister b) cpu place i =
    Ok (branched b cpu place i (not (r2_of i == 0)) (slice_index cpu.general (r2_of i)))
register_row (BranchTo b) cpu place i =
    Ok (branched b cpu place i true (indexed_address cpu (r2_of i) i.second_half))
register_row (BranchOnIndex b) cpu place i =
    Ok (index_branch b cpu (r1_of i) (r2_of i) (based_address cpu i.second_half))
