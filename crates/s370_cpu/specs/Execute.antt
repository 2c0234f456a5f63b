-- EX: GA22-7000, "Execute".
use Rattle.std.specs.Prelude.{◌%◌, ◌==◌, if◌then◌else◌, bit_or, [], slice_index, Result, Ok, Err}
use Rattle.s370_psw.specs.declared.program.ProgramCode.{ProgramCode}
use Rattle.s370_rows.specs.declared.cpu.Cpu.{Cpu}
use Rattle.s370_rows.specs.declared.instruction.Instruction.{Instruction}
use Rattle.s370_rows.specs.Formats.{r1_of, r2_of, indexed_address}
use Rattle.s370_rows.specs.State.{State}
use Rattle.s370_cpu.specs.Fetch.{Fetched, fetched}

-- the target of EX, whose second byte is joined by OR with the last byte of register R1, where R1
-- is not 0
abbrev pub joined : Cpu → Instruction → Instruction → Instruction
joined cpu i target =
    if r1_of i == 0
    then target
    else record target {
      second_byte = bit_or target.second_byte
          (slice_index cpu.general (r1_of i) % 256);
    }

-- the target with bits of register R1 joined to its second byte
abbrev pub target_of : State → Instruction → Result Instruction ProgramCode
    → Result Instruction ProgramCode
target_of m i (Err code) = Err code
target_of m i (Ok target) = Ok (joined m.cpu i target)

-- the instruction that is carried out: the target of EX, which is fetched, else the instruction
-- itself
abbrev pub executed : State → Instruction → Fetched
executed m i =
    let f = fetched m (indexed_address m.cpu (r2_of i) i.second_half) in
    if i.opcode == 0x44 then record { stages = f.stages; result = target_of m i f.result }
    else record { stages = []; result = Ok i }
