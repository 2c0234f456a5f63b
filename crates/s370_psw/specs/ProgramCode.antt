-- The causes of program interruptions and their numbers (GA22-7000, "Program Interruption").
use Rattle.std.specs.Prelude.{ℕ, List, codes}
use Rattle.s370_psw.specs.declared.program.ProgramCode.{ProgramCode}
use Rattle.s370_psw.specs.declared.program.ProgramCode.TheVariants.{Operation, PrivilegedOperation}
use Rattle.s370_psw.specs.declared.program.ProgramCode.TheVariants.{Execute, Protection, Addressing}
use Rattle.s370_psw.specs.declared.program.ProgramCode.TheVariants.{Specification, Data}
use Rattle.s370_psw.specs.declared.program.ProgramCode.TheVariants.{FixedPointOverflow}
use Rattle.s370_psw.specs.declared.program.ProgramCode.TheVariants.{FixedPointDivide}

-- the number that is stored as interruption code
abbrev pub program_number : ProgramCode → ℕ
program_number Operation = 1
program_number PrivilegedOperation = 2
program_number Execute = 3
program_number Protection = 4
program_number Addressing = 5
program_number Specification = 6
program_number Data = 7
program_number FixedPointOverflow = 8
program_number FixedPointDivide = 9

-- its name in messages
abbrev pub program_name : ProgramCode → List ℕ
program_name Operation = codes "operation"
program_name PrivilegedOperation = codes "privileged operation"
program_name Execute = codes "execute"
program_name Protection = codes "protection"
program_name Addressing = codes "addressing"
program_name Specification = codes "specification"
program_name Data = codes "data"
program_name FixedPointOverflow = codes "fixed-point overflow"
program_name FixedPointDivide = codes "fixed-point divide"
