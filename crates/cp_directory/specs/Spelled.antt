-- A statement of the program, as what it states.
use Rattle.std.specs.Prelude.{ℕ, ◌*◌, Result, Ok, Err}
use Rattle.cp_directory.specs.Sizes.{number}
use Rattle.cp_directory.specs.Statements as said
use Rattle.cp_directory.specs.Statements.{Stated}
use Rattle.cp_directory.specs.declared.faults.LineFault.{LineFault}
use Rattle.cp_directory.specs.declared.spelling.SizeUnit.{SizeUnit}
use Rattle.cp_directory.specs.declared.spelling.SizeUnit.TheVariants.{Kilobyte, Megabyte}
use Rattle.cp_directory.specs.declared.spelling.SpelledSize.{SpelledSize}
use Rattle.cp_directory.specs.declared.spelling.Statement.{Statement}
use Rattle.cp_directory.specs.declared.spelling.Statement.TheVariants.{User, Device, Minidisk}

-- the kilobytes of a unit
abbrev pub kilobytes_in : SizeUnit → ℕ
kilobytes_in Kilobyte = 1
kilobytes_in Megabyte = 1024

-- the kilobytes that are spelled
abbrev pub kilobytes : SpelledSize → ℕ
kilobytes size = number 0 size.digits.now * kilobytes_in size.unit

-- what a statement states
abbrev pub stated : Statement → Stated
stated (User name size) = said.User name (kilobytes size)
stated (Device kind address) = said.Device kind address
stated (Minidisk address extent) = said.Disk address extent

-- what is stated, or the fault
abbrev pub stated_result : Result Statement LineFault → Result Stated LineFault
stated_result (Ok statement) = Ok (stated statement)
stated_result (Err fault) = Err fault
