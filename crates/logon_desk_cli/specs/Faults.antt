-- What the program says of a failure, and its exit status.
use Rattle.std.specs.Prelude.{ℕ, List, codes}
use Rattle.std.specs.declared.io.ErrorKind.{ErrorKind}
use Rattle.std.specs.declared.io.ErrorKind.TheVariants.{OutOfMemory}
use Rattle.logon_desk_cli.specs.declared.faults.DeskFailure.{DeskFailure}
use Rattle.logon_desk_cli.specs.declared.faults.DeskFailure.TheVariants.{File, Memory, Usage}

-- a file fails for memory, or by itself
abbrev pub io_failure : ErrorKind → DeskFailure
io_failure OutOfMemory = Memory
io_failure _ = File

-- the line of a failure
abbrev pub fault_text : DeskFailure → List ℕ
fault_text File = codes "fault: file Device 1"
fault_text Memory = codes "fault: memory Memory"
fault_text Usage = codes "wrong words"

-- a wrong use is 2, a file that failed 3, memory 4
abbrev pub status_of : DeskFailure → ℕ
status_of File = 3
status_of Memory = 4
status_of Usage = 2
