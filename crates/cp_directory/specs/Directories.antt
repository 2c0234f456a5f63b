-- The directory that a text states, and the fault of another text.
use Rattle.std.specs.Prelude.{◌≡◌, ◌⊎◌, ℕ, ◌+◌, List, [], ◌∷◌, Result, Ok, Err}
use Rattle.text_words.specs.Lines.{lines_of, read_lines}
use Rattle.cp_directory.specs.Users.{DirectoryUser}
use Rattle.cp_directory.specs.Statements.{LineTakesMemory, line_placed}
use Rattle.cp_directory.specs.declared.faults.LineFault.{LineFault}
use Rattle.cp_directory.specs.declared.faults.LineFault.TheVariants as faults
use Rattle.cp_directory.specs.declared.faults.DirError.{DirError}
use Rattle.cp_directory.specs.declared.faults.DirError.TheVariants as errors
use Rattle.cp_directory.specs.declared.faults.StatementError.{StatementError}
use Rattle.cp_directory.specs.declared.faults.StatementError.TheVariants as lines

-- a fault with the number of its line
abbrev pub at_line : {A : Type 0} → ℕ → Result A LineFault → Result A (ℕ × LineFault)
at_line number (Ok a) = Ok a
at_line number (Err fault) = Err (number, fault)

-- the users after one more line, or that line and its first fault
abbrev pub directory_step : ℕ → List DirectoryUser → List ℕ
    → Result (List DirectoryUser) (ℕ × LineFault)
directory_step number users line = at_line number (line_placed number users line)

-- the users that a text states, or its first faulty line and the first fault of that line
abbrev pub directory_of : List ℕ → Result (List DirectoryUser) (ℕ × LineFault)
directory_of text = read_lines directory_step 1 [] (lines_of text)

-- a fault is reported with the number of its line
abbrev pub reported : ℕ → LineFault → DirError
reported number faults.UnknownStatement = errors.UnknownStatement number
reported number faults.Syntax = errors.Syntax number
reported number faults.DuplicateUser = errors.DuplicateUser number
reported number faults.DuplicateDevice = errors.DuplicateDevice number
reported number faults.BadStorage = errors.BadStorage number
reported number faults.BadExtent = errors.BadExtent number
reported number (faults.Overlap first) = errors.Overlap first number
reported number faults.TooMany = errors.TooMany number

-- why a directory is not read: a growth was refused, or its first faulty line has this fault first
abbrev pub IsRefusal : Result (List DirectoryUser) (ℕ × LineFault) → DirError → Type 0
IsRefusal directory errors.Memory = Unit {0}
IsRefusal directory (errors.UnknownStatement number) =
    directory ≡ Err (number, faults.UnknownStatement)
IsRefusal directory (errors.Syntax number) = directory ≡ Err (number, faults.Syntax)
IsRefusal directory (errors.DuplicateUser number) = directory ≡ Err (number, faults.DuplicateUser)
IsRefusal directory (errors.DuplicateDevice number) =
    directory ≡ Err (number, faults.DuplicateDevice)
IsRefusal directory (errors.BadStorage number) = directory ≡ Err (number, faults.BadStorage)
IsRefusal directory (errors.BadExtent number) = directory ≡ Err (number, faults.BadExtent)
IsRefusal directory (errors.Overlap first number) = directory ≡ Err (number, faults.Overlap first)
IsRefusal directory (errors.TooMany number) = directory ≡ Err (number, faults.TooMany)

-- a line that was read left these users, or was refused for this fault
abbrev pub Places : Result (List DirectoryUser) LineFault → List DirectoryUser
    → Result (Unit {0}) StatementError → Type 0
Places placed new (Ok done) = placed ≡ Ok new
Places placed new (Err lines.Memory) = Unit {0}
Places placed new (Err (lines.Fault fault)) = placed ≡ Err fault

-- memory may be refused at one of the lines that are left: it takes memory, and each line before it
-- is read
abbrev pub MayRefuseMemory : ℕ → List DirectoryUser → List (List ℕ) → Type 0
MayRefuseMemory number users [] = ⊥
MayRefuseMemory number users (line ∷ lines) = LineTakesMemory users line
    ⊎ ((next : List DirectoryUser) × (line_placed number users line ≡ Ok next)
    × MayRefuseMemory (number + 1) next lines)
