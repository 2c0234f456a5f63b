-- How the words of a command are read, one after another.
use Rattle.std.specs.Prelude.{ℕ, if◌then◌else◌, List, [], ◌∷◌, Option, Some, None, Result, Ok, Err}
use Rattle.std.specs.Str.{bytes_eq}
use Rattle.cp_console.specs.declared.commands.Command.{Command}
use Rattle.cp_console.specs.declared.commands.CommandError.{CommandError}
use Rattle.cp_console.specs.declared.commands.CommandError.TheVariants.{Operand}

-- what follows an operand that was read; one that was not is reported by its place
abbrev pub operand_read : {A : Type 0} → ℕ → Option A → (A → Result Command CommandError)
    → Result Command CommandError
operand_read place None next = Err (Operand place)
operand_read place (Some a) next = next a

-- the word at this place is an operand by this rule, and the words after it are read next; a
-- missing word is reported by its place
abbrev pub operand : {A : Type 0} → ℕ → (List ℕ → Option A) → List (List ℕ)
    → (A → List (List ℕ) → Result Command CommandError) → Result Command CommandError
operand place rule [] next = Err (Operand place)
operand place rule (word ∷ words) next = operand_read place (rule word) (λ a. next a words)

-- no word is left; a surplus one is reported by its place
abbrev pub ended : ℕ → Command → List (List ℕ) → Result Command CommandError
ended place command [] = Ok command
ended place command (word ∷ words) = Err (Operand place)

-- this word and no other
abbrev pub keyword : List ℕ → List ℕ → Option (List ℕ)
keyword wanted word = if bytes_eq word wanted then Some word else None
