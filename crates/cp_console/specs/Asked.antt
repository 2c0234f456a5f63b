-- What a line asks for.
use Rattle.std.specs.Prelude.{ℕ, if◌then◌else◌, List, [], ◌∷◌, codes}
use Rattle.std.specs.Str.{bytes_eq}
use Rattle.text_words.specs.Words.{after_first_word, words_of}
use Rattle.cp_console.specs.declared.lines.Asked as typed
use Rattle.cp_console.specs.declared.lines.Asked.TheVariants as lines

-- what a line asks for: to stop the machine, to obey a command, or what the state of the machine
-- decides
pub data Asked : Type 0 where
  Stop : Asked
  Command : List ℕ → Asked
  Plain : List ℕ → Asked

-- by the words of the line: the word `#CP` alone stops the machine, and what is after it is a
-- command
abbrev pub asked_by : List ℕ → List (List ℕ) → Asked
asked_by line [] = Plain line
asked_by line (first ∷ []) = if bytes_eq first (codes "#CP") then Stop else Plain line
asked_by line (first ∷ second ∷ more) = if bytes_eq first (codes "#CP")
    then Command (after_first_word line) else Plain line

-- what a line asks for
abbrev pub asked_of : List ℕ → Asked
asked_of line = asked_by line (words_of line)

-- the same of a line that the program holds, with its text as a list
abbrev pub asked : typed.Asked → Asked
asked lines.Stop = Stop
asked (lines.Command text) = Command text.now
asked (lines.Plain line) = Plain line.now
