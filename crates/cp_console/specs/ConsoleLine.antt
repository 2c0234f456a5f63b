-- A line that a program, or another user, wrote on a console.
use Rattle.std.specs.Prelude.{ℕ, List, take}
use Rattle.cp_console.specs.declared.console_line.ConsoleLine.{ConsoleLine}

-- the characters of a line
abbrev pub characters_of : ConsoleLine → List ℕ
characters_of line = take line.length line.characters
