-- A typed line as it is in the script.
use Rattle.std.specs.Prelude.{◌-◌, ◌&&◌, not, if◌then◌else◌, ℕ, Bool, List, [], ◌++◌, length, map}
use Rattle.std.specs.Prelude.{take}
use Rattle.std.specs.Prelude.{codes}
use Rattle.std.specs.Str.{bytes_eq}
use Rattle.text_words.specs.Words.{after_first_word, unindented, word_of}
use Rattle.terminal_lines.specs.Words.{capital}

-- its first word is this one, whatever its letters are
abbrev pub begins_with : List ℕ → List ℕ → Bool
begins_with word line = bytes_eq (map capital (word_of (unindented line))) word

-- #CP asks for the control program
abbrev pub asks_cp : List ℕ → Bool
asks_cp line = begins_with (codes "#CP") line

-- the command of a line for the control program
abbrev pub command_of : List ℕ → List ℕ
command_of line = if asks_cp line then after_first_word line else line

-- the text of a message, after MSG and a name
abbrev pub message_of : List ℕ → List ℕ
message_of line =
    if begins_with (codes "MSG") (command_of line) then after_first_word (after_first_word (command_of line)) else []

-- a command is in capitals; what goes to a running machine, and the text of a message, stay as they
-- are
abbrev pub script_line : Bool → List ℕ → List ℕ
script_line is_running line =
    if is_running && not (asks_cp line) then line
    else map capital (take (length line - length (message_of line)) line) ++ message_of line
