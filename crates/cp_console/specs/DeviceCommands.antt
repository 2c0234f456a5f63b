-- The commands that concern devices, their files and other users, by the words of their texts.
use Rattle.std.specs.Prelude.{ℕ, if◌then◌else◌, List, [], ◌∷◌, codes, Some, Result, Ok, Err}
use Rattle.std.specs.Str.{bytes_eq}
use Rattle.text_words.specs.Words.{after_first_word, unindented}
use Rattle.cp_console.specs.Operands.{device_of, file_of}
use Rattle.cp_console.specs.Reading.{operand, ended, keyword}
use Rattle.cp_console.specs.declared.commands.Command.{Command}
use Rattle.cp_console.specs.declared.commands.Command.TheVariants.{Ipl, Device}
use Rattle.cp_console.specs.declared.commands.CommandError.{CommandError}
use Rattle.cp_console.specs.declared.commands.CommandError.TheVariants.{Unknown, Operand}
use Rattle.cp_console.specs.declared.device_commands.DeviceCommand.TheVariants.{QueryFiles}
use Rattle.cp_console.specs.declared.device_commands.DeviceCommand.TheVariants.{QueryUsers, Spool}
use Rattle.cp_console.specs.declared.device_commands.DeviceCommand.TheVariants.{Close, Purge}
use Rattle.cp_console.specs.declared.device_commands.DeviceCommand.TheVariants.{Message}

-- `IPL` and a device
abbrev pub ipl_of : List (List ℕ) → Result Command CommandError
ipl_of words = operand 1 device_of words (λ device. ended 2 (Ipl device))

-- `QUERY FILES` or `QUERY USERS`
abbrev pub query_of : List (List ℕ) → Result Command CommandError
query_of [] = Err (Operand 1)
query_of (word ∷ words) =
    if bytes_eq word (codes "FILES") then ended 2 (Device QueryFiles) words
    else if bytes_eq word (codes "USERS") then ended 2 (Device QueryUsers) words
    else Err (Operand 1)

-- `SPOOL`, a device, `TO` and a name, which is any word
abbrev pub spool_of : List (List ℕ) → Result Command CommandError
spool_of words =
    operand 1 device_of words
    (λ device rest. operand 2 (keyword (codes "TO")) rest
    (λ to more. operand 3 Some more (λ name. ended 4 (Device (Spool device name)))))

-- `CLOSE` and a device
abbrev pub close_of : List (List ℕ) → Result Command CommandError
close_of words = operand 1 device_of words (λ device. ended 2 (Device (Close device)))

-- `PURGE` and the number of a file
abbrev pub purge_of : List (List ℕ) → Result Command CommandError
purge_of words = operand 1 file_of words (λ file. ended 2 (Device (Purge file)))

-- the text of a message: what follows the name, the first of these operands, from its first
-- character that is no blank
abbrev pub message_text : List ℕ → List ℕ
message_text operands = unindented (after_first_word operands)

-- `MSG`, a name, which is any word, and a text, which is the rest of the line with its blanks and
-- has a word
abbrev pub message_of : List (List ℕ) → List ℕ → Result Command CommandError
message_of [] text = Err (Operand 1)
message_of (name ∷ []) text = Err (Operand 2)
message_of (name ∷ word ∷ words) text = Ok (Device (Message name text))

-- by the command's name; the text is what a message with these operands says
abbrev pub device_command_named : List ℕ → List (List ℕ) → List ℕ → Result Command CommandError
device_command_named name operands text =
    if bytes_eq name (codes "IPL") then ipl_of operands
    else if bytes_eq name (codes "QUERY") then query_of operands
    else if bytes_eq name (codes "SPOOL") then spool_of operands
    else if bytes_eq name (codes "CLOSE") then close_of operands
    else if bytes_eq name (codes "PURGE") then purge_of operands
    else if bytes_eq name (codes "MSG") then message_of operands text
    else Err Unknown
