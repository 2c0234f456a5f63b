-- The commands, by the words of their texts.
use Rattle.std.specs.Prelude.{ℕ, ◌+◌, ◌*◌, ◌^◌, ◌==◌, if◌then◌else◌, List, [], ◌∷◌, codes, Option}
use Rattle.std.specs.Prelude.{Some, None, Result, Ok, Err}
use Rattle.std.specs.Option.{option_map}
use Rattle.std.specs.Str.{bytes_eq}
use Rattle.text_words.specs.Words.{after_first_word, words_of}
use Rattle.cp_console.specs.Operands.{address_of, register_of, contents_of, bytes_of}
use Rattle.cp_console.specs.Reading.{operand, ended, keyword}
use Rattle.cp_console.specs.DeviceCommands.{device_command_named, message_text}
use Rattle.cp_console.specs.declared.commands.DisplayItem.{DisplayItem}
use Rattle.cp_console.specs.declared.commands.DisplayItem.TheVariants as places
use Rattle.cp_console.specs.declared.commands.Change.TheVariants as changes
use Rattle.cp_console.specs.declared.commands.Command.{Command}
use Rattle.cp_console.specs.declared.commands.Command.TheVariants.{Nothing, Logon, Logoff, Begin}
use Rattle.cp_console.specs.declared.commands.Command.TheVariants.{SystemReset, External, Display}
use Rattle.cp_console.specs.declared.commands.Command.TheVariants.{Store}
use Rattle.cp_console.specs.declared.commands.CommandError.{CommandError}
use Rattle.cp_console.specs.declared.commands.CommandError.TheVariants.{Operand}

-- `G` or `X` and a register's number, `K` and an address, or an address of storage
abbrev pub numbered_place : List ℕ → Option DisplayItem
numbered_place [] = None
numbered_place (c ∷ cs) =
    if c == 71 then option_map places.General (register_of cs)
    else if c == 88 then option_map places.Control (register_of cs)
    else if c == 75 then option_map places.Key (address_of cs)
    else option_map places.Storage (address_of (c ∷ cs))

-- what is displayed or changed: `PSW`, a register, a key or storage
abbrev pub place_of : List ℕ → Option DisplayItem
place_of word = if bytes_eq word (codes "PSW") then Some places.Psw else numbered_place word

-- `LOGON`
abbrev pub logon_of : List (List ℕ) → Result Command CommandError
logon_of words = ended 1 Logon words

-- `LOGOFF`
abbrev pub logoff_of : List (List ℕ) → Result Command CommandError
logoff_of words = ended 1 Logoff words

-- `SYSTEM RESET`
abbrev pub system_of : List (List ℕ) → Result Command CommandError
system_of words = operand 1 (keyword (codes "RESET")) words (λ word. ended 2 SystemReset)

-- `BEGIN`, which may name an address
abbrev pub begin_of : List (List ℕ) → Result Command CommandError
begin_of [] = Ok (Begin None)
begin_of (word ∷ words) =
    operand 1 address_of (word ∷ words) (λ address. ended 2 (Begin (Some address)))

-- `EXTERNAL`
abbrev pub external_of : List (List ℕ) → Result Command CommandError
external_of words = ended 1 External words

-- `DISPLAY` and a place
abbrev pub display_of : List (List ℕ) → Result Command CommandError
display_of words = operand 1 place_of words (λ place. ended 2 (Display place))

-- what a place is given: the PSW its two halves, a general register its contents, storage some
-- bytes from the address on; control registers and keys are not stored
abbrev pub change_of : DisplayItem → List (List ℕ) → Result Command CommandError
change_of places.Psw words =
    operand 2 contents_of words
    (λ left rest. operand 3 contents_of rest
    (λ right. ended 4 (Store (changes.Psw (left * 2 ^ 32 + right)))))
change_of (places.General register) words =
    operand 2 contents_of words (λ contents. ended 3 (Store (changes.General register contents)))
change_of (places.Control register) words = Err (Operand 1)
change_of (places.Key address) words = Err (Operand 1)
change_of (places.Storage address) words =
    operand 2 bytes_of words (λ bytes. ended 3 (Store (changes.Storage address bytes)))

-- `STORE`, a place and what it is given
abbrev pub store_of : List (List ℕ) → Result Command CommandError
store_of words = operand 1 place_of words change_of

-- by the first word, which is the command's name; the text is what a message with these operands
-- says
abbrev pub command_named : List ℕ → List (List ℕ) → List ℕ → Result Command CommandError
command_named name operands text =
    if bytes_eq name (codes "LOGON") then logon_of operands
    else if bytes_eq name (codes "LOGOFF") then logoff_of operands
    else if bytes_eq name (codes "BEGIN") then begin_of operands
    else if bytes_eq name (codes "SYSTEM") then system_of operands
    else if bytes_eq name (codes "EXTERNAL") then external_of operands
    else if bytes_eq name (codes "DISPLAY") then display_of operands
    else if bytes_eq name (codes "STORE") then store_of operands
    else device_command_named name operands text

-- by its words, and what a message with these words says; a text without a word asks for nothing
abbrev pub command_by : List (List ℕ) → List ℕ → Result Command CommandError
command_by [] text = Ok Nothing
command_by (name ∷ operands) text = command_named name operands text

-- the command that a text is, or why it is none
abbrev pub command_of : List ℕ → Result Command CommandError
command_of text = command_by (words_of text) (message_text (after_first_word text))
