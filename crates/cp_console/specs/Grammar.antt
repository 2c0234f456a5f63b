-- What it is for words to spell a command, and to be no command.
use Rattle.std.specs.Prelude.{◌≡◌, ℕ, ◌+◌, ◌*◌, ◌^◌, List, [], ◌∷◌, ◌++◌, length, codes, Option}
use Rattle.std.specs.Prelude.{Some, None, Result, Ok, Err}
use Rattle.text_words.specs.Words.{after_first_word, words_of}
use Rattle.cp_console.specs.Operands.{address_of, contents_of, bytes_of, device_of, file_of}
use Rattle.cp_console.specs.DeviceCommands.{message_text}
use Rattle.cp_console.specs.Commands.{command_of, place_of}
use Rattle.cp_console.specs.declared.commands.DisplayItem.{DisplayItem}
use Rattle.cp_console.specs.declared.commands.DisplayItem.TheVariants as places
use Rattle.cp_console.specs.declared.commands.Change.TheVariants as changes
use Rattle.cp_console.specs.declared.commands.Command.{Command}
use Rattle.cp_console.specs.declared.commands.Command.TheVariants.{Nothing, Logon, Logoff, Begin}
use Rattle.cp_console.specs.declared.commands.Command.TheVariants.{SystemReset, External, Display}
use Rattle.cp_console.specs.declared.commands.Command.TheVariants.{Store, Ipl, Device}
use Rattle.cp_console.specs.declared.device_commands.DeviceCommand.TheVariants.{QueryFiles}
use Rattle.cp_console.specs.declared.device_commands.DeviceCommand.TheVariants.{QueryUsers, Spool}
use Rattle.cp_console.specs.declared.device_commands.DeviceCommand.TheVariants.{Close, Purge}
use Rattle.cp_console.specs.declared.device_commands.DeviceCommand.TheVariants.{Message}
use Rattle.cp_console.specs.declared.commands.CommandError.{CommandError}
use Rattle.cp_console.specs.declared.commands.CommandError.TheVariants.{Memory, Unknown, Operand}

-- `BEGIN` and the word of an address
pub record SpellsBegin (words : List (List ℕ)) (address : ℕ) : Type 0 where
  pub word : List ℕ
  pub spelled : words ≡ codes "BEGIN" ∷ word ∷ []
  pub read : address_of word ≡ Some address

-- `DISPLAY` and the word of a place
pub record SpellsDisplay (words : List (List ℕ)) (place : DisplayItem) : Type 0 where
  pub word : List ℕ
  pub spelled : words ≡ codes "DISPLAY" ∷ word ∷ []
  pub read : place_of word ≡ Some place

-- `STORE PSW` and the two halves
pub record SpellsPsw (words : List (List ℕ)) (psw : ℕ) : Type 0 where
  pub word : List ℕ
  pub left : List ℕ
  pub right : List ℕ
  pub high : ℕ
  pub low : ℕ
  pub spelled : words ≡ codes "STORE" ∷ word ∷ left ∷ right ∷ []
  pub read : place_of word ≡ Some places.Psw
  pub left_read : contents_of left ≡ Some high
  pub right_read : contents_of right ≡ Some low
  pub joined : psw ≡ high * 2 ^ 32 + low

-- `STORE`, the word of a place and what the place is given, a word read by this rule
pub record SpellsStore {A : Type 0} (rule : List ℕ → Option A) (words : List (List ℕ))
    (place : DisplayItem) (given : A) : Type 0 where
  pub word : List ℕ
  pub digits : List ℕ
  pub spelled : words ≡ codes "STORE" ∷ word ∷ digits ∷ []
  pub read : place_of word ≡ Some place
  pub digits_read : rule digits ≡ Some given

-- this name and one operand, a word read by this rule
pub record SpellsOperand {A : Type 0} (name : List ℕ) (rule : List ℕ → Option A)
    (words : List (List ℕ)) (operand : A) : Type 0 where
  pub word : List ℕ
  pub spelled : words ≡ name ∷ word ∷ []
  pub read : rule word ≡ Some operand

-- `SPOOL`, the word of a device, `TO` and a name
pub record SpellsSpool (words : List (List ℕ)) (device : ℕ) (name : List ℕ) : Type 0 where
  pub word : List ℕ
  pub spelled : words ≡ codes "SPOOL" ∷ word ∷ codes "TO" ∷ name ∷ []
  pub read : device_of word ≡ Some device

-- `MSG`, a name, and a text that has a word: it is all that follows the name
pub record SpellsMessage (words : List (List ℕ)) (following : List ℕ) (name : List ℕ)
    (text : List ℕ) : Type 0 where
  pub word : List ℕ
  pub more : List (List ℕ)
  pub spelled : words ≡ codes "MSG" ∷ name ∷ word ∷ more
  pub said : text ≡ following

-- the words spell a command; `following` is what follows the second of them, from its first
-- character that is no blank
abbrev pub Spells : List (List ℕ) → List ℕ → Command → Type 0
Spells words following Nothing = words ≡ []
Spells words following Logon = words ≡ codes "LOGON" ∷ []
Spells words following Logoff = words ≡ codes "LOGOFF" ∷ []
Spells words following (Begin None) = words ≡ codes "BEGIN" ∷ []
Spells words following (Begin (Some address)) = SpellsBegin words address
Spells words following SystemReset = words ≡ codes "SYSTEM" ∷ codes "RESET" ∷ []
Spells words following External = words ≡ codes "EXTERNAL" ∷ []
Spells words following (Display place) = SpellsDisplay words place
Spells words following (Store (changes.Psw psw)) = SpellsPsw words psw
Spells words following (Store (changes.General register contents)) =
    SpellsStore contents_of words (places.General register) contents
Spells words following (Store (changes.Storage address bytes)) =
    SpellsStore bytes_of words (places.Storage address) bytes
Spells words following (Ipl device) = SpellsOperand (codes "IPL") device_of words device
Spells words following (Device QueryFiles) = words ≡ codes "QUERY" ∷ codes "FILES" ∷ []
Spells words following (Device QueryUsers) = words ≡ codes "QUERY" ∷ codes "USERS" ∷ []
Spells words following (Device (Spool device name)) = SpellsSpool words device name
Spells words following (Device (Close device)) =
    SpellsOperand (codes "CLOSE") device_of words device
Spells words following (Device (Purge file)) = SpellsOperand (codes "PURGE") file_of words file
Spells words following (Device (Message name text)) = SpellsMessage words following name text

-- the words begin a command: with some words after them they spell one
pub record Begins (words : List (List ℕ)) : Type 0 where
  pub rest : List (List ℕ)
  pub following : List ℕ
  pub command : Command
  pub whole : Spells (words ++ rest) following command

-- no command has this first word
pub record IsUnknown (words : List (List ℕ)) : Type 0 where
  pub name : List ℕ
  pub operands : List (List ℕ)
  pub split : words ≡ name ∷ operands
  pub unknown : Begins (name ∷ []) → ⊥

-- these words go no further: alone they spell no command, or with the next word they begin none
abbrev pub Stops : List (List ℕ) → List (List ℕ) → Type 0
Stops front [] = (following : List ℕ) (command : Command) → Spells front following command → ⊥
Stops front (word ∷ more) = Begins (front ++ word ∷ []) → ⊥

-- the name and the operands before this place begin a command, and the word at the place is wrong,
-- missing or surplus
pub record IsFirstWrong (words : List (List ℕ)) (place : ℕ) : Type 0 where
  pub front : List (List ℕ)
  pub after : List (List ℕ)
  pub split : words ≡ front ++ after
  pub counted : length front ≡ place
  pub begins : Begins front
  pub stops : Stops front after

-- what an answer says of the words, and of what follows the second of them
abbrev pub Tells : List (List ℕ) → List ℕ → Result Command CommandError → Type 0
Tells words following (Ok command) = Spells words following command
Tells words following (Err Memory) = ⊥
Tells words following (Err Unknown) = IsUnknown words
Tells words following (Err (Operand place)) = IsFirstWrong words place

-- what follows the second word of a text, from its first character that is no blank
abbrev pub following_of : List ℕ → List ℕ
following_of text = message_text (after_first_word text)

-- each text is read as what its words spell, and refused by its first wrong word where they spell
-- nothing
abbrev pub ReadsGrammar : Type 0
ReadsGrammar = (text : List ℕ) →
    Tells (words_of text) (following_of text) (command_of text)
    × ((command : Command) → Spells (words_of text) (following_of text) command
    → command_of text ≡ Ok command)
