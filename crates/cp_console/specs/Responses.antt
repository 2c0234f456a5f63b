-- The texts of responses, and which of them a console keeps.
use Rattle.std.specs.Prelude.{ℕ, ◌+◌, ◌*◌, ◌/◌, ◌%◌, ◌-◌, ◌^◌, Bool, true, false, List, ◌++◌, codes}
use Rattle.std.specs.Prelude.{decimal, length, replicate, slice_range}
use Rattle.std.specs.Int.{w32, from_be_bytes}
use Rattle.s370_num.specs.Address.{address_text, two_digits, word_text}
use Rattle.cp_console.specs.ConsoleLine.{characters_of}
use Rattle.cp_console.specs.declared.responses.Response.{Response}
use Rattle.cp_console.specs.declared.responses.Response.TheVariants.{LogonOk, LogoffOk}
use Rattle.cp_console.specs.declared.responses.Response.TheVariants.{AlreadyLoggedOn, NotLoggedOn}
use Rattle.cp_console.specs.declared.responses.Response.TheVariants.{SystemReset, Psw, General}
use Rattle.cp_console.specs.declared.responses.Response.TheVariants.{Control, Key, Storage, Stored}
use Rattle.cp_console.specs.declared.responses.Response.TheVariants.{AddressPastStorage}
use Rattle.cp_console.specs.declared.responses.Response.TheVariants.{UnknownCommand, BadOperand}
use Rattle.cp_console.specs.declared.responses.Response.TheVariants.{NoConsole, DeviceNotFound}
use Rattle.cp_console.specs.declared.responses.Response.TheVariants.{UserNotFound, UserNotLoggedOn}
use Rattle.cp_console.specs.declared.responses.Response.TheVariants.{Spooled, NoFile, FileClosed}
use Rattle.cp_console.specs.declared.responses.Response.TheVariants.{NoFiles, Users, Purged}
use Rattle.cp_console.specs.declared.responses.Response.TheVariants.{FileNotFound, Sent, IplFailed}
use Rattle.cp_console.specs.declared.responses.Response.TheVariants.{LineLost, StoppedDisabledWait}
use Rattle.cp_console.specs.declared.responses.Response.TheVariants.{StoppedEcMode, Written}

-- the word that four bytes are, from this one on
abbrev pub word_at : List ℕ → ℕ → ℕ
word_at bytes at = from_be_bytes w32 (slice_range bytes at (at + 4))

-- a PSW as two words
abbrev pub psw_text : ℕ → List ℕ
psw_text psw = codes "PSW " ++ word_text (psw / 2 ^ 32) ++ codes " " ++ word_text (psw % 2 ^ 32)

-- a general register's number and contents
abbrev pub general_text : ℕ → ℕ → List ℕ
general_text register contents = codes "GPR "
    ++ (decimal register ++ (codes " = " ++ word_text contents))

-- a control register's number and contents
abbrev pub control_text : ℕ → ℕ → List ℕ
control_text register contents = codes "CR "
    ++ (decimal register ++ (codes " = " ++ word_text contents))

-- the address rounded down to a multiple of 2048, and the five bits of the key of that block at the
-- left of a byte
abbrev pub key_text : ℕ → ℕ → List ℕ
key_text address key = codes "KEY "
    ++ (address_text (address / 2048 * 2048) ++ (codes " = " ++ two_digits (key * 8)))

-- the address rounded down to a multiple of sixteen, and the four words of storage there
abbrev pub storage_text : ℕ → List ℕ → List ℕ
storage_text address bytes =
    address_text (address / 16 * 16)
    ++ codes " " ++ word_text (word_at bytes 0) ++ codes " " ++ word_text (word_at bytes 4)
    ++ codes " " ++ word_text (word_at bytes 8) ++ codes " " ++ word_text (word_at bytes 12)

-- the place of a wrong, missing or surplus word
abbrev pub operand_text : ℕ → List ℕ
operand_text place = codes "BAD OPERAND " ++ decimal place

-- the number of a file, in at least four digits
abbrev pub file_number : ℕ → List ℕ
file_number file = replicate (4 - length (decimal file)) 48 ++ decimal file

-- the file that was closed
abbrev pub closed_text : ℕ → List ℕ
closed_text file = codes "FILE " ++ (file_number file ++ codes " CLOSED")

-- how many users are logged on
abbrev pub users_text : ℕ → List ℕ
users_text users = codes "USERS " ++ decimal users

-- a file's number, before the name of its sender
abbrev pub file_start : ℕ → List ℕ
file_start file = codes "FILE " ++ (file_number file ++ codes " FROM ")

-- a file, who sent it, and how many cards it has
abbrev pub file_text : ℕ → List ℕ → ℕ → List ℕ
file_text file sender cards = file_start file ++ (sender ++ (codes " CARDS " ++ decimal cards))

-- what another user says
abbrev pub told_text : List ℕ → List ℕ → List ℕ
told_text sender text = codes "MSG FROM " ++ (sender ++ (codes ": " ++ text))

-- what a response says
abbrev pub text_of : Response → List ℕ
text_of LogonOk = codes "LOGON OK"
text_of LogoffOk = codes "LOGOFF OK"
text_of AlreadyLoggedOn = codes "ALREADY LOGGED ON"
text_of NotLoggedOn = codes "NOT LOGGED ON"
text_of SystemReset = codes "SYSTEM RESET"
text_of (Psw psw) = psw_text psw
text_of (General register contents) = general_text register contents
text_of (Control register contents) = control_text register contents
text_of (Key address key) = key_text address key
text_of (Storage address bytes) = storage_text address bytes
text_of Stored = codes "STORED"
text_of AddressPastStorage = codes "ADDRESS PAST STORAGE"
text_of UnknownCommand = codes "UNKNOWN COMMAND"
text_of (BadOperand place) = operand_text place
text_of NoConsole = codes "NO CONSOLE"
text_of DeviceNotFound = codes "DEVICE NOT FOUND"
text_of UserNotFound = codes "USER NOT FOUND"
text_of UserNotLoggedOn = codes "USER NOT LOGGED ON"
text_of Spooled = codes "SPOOLED"
text_of NoFile = codes "NO FILE"
text_of (FileClosed file) = closed_text file
text_of NoFiles = codes "NO FILES"
text_of (Users users) = users_text users
text_of Purged = codes "PURGED"
text_of FileNotFound = codes "FILE NOT FOUND"
text_of Sent = codes "SENT"
text_of IplFailed = codes "IPL FAILED"
text_of LineLost = codes "LINE LOST"
text_of StoppedDisabledWait = codes "STOPPED DISABLED WAIT"
text_of StoppedEcMode = codes "STOPPED EC MODE"
text_of (Written line) = characters_of line

-- a console keeps displays, answers about storage, resets and loading, and notices, and not what
-- was said about the command, users or files
abbrev pub is_panel : Response → Bool
is_panel LogonOk = false
is_panel LogoffOk = false
is_panel AlreadyLoggedOn = false
is_panel NotLoggedOn = false
is_panel SystemReset = true
is_panel (Psw psw) = true
is_panel (General register contents) = true
is_panel (Control register contents) = true
is_panel (Key address key) = true
is_panel (Storage address bytes) = true
is_panel Stored = true
is_panel AddressPastStorage = true
is_panel UnknownCommand = false
is_panel (BadOperand place) = false
is_panel NoConsole = false
is_panel DeviceNotFound = false
is_panel UserNotFound = false
is_panel UserNotLoggedOn = false
is_panel Spooled = false
is_panel NoFile = false
is_panel (FileClosed file) = false
is_panel NoFiles = false
is_panel (Users users) = false
is_panel Purged = false
is_panel FileNotFound = false
is_panel Sent = false
is_panel IplFailed = true
is_panel LineLost = true
is_panel StoppedDisabledWait = true
is_panel StoppedEcMode = true
is_panel (Written line) = true
