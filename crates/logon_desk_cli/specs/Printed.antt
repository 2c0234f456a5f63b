-- The lines that the program writes.
use Rattle.std.specs.Prelude.{ℕ, ◌+◌, ◌-◌, ◌/◌, ◌%◌, if◌then◌else◌, nat_lt, List, [], ◌∷◌, ◌++◌}
use Rattle.std.specs.Prelude.{codes, Option, Some, None}
use Rattle.logon_desk.specs.declared.output.JournalEntry.{JournalEntry}
use Rattle.logon_desk.specs.declared.output.JournalEntry.TheVariants.{LogsOn, IsBack, Leaves}
use Rattle.logon_desk.specs.declared.output.JournalEntry.TheVariants.{WrongPassword}
use Rattle.logon_desk.specs.declared.output.Notice.{Notice}
use Rattle.logon_desk.specs.declared.output.Notice.TheVariants.{EnterPassword, IsThere, NoPassword}
use Rattle.logon_desk.specs.declared.output.Notice.TheVariants.{Online}
use Rattle.logon_desk.specs.declared.output.Notice.TheVariants.{PasswordTaken, Reconnected, Refused}
use Rattle.logon_desk.specs.declared.output.Notice.TheVariants.{TakesOver}
use Rattle.logon_desk.specs.declared.output.Notice.TheVariants.{TooLate, TypeLogon}
use Rattle.logon_desk.specs.declared.output.DeskAction.{DeskAction}
use Rattle.logon_desk.specs.declared.output.DeskAction.TheVariants.{Says, Declines}
use Rattle.logon_desk.specs.declared.output.DeskAction.TheVariants.{Shows, ShowsAgain}
use Rattle.logon_desk.specs.declared.output.DeskAction.TheVariants.{Types}
use Rattle.logon_desk.specs.declared.output.DeskAction.TheVariants.{Asks, Ends, Notes}

-- a hexadecimal digit: 0 to 9, and A to F
abbrev pub hex_digit : ℕ → ℕ
hex_digit value = if nat_lt value 10 then 48 + value else 65 + (value - 10)

-- two hexadecimal digits for each byte
abbrev pub hex : List ℕ → List ℕ
hex [] = []
hex (byte ∷ bytes) = hex_digit (byte / 16) ∷ hex_digit (byte % 16) ∷ hex bytes

-- a number as four hexadecimal digits
abbrev pub hex_number : ℕ → List ℕ
hex_number number = hex (number / 256 % 256 ∷ number % 256 ∷ [])

-- bytes in hexadecimal, and a hyphen for none
abbrev pub hex_or_hyphen : List ℕ → List ℕ
hex_or_hyphen [] = codes "-"
hex_or_hyphen (byte ∷ bytes) = hex (byte ∷ bytes)

-- a blank, and then the bytes
abbrev pub field : List ℕ → List ℕ
field bytes = 32 ∷ hex_or_hyphen bytes

-- a word and a number
abbrev pub begun : List ℕ → ℕ → List ℕ
begun word number = word ++ 32 ∷ hex_number number

-- a line: a word, a number and what follows
abbrev pub line : List ℕ → ℕ → List ℕ → List ℕ
line word number fields = begun word number ++ (fields ++ 10 ∷ [])

-- CR and LF, which end a line at a terminal
abbrev pub end_of_line : List ℕ
end_of_line = 13 ∷ 10 ∷ []

-- the desk's own texts; telnet's WILL ECHO and WONT ECHO are around a password
abbrev pub notice_text : Notice → List ℕ
notice_text Online = codes "GATHJUMLI ONLINE: TYPE LOGON NAME" ++ end_of_line
notice_text TypeLogon = codes "TYPE LOGON NAME, AND THEN THE PASSWORD" ++ end_of_line
notice_text EnterPassword = codes "ENTER PASSWORD:" ++ end_of_line ++ 255 ∷ 251 ∷ 1 ∷ []
notice_text PasswordTaken = 255 ∷ 252 ∷ 1 ∷ []
notice_text NoPassword = 255 ∷ 252 ∷ 1 ∷ [] ++ codes "THAT IS NO PASSWORD: TYPE LOGON NAME"
    ++ end_of_line
notice_text Refused = codes "LOGON REFUSED" ++ end_of_line
notice_text TooLate = codes "TOO LATE" ++ end_of_line
notice_text Reconnected = codes "RECONNECTED" ++ end_of_line
notice_text TakesOver = codes "ANOTHER TERMINAL TAKES OVER" ++ end_of_line
notice_text IsThere = codes "[YES]" ++ end_of_line

-- the user of an entry, and a hyphen if nobody has the name that was given
abbrev pub user_text : Option ℕ → List ℕ
user_text None = codes "-"
user_text (Some user) = hex_number user

-- a line for the journal
abbrev pub entry_line : List ℕ → Option ℕ → ℕ → List ℕ
entry_line word user connection = line (codes "NOTE") connection (32 ∷ word ++ 32 ∷ user_text user)

-- the line of an entry of the journal
abbrev pub noted : JournalEntry → List ℕ
noted (LogsOn user connection) = entry_line (codes "LOGS") (Some user) connection
noted (IsBack user connection) = entry_line (codes "BACK") (Some user) connection
noted (Leaves user connection) = entry_line (codes "LEFT") (Some user) connection
noted (WrongPassword user connection) = entry_line (codes "FAIL") user connection

-- the line for one thing that is to be done
abbrev pub output_line : DeskAction → List ℕ
output_line (Says connection notice) = line (codes "GIVE") connection (field (notice_text notice))
output_line (Declines connection command option) = line (codes "GIVE") connection
    (field (255 ∷ command ∷ option ∷ []))
output_line (Shows connection user text) = line (codes "GIVE") connection
    (field (text ++ end_of_line))
output_line (ShowsAgain connection user kept) = line (codes "BACK") connection
    (field kept.minute ++ field kept.text)
output_line (Types user text) = line (codes "TYPE") user (field text)
output_line (Asks connection guess) = line (codes "ASKS") connection
    (field guess.name ++ field guess.password)
output_line (Ends connection) = line (codes "ENDS") connection []
output_line (Notes entry) = noted entry

-- the lines for all that is to be done, in order
abbrev pub printed : List DeskAction → List ℕ
printed [] = []
printed (output ∷ outputs) = output_line output ++ printed outputs
