-- The lines of the files that were closed for the operator, by their numbers.
use Rattle.std.specs.Prelude.{ℕ, ◌+◌, List, [], ◌∷◌, ◌++◌, codes, drop, map, slice_get, Option}
use Rattle.std.specs.Prelude.{Some, None}
use Rattle.s370_num.specs.Address.{two_digits}
use Rattle.s370_num.specs.Ebcdic.{printable_of}
use Rattle.unit_record.specs.Output.{EntryValue, FileValue}
use Rattle.unit_record.specs.declared.output.Target.{Target}
use Rattle.unit_record.specs.declared.output.Target.TheVariants as targets
use Rattle.user_names.specs.Users.{name_of}
use Rattle.cp_console.specs.Responses.{file_number}
use Rattle.machine_devices.specs.declared.files.FileKind.{FileKind}
use Rattle.machine_devices.specs.declared.files.FileKind.TheVariants as kinds
use Rattle.machine_devices.specs.declared.files.FileNote.{FileNote}
use Rattle.sessions.specs.declared.files.Telling.{Telling}
use Rattle.sessions.specs.declared.files.Telling.TheVariants as tellings
use Rattle.sessions.specs.Installed.{Installed, names_of, user_at}

-- ---- the lines of a file

-- the bytes as they print
abbrev pub printed_text : List ℕ → List ℕ
printed_text bytes = map printable_of bytes

-- a card; of a printer the code of the command, and what it printed
abbrev pub entry_line : FileKind → EntryValue → List ℕ
entry_line (kinds.Printer place) entry = two_digits entry.code ++ 32 ∷ printed_text entry.bytes
entry_line (kinds.Punch place) entry = printed_text entry.bytes
entry_line kinds.Deck entry = printed_text entry.bytes

-- the word for the kind of a file
abbrev pub kind_word : FileKind → List ℕ
kind_word (kinds.Printer place) = codes "PRT"
kind_word (kinds.Punch place) = codes "PUN"
kind_word kinds.Deck = []

-- `== PRT 0001 A`, or `== PUN 0001 A`
abbrev pub heading : FileKind → ℕ → List ℕ → List ℕ
heading kind number name = codes "== " ++ kind_word kind ++ codes " " ++ file_number number
    ++ codes " " ++ name

-- what is before a heading and before an entry: in a transcript nothing
abbrev pub heading_mark : Telling → List ℕ
heading_mark tellings.Transcript = []
heading_mark tellings.Answer = codes "> "

-- what is before an entry
abbrev pub entry_mark : Telling → List ℕ
entry_mark tellings.Transcript = []
entry_mark tellings.Answer = codes "> |"

-- the heading of a file
abbrev pub heading_line : Telling → FileKind → ℕ → List ℕ → List ℕ
heading_line telling kind number name = heading_mark telling ++ heading kind number name

-- the line of an entry
abbrev pub marked_entry : Telling → FileKind → EntryValue → List ℕ
marked_entry telling kind entry = entry_mark telling ++ entry_line kind entry

-- a file that is for the operator
abbrev pub lines_for : Telling → Target → FileKind → ℕ → List ℕ → List EntryValue → List (List ℕ)
lines_for telling targets.System kind number name entries =
    heading_line telling kind number name ∷ map (marked_entry telling kind) entries
lines_for telling (targets.User user) kind number name entries = []

-- the lines of a closed file
abbrev pub file_lines : Telling → FileKind → ℕ → List ℕ → FileValue → List (List ℕ)
file_lines telling kind number name file =
    lines_for telling file.target kind number name file.entries

-- where there is one
abbrev pub found_lines : Telling → FileKind → ℕ → List ℕ → Option FileValue → List (List ℕ)
found_lines telling kind number name None = []
found_lines telling kind number name (Some file) = file_lines telling kind number name file

-- ---- the files of all users

-- the closed file that a note is of: the one at its place among those that the user's device has
-- closed
abbrev pub closed_in : Installed → ℕ → FileKind → Option FileValue
closed_in s user (kinds.Punch place) = slice_get (user_at s user).devices.punched place
closed_in s user (kinds.Printer place) = slice_get (user_at s user).devices.printed place
closed_in s user kinds.Deck = None

-- the lines of the file with this number that was noted so
abbrev pub note_lines : Telling → Installed → ℕ → FileNote → List (List ℕ)
note_lines telling s number note =
    found_lines telling note.kind number (name_of (names_of s) note.user)
    (closed_in s note.user note.kind)

-- those of files that were noted one after another, of which the first has this number
abbrev pub lines_from : Telling → Installed → ℕ → List FileNote → List (List ℕ)
lines_from telling s number [] = []
lines_from telling s number (note ∷ notes) = note_lines telling s number note
    ++ lines_from telling s (number + 1) notes

-- those of all files but the first so many
abbrev pub lines_since : Telling → ℕ → Installed → List (List ℕ)
lines_since telling count s = lines_from telling s (count + 1) (drop count s.files)

-- those of all files end a transcript
abbrev pub closing_lines : Installed → List (List ℕ)
closing_lines s = lines_since tellings.Transcript 0 s
