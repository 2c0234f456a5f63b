-- What happens at the desk, one event after another, and who is on by that.
use Rattle.std.specs.Prelude.{◌≡◌, ◌≢◌, ◌==◌, ◌⊎◌, ℕ, true, false, if◌then◌else◌, List, []}
use Rattle.std.specs.Prelude.{◌∷◌, ◌++◌}
use Rattle.std.specs.Prelude.{fold, map, Some}
use Rattle.std.specs.List.{AllByRecursion}
use Rattle.text_words.specs.Words.{words_of}
use Rattle.user_names.specs.Users.{user_of}
use Rattle.logon_desk.specs.Account.{last_lines}
use Rattle.terminal_lines.specs.Decoder.{after_byte, nothing_typed}
use Rattle.logon_desk.specs.Desk.{Answers, Closes, Comes, Desk, Event, Finishes, Keeps, Opens}
use Rattle.logon_desk.specs.Desk.{Prints, Takes}
use Rattle.logon_desk.specs.Desk.{Turns, Wakes, connection_at, names, shown, step}
use Rattle.terminal_lines.specs.Typed.{Typed}
use Rattle.terminal_lines.specs.Words.{capital, said_by}
use Rattle.logon_desk.specs.declared.account.KeptLine.{KeptLine}
use Rattle.logon_desk.specs.declared.connection.Stage.TheVariants.{Judged}
use Rattle.terminal_lines.specs.declared.decoder.Decoded.{Decoded}
use Rattle.terminal_lines.specs.declared.decoder.Decoded.TheVariants.{Nothing, Line, Declines}
use Rattle.terminal_lines.specs.declared.decoder.Decoded.TheVariants.{AreYouThere}
use Rattle.terminal_lines.specs.declared.words.Guess.{Guess}
use Rattle.terminal_lines.specs.declared.words.Said.{Said}
use Rattle.terminal_lines.specs.declared.words.Said.TheVariants.{Both, Name, Word}

-- the desk after these events, of which the last is first
abbrev pub after : Desk → List Event → Desk
after first [] = first
after first (event ∷ earlier) = (step (after first earlier) event).desk

-- the bytes that have come at a connection since it was opened
abbrev pub arrived : ℕ → List Event → List ℕ
arrived c [] = []
arrived c (Opens other address now ∷ earlier) = if other == c then [] else arrived c earlier
arrived c (Comes other bytes ∷ earlier) = if other == c then arrived c earlier ++ bytes
    else arrived c earlier
arrived c (Takes other now ∷ earlier) = arrived c earlier
arrived c (Wakes other now ∷ earlier) = arrived c earlier
arrived c (Answers other guess is_right now ∷ earlier) = arrived c earlier
arrived c (Closes other ∷ earlier) = arrived c earlier
arrived c (Prints user line ∷ earlier) = arrived c earlier
arrived c (Keeps user line ∷ earlier) = arrived c earlier
arrived c (Turns user is_on is_running ∷ earlier) = arrived c earlier
arrived c (Finishes user ∷ earlier) = arrived c earlier

-- what bytes make: the lines, of which the last is first, and what is typed of the next one
pub record Reading : Type 0 where
  pub typed : Typed
  pub lines : List (List ℕ)

-- the lines with one more, if a byte has ended it
abbrev pub with_line : Decoded → List (List ℕ) → List (List ℕ)
with_line Nothing lines = lines
with_line (Line line) lines = line ∷ lines
with_line (Declines command option) lines = lines
with_line AreYouThere lines = lines

-- one more byte is read
abbrev pub read_byte : Reading → ℕ → Reading
read_byte r byte = let came =
    after_byte r.typed byte in record { typed = came.typed; lines = with_line came.decoded r.lines }

-- nothing has been read
abbrev pub nothing_read : Reading
nothing_read = record { typed = nothing_typed; lines = [] }

-- the lines that bytes make
abbrev pub reading_of : List ℕ → Reading
reading_of bytes = fold read_byte nothing_read bytes

-- what a line says
abbrev pub meaning : List ℕ → Said
meaning line = said_by (words_of (map capital line))

-- the last of these lines gives the name and the password, or the last two do
abbrev pub Gives : List (List ℕ) → Guess → Type 0
Gives lines guess =
    ((line : List ℕ) × (rest : List (List ℕ)) × (lines ≡ line ∷ rest) × (meaning line ≡ Both guess))
    ⊎ ((second first : List ℕ) × (rest : List (List ℕ)) × (lines ≡ second ∷ first ∷ rest)
    × (meaning first ≡ Name guess.name) × (meaning second ≡ Word guess.password))

-- the connection stays the one that it is, and the user's machine is not switched off
abbrev pub Stays : ℕ → ℕ → Event → Type 0
Stays c user (Opens other address now) = other ≢ c
Stays c user (Comes other bytes) = Unit {0}
Stays c user (Takes other now) = Unit {0}
Stays c user (Wakes other now) = Unit {0}
Stays c user (Answers other guess is_right now) = Unit {0}
Stays c user (Closes other) = other ≢ c
Stays c user (Prints other line) = Unit {0}
Stays c user (Keeps other line) = Unit {0}
Stays c user (Turns other true is_running) = Unit {0}
Stays c user (Turns other false is_running) = other ≢ user
Stays c user (Finishes other) = Unit {0}

-- the user logged on at the connection: the host said that this name and this password are right,
-- when they were the last lines of all the bytes that had come there since it was opened, but for
-- those that waited; the name is his; and since then the connection was neither opened nor closed,
-- nor his machine switched off
pub record IsOnBy (first : Desk) (c user : ℕ) (events : List Event) : Type 0 where
  pub later : List Event
  pub earlier : List Event
  pub guess : Guess
  pub now : ℕ
  pub split : events ≡ later ++ Answers c guess true now ∷ earlier
  pub his : user_of (names first) guess.name ≡ Some user
  pub taken : List ℕ
  pub waiting : List ℕ
  pub came : arrived c earlier ≡ taken ++ waiting
  pub gives : Gives (reading_of taken).lines guess
  pub since : AllByRecursion (Stays c user) later

-- the host's answer lets somebody on
pub record LogsOn (d : Desk) (c user : ℕ) (event : Event) : Type 0 where
  pub guess : Guess
  pub now : ℕ
  pub answer : event ≡ Answers c guess true now
  pub judged : (connection_at d c).stage ≡ Judged guess
  pub his : user_of (names d) guess.name ≡ Some user

-- what an event makes of the lines that are kept for a user: his machine off forgets them
abbrev pub kept_by : ℕ → Event → List KeptLine → List KeptLine
kept_by user (Opens c address now) kept = kept
kept_by user (Comes c bytes) kept = kept
kept_by user (Takes c now) kept = kept
kept_by user (Wakes c now) kept = kept
kept_by user (Answers c guess is_right now) kept = kept
kept_by user (Closes c) kept = kept
kept_by user (Prints other line) kept = kept
kept_by user (Keeps other line) kept = if other == user
    then last_lines (kept ++ record { minute = shown line.minute; text = shown line.text } ∷ [])
    else kept
kept_by user (Turns other is_on is_running) kept = if is_on then kept
    else (if other == user then [] else kept)
kept_by user (Finishes other) kept = kept

-- the lines that are kept for a user: the last ones since his machine was on
abbrev pub kept_of : ℕ → List Event → List KeptLine
kept_of user [] = []
kept_of user (event ∷ earlier) = kept_by user event (kept_of user earlier)
