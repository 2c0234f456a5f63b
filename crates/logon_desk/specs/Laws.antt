-- What the desk promises, whatever happens.
use Rattle.std.specs.Prelude.{◌≡◌, ◌≢◌, ◌⊎◌, ◌+◌, ◌<◌, ◌≤◌, ℕ, Bool, true, false, List, []}
use Rattle.std.specs.Prelude.{◌∷◌, ◌++◌}
use Rattle.std.specs.Prelude.{length, map, Some, None}
use Rattle.std.specs.List.{AllByRecursion}
use Rattle.user_names.specs.Users.{user_of}
use Rattle.logon_desk.specs.Connection.{refused}
use Rattle.terminal_lines.specs.Decoder.{after_byte}
use Rattle.logon_desk.specs.Desk.{Answers, Closes, Comes, Desk, Event, Finishes, Keeps, Opens}
use Rattle.logon_desk.specs.Desk.{Prints, Takes}
use Rattle.logon_desk.specs.Desk.{Turns, Wakes, account_of, connection_at, is_gone, is_on_at}
use Rattle.logon_desk.specs.Desk.{is_taking}
use Rattle.logon_desk.specs.Desk.{logon_command, names, new_desk, shown, step, with_connection}
use Rattle.logon_desk.specs.Guesses.{last_of, remembered, wait_of}
use Rattle.logon_desk.specs.History.{IsOnBy, LogsOn, after, arrived, kept_of, reading_of}
use Rattle.logon_desk.specs.Turns.{is_held}
use Rattle.terminal_lines.specs.Script.{script_line}
use Rattle.logon_desk.specs.declared.account.KeptLine.{KeptLine}
use Rattle.logon_desk.specs.declared.connection.Stage.TheVariants.{Judged, Refused, Waiting}
use Rattle.terminal_lines.specs.declared.decoder.Decoded.TheVariants.{Line}
use Rattle.logon_desk.specs.declared.output.JournalEntry.TheVariants.{IsBack}
use Rattle.logon_desk.specs.declared.output.Notice.TheVariants.{Reconnected}
use Rattle.logon_desk.specs.declared.output.DeskAction.{DeskAction}
use Rattle.logon_desk.specs.declared.output.DeskAction.TheVariants.{Says, Declines}
use Rattle.logon_desk.specs.declared.output.DeskAction.TheVariants.{Shows, ShowsAgain}
use Rattle.logon_desk.specs.declared.output.DeskAction.TheVariants.{Types}
use Rattle.logon_desk.specs.declared.output.DeskAction.TheVariants.{Asks, Ends, Notes}
use Rattle.terminal_lines.specs.declared.words.Guess.{Guess}

-- a line is one of these
abbrev pub IsIn : KeptLine → List KeptLine → Type 0
IsIn line [] = ⊥
IsIn line (first ∷ rest) = (line ≡ first) ⊎ IsIn line rest

-- an event at this connection
abbrev pub IsAt : ℕ → Event → Type 0
IsAt c (Opens other address now) = other ≡ c
IsAt c (Comes other bytes) = other ≡ c
IsAt c (Takes other now) = other ≡ c
IsAt c (Wakes other now) = other ≡ c
IsAt c (Answers other guess is_right now) = other ≡ c
IsAt c (Closes other) = other ≡ c
IsAt c (Prints user line) = ⊥
IsAt c (Keeps user line) = ⊥
IsAt c (Turns user is_on is_running) = ⊥
IsAt c (Finishes user) = ⊥

-- the byte that is taken ends a line of somebody who is on as this user
pub record IsTyped (d : Desk) (event : Event) (user : ℕ) (line : List ℕ) : Type 0 where
  pub c : ℕ
  pub now : ℕ
  pub byte : ℕ
  pub rest : List ℕ
  pub takes : event ≡ Takes c now
  pub is_on : is_on_at d c user ≡ true
  pub waits : (connection_at d c).waiting ≡ byte ∷ rest
  pub typed : List ℕ
  pub whole : (after_byte (connection_at d c).decoder byte).decoded ≡ Line typed
  pub script : line ≡ script_line (account_of d user).is_running typed

-- what may be done then. A line of the script is typed by somebody who is on as its user, or
-- switches on the machine of who logs on; a connection is given the desk's own texts, lines of the
-- transcript of who is on there, and kept lines of who logs on there; and a name and a password are
-- only for the host
abbrev pub May : Desk → Event → DeskAction → Type 0
May d event (Says c notice) = IsAt c event
May d event (Declines c command option) = IsAt c event
May d event (Shows c user line) = (is_on_at d c user ≡ true) × (text : List ℕ)
    × (event ≡ Prints user text) × (line ≡ shown text)
May d event (ShowsAgain c user line) = LogsOn d c user event × IsIn line (account_of d user).kept
May d event (Types user line) = IsTyped d event user line
    ⊎ ((c : ℕ) × LogsOn d c user event × (line ≡ logon_command))
May d event (Asks c guess) = IsAt c event × ((connection_at d c).stage ≡ Waiting guess)
May d event (Ends c) = IsAt c event
May d event (Notes entry) = Unit {0}

-- whoever is on has given the user's name and password there
pub record HasAuthority : Type 0 where
  pub on : (users : List (List ℕ)) (size : ℕ) (events : List Event) (c user : ℕ)
      → is_on_at (after (new_desk users size) events) c user ≡ true
      → IsOnBy (new_desk users size) c user events

-- nothing is done but what May says
pub record IsIsolated : Type 0 where
  pub does : (d : Desk) (event : Event) → AllByRecursion (May d event) (step d event).outputs

-- each line is typed and shown, and nothing is lost
pub record IsComplete : Type 0 where
  -- completeness: each line of the transcript is shown where its user is on
  pub shows : (d : Desk) (c user : ℕ) (line : List ℕ) → is_on_at d c user ≡ true
      → (step d (Prints user line)).outputs ≡ Shows c user (shown line) ∷ []
  -- each line of who is on is typed
  pub types : (d : Desk) (c user now byte : ℕ) (rest line : List ℕ) → is_on_at d c user ≡ true
      → (account_of d user).is_busy ≡ false
      → (connection_at d c).waiting ≡ byte ∷ rest
      → (after_byte (connection_at d c).decoder byte).decoded ≡ Line line
      → (step d (Takes c now)).outputs
      ≡ Types user (script_line (account_of d user).is_running line) ∷ []
  -- no byte is lost, read twice or left from another connection: all that have come were taken, in
  -- order, or wait
  pub reads : (users : List (List ℕ)) (size : ℕ) (events : List Event) (c : ℕ)
      → is_gone (connection_at (after (new_desk users size) events) c).stage ≡ false
      → (taken : List ℕ) × (arrived c events ≡ taken
      ++ (connection_at (after (new_desk users size) events) c).waiting)
      × ((connection_at (after (new_desk users size) events) c).decoder ≡ (reading_of taken).typed)
  -- the last lines are kept for who comes back
  pub keeps : (users : List (List ℕ)) (size : ℕ) (events : List Event) (user : ℕ)
      → user < length users
      → (account_of (after (new_desk users size) events) user).kept ≡ kept_of user events
  pub again : (d : Desk) (c user : ℕ) (event : Event) → LogsOn d c user event
      → (account_of d user).is_on ≡ true
      → (step d event).outputs
      ≡ Notes (IsBack user c) ∷ Says c Reconnected ∷ map (λ line. ShowsAgain c user line)
      (account_of d user).kept

-- an event is of this time or of an earlier one
abbrev pub HappensBy : ℕ → Event → Type 0
HappensBy now (Opens c address time) = time ≤ now
HappensBy now (Comes c bytes) = Unit {0}
HappensBy now (Takes c time) = time ≤ now
HappensBy now (Wakes c time) = time ≤ now
HappensBy now (Answers c guess is_right time) = time ≤ now
HappensBy now (Closes c) = Unit {0}
HappensBy now (Prints user line) = Unit {0}
HappensBy now (Keeps user line) = Unit {0}
HappensBy now (Turns user is_on is_running) = Unit {0}
HappensBy now (Finishes user) = Unit {0}

-- a guess of another connection goes before this one: it is at the same name from the same address,
-- and is being judged or has waited for longer
abbrev pub GoesBefore : Desk → ℕ → Guess → ℕ → Type 0
GoesBefore d c guess other = (second : Guess) × (second.name ≡ guess.name)
    × ((connection_at d other).address ≡ (connection_at d c).address)
    × (((connection_at d other).stage ≡ Judged second)
    ⊎ (((connection_at d other).stage ≡ Waiting second)
    × ((connection_at d other).patience.due < (connection_at d c).patience.due)))

-- the host is asked about no guess at this name from this address by the event
abbrev pub IsElsewhere : Desk → List ℕ → ℕ → Event → Type 0
IsElsewhere d name address (Opens c from now) = Unit {0}
IsElsewhere d name address (Comes c bytes) = Unit {0}
IsElsewhere d name address (Takes c now) = Unit {0}
IsElsewhere d name address (Wakes c now) =
    (guess : Guess) → (connection_at d c).stage ≡ Waiting guess → guess.name ≡ name
    → (connection_at d c).address ≢ address
IsElsewhere d name address (Answers c guess is_right now) = Unit {0}
IsElsewhere d name address (Closes c) = Unit {0}
IsElsewhere d name address (Prints user line) = Unit {0}
IsElsewhere d name address (Keeps user line) = Unit {0}
IsElsewhere d name address (Turns user is_on is_running) = Unit {0}
IsElsewhere d name address (Finishes user) = Unit {0}

-- a wrong password and a name that is nobody's are answered alike, and after the same wait
pub record HasSecrets : Type 0 where
  pub alike : (d : Desk) (c : ℕ) (guess : Guess) (is_right : Bool) (now : ℕ)
      → (connection_at d c).stage ≡ Judged guess
      → (is_right ≡ false) ⊎ (user_of (names d) guess.name ≡ None)
      → (step d (Answers c guess is_right now)).desk
      ≡ with_connection d c (record
      (connection_at d c) {
        stage = Refused;
        patience = refused (connection_at d c).patience now;
      })
  -- when the host is asked does not depend on whose the names are
  pub whoever : (d e : Desk) (c now : ℕ) (guess : Guess) → d.connections ≡ e.connections
      → d.guesses ≡ e.guesses → (connection_at d c).stage ≡ Waiting guess
      → (step d (Wakes c now)).outputs ≡ (step e (Wakes c now)).outputs

-- guesses at one name from one address take turns, and hold back no others
pub record TakesTurns : Type 0 where
  -- two of them are never judged at once
  pub alone : (users : List (List ℕ)) (size : ℕ) (events : List Event) (c other : ℕ)
      (guess second : Guess)
      → (connection_at (after (new_desk users size) events) c).stage ≡ Judged guess
      → (connection_at (after (new_desk users size) events) other).stage ≡ Judged second
      → guess.name ≡ second.name
      → (connection_at (after (new_desk users size) events) c).address
      ≡ (connection_at (after (new_desk users size) events) other).address
      → c ≡ other
  -- the host is asked about none that is held back, and each holds back the next one
  pub apart : (d : Desk) (c now later : ℕ) (guess : Guess)
      → (connection_at d c).stage ≡ Waiting guess
      → (step d (Wakes c now)).outputs ≡ Asks c guess ∷ []
      → later < now + wait_of (remembered
      (last_of d.guesses guess.name (connection_at d c).address).until now)
      → (is_held d.guesses guess.name (connection_at d c).address now ≡ false)
      × (is_held (step d (Wakes c now)).desk.guesses guess.name (connection_at d c).address later
      ≡ true)
  -- a guess holds back none at another name, and none from another address
  pub others : (d : Desk) (event : Event) (name : List ℕ) (address later : ℕ)
      → IsElsewhere d name address event
      → is_held (step d event).desk.guesses name address later ≡ true
      → is_held d.guesses name address later ≡ true

-- a guess waits only for those at its name from its address that go before it, and for four seconds
-- at most after the last of them; then the host is asked, and a right one is let on at once
pub record WaitsBriefly : Type 0 where
  pub waits : (d : Desk) (c now : ℕ) (guess : Guess)
      → is_taking d c (connection_at d c).stage ≡ true
      → (connection_at (step d (Takes c now)).desk c).stage ≡ Waiting guess
      → (connection_at (step d (Takes c now)).desk c).patience.due ≡ now
  pub asks : (d : Desk) (c now : ℕ) (guess : Guess) → (connection_at d c).stage ≡ Waiting guess
      → is_held d.guesses guess.name (connection_at d c).address now ≡ false
      → ((other : ℕ) → GoesBefore d c guess other → ⊥)
      → (step d (Wakes c now)).outputs ≡ Asks c guess ∷ []
  pub briefly : (users : List (List ℕ)) (size : ℕ) (events : List Event) (name : List ℕ)
      (address now : ℕ) → AllByRecursion (HappensBy now) events
      → is_held (after (new_desk users size) events).guesses name address (now + 4000) ≡ false
  pub lets_on : (d : Desk) (c user now : ℕ) (guess : Guess)
      → (connection_at d c).stage ≡ Judged guess
      → user_of (names d) guess.name ≡ Some user
      → is_on_at (step d (Answers c guess true now)).desk c user ≡ true

-- whatever is sent, what is kept for a connection and for a user has bounds
pub record HasBounds : Type 0 where
  pub few_wait : (users : List (List ℕ)) (size : ℕ) (events : List Event) (c : ℕ)
      → length (connection_at (after (new_desk users size) events) c).waiting ≤ 4096
  pub short : (bytes : List ℕ) → length (reading_of bytes).typed.line ≤ 130
  pub few_kept : (user : ℕ) (events : List Event) → length (kept_of user events) ≤ 24
  pub short_shown : (line : List ℕ) → length (shown line) ≤ 1024
