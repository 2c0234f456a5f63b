-- The desk: what an event makes of it, and what it does then.
use Rattle.std.specs.Prelude.{◌≡◌, ℕ, ◌+◌, ◌==◌, ◌&&◌, ◌||◌, not, nat_le, if◌then◌else◌}
use Rattle.std.specs.Prelude.{Bool, true}
use Rattle.std.specs.Prelude.{false, List, [], ◌∷◌, ◌++◌, length, map, replicate, take}
use Rattle.std.specs.Prelude.{slice_index_or, slice_set, Option, Some, None, codes}
use Rattle.std.specs.Str.{bytes_eq}
use Rattle.text_words.specs.Words.{words_of}
use Rattle.user_names.specs.Users.{user_of}
use Rattle.logon_desk.specs.Account.{last_lines, new_account}
use Rattle.logon_desk.specs.Connection.{after_line, again, begun, gone, opened, refused}
use Rattle.terminal_lines.specs.Decoder.{after_byte, printable}
use Rattle.logon_desk.specs.Guesses.{after_right, asked_of}
use Rattle.logon_desk.specs.Turns.{has_turn}
use Rattle.terminal_lines.specs.Script.{script_line}
use Rattle.terminal_lines.specs.Words.{capital, said_by}
use Rattle.logon_desk.specs.declared.account.Account.{Account}
use Rattle.logon_desk.specs.declared.account.KeptLine.{KeptLine}
use Rattle.logon_desk.specs.declared.connection.LogonStep.{LogonStep}
use Rattle.logon_desk.specs.declared.guesses.GuessedName.{GuessedName}
use Rattle.logon_desk.specs.declared.connection.Connection.{Connection}
use Rattle.logon_desk.specs.declared.connection.Stage.{Stage}
use Rattle.logon_desk.specs.declared.connection.Stage.TheVariants.{Gone, Naming, Asking, Waiting}
use Rattle.logon_desk.specs.declared.connection.Stage.TheVariants.{Judged}
use Rattle.logon_desk.specs.declared.connection.Stage.TheVariants.{Refused, On}
use Rattle.terminal_lines.specs.declared.decoder.Decoded.{Decoded}
use Rattle.terminal_lines.specs.declared.decoder.Decoded.TheVariants.{Nothing, Line}
use Rattle.terminal_lines.specs.declared.decoder.Decoded.TheVariants.{Declines as Refuses}
use Rattle.terminal_lines.specs.declared.decoder.Decoded.TheVariants.{AreYouThere}
use Rattle.logon_desk.specs.declared.output.JournalEntry.TheVariants.{LogsOn, IsBack, Leaves}
use Rattle.logon_desk.specs.declared.output.JournalEntry.TheVariants.{WrongPassword}
use Rattle.logon_desk.specs.declared.output.Notice.{Notice}
use Rattle.logon_desk.specs.declared.output.Notice.TheVariants.{Online, IsThere, Reconnected}
use Rattle.logon_desk.specs.declared.output.Notice.TheVariants.{TakesOver}
use Rattle.logon_desk.specs.declared.output.Notice.TheVariants.{TooLate, Refused as TellsRefused}
use Rattle.logon_desk.specs.declared.output.DeskAction.{DeskAction}
use Rattle.logon_desk.specs.declared.output.DeskAction.TheVariants.{Says, Declines}
use Rattle.logon_desk.specs.declared.output.DeskAction.TheVariants.{Shows, ShowsAgain}
use Rattle.logon_desk.specs.declared.output.DeskAction.TheVariants.{Types}
use Rattle.logon_desk.specs.declared.output.DeskAction.TheVariants.{Asks, Ends, Notes}
use Rattle.terminal_lines.specs.declared.words.Guess.{Guess}

-- the connections, the users and the names that were guessed at
pub record Desk : Type 0 where
  pub connections : List Connection
  pub accounts : List Account
  pub guesses : List GuessedName

-- what an event makes of the desk, and what is done then
pub record Step : Type 0 where
  pub desk : Desk
  pub outputs : List DeskAction

-- what happens at the desk
pub data Event : Type 0 where
  -- a connection has come from an address, at this time
  Opens : ℕ → ℕ → ℕ → Event
  -- bytes have come at a connection
  Comes : ℕ → List ℕ → Event
  -- the first byte that waits at a connection is taken, at this time
  Takes : ℕ → ℕ → Event
  -- this time has come for a connection
  Wakes : ℕ → ℕ → Event
  -- the host has been asked at a connection whether a name and a password are right, and answers at
  -- this time
  Answers : ℕ → Guess → Bool → ℕ → Event
  -- a connection has ended, or is ended
  Closes : ℕ → Event
  -- the transcript has a line of a user: it is on the disk, and is shown to him
  Prints : ℕ → List ℕ → Event
  -- a line of a user is kept, with its minute, for when he comes back
  Keeps : ℕ → KeptLine → Event
  -- the machine of a user is on or off, and runs or is stopped
  Turns : ℕ → Bool → Bool → Event
  -- the line that was typed for a user is done
  Finishes : ℕ → Event

-- the connection at a place
abbrev pub connection_at : Desk → ℕ → Connection
connection_at d c = slice_index_or d.connections c gone

-- whether a place has no connection
abbrev pub is_gone : Stage → Bool
is_gone Gone = true
is_gone Naming = false
is_gone (Asking name) = false
is_gone (Waiting guess) = false
is_gone (Judged guess) = false
is_gone Refused = false
is_gone (On user) = false

-- nobody has come, and all machines are off
abbrev pub new_desk : List (List ℕ) → ℕ → Desk
new_desk names connections =
    record {
      connections = replicate connections gone;
      accounts = map new_account names;
      guesses = [];
    }

-- no user
abbrev pub nobody : Account
nobody = new_account []

-- the account of a user
abbrev pub account_of : Desk → ℕ → Account
account_of d user = slice_index_or d.accounts user nobody

-- the desk with another connection at a place
abbrev pub with_connection : Desk → ℕ → Connection → Desk
with_connection d c connection = record d { connections = slice_set d.connections c connection }

-- the desk with another account of a user
abbrev pub with_account : Desk → ℕ → Account → Desk
with_account d user account = record d { accounts = slice_set d.accounts user account }

-- a step that does nothing outside the desk
abbrev pub quietly : Desk → Step
quietly d = record { desk = d; outputs = [] }

-- whether the user's terminal is this connection
abbrev pub is_terminal : Option ℕ → ℕ → Bool
is_terminal None c = false
is_terminal (Some other) c = other == c

-- he has logged on at the connection as this user
abbrev pub is_user : Stage → ℕ → Bool
is_user Gone user = false
is_user Naming user = false
is_user (Asking name) user = false
is_user (Waiting guess) user = false
is_user (Judged guess) user = false
is_user Refused user = false
is_user (On other) user = other == user

-- whoever is at the connection is on as this user: he has logged on there, and nowhere else since
abbrev pub is_on_at : Desk → ℕ → ℕ → Bool
is_on_at d c user = is_user (connection_at d c).stage user && is_terminal
    (account_of d user).terminal c

-- a terminal that the user has, if he is on there
abbrev pub terminal_by : Desk → ℕ → Option ℕ → Option ℕ
terminal_by d user None = None
terminal_by d user (Some c) = if is_user (connection_at d c).stage user then Some c else None

-- where a user is on
abbrev pub terminal_of : Desk → ℕ → Option ℕ
terminal_of d user = terminal_by d user (account_of d user).terminal

-- a byte is taken there now: of somebody who is on, while no line of his is being done
abbrev pub is_taking : Desk → ℕ → Stage → Bool
is_taking d c Gone = false
is_taking d c Naming = true
is_taking d c (Asking name) = true
is_taking d c (Waiting guess) = false
is_taking d c (Judged guess) = false
is_taking d c Refused = false
is_taking d c (On user) =
    is_terminal (account_of d user).terminal c && not (account_of d user).is_busy

-- he is given this, if anything
abbrev pub notices : ℕ → Option Notice → List DeskAction
notices c None = []
notices c (Some notice) = Says c notice ∷ []

-- a guess waits for its turn
abbrev pub guess_waits : Desk → ℕ → Connection → Guess → ℕ → Desk
guess_waits d c connection guess now =
    with_connection d c
    (record connection { stage = Waiting guess; patience = begun connection.patience now })

-- how far he has come
abbrev pub comes_to : Desk → ℕ → Connection → Stage → ℕ → Desk
comes_to d c connection Gone now = with_connection d c (record connection { stage = Gone })
comes_to d c connection Naming now = with_connection d c (record connection { stage = Naming })
comes_to d c connection (Asking name) now =
    with_connection d c (record connection { stage = Asking name })
comes_to d c connection (Waiting guess) now = guess_waits d c connection guess now
comes_to d c connection (Judged guess) now =
    with_connection d c (record connection { stage = Judged guess })
comes_to d c connection Refused now = with_connection d c (record connection { stage = Refused })
comes_to d c connection (On user) now = with_connection d c (record connection { stage = On user })

-- the step of a line that was answered
abbrev pub answered : Desk → ℕ → Connection → LogonStep → ℕ → Step
answered d c connection answer now =
    record { desk = comes_to d c connection answer.stage now; outputs = notices c answer.notice }

-- a line for the desk is in capitals
abbrev pub logon_line : Desk → ℕ → Connection → List ℕ → ℕ → Step
logon_line d c connection line now =
    answered d c connection (after_line connection.stage (said_by (words_of (map capital line))))
    now

-- a line is typed at the user's terminal
abbrev pub typed_line : Desk → ℕ → List ℕ → Step
typed_line d user line = record {
  desk = with_account d user (record (account_of d user) { is_busy = true });
  outputs = Types user (script_line (account_of d user).is_running line) ∷ [];
}

-- whose line it is
abbrev pub line_by : Desk → ℕ → Stage → List ℕ → ℕ → Step
line_by d c (On user) line now = typed_line d user line
line_by d c Gone line now = logon_line d c (connection_at d c) line now
line_by d c Naming line now = logon_line d c (connection_at d c) line now
line_by d c (Asking name) line now = logon_line d c (connection_at d c) line now
line_by d c (Waiting guess) line now = logon_line d c (connection_at d c) line now
line_by d c (Judged guess) line now = logon_line d c (connection_at d c) line now
line_by d c Refused line now = logon_line d c (connection_at d c) line now

-- a complete line at a connection
abbrev pub after_line_at : Desk → ℕ → List ℕ → ℕ → Step
after_line_at d c line now = line_by d c (connection_at d c).stage line now

-- a byte that was decoded at a connection
abbrev pub after_decoded : Desk → ℕ → Decoded → ℕ → Step
after_decoded d c Nothing now = quietly d
after_decoded d c (Line line) now = after_line_at d c line now
after_decoded d c (Refuses command option) now =
    record { desk = d; outputs = Declines c command option ∷ [] }
after_decoded d c AreYouThere now = record { desk = d; outputs = Says c IsThere ∷ [] }

-- the first byte that waits at a connection
abbrev pub after_first : Desk → ℕ → List ℕ → ℕ → Step
after_first d c [] now = quietly d
after_first d c (byte ∷ rest) now =
    let connection = connection_at d c in
    let came = after_byte connection.decoder byte in
    after_decoded (with_connection d c (record connection { decoder = came.typed; waiting = rest }))
    c came.decoded now

-- a byte is taken
abbrev pub after_take : Desk → ℕ → ℕ → Step
after_take d c now =
    if is_taking d c (connection_at d c).stage then after_first d c (connection_at d c).waiting now
    else quietly d

-- the connection is ended with these words
abbrev pub ended : Desk → ℕ → List DeskAction → Step
ended d c words = record { desk = with_connection d c gone; outputs = words ++ Ends c ∷ [] }

-- more bytes than may wait end the connection
abbrev pub after_bytes : Desk → ℕ → List ℕ → Step
after_bytes d c bytes =
    let connection = connection_at d c in
    if nat_le (length connection.waiting + length bytes) 4096
    then quietly (with_connection d c (record connection { waiting = connection.waiting ++ bytes }))
    else ended d c []

-- he is told that a guess was wrong: after the third he goes
abbrev pub after_pause : Desk → ℕ → Connection → ℕ → Step
after_pause d c connection now =
    if nat_le 3 connection.patience.tries then ended d c (Says c TellsRefused ∷ [])
    else record {
      desk = with_connection d c
          (record connection { stage = Naming; patience = again connection.patience now });
      outputs = Says c TellsRefused ∷ [];
    }

-- the connection that was his terminal before is told so
abbrev pub farewell : ℕ → Option ℕ → List DeskAction
farewell c None = []
farewell c (Some other) = Says c TakesOver ∷ []

-- it is the turn of the guess of this connection
abbrev pub is_turn : Desk → Connection → Guess → ℕ → Bool
is_turn d connection guess now = has_turn d.connections d.guesses guess.name connection.address
    connection.patience.due now

-- the host is asked about the guess of a connection, which holds back the next one
abbrev pub asking : Desk → ℕ → Connection → Guess → ℕ → Step
asking d c connection guess now =
    record {
      desk = record d {
        connections = slice_set d.connections c (record connection { stage = Judged guess });
        guesses = asked_of d.guesses guess.name connection.address now;
      };
      outputs = Asks c guess ∷ [];
    }

-- the time has come for a connection in this stage
abbrev pub wake_by : Desk → ℕ → Connection → Stage → ℕ → Step
wake_by d c connection Gone now = quietly d
wake_by d c connection Naming now = if nat_le connection.patience.deadline now
    then ended d c (Says c TooLate ∷ []) else quietly d
wake_by d c connection (Asking name) now = if nat_le connection.patience.deadline now
    then ended d c (Says c TooLate ∷ []) else quietly d
wake_by d c connection (Waiting guess) now =
    if is_turn d connection guess now then asking d c connection guess now else quietly d
wake_by d c connection (Judged guess) now = quietly d
wake_by d c connection Refused now = if nat_le connection.patience.due now
    then after_pause d c connection now else quietly d
wake_by d c connection (On user) now =
    if is_terminal (account_of d user).terminal c then quietly d
    else ended d c (farewell c (account_of d user).terminal)

-- the time has come for a connection
abbrev pub after_wake : Desk → ℕ → ℕ → Step
after_wake d c now = wake_by d c (connection_at d c) (connection_at d c).stage now

-- the line that switches a machine on
abbrev pub logon_command : List ℕ
logon_command = codes "LOGON"

-- a user logs on: his machine is switched on, or he sees again what his terminal has shown lately
abbrev pub greeting : ℕ → ℕ → Account → List DeskAction
greeting c user account =
    if not account.is_on && not account.is_busy
    then Notes (LogsOn user c) ∷ Types user logon_command ∷ []
    else Notes (IsBack user c) ∷ Says c Reconnected ∷ map (λ line. ShowsAgain c user line)
    account.kept

-- a right guess logs its user on at this connection
abbrev pub logged_on : Desk → ℕ → Guess → ℕ → ℕ → Step
logged_on d c guess user now =
    let connection = connection_at d c in
    let account = account_of d user in
    record {
      desk = record {
        connections = slice_set d.connections c (record connection { stage = On user });
        accounts = slice_set d.accounts user
            (record account { terminal = Some c; is_busy = account.is_busy || not account.is_on });
        guesses = after_right d.guesses guess.name connection.address now;
      };
      outputs = greeting c user account;
    }

-- a wrong guess; the journal has the name if it is a user's
abbrev pub wrong_guess : Desk → ℕ → Option ℕ → ℕ → Step
wrong_guess d c user now =
    let connection = connection_at d c in
    record {
      desk = with_connection d c
          (record connection { stage = Refused; patience = refused connection.patience now });
      outputs = Notes (WrongPassword user c) ∷ [];
    }

-- a guess that the host has judged
abbrev pub judged_as : Desk → ℕ → Guess → Option ℕ → Bool → ℕ → Step
judged_as d c guess None is_right now = wrong_guess d c None now
judged_as d c guess (Some user) is_right now = if is_right then logged_on d c guess user now
    else wrong_guess d c (Some user) now

-- whether two guesses have the same name and password
abbrev pub same_guess : Guess → Guess → Bool
same_guess a b = bytes_eq a.name b.name && bytes_eq a.password b.password

-- the names of all users
abbrev pub names : Desk → List (List ℕ)
names d = map (λ account. account.name) d.accounts

-- an answer counts for the guess that is there
abbrev pub answer_by : Desk → ℕ → Stage → Guess → Bool → ℕ → Step
answer_by d c Gone guess is_right now = quietly d
answer_by d c Naming guess is_right now = quietly d
answer_by d c (Asking name) guess is_right now = quietly d
answer_by d c (Waiting other) guess is_right now = quietly d
answer_by d c (Judged other) guess is_right now =
    if same_guess other guess then judged_as d c guess (user_of (names d) guess.name) is_right now
    else quietly d
answer_by d c Refused guess is_right now = quietly d
answer_by d c (On user) guess is_right now = quietly d

-- the host has answered a question
abbrev pub after_answer : Desk → ℕ → Guess → Bool → ℕ → Step
after_answer d c guess is_right now = answer_by d c (connection_at d c).stage guess is_right now

-- the journal is given who leaves
abbrev pub leaving : Desk → ℕ → Stage → List DeskAction
leaving d c Gone = []
leaving d c Naming = []
leaving d c (Asking name) = []
leaving d c (Waiting guess) = []
leaving d c (Judged guess) = []
leaving d c Refused = []
leaving d c (On user) = if is_terminal (account_of d user).terminal c
    then Notes (Leaves user c) ∷ [] else []

-- a connection has closed
abbrev pub after_close : Desk → ℕ → Step
after_close d c = ended d c (leaving d c (connection_at d c).stage)

-- a line as it is shown: without what a terminal takes for something else
abbrev pub shown : List ℕ → List ℕ
shown line = map printable (take 1024 line)

-- a line is shown at the terminal of its user, if he has one
abbrev pub shows_at : ℕ → Option ℕ → List ℕ → List DeskAction
shows_at user None line = []
shows_at user (Some c) line = Shows c user (shown line) ∷ []

-- a line of the transcript is shown to a user
abbrev pub after_print : Desk → ℕ → List ℕ → Step
after_print d user line = record { desk = d; outputs = shows_at user (terminal_of d user) line }

-- a line is kept for a user
abbrev pub after_keep : Desk → ℕ → KeptLine → Step
after_keep d user line =
    let account = account_of d user in
    quietly (with_account d user
    (record account {
      kept = last_lines
          (account.kept ++ record { minute = shown line.minute; text = shown line.text } ∷ []);
    }))

-- a machine that is off has no terminal, and nothing is kept of it
abbrev pub after_turn : Desk → ℕ → Bool → Bool → Step
after_turn d user is_on is_running =
    let account = account_of d user in
    quietly (with_account d user (record account {
      is_on = is_on;
      is_running = is_running;
      terminal = if is_on then account.terminal else None;
      kept = if is_on then account.kept else [];
    }))

-- where the machine is off then, nobody is at its terminal
abbrev pub after_finish : Desk → ℕ → Step
after_finish d user =
    let account = account_of d user in
    quietly (with_account d user (record account {
      is_busy = false;
      terminal = if account.is_on then account.terminal else None;
    }))

-- what an event makes of the desk, and what is done then
abbrev pub step : Desk → Event → Step
step d (Opens c address now) =
    record { desk = with_connection d c (opened address now); outputs = Says c Online ∷ [] }
step d (Comes c bytes) = after_bytes d c bytes
step d (Takes c now) = after_take d c now
step d (Wakes c now) = after_wake d c now
step d (Answers c guess is_right now) = after_answer d c guess is_right now
step d (Closes c) = after_close d c
step d (Prints user line) = after_print d user line
step d (Keeps user line) = after_keep d user line
step d (Turns user is_on is_running) = after_turn d user is_on is_running
step d (Finishes user) = after_finish d user

-- the desk has done this step, after what it had done before
abbrev pub Does : Step → List DeskAction → Desk → List DeskAction → Type 0
Does s before new after = (new ≡ s.desk) × (after ≡ before ++ s.outputs)

-- a step of the desk, and what all steps have done after it
abbrev pub IsStep : Desk → Event → List DeskAction → Desk → List DeskAction → Type 0
IsStep old event before new after = Does (step old event) before new after
