-- What a script has done, in which order: events, and turns of the dispatcher, which are dealt
-- among those who are ready and among the programs that were started.
use Rattle.std.specs.Prelude.{◌≡◌, ℕ, zero, suc, Bool, true, false, ◌&&◌, if◌then◌else◌, length}
use Rattle.std.specs.Prelude.{nat_lt, List, [], ◌∷◌, ◌++◌, Some, None}
use Rattle.s370_subchannels.specs.Starts.{is_started, works}
use Rattle.s370_subchannels.specs.Subchannels.{next_start}
use Rattle.s370_subchannels.specs.declared.subchannel.Subchannel.{Subchannel}
use Rattle.cp_dispatch.specs.Turns.{IsDealt, at_end, without}
use Rattle.cp_dispatch.specs.Policy.{Lines, always, is_of, same_user}
use Rattle.cp_dispatch.specs.declared.program.Program.{Program}
use Rattle.machine_panel.specs.declared.machine.Mode.{Mode}
use Rattle.machine_panel.specs.declared.machine.Mode.TheVariants.{Off, Stopped, Running}
use Rattle.machine_panel.specs.Ready.{is_ready}
use Rattle.session_script.specs.Script.{EventValue, Run, Line, Tick, Serve, Deck, Transfer, Auto}
use Rattle.session_script.specs.Users.{has_device}
use Rattle.sessions.specs.Installed.{Installation, Installed, IsLineStated, Step, as_said}
use Rattle.sessions.specs.Installed.{machine_at, subchannels_at}
use Rattle.sessions.specs.declared.acts.Asked.{Asked}
use Rattle.sessions.specs.declared.acts.Asked.TheVariants as asks
use Rattle.sessions.specs.declared.schedule.Detail.{Detail}

-- ---- what a script asks for, one after another

-- what a script asks for
pub data Act : Type 0 where
  -- this event happens
  Applies : EventValue → Act
  -- a turn begins: a slice is dealt
  Slices : Act
  -- it ends: a serve is dealt
  Serves : Act

-- a turn: a slice and a serve
abbrev pub turn : List Act
turn = Slices ∷ Serves ∷ []

-- turns, one after another
abbrev pub turns : ℕ → List Act
turns zero = []
turns (suc k) = turn ++ turns k

-- a line asks for one event, and `AUTO k` for k turns
abbrev pub acts_of : EventValue → List Act
acts_of (Run user units) = Applies (Run user units) ∷ []
acts_of (Line user text) = Applies (Line user text) ∷ []
acts_of (Tick user) = Applies (Tick user) ∷ []
acts_of (Serve user device) = Applies (Serve user device) ∷ []
acts_of (Deck user cards) = Applies (Deck user cards) ∷ []
acts_of (Transfer user id to) = Applies (Transfer user id to) ∷ []
acts_of (Auto count) = turns count

-- the cards of an event that is a deck; of another none
abbrev pub cards_said : EventValue → List (List ℕ)
cards_said (Run user units) = []
cards_said (Line user text) = []
cards_said (Tick user) = []
cards_said (Serve user device) = []
cards_said (Deck user cards) = cards
cards_said (Transfer user id to) = []
cards_said (Auto count) = []

-- the event of a script that asks for this
abbrev pub asked_said : Asked → EventValue
asked_said (asks.Event event) = as_said event
asked_said (asks.Turns count) = Auto count

-- what the lines of a script ask for, in order
abbrev pub acts : List EventValue → List Act
acts [] = []
acts (said ∷ more) = acts_of said ++ acts more

-- the user of an event; turns name nobody
abbrev pub user_said : EventValue → ℕ
user_said (Run user units) = user
user_said (Line user text) = user
user_said (Tick user) = user
user_said (Serve user device) = user
user_said (Deck user cards) = user
user_said (Transfer user id to) = user
user_said (Auto count) = 0

-- an installation, the queue of the users who are dealt slices and the line of the programs that
-- are dealt serves, and, within a turn, whether somebody had its slice; and which lines of turns a
-- transcript has
pub record Scene (W : Type 0) : Type 0 where
  pub world : W
  pub lines : Lines
  pub detail : Detail
  pub had_slice : Bool

-- the scene between the two halves of a turn
abbrev pub within : {W : Type 0} → Bool → W → Lines → Detail → Scene W
within had_slice world lines detail =
    record { world = world; lines = lines; detail = detail; had_slice = had_slice }

-- no turn is under way
abbrev pub scene : {W : Type 0} → W → Lines → Detail → Scene W
scene = within false

-- what comes of something in a scene
abbrev pub moved : {W : Type 0} → Scene W → W → Lines → Bool → Scene W
moved old world lines had_slice =
    record { world = world; lines = lines; detail = old.detail; had_slice = had_slice }

-- turns are dealt among its users alone, and to programs of their devices
pub record IsOf (s : Installed) (lines : Lines) : Type 0 where
  pub seats : lines.most_users ≡ length s.users
  pub stated : IsLineStated s.users lines.programs

-- ---- the queue

-- whether a user is logged on
abbrev pub is_on : Mode → Bool
is_on Off = false
is_on Stopped = true
is_on Running = true

-- whether a user is logged on
abbrev pub is_user_on : Installed → ℕ → Bool
is_user_on s user = is_on (machine_at s user).mode

-- who logs on is at the end of the queue, and who logs off is in it no more
abbrev pub queue_with : ℕ → Bool → Bool → List ℕ → List ℕ
queue_with user false false queue = queue
queue_with user false true queue = at_end (same_user user) user queue
queue_with user true false queue = without (same_user user) queue
queue_with user true true queue = queue

-- the queue after an event of this user
abbrev pub queue_after : Installed → Installed → ℕ → List ℕ → List ℕ
queue_after old new user queue = queue_with user (is_user_on old user) (is_user_on new user) queue

-- the queue at first, of this many users: those who are on, in the order of their numbers
abbrev pub first_queue : Installed → ℕ → List ℕ
first_queue s zero = []
first_queue s (suc user) = queue_with user false (is_user_on s user) (first_queue s user)

-- a user is ready unless a run of one unit would say that his machine waits, or is stopped
abbrev pub ready_in : Installed → ℕ → Bool
ready_in s user = is_ready (machine_at s user)

-- ---- the line

-- whether the last start of a device was before that of another
abbrev pub is_before : Subchannel → Subchannel → Bool
is_before d other = nat_lt d.last_start other.last_start

-- a device among others that are in the order of their last starts
abbrev pub in_order : Subchannel → List Subchannel → List Subchannel
in_order d [] = d ∷ []
in_order d (other ∷ others) = if is_before d other then d ∷ other ∷ others
    else other ∷ in_order d others

-- the device works, it was started with this number or a later one, and it is one that scripts know
-- of the user, as each of his is
abbrev pub is_joining : Installed → ℕ → ℕ → Subchannel → Bool
is_joining s user number d = is_started number d && has_device s.users user d.address

-- such devices in the order of their starts, with these before them already in that order
abbrev pub with_joining : Installed → ℕ → ℕ → List Subchannel → List Subchannel → List Subchannel
with_joining s user number sorted [] = sorted
with_joining s user number sorted (d ∷ ds) =
    with_joining s user number (if is_joining s user number d then in_order d sorted else sorted) ds

-- the devices of a user that were started since his machine's next start had this number, in the
-- order of their starts
abbrev pub started_since : Installed → ℕ → ℕ → List Subchannel
started_since s user number = with_joining s user number [] (subchannels_at s user)

-- the line without the programs of those of these devices of a user that do not work
abbrev pub withdrawn : ℕ → List Subchannel → List Program → List Program
withdrawn user [] line = line
withdrawn user (d ∷ ds) line =
    withdrawn user ds (if works d.state then line else without (is_of user d.address) line)

-- the program of each of these devices of a user is at the end, in their order
abbrev pub joined : ℕ → List Subchannel → List Program → List Program
joined user [] line = line
joined user (d ∷ ds) line =
    joined user ds (at_end (is_of user d.address) (record { user = user; device = d.address }) line)

-- the line where this user's machine has gone on since its next start had this number: his programs
-- that have ended or were withdrawn are in it no more, and those that were started since are at its
-- end, in the order of their starts
abbrev pub line_since : Installed → ℕ → ℕ → List Program → List Program
line_since s user number line =
    joined user (started_since s user number) (withdrawn user (subchannels_at s user) line)

-- the line after an event of this user
abbrev pub line_after : Installed → Installed → ℕ → List Program → List Program
line_after old new user line = line_since new user (next_start (subchannels_at old user)) line

-- the line at first, of this many users: the programs of each by their starts, user by user
abbrev pub first_line : Installed → ℕ → List Program
first_line s zero = []
first_line s (suc user) = line_since s user 0 (first_line s user)

-- queue and line at first, and after an event of this user
abbrev pub first_lines : Installed → Lines
first_lines s = let users =
    length s.users in record {
      users = first_queue s users;
      programs = first_line s users;
      most_users = users;
    }

-- the queue and the line after an event
abbrev pub lines_after : Installed → Installed → ℕ → Lines → Lines
lines_after old new user lines =
    record lines {
      users = queue_after old new user lines.users;
      programs = line_after old new user lines.programs;
    }

-- ---- what is done

-- how many units a slice has
abbrev pub slice_units : ℕ
slice_units = 100

-- what came of an act: an event of the script that was answered, or half a turn that somebody had
-- or nobody; and a turn of which nobody had either half
pub data Entry (W : Type 0) : Type 0 where
  Answered : Step W → Entry W
  Dealt : Step W → Entry W
  Passed : Entry W
  Idle : Entry W

-- half a turn that nobody had, where the turn had a slice or had none
abbrev pub passed : {W : Type 0} → Bool → Entry W
passed true = Passed
passed false = Idle

-- the event that was said happened; the queue has who logged on by it, and no more who logged off,
-- and the line what was started by it, and no more what has ended
pub record IsApplied {W : Type 0} (i : Installation W) (said : EventValue) (step : Step W)
    (old new : Scene W) : Type 0 where
  pub named : step.said ≡ said
  pub happened : i.Happens old.world said step.reply step.left
  pub left : new ≡ moved old step.left
      (lines_after (i.seen old.world) (i.seen step.left) (user_said said) old.lines) false

-- the first in the queue who is ready had a slice, and is at its end
pub record IsSlice {W : Type 0} (i : Installation W) (step : Step W)
    (old new : Scene W) : Type 0 where
  pub user : ℕ
  pub queue : List ℕ
  pub dealt : IsDealt (ready_in (i.seen old.world)) old.lines.users (Some user) queue
  pub slice : step.said ≡ Run user slice_units
  pub happened : i.Happens old.world (Run user slice_units) step.reply step.left
  pub left : new ≡ moved old step.left
      (record old.lines {
        users = queue;
        programs = line_after (i.seen old.world) (i.seen step.left) user old.lines.programs;
      }) true

-- nobody in the queue was ready, and nothing has happened
pub record IsNoSlice {W : Type 0} (i : Installation W) (old new : Scene W) : Type 0 where
  pub dealt : IsDealt (ready_in (i.seen old.world)) old.lines.users None old.lines.users
  pub left : new ≡ moved old old.world old.lines false

-- the first program in the line was served, and went to its end before; where it has ended by that,
-- it is there no more
pub record IsServe {W : Type 0} (i : Installation W) (step : Step W)
    (old new : Scene W) : Type 0 where
  pub program : Program
  pub turned : List Program
  pub dealt : IsDealt always old.lines.programs (Some program) turned
  pub served : step.said ≡ Serve program.user program.device
  pub happened : i.Happens old.world (Serve program.user program.device) step.reply step.left
  pub left : new ≡ moved old step.left
      (record old.lines {
        programs = line_after (i.seen old.world) (i.seen step.left) program.user
            turned;
      }) false

-- no program was in the line, nothing has happened, and this is whether somebody had the slice of
-- the turn
pub record IsNoServe {W : Type 0} (had_slice : Bool) (old new : Scene W) : Type 0 where
  pub dealt : IsDealt always old.lines.programs None old.lines.programs
  pub had : old.had_slice ≡ had_slice
  pub left : new ≡ moved old old.world old.lines false

-- an act was done, with this entry
abbrev pub IsDone : {W : Type 0} → Installation W → Act → Entry W → Scene W → Scene W → Type 0
IsDone i (Applies said) (Answered step) old new = IsApplied i said step old new
IsDone i (Applies said) (Dealt step) old new = ⊥
IsDone i (Applies said) Passed old new = ⊥
IsDone i (Applies said) Idle old new = ⊥
IsDone i Slices (Answered step) old new = ⊥
IsDone i Slices (Dealt step) old new = IsSlice i step old new
IsDone i Slices Passed old new = IsNoSlice i old new
IsDone i Slices Idle old new = ⊥
IsDone i Serves (Answered step) old new = ⊥
IsDone i Serves (Dealt step) old new = IsServe i step old new
IsDone i Serves Passed old new = IsNoServe true old new
IsDone i Serves Idle old new = IsNoServe false old new

-- these acts were done one after another, and this came of each
abbrev pub AreDone : {W : Type 0} → Installation W → List Act → Scene W → List (Entry W) → Scene W
    → Type 0
AreDone i [] old [] new = new ≡ old
AreDone i [] old (entry ∷ entries) new = ⊥
AreDone i (act ∷ more) old [] new = ⊥
AreDone {W} i (act ∷ more) old (entry ∷ entries) new = (next : Scene W)
    × IsDone i act entry old next × AreDone i more next entries new

-- the events among what was done
abbrev pub steps_of : {W : Type 0} → List (Entry W) → List (Step W)
steps_of [] = []
steps_of (Answered step ∷ entries) = step ∷ steps_of entries
steps_of (Dealt step ∷ entries) = step ∷ steps_of entries
steps_of (Passed ∷ entries) = steps_of entries
steps_of (Idle ∷ entries) = steps_of entries

-- ---- where memory is refused

-- an event that an act may bring about
abbrev pub MayAsk : Act → EventValue → Type 0
MayAsk (Applies said) asked = asked ≡ said
MayAsk Slices asked = (user : ℕ) × (asked ≡ Run user slice_units)
MayAsk Serves asked = (user : ℕ) × (device : ℕ) × (asked ≡ Serve user device)

-- the first of these acts was refused memory
abbrev pub IsLacking : {W : Type 0} → Installation W → List Act → W → W → Type 0
IsLacking i [] old new = ⊥
IsLacking i (act ∷ rest) old new = (asked : EventValue) × MayAsk act asked × i.Lacks old asked new
