-- Who is dealt slices: those who are logged on, each once; and what is dealt serves: the programs
-- of the devices that work, each once.
use Rattle.std.specs.Prelude.{◌≡◌, ◌≤◌, ◌&&◌, ℕ, Bool, true, false, List, length}
use Rattle.std.specs.Prelude.{Option, Some, None}
use Rattle.s370_subchannels.specs.Starts.{works}
use Rattle.s370_subchannels.specs.Subchannels.{AreAscending, found, next_start}
use Rattle.s370_subchannels.specs.declared.subchannel.Subchannel.{Subchannel}
use Rattle.cp_dispatch.specs.Policy.{HasJust, same_program, same_user}
use Rattle.cp_dispatch.specs.declared.program.Program.{Program}
use Rattle.machine_devices.specs.Working.{AllWorkSince}
use Rattle.machine_devices.specs.declared.reply.Reply.{Reply}
use Rattle.session_script.specs.Script.{EventValue, Run, Serve}
use Rattle.session_script.specs.Users.{has_device}
use Rattle.sessions.specs.Fair.{HasDealt, StaysReady, StaysWaiting, serves, slices}
use Rattle.sessions.specs.Installed.{Installation, Installed, subchannels_at}
use Rattle.sessions.specs.Schedule.{Act, AreDone, Entry, Scene, first_lines, is_user_on}
use Rattle.sessions.specs.Schedule.{slice_units, user_said}

-- ---- users

-- in the queue are the users who are on, each once, and nobody else
pub record QueueIsWhoIsOn (s : Installed) (queue : List ℕ) : Type 0 where
  pub machines : length s.machines ≡ length s.users
  pub on : HasJust same_user (is_user_on s) queue

-- an event turns no machine on or off but that of the user whom it names, and a run or a serve none
pub record TurnsItsOwn {W : Type 0} (i : Installation W) : Type 0 where
  pub users : (old : W) (said : EventValue) (reply : Reply) (new : W)
      → i.Happens old said reply new
      → (length (i.seen new).users ≡ length (i.seen old).users)
      × (length (i.seen new).machines ≡ length (i.seen old).machines)
  pub others : (old : W) (said : EventValue) (reply : Reply) (new : W)
      → i.Happens old said reply new
      → (user : ℕ) → (user ≡ user_said said → ⊥)
      → is_user_on (i.seen new) user ≡ is_user_on (i.seen old) user
  pub runs : (old : W) (one units : ℕ) (reply : Reply) (new : W)
      → i.Happens old (Run one units) reply new
      → (user : ℕ) → is_user_on (i.seen new) user ≡ is_user_on (i.seen old) user
  pub serves : (old : W) (one device : ℕ) (reply : Reply) (new : W)
      → i.Happens old (Serve one device) reply new
      → (user : ℕ) → is_user_on (i.seen new) user ≡ is_user_on (i.seen old) user

-- so it is where a session begins
abbrev pub BeginsWithWhoIsOn : Type 0
BeginsWithWhoIsOn = (s : Installed) → length s.machines ≡ length s.users
    → QueueIsWhoIsOn s (first_lines s).users

-- and so it stays, whatever is done
abbrev pub KeepsWhoIsOn : {W : Type 0} → Installation W → Type 0
KeepsWhoIsOn {W} i = (all : List Act) (old new : Scene W) (entries : List (Entry W))
    → AreDone i all old entries new
    → QueueIsWhoIsOn (i.seen old.world) old.lines.users
    → QueueIsWhoIsOn (i.seen new.world) new.lines.users

-- So, of as many slices as users are on, each user who is on and stays ready has one.
abbrev pub SlicesReachAll : {W : Type 0} → Installation W → Type 0
SlicesReachAll {W} i = (user : ℕ) (all : List Act) (old new : Scene W) (entries : List (Entry W))
    (done : AreDone i all old entries new)
    → QueueIsWhoIsOn (i.seen old.world) old.lines.users
    → is_user_on (i.seen old.world) user ≡ true
    → StaysReady i user all old entries new done
    → length old.lines.users ≤ slices all → HasDealt (Run user slice_units) entries

-- ---- programs

-- whether a device that is looked for is there, and works
abbrev pub is_working : Option Subchannel → Bool
is_working None = false
is_working (Some s) = works s.state

-- whether the device of a program works, and is one that scripts know of its user
abbrev pub is_at_work : Installed → Program → Bool
is_at_work s program = has_device s.users program.user program.device
    && is_working (found program.device (subchannels_at s program.user))

-- in the serve queue are the programs of the devices that work, each once, and no other
pub record ServeQueueIsWhatWorks (s : Installed) (queue : List Program) : Type 0 where
  pub ascending : (user : ℕ) → AreAscending (subchannels_at s user)
  pub working : HasJust same_program (is_at_work s) queue

-- an event changes no device but those of the user whom it names, and of these one that works after
-- it has worked before, or was started by it
pub record StartsItsOwn {W : Type 0} (i : Installation W) : Type 0 where
  pub users : (old : W) (said : EventValue) (reply : Reply) (new : W)
      → i.Happens old said reply new → (i.seen new).users ≡ (i.seen old).users
  pub others : (old : W) (said : EventValue) (reply : Reply) (new : W)
      → i.Happens old said reply new
      → (user : ℕ) → (user ≡ user_said said → ⊥)
      → subchannels_at (i.seen new) user ≡ subchannels_at (i.seen old) user
  pub own : (old : W) (said : EventValue) (reply : Reply) (new : W)
      → i.Happens old said reply new →
      AllWorkSince (next_start (subchannels_at (i.seen old) (user_said said)))
      (subchannels_at (i.seen old) (user_said said)) (subchannels_at (i.seen new) (user_said said))

-- so it is where a session begins
abbrev pub BeginsWithWhatWorks : Type 0
BeginsWithWhatWorks = (s : Installed) → ((user : ℕ) → AreAscending (subchannels_at s user))
    → ServeQueueIsWhatWorks s (first_lines s).programs

-- and so it stays, whatever is done
abbrev pub KeepsWhatWorks : {W : Type 0} → Installation W → Type 0
KeepsWhatWorks {W} i = (all : List Act) (old new : Scene W) (entries : List (Entry W))
    → AreDone i all old entries new
    → ServeQueueIsWhatWorks (i.seen old.world) old.lines.programs
    → ServeQueueIsWhatWorks (i.seen new.world) new.lines.programs

-- So, of as many serves as devices work, each program that stays waiting has one.
abbrev pub ServesReachAll : {W : Type 0} → Installation W → Type 0
ServesReachAll {W} i = (program : Program) (all : List Act) (old new : Scene W)
    (entries : List (Entry W)) (done : AreDone i all old entries new)
    → ServeQueueIsWhatWorks (i.seen old.world) old.lines.programs
    → is_at_work (i.seen old.world) program ≡ true
    → StaysWaiting i program all old entries new done
    → length old.lines.programs ≤ serves all
    → HasDealt (Serve program.user program.device) entries
