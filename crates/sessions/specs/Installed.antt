-- An installation as a session sees it.
use Rattle.std.specs.Prelude.{ℕ, ◌≡◌, Bool, true, List, [], ◌∷◌, slice_index_or}
use Rattle.std.specs.List.{list_all}
use Rattle.s370_subchannels.specs.declared.subchannel.Subchannel.{Subchannel}
use Rattle.machine_panel.specs.Machine.{Machine}
use Rattle.machine_devices.specs.Equipped.{Equipped, nobody}
use Rattle.machine_devices.specs.declared.event.Event.{Event}
use Rattle.machine_devices.specs.declared.event.Event.TheVariants as events
use Rattle.machine_devices.specs.declared.files.FileNote.{FileNote}
use Rattle.machine_devices.specs.declared.reply.Reply.{Reply}
use Rattle.cp_dispatch.specs.declared.program.Program.{Program}
use Rattle.session_script.specs.Script.{EventValue, Run, Line, Tick, Serve, Deck, Transfer}
use Rattle.session_script.specs.Users.{KnownUser, has_device, names_of as names_in}

-- its users, as scripts know them; each one's machine with its devices; and of each file what it
-- was and whose when it got its number
pub record Installed : Type 0 where
  pub users : List KnownUser
  pub machines : List Equipped
  pub files : List FileNote

-- a user's machine with its devices
abbrev pub user_at : Installed → ℕ → Equipped
user_at s user = slice_index_or s.machines user nobody

-- his machine alone
abbrev pub machine_at : Installed → ℕ → Machine
machine_at s user = (user_at s user).machine

-- the subchannels of a user's machine
abbrev pub subchannels_at : Installed → ℕ → List Subchannel
subchannels_at s user = (machine_at s user).core.subchannels

-- the names of all users
abbrev pub names_of : Installed → List (List ℕ)
names_of s = names_in s.users

-- a program is of a device of its user, and so is each in a line
abbrev pub is_stated : List KnownUser → Program → Bool
is_stated users program = has_device users program.user program.device

-- each program in the line is of a device of its user
abbrev pub IsLineStated : List KnownUser → List Program → Type 0
IsLineStated users line = list_all (is_stated users) line ≡ true

-- an event as a script names it
abbrev pub as_said : Event → EventValue
as_said (events.Run user units) = Run user units
as_said (events.Line user text) = Line user text.now
as_said (events.Tick user) = Tick user
as_said (events.Serve user device) = Serve user device
as_said (events.Deck user cards) = Deck user cards.now
as_said (events.Transfer user id to) = Transfer user id to

-- How an installation goes on: what is seen of it; what an event that a script says leaves of it,
-- and what it replies; which event may want memory, and what that may leave; and whether it has
-- ended it. And whether it has states, and as which bytes it is saved, and one of its users; which
-- others are of one base with it, booted from the same; and as which others it goes on.
pub record Installation (W : Type 0) : Type 1 where
  pub seen : W → Installed
  pub Happens : W → EventValue → Reply → W → Type 0
  pub May : W → EventValue → Type 0
  pub Lacks : W → EventValue → W → Type 0
  pub is_spent : W → Bool
  pub has_states : Bool
  pub IsSaved : W → List ℕ → Type 0
  pub IsUserSaved : W → ℕ → List ℕ → Type 0
  pub HasSameBase : W → W → Type 0
  pub GoesOnAs : W → W → Type 0

-- an event that was said, the reply, and what it has left
pub record Step (W : Type 0) : Type 0 where
  pub said : EventValue
  pub reply : Reply
  pub left : W

-- events that happened one after another
abbrev pub IsHistory : {W : Type 0} → Installation W → W → List (Step W) → W → Type 0
IsHistory i first [] last = last ≡ first
IsHistory i first (step ∷ steps) last = i.Happens first step.said step.reply step.left
    × IsHistory i step.left steps last
