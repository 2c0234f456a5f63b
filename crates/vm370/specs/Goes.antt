-- How a system goes on, as sessions see it.
use Rattle.std.specs.Prelude.{◌≡◌, ℕ, ◌<◌, true, false, IsSome, List, length, map}
use Rattle.cp_core.specs.Forgotten.{GoesOnAs}
use Rattle.cp_core.specs.Histories.{IsStep}
use Rattle.cp_core.specs.Keeps.{IsNoneKept}
use Rattle.cp_core.specs.Memory.{MayTakeMemory, is_cut_short}
use Rattle.cp_core.specs.Saved.{AreAlike, IsSaved, IsUserSaved}
use Rattle.cp_core.specs.Supply.{IsSuppliedInPart}
use Rattle.machine_devices.specs.Comes.{LineMay}
use Rattle.s370_subchannels.specs.Programs.{program_of}
use Rattle.cp_core.specs.System.{SystemView, kept_at, machine_at, user_at, world_of}
use Rattle.machine_devices.specs.declared.event.Event.{Event}
use Rattle.machine_devices.specs.declared.reply.Reply.{Reply}
use Rattle.cp_directory.specs.Users.{DirectoryUser, addresses_of}
use Rattle.machine_devices.specs.Spooling.{deck_queued}
use Rattle.session_script.specs.Script.{EventValue, Run, Line, Tick, Serve, Auto, Deck, Transfer}
use Rattle.session_script.specs.Users.{KnownUser}
use Rattle.sessions.specs.Installed.{Installation, Installed, as_said}

-- scripts know a user of a directory by his name, and the addresses of his devices
abbrev pub known_user : DirectoryUser → KnownUser
known_user user = record { name = user.name; devices = addresses_of user }

-- the users of a directory, as scripts know them
abbrev pub known_users : List DirectoryUser → List KnownUser
known_users users = map known_user users

-- what a session sees of a system
abbrev pub seen_in : SystemView → Installed
seen_in s = record { users = known_users s.directory; machines = s.users; files = s.files }

-- the event that was said was applied, and was answered so
pub record HasHappened (old : SystemView) (said : EventValue) (reply : Reply)
    (new : SystemView) : Type 0 where
  pub event : Event
  pub named : as_said event ≡ said
  pub step : IsStep old (record { event = event; reply = reply; seen = new })

-- it was refused memory: each user is as he was, but for one whose own line closes files or whose
-- device is served, and the system is spent
pub record IsSpent (old : SystemView) (said : EventValue) (new : SystemView) : Type 0 where
  pub event : Event
  pub named : as_said event ≡ said
  pub spent : new.is_spent ≡ true
  pub directory : new.directory ≡ old.directory
  pub may : MayTakeMemory old event
  pub supplied : IsSuppliedInPart old event new
  pub others : (user : ℕ) → is_cut_short old event user ≡ false
      → user_at new user ≡ user_at old user

-- what was said may want memory: such lines, a device that is served and works on a program, but
-- for a minidisk's that is kept and may run again, a deck that has cards, and one that is moved
abbrev pub MayRefuse : SystemView → EventValue → Type 0
MayRefuse old (Run user units) = ⊥
MayRefuse old (Line user text) = LineMay (world_of old user) text (user_at old user)
MayRefuse old (Tick user) = ⊥
MayRefuse old (Serve user device) =
    IsSome (program_of device (machine_at old user).core.subchannels)
    × IsNoneKept device user (user_at old user) old.supply (kept_at old user)
MayRefuse old (Deck user cards) = 0 < length cards
MayRefuse old (Transfer user id to) = IsSome (deck_queued (user_at old user).devices id)
MayRefuse old (Auto turns) = ⊥

-- two systems have one directory, and volumes with the same serial numbers and sizes in one order
pub record IsOfOneBase (one other : SystemView) : Type 0 where
  pub directory : other.directory ≡ one.directory
  pub volumes : AreAlike one.volumes other.volumes

-- how a system goes, as an installation
abbrev pub system_goes : Installation SystemView
system_goes = record {
  seen = seen_in;
  Happens = HasHappened;
  May = MayRefuse;
  Lacks = IsSpent;
  is_spent = λ s. s.is_spent;
  has_states = true;
  IsSaved = IsSaved;
  IsUserSaved = IsUserSaved;
  HasSameBase = IsOfOneBase;
  GoesOnAs = GoesOnAs;
}
