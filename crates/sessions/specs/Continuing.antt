-- An installation that goes on as another: all is the same, but lines that consoles have printed
-- before, and entries of closed files that were written.
use Rattle.std.specs.Prelude.{◌≡◌, map}
use Rattle.machine_devices.specs.Equipped.{Equipped}
use Rattle.machine_devices.specs.Forgotten.{unprinted}
use Rattle.machine_devices.specs.Written.{without_entries}
use Rattle.sessions.specs.Alike.{IsAlike}
use Rattle.sessions.specs.Installed.{Installation, Installed, Step}
use Rattle.sessions.specs.Noted.{HasFull, NotesFiles}
use Rattle.sessions.specs.Schedule.{Scene}

-- what is seen of an installation, but for the lines that consoles have printed
abbrev pub but_printed : Installed → Installed
but_printed s = record s { machines = map unprinted s.machines }

-- the machine with its devices, of which the console has printed nothing and no closed file has an
-- entry
abbrev pub unwritten : Equipped → Equipped
unwritten e = record (unprinted e) {
  devices = record e.devices {
    punched = map without_entries e.devices.punched;
    printed = map without_entries e.devices.printed;
  };
}

-- what is seen of an installation, but for those lines and entries
abbrev pub but_written : Installed → Installed
but_written s = record s { machines = map unwritten s.machines }

-- the event that left this of another installation happens to this one too: the reply and the lines
-- that have joined consoles are the same, and what it leaves goes on as what was left
pub record HappensToo {W : Type 0} (i : Installation W) (one : W) (step : Step W) : Type 0 where
  pub left : W
  pub happens : i.Happens one step.said step.reply left
  pub on : i.GoesOnAs left step.left
  pub alike : IsAlike i i (record step { left = left }) step

-- What it is to go on as another. What is seen of both is the same, but for lines that were printed
-- and entries of closed files, and each file that still has an entry is the same. Both are of one
-- base, and what happens to the other happens to this one too. Each event notes the files that it
-- closes, with their entries.
pub record IsToGoOn {W : Type 0} (i : Installation W) : Type 0 where
  pub reflexive : (one : W) → i.GoesOnAs one one
  pub transitive : (one other last : W) → i.GoesOnAs one other → i.GoesOnAs other last
      → i.GoesOnAs one last
  pub seen : (one other : W) → i.GoesOnAs one other → but_written (i.seen one) ≡ but_written
      (i.seen other)
  pub full : (one other : W) → i.GoesOnAs one other → HasFull (i.seen one) (i.seen other)
  pub base : (one other : W) → i.GoesOnAs one other → i.HasSameBase one other
  pub happens : (one other : W) (step : Step W) → i.GoesOnAs one other
      → i.Happens other step.said step.reply step.left
      → HappensToo i one step
  pub notes : (one : W) (step : Step W) → i.Happens one step.said step.reply step.left
      → NotesFiles (i.seen one) (i.seen step.left)

-- one scene goes on as another: its installation does, and all else is the same
pub record ContinuesAs {W : Type 0} (i : Installation W) (one other : Scene W) : Type 0 where
  pub world : i.GoesOnAs one.world other.world
  pub lines : one.lines ≡ other.lines
  pub detail : one.detail ≡ other.detail
  pub had_slice : one.had_slice ≡ other.had_slice
