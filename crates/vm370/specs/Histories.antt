-- The steps of a session, as a history of the system, and what systems have in common.
use Rattle.std.specs.Prelude.{◌≡◌, ℕ, List, map}
use Rattle.ckd_volume.specs.Volume.{VolumeFormat}
use Rattle.cp_core.specs.Boot.{IsBooted}
use Rattle.cp_core.specs.Histories.{IsHistory as IsSystemHistory}
use Rattle.cp_core.specs.Local.{Step as SystemStep}
use Rattle.cp_core.specs.Saved.{AreAlike}
use Rattle.cp_core.specs.System.{SystemView}
use Rattle.cp_directory.specs.Users.{DirectoryUser}
use Rattle.sessions.specs.Installed.{IsHistory, Step, as_said}
use Rattle.vm370.specs.Goes.{system_goes}

-- a step of a session as one of the system
abbrev pub of_system : SystemStep → Step SystemView
of_system step = record { said = as_said step.event; reply = step.reply; left = step.seen }

-- each history of an installation of users is one of a system
abbrev pub AreHistories : Type 0
AreHistories = (first last : SystemView) (steps : List (Step SystemView))
    → IsHistory system_goes first steps last →
    (events : List SystemStep) × (map of_system events ≡ steps) × IsSystemHistory first events last

-- systems that were booted from one directory, volumes that are alike and any sizes, are of one
-- base
abbrev pub BootsAreOfOneBase : Type 0
BootsAreOfOneBase = (directory : List DirectoryUser) (volumes others : List VolumeFormat)
    (frames slots m n : ℕ) (one other : SystemView) → AreAlike volumes others →
    IsBooted directory volumes frames slots one → IsBooted directory others m n other
    → system_goes.HasSameBase one other
