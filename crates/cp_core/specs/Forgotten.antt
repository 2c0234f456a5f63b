-- Lines that consoles have printed before, and entries of closed files that were written, do not
-- matter to what events leave of a system.
use Rattle.std.specs.Prelude.{◌≡◌, ℕ, List, [], ◌∷◌, map}
use Rattle.machine_devices.specs.Equipped.{Equipped}
use Rattle.machine_devices.specs.Forgotten.{equipped_having_printed, unprinted}
use Rattle.machine_devices.specs.Written.{Lost, equipped_having}
use Rattle.cp_core.specs.Histories.{IsStep}
use Rattle.cp_core.specs.Local.{Step}
use Rattle.cp_core.specs.System.{SystemView}
use Rattle.cp_core.specs.UserMachines.{SeatParts}

-- ---- a system that has forgotten them

-- a machine with its devices, as it is kept, that has printed nothing
abbrev pub seat_unprinted : SeatParts → SeatParts
seat_unprinted s = record s { parts = record s.parts { output = [] } }

-- the system of which no console has printed anything
abbrev pub forgotten : SystemView → SystemView
forgotten s = record s { users = map unprinted s.users }

-- ---- a system that goes on as another

-- what is gone of a user: lines that his console has printed before, and entries that his closed
-- files have lost
pub record Gone : Type 0 where
  pub lines : List (List ℕ)
  pub files : Lost

-- the machine with its devices that has these lines and entries
abbrev pub equipped_with : Gone → Equipped → Equipped
equipped_with gone e = equipped_having_printed gone.lines (equipped_having gone.files e)

-- these users, of whom the first has what is the first of this, and so on
abbrev pub users_with : List Gone → List Equipped → List Equipped
users_with [] users = users
users_with (gone ∷ more) [] = []
users_with (gone ∷ more) (e ∷ users) = equipped_with gone e ∷ users_with more users

-- one system goes on as another: all is the same, but its users have what is gone of those of the
-- other, and it may keep other programs
pub record GoesOnAs (one other : SystemView) : Type 0 where
  pub gone : List Gone
  pub same : one ≡ record other { users = users_with gone other.users; kept = one.kept }

-- the system that a step leaves of the one whose users have this
abbrev pub step_with : List Gone → Step → Step
step_with gone step =
    record step { seen = record step.seen { users = users_with gone step.seen.users } }

-- to go on as another is to be it, or to go on as one that does; and a step of the other is one of
-- this, which leaves what goes on as the other then
pub record StepsGoOn : Type 0 where
  pub reflexive : (one : SystemView) → GoesOnAs one one
  pub transitive : (one other last : SystemView) → GoesOnAs one other → GoesOnAs other last
      → GoesOnAs one last
  pub steps : (one other : SystemView) (step : Step) (same : GoesOnAs one other)
      → IsStep other step → IsStep one (step_with same.gone step)
  pub forgets : (one : SystemView) → GoesOnAs one (forgotten one)
