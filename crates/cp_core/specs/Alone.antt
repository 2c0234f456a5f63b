-- A user's machine equals a machine of its own.
use Rattle.std.specs.Prelude.{◌≡◌, ◌++◌, ℕ, List, [], ◌∷◌, map}
use Rattle.s370_channel.specs.Reading.{as_reached}
use Rattle.machine_devices.specs.Equipped.{Equipped}
use Rattle.machine_devices.specs.Life.{Event as Local, Lives}
use Rattle.machine_devices.specs.OneLife.{KeepsNames, elsewhere}
use Rattle.machine_devices.specs.UserDirectory.{UserDirectory}
use Rattle.cp_core.specs.Histories.{IsHistory, own}
use Rattle.cp_core.specs.Local.{Step}
use Rattle.cp_core.specs.Saved.{IsSaved}
use Rattle.cp_core.specs.System.{SystemView, user_at}

-- Whatever the history of a system, each user's machine equals every machine of its own that began
-- as his and was given his own events, whoever else was logged on at each of them there, if users
-- have the same names.
abbrev pub EachEqualsABareMachine : Type 0
EachEqualsABareMachine = (first last : SystemView) (steps : List Step) (user : ℕ)
    (there : UserDirectory → UserDirectory) (alone : Equipped) → IsHistory first steps last
    → KeepsNames there
    → Lives as_reached (map (elsewhere there) (own user first steps)) (user_at first user) alone
    → user_at last user ≡ alone

-- ---- systems that were saved and restored

-- one system was saved as the bytes as which the other, of the same directory, is saved too
pub record IsRestoredFrom (saved restored : SystemView) : Type 0 where
  pub bytes : List ℕ
  pub was : IsSaved saved bytes
  pub is : IsSaved restored bytes
  pub directory : restored.directory ≡ saved.directory

-- a history, and then others, each of a system that was restored from the state that the one before
-- left
abbrev pub GoesOnFromStates : SystemView → List Step → List (List Step) → SystemView → Type 0
GoesOnFromStates first steps [] last = IsHistory first steps last
GoesOnFromStates first steps (next ∷ more) last = (saved : SystemView) × (restored : SystemView)
    × IsHistory first steps saved × IsRestoredFrom saved restored
    × GoesOnFromStates restored next more last

-- a user's own part of all these histories, in order
abbrev pub own_of_all : ℕ → (first : SystemView) → (steps : List Step) → (more : List (List Step))
    → (last : SystemView) → GoesOnFromStates first steps more last → List Local
own_of_all user first steps [] last goes = own user first steps
own_of_all user first steps (next ∷ more) last goes = own user first steps
    ++ own_of_all user goes.1 next more last goes.4

-- The same is true however often the system was saved and restored.
abbrev pub EachEqualsABareMachineThroughStates : Type 0
EachEqualsABareMachineThroughStates = (first last : SystemView) (steps : List Step)
    (more : List (List Step)) (user : ℕ) (there : UserDirectory → UserDirectory) (alone : Equipped)
    → (goes : GoesOnFromStates first steps more last) → KeepsNames there
    → Lives as_reached (map (elsewhere there) (own_of_all user first steps more last goes))
    (user_at first user) alone
    → user_at last user ≡ alone
