-- Whole histories: events that were applied one after another.
use Rattle.std.specs.Prelude.{◌≡◌, ℕ, List, [], ◌∷◌, ◌++◌, length}
use Rattle.s370_channel.specs.Reading.{as_reached}
use Rattle.machine_devices.specs.Life.{Event as Local, Lives}
use Rattle.cp_core.specs.Local.{IsApplied, Step, local}
use Rattle.cp_core.specs.Supply.{IsSupplied}
use Rattle.cp_volumes.specs.Shared.{IsConfined}
use Rattle.machine_devices.specs.Events.{user_of}
use Rattle.cp_core.specs.System.{SystemView, placements_at, user_at}
use Rattle.cp_core.specs.LineOutcome.{IsReply}

-- an event that was applied to a system, to each user and to the frames, as its reply says
pub record IsReplied (old : SystemView) (step : Step) : Type 0 where
  pub applied : IsApplied old step
  pub reported : IsReply old step
  pub supplied : IsSupplied old step.event step.reply.ended step.seen

-- and there are as many users, the directory and the places of minidisks are as they were, and of
-- the volumes only cylinders changed that its user may write. Which programs are kept is no part of
-- a history: a system that was restored keeps none (`System::apply`, clause `kept`, says it).
pub record IsStep (old : SystemView) (step : Step) : Type 0 where
  pub replied : IsReplied old step
  pub users : length step.seen.users ≡ length old.users
  pub directory : step.seen.directory ≡ old.directory
  pub placements : step.seen.placements ≡ old.placements
  pub confined : IsConfined (placements_at old (user_of step.event)) old.volumes step.seen.volumes

-- one step after another leads from the first state to the last
abbrev pub IsHistory : SystemView → List Step → SystemView → Type 0
IsHistory first [] last = last ≡ first
IsHistory first (step ∷ steps) last = IsStep first step × IsHistory step.seen steps last

-- a user's own part of a history, with what came to him, in order
abbrev pub own : ℕ → SystemView → List Step → List Local
own user first [] = []
own user first (step ∷ steps) = local user first step ++ own user step.seen steps

-- whatever the history, each user has the machine with its devices that his own events leave of a
-- machine of its own
abbrev pub EachIsBare : Type 0
EachIsBare = (first last : SystemView) (steps : List Step) → IsHistory first steps last
    → (user : ℕ) →
    Lives as_reached (own user first steps) (user_at first user) (user_at last user)
