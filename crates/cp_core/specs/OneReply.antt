-- A reply is one: the same event of a user's machine is answered in the same way, whoever else is
-- there and however many frames there are.
use Rattle.std.specs.Prelude.{◌≡◌, ℕ, List, [], ◌∷◌, length}
use Rattle.machine_devices.specs.Events.{IsSameEvent, user_of}
use Rattle.machine_devices.specs.Notes.{next_file}
use Rattle.machine_devices.specs.OneReply.{HadFrames, IsOneReply}
use Rattle.cp_core.specs.Histories.{IsHistory, IsReplied}
use Rattle.cp_core.specs.Local.{Step}
use Rattle.cp_core.specs.System.{SystemView, names_of, user_at, world_of}

-- no event was cut short for want of frames
abbrev pub AllHadFrames : List Step → Type 0
AllHadFrames [] = Unit {0}
AllHadFrames (step ∷ steps) = HadFrames step.reply.ended × AllHadFrames steps

-- to one user two systems look alike: he has the same machine and knows the same users, of whom the
-- same are logged on, and the next file has the same number
pub record IsAlikeTo (user : ℕ) (one other : SystemView) : Type 0 where
  pub machine : user_at other user ≡ user_at one user
  pub world : world_of other user ≡ world_of one user
  pub users : length other.users ≡ length one.users
  pub number : next_file other.files ≡ next_file one.files

-- The same event in systems that look alike to its user has one reply, and leaves one machine of
-- his, if it was cut short in neither.
abbrev pub RepliesAreOne : Type 0
RepliesAreOne = (one other : SystemView) (step twin : Step) → IsSameEvent step.event twin.event
    → IsAlikeTo (user_of step.event) one other → IsReplied one step → IsReplied other twin
    → HadFrames step.reply.ended → HadFrames twin.reply.ended
    → IsOneReply step.reply twin.reply
    × (user_at twin.seen (user_of step.event) ≡ user_at step.seen (user_of step.event))

-- ---- whole histories

-- two systems look alike to everybody, and their files are of the same users
pub record LookAlike (one other : SystemView) : Type 0 where
  pub users : other.users ≡ one.users
  pub names : names_of other.directory ≡ names_of one.directory
  pub files : other.files ≡ one.files

-- each event is the one in the same place
abbrev pub AreSameEvents : List Step → List Step → Type 0
AreSameEvents [] twins = twins ≡ []
AreSameEvents (step ∷ steps) [] = ⊥
AreSameEvents (step ∷ steps) (twin ∷ twins) = IsSameEvent step.event twin.event
    × AreSameEvents steps twins

-- each reply is that to the event in the same place
abbrev pub AreOneReplies : List Step → List Step → Type 0
AreOneReplies [] twins = twins ≡ []
AreOneReplies (step ∷ steps) [] = ⊥
AreOneReplies (step ∷ steps) (twin ∷ twins) = IsOneReply step.reply twin.reply
    × AreOneReplies steps twins

-- The same events have the same replies, and leave systems that look alike, however many frames
-- each has, if none was cut short for want of them.
abbrev pub HistoriesAreOne : Type 0
HistoriesAreOne = (one other last end : SystemView) (steps twins : List Step) → LookAlike one other
    → IsHistory one steps last → IsHistory other twins end
    → AreSameEvents steps twins
    → AllHadFrames steps → AllHadFrames twins
    → AreOneReplies steps twins × LookAlike last end
