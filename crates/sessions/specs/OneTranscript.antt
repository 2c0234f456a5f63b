-- Two sessions of the same acts write one transcript, however many frames each has.
use Rattle.std.specs.Prelude.{◌≡◌, ℕ, List, [], ◌∷◌}
use Rattle.machine_devices.specs.OneReply.{HadFrames, IsOneReply}
use Rattle.machine_devices.specs.declared.reply.Reply.{Reply}
use Rattle.session_script.specs.Script.{EventValue}
use Rattle.sessions.specs.Installed.{Installation}
use Rattle.sessions.specs.Schedule.{Act, Answered, AreDone, Dealt, Entry, Idle, Passed, Scene}
use Rattle.sessions.specs.Transcript.{transcript}
use Rattle.sessions.specs.declared.schedule.Detail.{Detail}

-- no event was cut short for want of frames
abbrev pub AllHadFrames : {W : Type 0} → List (Entry W) → Type 0
AllHadFrames [] = Unit {0}
AllHadFrames (Answered step ∷ entries) = HadFrames step.reply.ended × AllHadFrames entries
AllHadFrames (Dealt step ∷ entries) = HadFrames step.reply.ended × AllHadFrames entries
AllHadFrames (Passed ∷ entries) = AllHadFrames entries
AllHadFrames (Idle ∷ entries) = AllHadFrames entries

-- the same event has one reply where the same is seen, and the same is seen after it, if it was cut
-- short in neither
abbrev pub HaveOneReply : {W : Type 0} → Installation W → Type 0
HaveOneReply {W} i = (one other left end : W) (said : EventValue) (reply twin : Reply)
    → i.seen other ≡ i.seen one → i.Happens one said reply left → i.Happens other said twin end
    → HadFrames reply.ended → HadFrames twin.ended
    → IsOneReply reply twin × (i.seen end ≡ i.seen left)

-- the same is seen in two scenes, and turns are dealt alike
pub record LookAlike {W : Type 0} (i : Installation W) (one other : Scene W) : Type 0 where
  pub seen : i.seen other.world ≡ i.seen one.world
  pub lines : other.lines ≡ one.lines
  pub had_slice : other.had_slice ≡ one.had_slice

-- The same acts have one transcript, and lead to scenes that look alike, if no event was cut short.
abbrev pub TranscriptsAreOne : {W : Type 0} → Installation W → Type 0
TranscriptsAreOne {W} i = (all : List Act) (one other last end : Scene W)
    (entries twins : List (Entry W)) → LookAlike i one other
    → AreDone i all one entries last → AreDone i all other twins end
    → AllHadFrames entries → AllHadFrames twins
    → ((detail : Detail) (names : List (List ℕ))
    → transcript i detail names twins ≡ transcript i detail names entries)
    × LookAlike i last end
