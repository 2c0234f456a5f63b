-- What a line reports is one, and so is a reply, but for how a message is kept.
use Rattle.std.specs.Prelude.{◌≡◌, ◌⊎◌, ℕ, List, Option, Some}
use Rattle.s370_intr.specs.declared.next.Reason.TheVariants.{FramesOut as RunFramesOut}
use Rattle.cp_console.specs.ConsoleLine.{characters_of}
use Rattle.cp_console.specs.declared.console_line.ConsoleLine.{ConsoleLine}
use Rattle.machine_devices.specs.declared.line.LineOutcome.{LineOutcome}
use Rattle.machine_devices.specs.declared.line.LineOutcome.TheVariants.{Sent}
use Rattle.machine_devices.specs.declared.reply.Delivered.{Delivered}
use Rattle.machine_devices.specs.declared.reply.Delivery.TheVariants.{Message}
use Rattle.machine_devices.specs.declared.reply.Ended.{Ended}
use Rattle.machine_devices.specs.declared.reply.Ended.TheVariants.{Ran, Served, Done, FramesOut}
use Rattle.machine_devices.specs.declared.reply.Reply.{Reply}
use Rattle.machine_devices.specs.Equipped.{Equipped}
use Rattle.machine_devices.specs.Lines.{IsLine}
use Rattle.machine_devices.specs.UserDirectory.{UserDirectory}

-- both lines send the same characters to the same user
pub record SendAlike (one other : LineOutcome) : Type 0 where
  pub user : ℕ
  pub line : ConsoleLine
  pub text : ConsoleLine
  pub sends : one ≡ Sent user line
  pub also : other ≡ Sent user text
  pub characters : characters_of text ≡ characters_of line

-- the same is reported
abbrev pub IsOneOutcome : LineOutcome → LineOutcome → Type 0
IsOneOutcome one other = (other ≡ one) ⊎ SendAlike one other

-- a line that is typed at one machine, in one world, reports one thing
abbrev pub OutcomesAreOne : Type 0
OutcomesAreOne = (w : UserDirectory) (typed : List ℕ) (old one other : Equipped)
    (reported said : LineOutcome) →
    IsLine w typed old reported one → IsLine w typed old said other → IsOneOutcome reported said

-- both replies deliver a message of the same characters to the same user
pub record DeliverAlike (one other : Option Delivered) : Type 0 where
  pub to : ℕ
  pub line : ConsoleLine
  pub text : ConsoleLine
  pub delivers : one ≡ Some (record { to = to; what = Message line })
  pub also : other ≡ Some (record { to = to; what = Message text })
  pub characters : characters_of text ≡ characters_of line

-- an event was not cut short for want of frames
abbrev pub HadFrames : Ended → Type 0
HadFrames (Ran ran) = ran.reason ≡ RunFramesOut → ⊥
HadFrames (Served done) = Unit {0}
HadFrames Done = Unit {0}
HadFrames FramesOut = ⊥

-- two replies are one: the event ended in the same way, and the same was said, printed and
-- delivered
pub record IsOneReply (one other : Reply) : Type 0 where
  pub ended : other.ended ≡ one.ended
  pub said : other.said ≡ one.said
  pub lines : other.lines ≡ one.lines
  pub delivered : (other.delivered ≡ one.delivered) ⊎ DeliverAlike one.delivered other.delivered
