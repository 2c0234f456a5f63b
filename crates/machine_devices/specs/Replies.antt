-- What an installation replies to an event: what is said, and what is delivered (docs/COMMANDS.md).
use Rattle.std.specs.Prelude.{◌≡◌, ℕ, nat_lt, if◌then◌else◌, List, [], ◌∷◌, length, slice_get}
use Rattle.std.specs.Prelude.{Option, Some, None}
use Rattle.unit_record.specs.declared.output.Target.{Target}
use Rattle.unit_record.specs.declared.output.Target.TheVariants as targets
use Rattle.unit_record.specs.Output.{FileValue}
use Rattle.unit_record.specs.Reader.{DeckValue}
use Rattle.cp_console.specs.declared.responses.Response.{Response}
use Rattle.cp_console.specs.declared.responses.Response.TheVariants as responses
use Rattle.machine_devices.specs.declared.line.LineOutcome.{LineOutcome}
use Rattle.machine_devices.specs.declared.line.LineOutcome.TheVariants.{Silent, Said, Files, Sent}
use Rattle.machine_devices.specs.declared.line.LineOutcome.TheVariants.{Closed, LoggedOff}
use Rattle.machine_devices.specs.declared.reply.Delivered.{Delivered}
use Rattle.machine_devices.specs.declared.reply.Delivery.{Delivery}
use Rattle.machine_devices.specs.declared.reply.Delivery.TheVariants as deliveries
use Rattle.machine_devices.specs.declared.reply.Ended.{Ended}
use Rattle.machine_devices.specs.declared.reply.Reply.{Reply}
use Rattle.machine_devices.specs.declared.reply.UserResponse.{UserResponse}
use Rattle.machine_devices.specs.declared.reply.UserResponse.TheVariants as sayings
use Rattle.machine_devices.specs.Equipped.{Equipped}
use Rattle.machine_devices.specs.Lines.{IsLine}
use Rattle.machine_devices.specs.UserDirectory.{UserDirectory}

-- it says no more than how the event ended
abbrev pub silent : Ended → Reply
silent ended = record { ended = ended; said = sayings.Nothing; lines = 0; delivered = None }

-- a response that is said, where there is one
abbrev pub saying : Option Response → UserResponse
saying None = sayings.Nothing
saying (Some response) = sayings.Said response

-- ---- a line

-- a message is sent to its receiver, and a file that was closed has this number
abbrev pub said_to_line : ℕ → LineOutcome → UserResponse
said_to_line number Silent = sayings.Nothing
said_to_line number (Said response) = sayings.Said response
said_to_line number Files = sayings.Files
said_to_line number (Sent user line) = sayings.Said responses.Sent
said_to_line number (Closed files) = sayings.Said (responses.FileClosed number)
said_to_line number (LoggedOff files) = sayings.Said responses.LogoffOk

-- what is for a user of whom there are fewer comes to nobody
abbrev pub delivery_to : ℕ → ℕ → Delivery → Option Delivered
delivery_to users user what = if nat_lt user users then Some (record { to = user; what = what })
    else None

-- a file that is for a user comes to his reader, as a deck with this number
abbrev pub deck_for : ℕ → ℕ → Target → Option Delivered
deck_for users number targets.System = None
deck_for users number (targets.User user) = delivery_to users user (deliveries.Deck number)

-- the deck that a closed file becomes, if it is for a user
abbrev pub deck_of : ℕ → ℕ → Option FileValue → Option Delivered
deck_of users number None = None
deck_of users number (Some file) = deck_for users number file.target

-- the user for whom a file is, if it is for one
abbrev pub user_in : Target → Option ℕ
user_in targets.System = None
user_in (targets.User user) = Some user

-- the user who receives a closed file, if one does
abbrev pub receiver_of : Option FileValue → Option ℕ
receiver_of None = None
receiver_of (Some file) = user_in file.target

-- the punch's file of this index, where there is one
abbrev pub punched : ℕ → ℕ → ℕ → Equipped → Option Delivered
punched users number index answered =
    deck_of users number (slice_get answered.devices.punched index)

-- what a line delivers: the message that it sends, or the file that the punch closed, which is the
-- first after those of before
abbrev pub delivered_by : ℕ → ℕ → ℕ → LineOutcome → Equipped → Option Delivered
delivered_by users number before (Sent user line) answered =
    delivery_to users user (deliveries.Message line)
delivered_by users number before Silent answered = punched users number before answered
delivered_by users number before (Said response) answered = punched users number before answered
delivered_by users number before Files answered = punched users number before answered
delivered_by users number before (Closed files) answered = punched users number before answered
delivered_by users number before (LoggedOff files) answered = punched users number before answered

-- the machine answers as one with devices does in this world, where there are so many users and the
-- next file has this number
pub record IsLineTold (world : UserDirectory) (users number : ℕ) (typed : List ℕ) (old : Equipped)
    (reply : Reply) : Type 0 where
  pub reported : LineOutcome
  pub answered : Equipped
  pub line : IsLine world typed old reported answered
  pub said : reply.said ≡ said_to_line number reported
  pub delivered : reply.delivered
      ≡ delivered_by users number (length old.devices.punched) reported answered

-- ---- a deck of the operator, with this number: no cards are no deck

-- the deck that the operator gives; no cards are no deck
abbrev pub given : ℕ → ℕ → List (List ℕ) → Option Delivered
given user number [] = None
given user number (card ∷ cards) = Some (record { to = user; what = deliveries.Deck number })

-- the deck that is moved to this user's reader, with this number, if it is there
abbrev pub moved : ℕ → ℕ → Option DeckValue → Option Delivered
moved user number None = None
moved user number (Some deck) = Some (record { to = user; what = deliveries.Deck number })
