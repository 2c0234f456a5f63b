-- What an event of the system is to each user: his own part of it, and what comes to him by it.
use Rattle.std.specs.Prelude.{ℕ, ◌==◌, if◌then◌else◌, List, [], ◌∷◌, ◌++◌, length, Option, Some}
use Rattle.std.specs.Prelude.{None}
use Rattle.s370_channel.specs.Reading.{as_reached}
use Rattle.s370_intr.specs.declared.next.Reason.TheVariants.{FramesOut as RunFramesOut}
use Rattle.s370_intr.specs.declared.run.Ran.{Ran as RanUnits}
use Rattle.unit_record.specs.declared.reader.Sender.TheVariants as senders
use Rattle.unit_record.specs.Reader.{DeckValue}
use Rattle.cp_console.specs.ConsoleLine.{characters_of}
use Rattle.machine_devices.specs.Life.{Event as Local, Units, Serve as Serves, Line as Types}
use Rattle.machine_devices.specs.Life.{Tick as Ticks, Deck as Gets, Message as Hears}
use Rattle.machine_devices.specs.Life.{Purge as Purges, Lives}
use Rattle.machine_devices.specs.Spooling.{deck_moved, deck_punched}
use Rattle.machine_devices.specs.Events.{user_of}
use Rattle.cp_core.specs.System.{SystemView, user_at, world_of}
use Rattle.machine_devices.specs.declared.reply.Delivered.{Delivered}
use Rattle.machine_devices.specs.declared.reply.Delivery.{Delivery}
use Rattle.machine_devices.specs.declared.reply.Delivery.TheVariants as deliveries
use Rattle.machine_devices.specs.declared.reply.Ended.{Ended}
use Rattle.machine_devices.specs.declared.reply.Ended.TheVariants.{Ran, Done, Served, FramesOut}
use Rattle.machine_devices.specs.declared.event.Event.{Event}
use Rattle.machine_devices.specs.declared.event.Event.TheVariants.{Run, Line, Tick, Deck, Serve}
use Rattle.machine_devices.specs.declared.event.Event.TheVariants.{Transfer}
use Rattle.machine_devices.specs.declared.reply.Reply.{Reply}

-- an event that was applied, its reply, and what was seen after it
pub record Step : Type 0 where
  pub event : Event
  pub reply : Reply
  pub seen : SystemView

-- ---- the part of the user whom the event names

-- of the units that were asked for, those that were done where it was out of frames
abbrev pub units_of : ℕ → RanUnits → ℕ
units_of asked ran = elim ran.reason [ RunFramesOut ↦ ran.units | _ ↦ asked ]

-- a run, as an event of the user's own machine
abbrev pub run_of : ℕ → Ended → List Local
run_of asked (Ran ran) = Units (units_of asked ran) ∷ []
run_of asked (Served done) = []
run_of asked Done = []
run_of asked FramesOut = []

-- a line that nothing came of is no event of the machine
abbrev pub line_of : SystemView → ℕ → List ℕ → Ended → List Local
line_of old user typed Done = Types (world_of old user) typed ∷ []
line_of old user typed (Ran ran) = []
line_of old user typed (Served done) = []
line_of old user typed FramesOut = []

-- nor such a tick
abbrev pub tick_of : Ended → List Local
tick_of Done = Ticks ∷ []
tick_of (Ran ran) = []
tick_of (Served done) = []
tick_of FramesOut = []

-- nor a serve that was out of frames
abbrev pub serve_of : ℕ → Ended → List Local
serve_of device (Served done) = Serves device ∷ []
serve_of device (Ran ran) = []
serve_of device Done = []
serve_of device FramesOut = []

-- of a deck only that it comes, and of one that is moved only that it is withdrawn
abbrev pub local_event : SystemView → Event → Ended → List Local
local_event old (Run user asked) ended = run_of asked ended
local_event old (Line user typed) ended = line_of old user typed.now ended
local_event old (Tick user) ended = tick_of ended
local_event old (Deck user cards) ended = []
local_event old (Serve user device) ended = serve_of device ended
local_event old (Transfer user id to) ended = Purges id ∷ []

-- ---- what comes to a user

-- the deck with this number that came by an event: the operator's cards, those of the file that the
-- user's punch closed, which is the first after those of before, or the deck that was moved
abbrev pub deck_by : Event → SystemView → SystemView → ℕ → DeckValue
deck_by (Deck user cards) old seen number =
    record { label = number; sender = senders.System; cards = cards.now }
deck_by (Line user typed) old seen number =
    deck_punched (user_at seen user).devices (length (user_at old user).devices.punched) number
    (senders.User user)
deck_by (Run user asked) old seen number =
    record { label = number; sender = senders.System; cards = [] }
deck_by (Tick user) old seen number = record { label = number; sender = senders.System; cards = [] }
deck_by (Serve user device) old seen number =
    record { label = number; sender = senders.System; cards = [] }
deck_by (Transfer user id to) old seen number = deck_moved (user_at old user).devices id number

-- a deck comes to the reader, and a message to the console
abbrev pub coming : SystemView → Step → Delivery → Local
coming old step (deliveries.Deck number) = Gets (deck_by step.event old step.seen number)
coming old step (deliveries.Message line) = Hears (characters_of line)

-- what an event delivers to a user
abbrev pub comes_to : ℕ → SystemView → Step → Option Delivered → List Local
comes_to user old step None = []
comes_to user old step (Some delivered) = if delivered.to == user
    then coming old step delivered.what ∷ [] else []

-- ---- a step

-- what an event is to its own user
abbrev pub own_part : ℕ → SystemView → Step → List Local
own_part user old step = if user_of step.event == user
    then local_event old step.event step.reply.ended else []

-- what a step is to a user
abbrev pub local : ℕ → SystemView → Step → List Local
local user old step = own_part user old step ++ comes_to user old step step.reply.delivered

-- to each user the step is what his own part of it, and what comes to him, leaves of his machine
abbrev pub IsApplied : SystemView → Step → Type 0
IsApplied old step = (user : ℕ)
    → Lives as_reached (local user old step) (user_at old user) (user_at step.seen user)
