-- What is delivered, as it comes to the machine of its receiver.
use Rattle.std.specs.Prelude.{ℕ, List, [], ◌∷◌, Option, Some, None}
use Rattle.unit_record.specs.declared.reader.Sender.TheVariants as senders
use Rattle.cp_console.specs.ConsoleLine.{characters_of}
use Rattle.machine_devices.specs.declared.reply.Delivered.{Delivered}
use Rattle.machine_devices.specs.declared.reply.Delivery.{Delivery}
use Rattle.machine_devices.specs.declared.reply.Delivery.TheVariants as deliveries
use Rattle.machine_devices.specs.Equipped.{Equipped}
use Rattle.machine_devices.specs.Life.{Event, Deck, Message}
use Rattle.machine_devices.specs.Spooling.{deck_moved, deck_punched}

-- what comes of the line of this user: the deck that his punch's file of this index is, or a
-- message
abbrev pub comes_by_line : ℕ → ℕ → Equipped → Delivery → Event
comes_by_line user index e (deliveries.Deck number) =
    Deck (deck_punched e.devices index number (senders.User user))
comes_by_line user index e (deliveries.Message line) = Message (characters_of line)

-- what comes of the operator's cards
abbrev pub comes_from_operator : List (List ℕ) → Delivery → Event
comes_from_operator cards (deliveries.Deck number) =
    Deck (record { label = number; sender = senders.System; cards = cards })
comes_from_operator cards (deliveries.Message line) = Message (characters_of line)

-- what comes of the deck of this number that is moved from this machine's reader
abbrev pub comes_by_transfer : ℕ → Equipped → Delivery → Event
comes_by_transfer id e (deliveries.Deck number) = Deck (deck_moved e.devices id number)
comes_by_transfer id e (deliveries.Message line) = Message (characters_of line)

-- what is delivered, if anything is
abbrev pub coming_of : (Delivery → Event) → Option Delivered → List Event
coming_of coming None = []
coming_of coming (Some delivered) = coming delivered.what ∷ []
