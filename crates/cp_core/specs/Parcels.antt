-- What is to be delivered: what it is to the machine of its receiver, and how it is reported.
use Rattle.std.specs.Prelude.{◌<◌, length}
use Rattle.unit_record.specs.declared.reader.Sender.TheVariants as senders
use Rattle.cp_console.specs.ConsoleLine.{characters_of}
use Rattle.cp_spool.specs.Queues.{QueuesValue, deck_of, files_of}
use Rattle.machine_devices.specs.Spooling.{deck_punched}
use Rattle.cp_core.specs.System.{SystemView, user_at}
use Rattle.machine_devices.specs.Life.{Event as Local, Deck as Gets, Message as Hears}
use Rattle.machine_devices.specs.declared.reply.Delivery.{Delivery}
use Rattle.machine_devices.specs.declared.reply.Delivery.TheVariants as deliveries
use Rattle.cp_core.specs.declared.delivery.Parcel.{Parcel}
use Rattle.cp_core.specs.declared.delivery.Parcel.TheVariants as parcels

-- a deck or a closed file comes to the reader, and a message to the console
abbrev pub contents : SystemView → Parcel → Local
contents s (parcels.Deck number sender cards) =
    Gets (record { label = number; sender = sender; cards = cards.items })
contents s (parcels.File from index number) =
    Gets (deck_punched (user_at s from).devices index number (senders.User from))
contents s (parcels.Message line) = Hears (characters_of line)

-- the same, by the files of all
abbrev pub contents_in : QueuesValue → Parcel → Local
contents_in q (parcels.Deck number sender cards) =
    Gets (record { label = number; sender = sender; cards = cards.items })
contents_in q (parcels.File from index number) =
    Gets (deck_of (files_of q.users from).punched index number (senders.User from))
contents_in q (parcels.Message line) = Hears (characters_of line)

-- a file that is to be delivered is there
abbrev pub IsThere : SystemView → Parcel → Type 0
IsThere s (parcels.Deck number sender cards) = Unit {0}
IsThere s (parcels.File from index number) = (from < length s.users)
    × (index < length (user_at s from).devices.punched)
IsThere s (parcels.Message line) = Unit {0}

-- what is to be delivered is there: a closed file has its place
abbrev pub IsThereIn : QueuesValue → Parcel → Type 0
IsThereIn q (parcels.Deck number sender cards) = Unit {0}
IsThereIn q (parcels.File from index number) = index < length (files_of q.users from).punched
IsThereIn q (parcels.Message line) = Unit {0}

-- what the receiver is given
abbrev pub note_of : Parcel → Delivery
note_of (parcels.Deck number sender cards) = deliveries.Deck number
note_of (parcels.File from index number) = deliveries.Deck number
note_of (parcels.Message line) = deliveries.Message line
