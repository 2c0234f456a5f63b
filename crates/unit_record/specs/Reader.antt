-- The card reader (GA24-3543, "3505 Card Reader", for the command; decks and their queue are the
-- profile's).
use Rattle.std.specs.Prelude.{ℕ, ◌+◌, ◌==◌, false, if◌then◌else◌, List, [], ◌∷◌, ◌++◌, drop, remove}
use Rattle.std.specs.Prelude.{slice_index, slice_get, Option, Some, None}
use Rattle.std.specs.List.{position_from}
use Rattle.s370_walk.specs.declared.parts.Order.{Order}
use Rattle.s370_walk.specs.declared.parts.Answer.{Answer}
use Rattle.s370_walk.specs.declared.parts.Answer.TheVariants.{Refused, Immediate, Input}
use Rattle.s370_walk.specs.Hardware.{Machine}
use Rattle.unit_record.specs.declared.reader.Sender.{Sender}
use Rattle.unit_record.specs.Front.{is_sense, nothing_to_say, unit_check, unit_exception}
use Rattle.unit_record.specs.Front.{command_reject, intervention_required}

-- A deck: its label, which is the id of a spool file, from whom it comes, and its cards of 80
-- bytes.
pub record DeckValue : Type 0 where
  pub label : ℕ
  pub sender : Sender
  pub cards : List (List ℕ)

-- State
pub record ReaderState : Type 0 where
  -- the decks, in order; a current one is the first
  pub decks : List DeckValue
  -- how many cards of the current deck were read; None where no deck is current
  pub place : Option ℕ
  pub sense : ℕ
  -- the bytes that are still to be given
  pub giving : List ℕ

-- What the next read finds.
pub data Found : Type 0 where
  -- no deck
  Nothing : Found
  -- this card, which is the current deck's card of this number
  Card : List ℕ → ℕ → Found
  -- the end of the current deck
  End : Found

-- a card at a place of a deck, or the deck's end
abbrev pub card_found : ℕ → Option (List ℕ) → Found
card_found place (Some card) = Card card place
card_found place None = End

-- With no current deck, the first of the queue becomes current.
abbrev pub place_of : Option ℕ → ℕ
place_of None = 0
place_of (Some place) = place

-- what the next read finds at this place of the first deck
abbrev pub found : List DeckValue → ℕ → Found
found [] place = Nothing
found (deck ∷ decks) place = card_found place (slice_get deck.cards place)

-- what the next read of the reader finds
abbrev pub next_card : ReaderState → Found
next_card r = found r.decks (place_of r.place)

-- Commands by code
abbrev pub read_answer : Found → Answer
read_answer Nothing = Refused unit_check
read_answer (Card card place) = Input 80
read_answer End = Refused unit_exception

-- how the reader answers a command
abbrev pub reader_answer : ReaderState → Order → Answer
reader_answer r order =
    -- Read
    if order.command.code == 0x02 then read_answer (next_card r)
    -- No-op
    else if order.command.code == 0x03 then Immediate
    -- Sense
    else if is_sense order then Input 1
    else Refused unit_check

-- The read after the last card ends the deck.
abbrev pub read_started : ReaderState → Found → ReaderState
read_started r Nothing = record r { sense = intervention_required }
read_started r (Card card place) = record r { place = Some (place + 1); giving = card }
read_started r End = record r { decks = drop 1 r.decks; place = None }

-- the reader after a command has begun
abbrev pub reader_started : ReaderState → Order → ReaderState
reader_started r order =
    if order.command.code == 0x02 then read_started r (next_card r)
    else if order.command.code == 0x03 then r
    else if is_sense order then record r { giving = r.sense ∷ [] }
    else record r { sense = command_reject }

-- the reader as a device
abbrev pub reader_machine : Machine ReaderState
reader_machine =
    record {
      answer = reader_answer;
      started = reader_started;
      done = λ r. false;
      -- Data
      gives = λ r. slice_index r.giving 0;
      gave = λ r. record r { giving = drop 1 r.giving };
      took = λ r byte. r;
      -- End
      status = λ r. nothing_to_say;
      finished = λ r. r;
    }

-- From outside: a reset, which leaves the decks; a deck that comes; the current deck back in the
-- queue, from its first card.
abbrev pub reader_new : ReaderState
reader_new = record { decks = []; place = None; sense = 0; giving = [] }

-- the reader after a reset
abbrev pub reader_reset : ReaderState → ReaderState
reader_reset r = record r { sense = 0; giving = [] }

-- the reader with one more deck at the end of the queue
abbrev pub with_deck : ReaderState → DeckValue → ReaderState
with_deck r deck = record r { decks = r.decks ++ deck ∷ [] }

-- the reader whose current deck is back in the queue
abbrev pub with_deck_back : ReaderState → ReaderState
with_deck_back r = record r { place = None }

-- The queued decks are those after the current one.
abbrev pub currents : Option ℕ → ℕ
currents None = 0
currents (Some place) = 1

-- where the first queued deck of this label is among all decks
abbrev pub queued_at : ReaderState → ℕ → Option ℕ
queued_at r label = position_from (λ deck. deck.label == label) (currents r.place)
    (drop (currents r.place) r.decks)

-- the reader without one of its decks
abbrev pub purged : ReaderState → Option ℕ → ReaderState
purged r None = r
purged r (Some index) = record r { decks = remove r.decks index }
