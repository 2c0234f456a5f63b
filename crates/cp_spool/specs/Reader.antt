-- A card reader that feeds from a queue (GA24-3543, "3505 Card Reader", for the command). A program
-- that runs on it leaves the queue as it is, and says how many of its decks came to their end.
use Rattle.std.specs.Prelude.{ℕ, ◌+◌, ◌==◌, false, if◌then◌else◌, List, [], ◌∷◌, drop, slice_index}
use Rattle.std.specs.Prelude.{Option, Some, None}
use Rattle.s370_walk.specs.declared.parts.Order.{Order}
use Rattle.s370_walk.specs.declared.parts.Answer.{Answer}
use Rattle.s370_walk.specs.declared.parts.Answer.TheVariants.{Refused, Immediate, Input}
use Rattle.s370_walk.specs.Hardware.{Machine}
use Rattle.unit_record.specs.Front.{is_sense, nothing_to_say, unit_check, command_reject}
use Rattle.unit_record.specs.Front.{intervention_required}
use Rattle.unit_record.specs.Reader.{DeckValue, Found, Nothing, Card, End, found, place_of}
use Rattle.unit_record.specs.Reader.{read_answer}
use Rattle.cp_spool.specs.Queues.{UserFiles}

-- what a reader keeps next to its decks: its sense byte, and the bytes that are still to be given
pub record ReaderPart : Type 0 where
  pub sense : ℕ
  pub giving : List ℕ

-- what a reader keeps that was never used
abbrev pub part_new : ReaderPart
part_new = record { sense = 0; giving = [] }

-- a reader that feeds: the decks of the queue, how many of them came to their end, how many cards
-- of the next were read, and None where it is not current
pub record FeedState : Type 0 where
  pub decks : List DeckValue
  pub ended : ℕ
  pub place : Option ℕ
  pub part : ReaderPart

-- a reader that is fed from a user's files
abbrev pub fed_by : UserFiles → ReaderPart → FeedState
fed_by files part = record { decks = files.decks; ended = 0; place = files.place; part = part }

-- what the next read finds
abbrev pub next_card : FeedState → Found
next_card f = found (drop f.ended f.decks) (place_of f.place)

-- Commands by code
abbrev pub feed_answer : FeedState → Order → Answer
feed_answer f order =
    -- Read
    if order.command.code == 0x02 then read_answer (next_card f)
    -- No-op
    else if order.command.code == 0x03 then Immediate
    -- Sense
    else if is_sense order then Input 1
    else Refused unit_check

-- The read after the last card ends the deck.
abbrev pub read_started : FeedState → Found → FeedState
read_started f Nothing = record f { part = record f.part { sense = intervention_required } }
read_started f (Card card place) =
    record f { place = Some (place + 1); part = record f.part { giving = card } }
read_started f End = record f { ended = f.ended + 1; place = None }

-- the reader after a command has begun
abbrev pub feed_started : FeedState → Order → FeedState
feed_started f order =
    if order.command.code == 0x02 then read_started f (next_card f)
    else if order.command.code == 0x03 then f
    else if is_sense order then record f { part = record f.part { giving = f.part.sense ∷ [] } }
    else record f { part = record f.part { sense = command_reject } }

-- the fed reader as a device
abbrev pub feed_machine : Machine FeedState
feed_machine =
    record {
      answer = feed_answer;
      started = feed_started;
      done = λ f. false;
      -- Data
      gives = λ f. slice_index f.part.giving 0;
      gave = λ f. record f { part = record f.part { giving = drop 1 f.part.giving } };
      took = λ f byte. f;
      -- End
      status = λ f. nothing_to_say;
      finished = λ f. f;
    }
