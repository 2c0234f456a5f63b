-- A reader that feeds, as it is seen, is a reader; and it keeps its queue.
use Rattle.std.proofs.Common.{◌≡◌, ℕ, zero, suc, ◌+◌, ◌==◌, Bool, true, false, List, [], ◌∷◌, drop, map, Option, Some}
use Rattle.std.proofs.Common.{None, refl, sym, ◌∙◌, ap, arith}
use Rattle.std.specs.Prelude.{if◌then◌else◌, slice_get}
use Rattle.s370_walk.specs.declared.parts.Order.{Order}
use Rattle.unit_record.specs.Front.{is_sense}
use Rattle.unit_record.specs.Reader.{DeckValue, Found, Nothing, Card, End, ReaderState, reader_machine, reader_started}
use Rattle.unit_record.specs.Reader.{read_started as reader_read}
use Rattle.cp_spool.specs.Alike.{reader_of}
use Rattle.cp_spool.specs.Queues.{UserFiles, read_on}
use Rattle.cp_spool.specs.Reader.{FeedState, feed_machine, feed_started, next_card, read_started}
use Rattle.cp_spool.proofs.Again.{drop_one_more}
use Rattle.cp_spool.proofs.Walks.{IsSeen, IsKept}

-- the decks that came to their end are gone
abbrev pub seen : FeedState → ReaderState
seen f = record { decks = drop f.ended f.decks; place = f.place; sense = f.part.sense; giving = f.part.giving }

-- and so is the reader whose queue was reported
pub seen_is : (files : UserFiles) (f : FeedState) → f.decks ≡ files.decks
    → seen f ≡ reader_of (read_on f.ended f.place files) f.part
seen_is files f same =
    ap (λ (ds : List DeckValue).
    let r : ReaderState = record {
      decks = drop f.ended ds;
      place = f.place;
      sense = f.part.sense;
      giving = f.part.giving;
    } in r) same

read_alike : (f : FeedState) (n : Found) → reader_read (seen f) n ≡ seen (read_started f n)
read_alike f Nothing = refl
read_alike f (Card card place) = refl
read_alike f End = ap (λ (ds : List DeckValue).
    let r : ReaderState = record { decks = ds; place = None; sense = f.part.sense; giving = f.part.giving } in r)
    (drop_one_more f.ended f.decks)

started_by : (read no_operation sense : Bool) (f : FeedState)
    → (if read then reader_read (seen f) (next_card f) else if no_operation then seen f else if sense
    then record (seen f) { giving = f.part.sense ∷ [] } else record (seen f) { sense = 0x80 })
    ≡ seen (if read then read_started f (next_card f) else if no_operation then f else if sense
    then record f { part = record f.part { giving = f.part.sense ∷ [] } }
    else record f { part = record f.part { sense = 0x80 } })
started_by true no_operation sense f = read_alike f (next_card f)
started_by false true sense f = refl
started_by false false true f = refl
started_by false false false f = refl

-- Each step of a feeding reader is one of a reader with its decks.
pub feeds_as_reader : IsSeen feed_machine reader_machine seen
feeds_as_reader = record {
  answer = λ f order. refl;
  started = λ f order. started_by (order.command.code == 0x02) (order.command.code == 0x03) (is_sense order) f;
  done = λ f. refl;
  gives = λ f. refl;
  gave = λ f. refl;
  took = λ f byte. refl;
  status = λ f. refl;
  finished = λ f. refl;
}

keeps_by : (read no_operation sense : Bool) (f : FeedState) (n : Found)
    → (if read then read_started f n else if no_operation then f else if sense
    then record f { part = record f.part { giving = f.part.sense ∷ [] } }
    else record f { part = record f.part { sense = 0x80 } }).decks ≡ f.decks
keeps_by true no_operation sense f Nothing = refl
keeps_by true no_operation sense f (Card card place) = refl
keeps_by true no_operation sense f End = refl
keeps_by false true sense f n = refl
keeps_by false false true f n = refl
keeps_by false false false f n = refl

-- No step of a feeding reader changes the queue itself.
pub keeps_its_queue : IsKept feed_machine (λ (f : FeedState). f.decks)
keeps_its_queue = record {
  started = λ f order. keeps_by (order.command.code == 0x02) (order.command.code == 0x03) (is_sense order) f
      (next_card f);
  gave = λ f. refl;
  took = λ f byte. refl;
  finished = λ f. refl;
}
