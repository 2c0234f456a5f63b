use Rattle.std.proofs.Common.{◌≡◌, ◌+◌, ℕ, List, map, Some, None, sym, ◌∙◌, ap}
use Rattle.std.specs.Prelude.{slice_get}
use Rattle.unit_record.specs.Reader.{Found, Nothing, Card, End, card_found, place_of, read_answer}
use Rattle.cp_spool.specs.Queues.{files_of}
use Rattle.cp_spool.specs.Reader.{ReaderPart, FeedState, next_card, read_started}
use Rattle.cp_spool.proofs.Fed.{found_none, found_some, place_is}
use Rattle.cp_spool.proofs.reader.FedReader.read.Goals as goal

pub returns-in_default-clause-answer : goal.returns-in_default-clause-answer
returns-in_default-clause-answer c =
    let decks = (files_of c.self.inside.queues.now.users c.self.inside.user).decks in
    let nothing : next_card c.args.self.now ≡ Nothing =
    ap next_card (sym c.self.view_is) ∙ found_none decks c.self.inside.progress.ended
    (place_of c.self.inside.progress.place) (sym c.in_default.ensures.value) in
    ap read_answer (sym nothing)

pub returns-in_default-clause-after : goal.returns-in_default-clause-after
returns-in_default-clause-after c =
    let decks = (files_of c.self.inside.queues.now.users c.self.inside.user).decks in
    let nothing : next_card c.args.self.now ≡ Nothing =
    ap next_card (sym c.self.view_is) ∙ found_none decks c.self.inside.progress.ended
    (place_of c.self.inside.progress.place) (sym c.in_default.ensures.value) in
    ap (λ (part : ReaderPart).
    let f : FeedState = record {
      decks = decks;
      ended = c.self.inside.progress.ended;
      place = c.self.inside.progress.place;
      part = part;
    } in f) c.refuse.ensures
    ∙ ap (λ (f : FeedState). read_started f Nothing) c.self.view_is
    ∙ ap (λ (n : Found). read_started c.args.self.now n) (sym nothing)

pub returns-in_default-card-clause-answer : goal.returns-in_default-card-clause-answer
returns-in_default-card-clause-answer c =
    let decks = (files_of c.self.inside.queues.now.users c.self.inside.user).decks in
    let place : c.unwrap_or-place.result ≡ place_of c.self.inside.progress.place =
    c.unwrap_or-place.ensures ∙ place_is c.self.inside.progress.place in
    let none : slice_get c.in-Some.deck.cards (place_of c.self.inside.progress.place) ≡ None =
    ap (λ (n : ℕ). slice_get c.in-Some.deck.cards n) (sym place) ∙ sym c.in_default-card.ensures.value in
    let end : next_card c.args.self.now ≡ End =
    ap next_card (sym c.self.view_is) ∙ found_some decks c.self.inside.progress.ended
    (place_of c.self.inside.progress.place) c.in-Some.deck (sym c.in-Some.ensures.value) ∙ ap
    (card_found (place_of c.self.inside.progress.place)) none in
    ap read_answer (sym end)

pub returns-in_default-card-clause-after : goal.returns-in_default-card-clause-after
returns-in_default-card-clause-after c =
    let decks = (files_of c.self.inside.queues.now.users c.self.inside.user).decks in
    let place : c.unwrap_or-place.result ≡ place_of c.self.inside.progress.place =
    c.unwrap_or-place.ensures ∙ place_is c.self.inside.progress.place in
    let none : slice_get c.in-Some.deck.cards (place_of c.self.inside.progress.place) ≡ None =
    ap (λ (n : ℕ). slice_get c.in-Some.deck.cards n) (sym place) ∙ sym c.in_default-card.ensures.value in
    let end : next_card c.args.self.now ≡ End =
    ap next_card (sym c.self.view_is) ∙ found_some decks c.self.inside.progress.ended
    (place_of c.self.inside.progress.place) c.in-Some.deck (sym c.in-Some.ensures.value) ∙ ap
    (card_found (place_of c.self.inside.progress.place)) none in
    ap (λ (f : FeedState). read_started f End) c.self.view_is
    ∙ ap (λ (n : Found). read_started c.args.self.now n) (sym end)

pub returns-clause-answer : goal.returns-clause-answer
returns-clause-answer c =
    let decks = (files_of c.self.inside.queues.now.users c.self.inside.user).decks in
    let place : c.unwrap_or-place.result ≡ place_of c.self.inside.progress.place =
    c.unwrap_or-place.ensures ∙ place_is c.self.inside.progress.place in
    let some : slice_get c.in-Some.deck.cards (place_of c.self.inside.progress.place) ≡ Some c.in-Some-card.card =
    ap (λ (n : ℕ). slice_get c.in-Some.deck.cards n) (sym place) ∙ sym c.in-Some-card.ensures.value in
    let card : next_card c.args.self.now ≡ Card c.in-Some-card.card (place_of c.self.inside.progress.place) =
    ap next_card (sym c.self.view_is) ∙ found_some decks c.self.inside.progress.ended
    (place_of c.self.inside.progress.place) c.in-Some.deck (sym c.in-Some.ensures.value) ∙ ap
    (card_found (place_of c.self.inside.progress.place)) some in
    ap read_answer (sym card)

pub returns-clause-after : goal.returns-clause-after
returns-clause-after c =
    let decks = (files_of c.self.inside.queues.now.users c.self.inside.user).decks in
    let place : c.unwrap_or-place.result ≡ place_of c.self.inside.progress.place =
    c.unwrap_or-place.ensures ∙ place_is c.self.inside.progress.place in
    let some : slice_get c.in-Some.deck.cards (place_of c.self.inside.progress.place) ≡ Some c.in-Some-card.card =
    ap (λ (n : ℕ). slice_get c.in-Some.deck.cards n) (sym place) ∙ sym c.in-Some-card.ensures.value in
    let card : next_card c.args.self.now ≡ Card c.in-Some-card.card (place_of c.self.inside.progress.place) =
    ap next_card (sym c.self.view_is) ∙ found_some decks c.self.inside.progress.ended
    (place_of c.self.inside.progress.place) c.in-Some.deck (sym c.in-Some.ensures.value) ∙ ap
    (card_found (place_of c.self.inside.progress.place)) some in
    ap (λ (part : ReaderPart).
    let f : FeedState = record {
      decks = decks;
      ended = c.self.inside.progress.ended;
      place = Some (c.unwrap_or-place.result + 1);
      part = part;
    } in f)
    (c.hold.ensures ∙ ap (λ (bytes : List ℕ).
    let p : ReaderPart = record c.self.inside.reader { giving = bytes } in p) c.of.ensures)
    ∙ ap (λ (n : ℕ). let f :
    FeedState = record {
      decks = decks;
      ended = c.self.inside.progress.ended;
      place = Some (n + 1);
      part = record c.self.inside.reader { giving = c.in-Some-card.card };
    } in f) place
    ∙ ap (λ (f : FeedState). read_started f (Card c.in-Some-card.card (place_of c.self.inside.progress.place)))
    c.self.view_is
    ∙ ap (λ (n : Found). read_started c.args.self.now n) (sym card)
