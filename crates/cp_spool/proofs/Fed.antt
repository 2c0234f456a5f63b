-- What a reader finds in the queue that it feeds from.
use Rattle.std.proofs.Common.{◌≡◌, ℕ, zero, suc, List, [], ◌∷◌, drop, Option, Some, None, refl, ap}
use Rattle.std.specs.Prelude.{slice_get, unwrap_or}
use Rattle.unit_record.specs.Reader.{DeckValue, Nothing, found, card_found, place_of}

-- Past the last deck nothing is found.
pub found_none : (decks : List DeckValue) (index place : ℕ) → slice_get decks index ≡ None
    → found (drop index decks) place ≡ Nothing
found_none [] zero place e = refl
found_none [] (suc index) place e = refl
found_none (deck ∷ decks) zero place e = absurd (cc)
found_none (deck ∷ decks) (suc index) place e = found_none decks index place e

-- The card of a deck is found at its place.
pub found_some : (decks : List DeckValue) (index place : ℕ) (deck : DeckValue) → slice_get decks index ≡ Some deck
    → found (drop index decks) place ≡ card_found place (slice_get deck.cards place)
found_some [] zero place deck e = absurd (cc)
found_some [] (suc index) place deck e = absurd (cc)
found_some (first ∷ decks) zero place deck e =
    let same : first ≡ deck = cc in
    ap (λ (d : DeckValue). card_found place (slice_get d.cards place)) same
found_some (first ∷ decks) (suc index) place deck e = found_some decks index place deck e

-- Where no place is kept the reader is at the first card.
pub place_is : (place : Option ℕ) → unwrap_or place 0 ≡ place_of place
place_is None = refl
place_is (Some n) = refl
