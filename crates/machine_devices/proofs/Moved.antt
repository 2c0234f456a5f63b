-- A deck that is moved from one reader to another, which may be the same.
use Rattle.std.proofs.Common.{◌≡◌, ◌∙◌, ℕ, zero, suc, ◌+◌, ◌<◌, ◌==◌, Bool, true, false, List, [], ◌∷◌, ◌++◌}
use Rattle.std.proofs.Common.{Option, Some, None, ap, sym, refl, length, drop, cond, arith}
use Rattle.std.specs.Prelude.{remove}
use Rattle.std.specs.List.{position_from}
use Rattle.std.specs.Option.{option_map}
use Rattle.unit_record.specs.Reader.{DeckValue, ReaderState, currents, purged, queued_at}
use Rattle.cp_spool.specs.Queues.{deck_in}
use Rattle.machine_devices.specs.Devices.{DevicesValue}
use Rattle.machine_devices.specs.Equipped.{Equipped}
use Rattle.machine_devices.specs.Spooling.{deck_queued, with_deck_purged, with_deck_queued}

-- ---- without such a deck

none_of : (decks : List DeckValue) (o : Option ℕ) → option_map (deck_in decks) o ≡ None → o ≡ None
none_of decks None h = refl
none_of decks (Some index) h = cc

-- Where no deck of this number is queued, nothing is withdrawn.
pub none_purged : (id : ℕ) (e : Equipped) → deck_queued e.devices id ≡ None
    → e ≡ record e { devices = with_deck_purged e.devices id }
none_purged id e none =
    let at = none_of e.devices.reader.decks (queued_at e.devices.reader id) none in
    ap (λ (o : Option ℕ).
    record e { devices = record e.devices { reader = purged e.devices.reader o } }) (sym at)

-- ---- one deck more

first_more : (p : DeckValue → Bool) (n i : ℕ) (b : Bool) (here there : Option ℕ) → (here ≡ Some i → there ≡ Some i)
    → cond b (Some n) here ≡ Some i → cond b (Some n) there ≡ Some i
first_more p n i true here there rest h = h
first_more p n i false here there rest h = rest h

-- what is found is found before more decks
found_more : (p : DeckValue → Bool) (xs ys : List DeckValue) (n i : ℕ) → position_from p n xs ≡ Some i
    → position_from p n (xs ++ ys) ≡ Some i
found_more p [] ys n i h = cc
found_more p (x ∷ xs) ys n i h =
    first_more p n i (p x) (position_from p (n + 1) xs) (position_from p (n + 1) (xs ++ ys))
    (found_more p xs ys (n + 1) i) h

inside_first : (n i count : ℕ) (b : Bool) (rest : Option ℕ) → (rest ≡ Some i → i < (n + 1) + count)
    → cond b (Some n) rest ≡ Some i → i < n + suc count
inside_first n i count true rest below h = let same : n ≡ i = cc in omega (arith, same)
inside_first n i count false rest below h = omega (arith, below h)

-- what is found is one of the decks
found_inside : (p : DeckValue → Bool) (xs : List DeckValue) (n i : ℕ) → position_from p n xs ≡ Some i
    → i < n + length xs
found_inside p [] n i h = cc
found_inside p (x ∷ xs) n i h =
    inside_first n i (length xs) (p x) (position_from p (n + 1) xs) (found_inside p xs (n + 1) i) h

removed_more : (xs ys : List DeckValue) (i : ℕ) → i < length xs → remove (xs ++ ys) i ≡ remove xs i ++ ys
removed_more [] ys i less = absurd (omega (arith, less))
removed_more (x ∷ xs) ys zero less = refl
removed_more (x ∷ xs) ys (suc i) less =
    ap (λ (l : List DeckValue). x ∷ l) (removed_more xs ys i (omega (arith, less)))

-- where a deck is queued, it is there before one more, and is one of the decks
queued_more : (r : ReaderState) (place : Option ℕ) (decks : List DeckValue) (deck : DeckValue) (id index : ℕ)
    → position_from (λ deck. deck.label == id) (currents place) (drop (currents place) decks) ≡ Some index
    → (position_from (λ deck. deck.label == id) (currents place) (drop (currents place) (decks ++ deck ∷ []))
    ≡ Some index) × (index < length decks)
queued_more r None decks deck id index h = (
  found_more (λ deck. deck.label == id) decks (deck ∷ []) 0 index h,
  omega (arith, found_inside (λ deck. deck.label == id) decks 0 index h),
)
queued_more r (Some place) [] deck id index h = cc
queued_more r (Some place) (first ∷ decks) deck id index h = (
  found_more (λ deck. deck.label == id) decks (deck ∷ []) 1 index h,
  omega (arith, found_inside (λ deck. deck.label == id) decks 1 index h),
)

-- A deck that is queued may be withdrawn before or after another is put at the end.
pub purged_first : (d : DevicesValue) (deck : DeckValue) (id index : ℕ) → queued_at d.reader id ≡ Some index
    → with_deck_purged (with_deck_queued d deck) id ≡ with_deck_queued (with_deck_purged d id) deck
purged_first d deck id index at =
    let more = queued_more d.reader d.reader.place d.reader.decks deck id index at in
    let left = (λ (decks : List DeckValue). record d { reader = record d.reader { decks = decks } }) in
    ap (λ (o : Option ℕ). record d { reader = purged (with_deck_queued d deck).reader o }) more.0
    ∙ ap left (removed_more d.reader.decks (deck ∷ []) index more.1)
    ∙ ap (λ (o : Option ℕ). with_deck_queued (record d { reader = purged d.reader o }) deck) (sym at)

-- a deck that was found is queued somewhere
pub queued_index : (d : DevicesValue) (id : ℕ) (deck : DeckValue) (o : Option ℕ) → queued_at d.reader id ≡ o
    → option_map (deck_in d.reader.decks) o ≡ Some deck → (index : ℕ) × (queued_at d.reader id ≡ Some index)
queued_index d id deck None at h = cc
queued_index d id deck (Some index) at h = (index, at)
