-- Closed files whose entries are dropped, one after another.
use Rattle.std.proofs.Common.{◌≡◌, ◌∙◌, ℕ, zero, suc, ◌+◌, ◌<◌, ◌≤◌, ◌⊎◌, List, [], ◌∷◌, Option, Some, None, ap, get_or}
use Rattle.std.proofs.Common.{length}
use Rattle.std.proofs.Common.{map, refl, subst, sym, inl, inr, arith}
use Rattle.std.specs.Prelude.{false, true, IfSome, IsSomeAnd, is_some, ltb, slice_get}
use Rattle.std.specs.Borrow.{Bor}
use Rattle.std.specs.Option.{option_copied}
use Rattle.std.proofs.lemmas.Option.{slice_get_past}
use Rattle.std.proofs.lemmas.Bool.{cases_lt}
use Rattle.unit_record.specs.Output.{FileValue}
use Rattle.unit_record.specs.Reader.{DeckValue}
use Rattle.cp_spool.specs.File.{card_of_entry}
use Rattle.cp_spool.specs.Forgotten.{HasDeck, IsGone, without_entries}
use Rattle.cp_spool.specs.Queues.{UserFiles}
use Rattle.machine_devices.specs.declared.files.FileNote.{FileNote}
use Rattle.machine_devices.proofs.Lost.{EachHasLost, HaveLost, lost_at}

-- ---- files that were dropped stay so

module _ (olds news : List UserFiles) (lost : EachHasLost olds news) where
  deck_stays : (cards : List (List ℕ)) → HasDeck olds cards → HasDeck news cards
  deck_stays cards (reader, place, there) = (
    reader,
    place,
    subst (λ (decks : List DeckValue). IsSomeAnd (slice_get decks place) (λ deck. deck.cards ≡ cards))
        (sym (lost_at olds news lost reader).decks) there,
  )

  one_stays : (old new : FileValue) → ((new ≡ old) ⊎ (new ≡ without_entries old)) → IsGone olds (Some old)
      → IsGone news (Some new)
  one_stays old new (inr gone) h = inl (ap (λ (f : FileValue). f.entries) gone)
  one_stays old new (inl same) (inl none) = inl (ap (λ (f : FileValue). f.entries) same ∙ none)
  one_stays old new (inl same) (inr deck) =
      inr (subst (λ (f : FileValue). HasDeck news (map card_of_entry f.entries)) (sym same)
      (deck_stays (map card_of_entry old.entries) deck))

  pub gone_stays : (os ns : List FileValue) → HaveLost os ns → (place : ℕ) → IsGone olds (slice_get os place)
      → IsGone news (slice_get ns place)
  gone_stays [] [] h place gone = tt
  gone_stays [] (n ∷ ns) h place gone = absurd h
  gone_stays (o ∷ os) [] h place gone = absurd h
  gone_stays (o ∷ os) (n ∷ ns) h zero gone = one_stays o n h.0 gone
  gone_stays (o ∷ os) (n ∷ ns) h (suc place) gone = gone_stays os ns h.1 place gone

-- ---- one noted file after another

-- each file that was noted from the first place on, before the other, is such
abbrev pub EachNoted : (FileNote → Type 0) → List FileNote → ℕ → ℕ → Type 0
EachNoted Is files since k = (at : ℕ) (note : FileNote) → since ≤ at → at < k → slice_get files at ≡ Some note
    → Is note

-- Before the first there is none.
pub none_yet : (Is : FileNote → Type 0) (files : List FileNote) (since : ℕ) → EachNoted Is files since since
none_yet Is files since at note from below there = absurd (omega (arith, from, below))

-- Where no file was noted at a place, all before the next are such.
pub none_more : (Is : FileNote → Type 0) (files : List FileNote) (since k : ℕ) → EachNoted Is files since k
    → slice_get files k ≡ None → EachNoted Is files since (k + 1)
none_more Is files since k such none at note from below there = elim (cases_lt at k) [
  | inl before ↦ such at note from before there
  | inr past ↦ (let same : at ≡ k = omega (arith, below, past) in
      let here = subst (λ (n : ℕ). slice_get files n ≡ Some note) same there in cc)
]

-- One more file is such, and those before it stay so.
pub one_more : (Was Is : FileNote → Type 0) (files : List FileNote) (since k : ℕ) (note : FileNote)
    → EachNoted Was files since k → ((other : FileNote) → Was other → Is other) → slice_get files k ≡ Some note
    → Is note → EachNoted Is files since (k + 1)
one_more Was Is files since k note such stays found one at other from below there =
    elim (cases_lt at k) [
      | inl before ↦ stays other (such at other from before there)
      | inr past ↦ (
          let same : at ≡ k = omega (arith, below, past) in
          let here : slice_get files k ≡ Some other =
          subst (λ (n : ℕ). slice_get files n ≡ Some other) same there in
          let is : note ≡ other = (let a = found in cc) in
          subst Is is one)
    ]

there_inside : {X : Type 0} (xs : List X) (at : ℕ) (x : X) → slice_get xs at ≡ Some x → at < length xs
there_inside [] at x e = absurd (cc)
there_inside (y ∷ ys) zero x e = omega arith
there_inside (y ∷ ys) (suc at) x e = let rest = there_inside ys at x e in omega arith

-- Where all places were gone over, all are such.
pub all_noted : (Is : FileNote → Type 0) (files : List FileNote) (since k : ℕ) → EachNoted Is files since k
    → length files ≤ k → (at : ℕ) (note : FileNote) → since ≤ at → slice_get files at ≡ Some note → Is note
all_noted Is files since k such past at note from there =
    let inside = there_inside files at note there in
    such at note from (omega (arith, inside, past)) there

-- ---- a note that is copied out of those of all files

-- What is looked up is what is found.
pub there_at : {X : Type 0} (xs : List X) (k : ℕ) (x : X) → k < length xs → x ≡ get_or xs k x → slice_get xs k ≡ Some x
there_at [] k x h e = absurd (omega (arith, h))
there_at (y ∷ ys) zero x h e = ap (λ z. Some z) (sym e)
there_at (y ∷ ys) (suc k) x h e = there_at ys k x (omega (arith, h)) e

past_of : (k n : ℕ) → false ≡ ltb k n → n ≤ k
past_of k n e = grind arith

within_of : (k n : ℕ) → true ≡ ltb k n → k < n
within_of k n e = grind arith

-- What was looked up and copied is what is there.
pub looked_up : {X : Type 0} (xs : List X) (k : ℕ) (g : Option (Bor X)) → is_some g ≡ ltb k (length xs)
    → IfSome g (λ b. b.now ≡ get_or xs k b.now) → slice_get xs k ≡ option_copied g
looked_up xs k None found at = slice_get_past xs k (past_of k (length xs) found)
looked_up xs k (Some b) found at = there_at xs k b.now (within_of k (length xs) found) at
