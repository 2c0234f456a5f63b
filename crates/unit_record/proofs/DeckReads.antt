-- Read after read of a deck.
use Rattle.std.proofs.Common.{◌≡◌, ℕ, zero, suc, ◌<◌, Bool, List, [], ◌∷◌, length, Option, Some, None, refl, ap, ◌∙◌}
use Rattle.std.proofs.Common.{arith, add-one}
use Rattle.std.specs.Prelude.{slice_get, slice_index_or}
use Rattle.s370_walk.specs.declared.bits.Flags.{Flags}
use Rattle.s370_walk.specs.declared.parts.Answer.TheVariants.{Refused, Input}
use Rattle.unit_record.specs.Front.{unit_exception}
use Rattle.unit_record.specs.Reader.{ReaderState, DeckValue, reader_answer, reader_started, place_of}
use Rattle.unit_record.specs.Laws.{ReadsDecksInOrder, after_reads, before_deck, asked}

there : (cards : List (List ℕ)) (k : ℕ) → k < length cards → slice_get cards k ≡ Some (slice_index_or cards k [])
there [] k lt = absurd (omega arith)
there (x ∷ xs) zero lt = refl
there (x ∷ xs) (suc k) lt = there xs k (omega arith)

past : (cards : List (List ℕ)) (k : ℕ) → k ≡ length cards → slice_get cards k ≡ None
past [] k e = refl
past (x ∷ xs) zero e = absurd (omega arith)
past (x ∷ xs) (suc k) e = past xs k (omega arith)

-- a reader within a deck
abbrev at_place : DeckValue → List DeckValue → ℕ → Option ℕ → List ℕ → ReaderState
at_place deck decks sense place giving = record { decks = deck ∷ decks; place = place; sense = sense; giving = giving }

module _ (deck : DeckValue) (decks : List DeckValue) (sense : ℕ) (first : Bool) (flags : Flags) where
  reads : (place : Option ℕ) (giving : List ℕ) → place_of place < length deck.cards
      → reader_started (at_place deck decks sense place giving) (asked 2 first flags)
      ≡ at_place deck decks sense (Some (suc (place_of place))) (slice_index_or deck.cards (place_of place) [])
  reads place giving lt = rw (there deck.cards (place_of place) lt, add-one)

  gives : (place : Option ℕ) (giving : List ℕ) → place_of place < length deck.cards
      → reader_answer (at_place deck decks sense place giving) (asked 2 first flags) ≡ Input 80
  gives place giving lt = rw (there deck.cards (place_of place) lt)

  excepts : (place : Option ℕ) (giving : List ℕ) → place_of place ≡ length deck.cards
      → reader_answer (at_place deck decks sense place giving) (asked 2 first flags) ≡ Refused unit_exception
  excepts place giving e = rw (past deck.cards (place_of place) e)

  ends : (place : Option ℕ) (giving : List ℕ) → place_of place ≡ length deck.cards
      → reader_started (at_place deck decks sense place giving) (asked 2 first flags)
      ≡ record { decks = decks; place = None; sense = sense; giving = giving }
  ends place giving e = rw (past deck.cards (place_of place) e)

  -- after one read and k more
  pub place_after : (giving : List ℕ) (k : ℕ) → k < length deck.cards
      → after_reads (before_deck deck decks sense giving) (asked 2 first flags) (suc k)
      ≡ at_place deck decks sense (Some (suc k)) (slice_index_or deck.cards k [])
  place_after giving zero lt = reads None giving (omega arith)
  place_after giving (suc k) lt =
      ap (λ q. reader_started q (asked 2 first flags)) (place_after giving k (omega arith))
      ∙ reads (Some (suc k)) (slice_index_or deck.cards k []) lt

  answers_at : (giving : List ℕ) (k : ℕ) → k < length deck.cards
      → reader_answer (after_reads (before_deck deck decks sense giving) (asked 2 first flags) k) (asked 2 first flags)
      ≡ Input 80
  answers_at giving zero lt = gives None giving (omega arith)
  answers_at giving (suc k) lt =
      ap (λ q. reader_answer q (asked 2 first flags)) (place_after giving k (omega arith)) ∙ gives (Some (suc k))
      (slice_index_or deck.cards k []) lt

  exception_at : (giving : List ℕ) (k : ℕ) → k ≡ length deck.cards
      → reader_answer (after_reads (before_deck deck decks sense giving) (asked 2 first flags) k) (asked 2 first flags)
      ≡ Refused unit_exception
  exception_at giving zero e = excepts None giving e
  exception_at giving (suc k) e =
      ap (λ q. reader_answer q (asked 2 first flags)) (place_after giving k (omega arith)) ∙ excepts (Some (suc k))
      (slice_index_or deck.cards k []) e

  gone_at : (giving : List ℕ) (k : ℕ) → k ≡ length deck.cards
      → (given : List ℕ) × (after_reads (before_deck deck decks sense giving) (asked 2 first flags) (suc k)
      ≡ record { decks = decks; place = None; sense = sense; giving = given })
  gone_at giving zero e = (giving, ends None giving e)
  gone_at giving (suc k) e = (
    slice_index_or deck.cards k [],
    ap (λ q. reader_started q (asked 2 first flags)) (place_after giving k (omega arith)) ∙ ends (Some (suc k))
        (slice_index_or deck.cards k []) e,
  )

-- A reader reads its decks in their order.
pub reads_decks_in_order : ReadsDecksInOrder
reads_decks_in_order deck decks sense giving first flags =
    record {
      answers = answers_at deck decks sense first flags giving;
      cards = λ k lt. ap (λ q. q.giving) (place_after deck decks sense first flags giving k lt);
      exception = exception_at deck decks sense first flags giving (length deck.cards) refl;
      gone = ap (λ q. q.decks) (gone_at deck decks sense first flags giving (length deck.cards) refl).1;
      none_current = ap (λ q. q.place) (gone_at deck decks sense first flags giving (length deck.cards) refl).1;
    }
