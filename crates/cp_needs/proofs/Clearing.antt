-- Programs whose inputs could change their words, and those that leave them as they are.
use Rattle.std.specs.Prelude.{ℕ, ◌+◌, ◌*◌, ◌/◌, ◌%◌, ◌<◌, ◌≡◌, List, [], Contains, IsPermutation, length, slice_index}
use Rattle.std.specs.Prelude.{IfOk, Result, Ok, Err, Bool, refl}
use Rattle.std.proofs.Common.{subst, arith, inl, inr}
use Rattle.std.proofs.lemmas.List.Sorted.{Contains-permutation, IsPermutation-sym}
use Rattle.s370_store.specs.declared.Range.{Range}
use Rattle.s370_store.specs.Memory.{Memory}
use Rattle.cp_needs.specs.Needs.{IsClash, IsFixed, IsHeld, IsTextByte}
use Rattle.cp_needs.specs.Noted.{AreMarked, AreStored, IsFilledBy, IsInSome, IsTextOf}
use Rattle.cp_needs.specs.Words.{AreWords, IsAmong, IsPresent, IsPageAt}
use Rattle.cp_needs.proofs.Programs.{own_low, reached_even, word_fits}

-- the words that a program can reach are at doublewords, and where it has its pages, each has those of its own
pub even_at : (m : Memory) (start : ℕ) (words : List ℕ) → start % 8 ≡ 0 → AreWords m start words → (i : ℕ)
    → i < length words → slice_index words i % 8 ≡ 0
even_at m start words even all i lt =
    (let there = all.reached i lt in reached_even m start even (slice_index words i) there.0 there.1)

-- A page that a word of a locked program names is present.
pub here_at : (m : Memory) (start : ℕ) (words : List ℕ) (present : ℕ → Bool) → AreWords m start words
    → IsHeld m start present → (i page : ℕ) → i < length words → IsPageAt m (slice_index words i) page
    → IsPresent (length m.bytes) present page
here_at m start words present all held i page lt (a, needed, at) inside =
    held page (record {
      address = slice_index words i;
      reached = all.reached i lt;
      byte = a;
      needed = needed;
      at = at;
      inside = inside;
    })

module _ (m : Memory) (start : ℕ) (words : List ℕ) (even : start % 8 ≡ 0) (all : AreWords m start words)
    (text sorted : List ℕ) (pieces : List Range) (moved : IsPermutation text sorted)
    (marked : AreMarked (IsTextOf m words (length words)) [] text)
    (stored : AreStored (IsFilledBy m words (length words)) [] pieces) where
  -- a byte of a noted piece that lies in a noted fullword
  pub clash_of : (a : ℕ) → a < length m.bytes → IsInSome pieces a → Contains sorted (a / 4) → IsClash m start
  clash_of a inside there in_text =
      let at_text : Contains marked.rest (a / 4) =
      rw (← marked.is) (Contains-permutation sorted text (a / 4) (IsPermutation-sym text sorted moved) in_text) in
      let same : 4 * (a / 4) + a % 4 ≡ a = omega arith in
      let byte : IsTextOf m words (length words) a = rw same at (marked.only (a / 4) at_text (a % 4) (omega arith)) in
      let filled : IsFilledBy m words (length words) a = stored.only a (rw (← stored.is) there) in
      by_both a inside byte filled
    where
      by_both : (a : ℕ) → a < length m.bytes → IsTextOf m words (length words) a → IsFilledBy m words (length words) a
          → IsClash m start
      by_both a inside (i, lt, byte) (j, low, (w, text, (stores, byte_there))) =
          record {
            address = slice_index words j;
            reached = all.reached j low;
            word = w;
            text = text;
            stores = stores;
            byte = a;
            inside = inside;
            data_byte = byte_there;
            other = slice_index words i;
            other_reached = all.reached i lt;
            text_byte = byte;
          }

  -- where there is none
  pub fixed_of : ((a : ℕ) → a < length m.bytes → IsInSome pieces a → Contains sorted (a / 4) → ⊥) → IsFixed m start
  fixed_of apart clash = at_both (all.all clash.address clash.reached own)
      (all.all clash.other clash.other_reached (other_page clash.text_byte))
    where
      own : clash.address / 4096 * 4096 < length m.bytes
      own = (let fits = word_fits m clash.address clash.word clash.text in omega (arith, fits))

      other_page : IsTextByte m clash.other clash.byte → clash.other / 4096 * 4096 < length m.bytes
      other_page (inl (k, lt, is)) =
          (let inside = clash.inside in own_low clash.other k clash.byte (clash.byte / 4096) (length m.bytes)
          (reached_even m start even clash.other clash.other_reached.0 clash.other_reached.1) lt is refl
          (omega (arith, inside)))
      other_page (inr (w, text, byte)) = (let fits = word_fits m clash.other w text in omega (arith, fits))

      at_both : IsAmong words clash.address → IsAmong words clash.other → ⊥
      at_both (i, low, is) (j, lt, at) =
          let filled : IsFilledBy m words (length words) clash.byte =
          (i, low, rw is (clash.word, clash.text, (clash.stores, clash.data_byte))) in
          let byte : IsTextOf m words (length words) clash.byte = (j, lt, rw at clash.text_byte) in
          let in_text = Contains-permutation text sorted (clash.byte / 4) moved
          (rw marked.is (marked.marked clash.byte byte)) in
          apart clash.byte clash.inside (rw stored.is (stored.stored clash.byte filled)) in_text

-- What holds of a result holds of its value.
pub ok_of : {A B : Type 0} (P : A → Type 0) (r : Result A B) (a : A) → r ≡ Ok a → IfOk r P → P a
ok_of P (Ok b) a e p = (let same : b ≡ a = cc in subst P same p)
ok_of P (Err x) a e p = cc
