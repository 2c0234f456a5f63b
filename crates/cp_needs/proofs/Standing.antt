-- Fullwords of a program that are as they were.
use Rattle.std.specs.Prelude.{ℕ, ◌+◌, ◌-◌, ◌*◌, ◌/◌, ◌%◌, ◌<◌, ◌≤◌, ◌≡◌, ◌⊎◌, Bool, true, false, ◌&&◌, nat_le, List, []}
use Rattle.std.specs.Prelude.{◌∷◌, ◌++◌, All, Contains, IsPermutation, length, slice_index, slice_range, take, drop}
use Rattle.std.specs.Prelude.{None, Some, Err, if◌then◌else◌, refl}
use Rattle.std.proofs.Common.{ap, ◌∙◌, sym, subst, inl, inr, arith}
use Rattle.std.proofs.Math.Decide.{dec_lt}
use Rattle.std.proofs.lemmas.Bool.{true≢false}
use Rattle.std.proofs.lemmas.Bool.Decides.{nat_tests}
use Rattle.std.proofs.lemmas.List.{get_or-take, get_or-drop, get_or_past}
use Rattle.std.proofs.lemmas.Grind.{get_or_default_zero}
use Rattle.std.proofs.lemmas.List.Elements.{All-contains, All-push, Contains-append_cases, Contains-append_left}
use Rattle.std.proofs.lemmas.List.Elements.{Contains-append_right}
use Rattle.std.proofs.lemmas.List.Sorted.{Contains-permutation, IsPermutation-sym}
use Rattle.s370_store.specs.declared.Access.TheVariants.{Fetch}
use Rattle.s370_store.specs.declared.Fault.{Fault}
use Rattle.s370_store.specs.declared.Fault.TheVariants.{Addressing, Protection, Absent}
use Rattle.s370_store.specs.Access.{IsGranted, IsVerdict, is_addressable, is_permitted, is_permitted_from}
use Rattle.s370_store.specs.Memory.{Memory}
use Rattle.s370_walk.specs.Hardware.{area, byte_at}
use Rattle.cp_needs.specs.declared.kept.WordAt.{WordAt}
use Rattle.cp_needs.specs.Kept.{IsAdded, IsAsItStood, IsKept, IsText, IsTextOnly, fullword_at}
use Rattle.cp_needs.specs.Needs.{IsHeld, IsReached, IsTextByte}
use Rattle.cp_needs.specs.Noted.{AreMarked, IsTextOf}
use Rattle.cp_needs.specs.Words.{AreWords, IsAmong}
use Rattle.cp_needs.proofs.Clearing.{here_at}
use Rattle.cp_needs.proofs.Keeping.{permitted_zero}
use Rattle.cp_needs.proofs.Programs.{own_low, reached_even, word_fits}

-- a fullword that is granted is not refused
pub not_refused : (size : ℕ) (keys : List ℕ) (present : ℕ → Bool) (start : ℕ) (f : Fault)
    → IsVerdict size keys present 0 (area Fetch start 4 ∷ []) (Err f) → IsGranted size present start 4 → ⊥
unfolding is_addressable is_permitted
not_refused size keys present start Addressing v granted =
    let inside = granted.inside in
    let fits : nat_le (start + 4) size ≡ true = grind (arith, nat_tests) in
    by_key (is_permitted_from keys 0 Fetch start 4) (rw fits at v)
  where
    by_key : (b : Bool) → (if b && true then None else Some Protection) ≡ Some Addressing → ⊥
    by_key true e = cc
    by_key false e = cc
not_refused size keys present start Protection v granted =
    by_size (nat_le (start + 4) size) (rw (permitted_zero keys start 4) at v)
  where
    by_size : (b : Bool) → (if b && true then None else Some Addressing) ≡ Some Protection → ⊥
    by_size true e = cc
    by_size false e = cc
not_refused size keys present start (Absent page) (fine, away, inl (k, lt, at)) granted =
    let there : present page.0 ≡ true = ap present at ∙ granted.here k lt in
    true≢false (sym there ∙ away.away)
not_refused size keys present start (Absent page) (fine, away, inr none) granted = none

byte_of_slice : (xs : List ℕ) (s k : ℕ) → k < 4 → slice_index (slice_range xs s (s + 4)) k ≡ slice_index xs (s + k)
byte_of_slice xs s k lt =
    let four : s + 4 - s ≡ 4 = omega arith in
    ap (λ (n : ℕ). slice_index (take n (drop s xs)) k) four ∙ get_or-take 4 (drop s xs) k 0 lt ∙ get_or-drop s xs k 0

-- where each fullword is as it was, the words and lists of the program do
pub kept_of : (m0 m : Memory) (start : ℕ) (text : List WordAt) (present : ℕ → Bool) → IsText m0 start text
    → length m.bytes ≡ length m0.bytes → All (IsAsItStood m.bytes present) text → IsKept m0 start m
kept_of m0 m start text present is size all =
    record { size = size; text = λ address a reached byte. at address a reached byte }
  where
    at : (address a : ℕ) → IsReached m0 start address → IsTextByte m0 address a → byte_at m a ≡ byte_at m0 a
    at address a reached byte = elim (dec_lt a (length m0.bytes)) [
      | yes lt ↦ (let s : ℕ = a / 4 * 4 in
          let stood = All-contains (IsAsItStood m.bytes present) text (fullword_at m0.bytes s) all
          (is address a reached byte lt) in
          let here : s + a % 4 ≡ a = omega arith in
          let low : a % 4 < 4 = omega arith in
          let same : slice_index m.bytes (s + a % 4) ≡ slice_index m0.bytes (s + a % 4) =
          sym (byte_of_slice m.bytes s (a % 4) low) ∙ ap (λ (l : List ℕ). slice_index l (a % 4)) stood.1 ∙ byte_of_slice
          m0.bytes s (a % 4) low in
          rw here at same)
      | no above ↦ get_or_past m.bytes a 0 (omega (arith, size, above)) ∙ sym
          (get_or_past m0.bytes a 0 (omega (arith, above)))
    ]

module _ (m : Memory) (start : ℕ) (words : List ℕ) (even : start % 8 ≡ 0) (all : AreWords m start words)
    (text sorted : List ℕ) (moved : IsPermutation text sorted)
    (marked : AreMarked (IsTextOf m words (length words)) [] text) where
  -- the fullwords that are noted are on pages that are present, where the program has its pages
  pub noted_granted : (present : ℕ → Bool) → IsHeld m start present → (n : ℕ) → Contains sorted n
      → n * 4 + 4 ≤ length m.bytes → IsGranted (length m.bytes) present (n * 4) 4
  noted_granted present held n noted inside =
      let at_text : Contains marked.rest n =
      rw (← marked.is) (Contains-permutation sorted text n (IsPermutation-sym text sorted moved) noted) in
      record { inside = inside; here = λ k lt. at n k lt inside (marked.only n at_text k lt) }
    where
      at : (n k : ℕ) → k < 4 → n * 4 + 4 ≤ length m.bytes → IsTextOf m words (length words) (4 * n + k)
          → present ((n * 4 + k) / 4096) ≡ true
      at n k lt inside (i, low, byte) =
          let there = here_at m start words present all held i ((4 * n + k) / 4096) low (4 * n + k, inl byte, refl)
          (omega (arith, inside, lt)) in
          let same : 4 * n + k ≡ n * 4 + k = omega arith in
          rw same at there

  -- each is a fullword of a word or list of the program
  pub text_only : (kept : List WordAt)
      → ((w : WordAt) → Contains kept w → (n : ℕ) × Contains sorted n × (w ≡ fullword_at m.bytes (n * 4)))
      → IsTextOnly m start kept
  text_only kept each w there = by_number (each w there)
    where
      by_byte : (n : ℕ) → w ≡ fullword_at m.bytes (n * 4) → IsTextOf m words (length words) (4 * n + 0)
          → (address : ℕ) × IsReached m start address × IsTextByte m address w.start
      by_byte n is (i, low, byte) =
          let same : 4 * n + 0 ≡ n * 4 = omega arith in
          let at : w.start ≡ n * 4 = ap (λ (x : WordAt). x.start) is in (
            slice_index words i,
            all.reached i low,
            subst (λ (a : ℕ). IsTextByte m (slice_index words i) a) (same ∙ sym at) byte,
          )

      by_number : (n : ℕ) × Contains sorted n × (w ≡ fullword_at m.bytes (n * 4))
          → (address : ℕ) × IsReached m start address × IsTextByte m address w.start
      by_number (n, noted, is) =
          let at_text : Contains marked.rest n =
          rw (← marked.is) (Contains-permutation sorted text n (IsPermutation-sym text sorted moved) noted) in
          by_byte n is (marked.only n at_text 0 (omega arith))

  -- the page of a word with a byte in storage lies in storage
  text_page : (address a : ℕ) → IsReached m start address → IsTextByte m address a → a < length m.bytes
      → address / 4096 * 4096 < length m.bytes
  text_page address a reached (inl (k, lt, is)) inside =
      own_low address k a (a / 4096) (length m.bytes) (reached_even m start even address reached.0 reached.1) lt is refl
      (omega (arith, inside))
  text_page address a reached (inr (w, said, byte)) inside = let fits =
      word_fits m address w said in omega (arith, fits)

  -- and they are those of the program
  pub text_of : (kept : List WordAt) → length m.bytes % 4 ≡ 0
      → ((n : ℕ) → Contains sorted n → n * 4 + 4 ≤ length m.bytes → Contains kept (fullword_at m.bytes (n * 4)))
      → IsText m start kept
  text_of kept whole each =
      λ address a reached byte inside.
      at address a byte inside (all.all address reached (text_page address a reached byte inside))
    where
      at : (address a : ℕ) → IsTextByte m address a → a < length m.bytes → IsAmong words address
          → Contains kept (fullword_at m.bytes (a / 4 * 4))
      at address a byte inside (i, low, is) =
          let one : IsTextOf m words (length words) a = (i, low, rw is byte) in
          each (a / 4) (Contains-permutation text sorted (a / 4) moved (rw marked.is (marked.marked a one)))
          (omega (arith, whole, inside))

-- ---- one more fullword

pub none_added : (bytes : List ℕ) (present : ℕ → Bool) (number : ℕ) (old : List WordAt) → length bytes < number * 4 + 4
    → IsAdded bytes present number old old
none_added bytes present number old past =
    record {
      stays = λ w there. there;
      here = λ inside. absurd (omega (arith, past, inside));
      only = λ w there. inl there;
      stand = λ all. all;
    }

last_one : (old : List WordAt) (w v x : WordAt) → w ≡ x → Contains (old ++ w ∷ []) v → Contains old v ⊎ (v ≡ x)
last_one old w v x is there = elim (Contains-append_cases old (w ∷ []) v there) [
  | inl before ↦ inl before
  | inr (k, lt, e) ↦ (let first : k ≡ 0 = omega (arith, lt) in inr (sym (rw first at e) ∙ is))
]

pub one_added : (bytes : List ℕ) (present : ℕ → Bool) (number : ℕ) (old new : List WordAt) (w : WordAt)
    → new ≡ old ++ w ∷ [] → w ≡ fullword_at bytes (number * 4) → IsGranted (length bytes) present (number * 4) 4
    → IsAdded bytes present number old new
one_added bytes present number old new w is at granted = record {
  stays = λ v there. rw is (Contains-append_left old (w ∷ []) v there);
  here = λ inside. rw (is, ← at) (Contains-append_right old (w ∷ []) w (0, omega arith, refl));
  only = λ v there. last_one old w v (fullword_at bytes (number * 4)) at (rw is at there);
  stand = λ all. rw is (All-push (IsAsItStood bytes present) old w all (rw at (granted, refl)));
}

-- One more fullword that was added is found among the rest.
pub one_more : (bytes : List ℕ) (present : ℕ → Bool) (numbers : List ℕ) (i : ℕ) (old new : List WordAt)
    → ((k : ℕ) → k < i → slice_index numbers k * 4 + 4 ≤ length bytes
    → Contains old (fullword_at bytes (slice_index numbers k * 4)))
    → IsAdded bytes present (slice_index numbers i) old new → (k : ℕ) → k < i + 1
    → slice_index numbers k * 4 + 4 ≤ length bytes → Contains new (fullword_at bytes (slice_index numbers k * 4))
one_more bytes present numbers i old new before added k lt inside = elim (dec_lt k i) [
  | yes below ↦ added.stays (fullword_at bytes (slice_index numbers k * 4)) (before k below inside)
  | no last ↦ (let is : i ≡ k = omega (arith, lt, last) in
      let P : ℕ → Type 0 = λ j. slice_index numbers j * 4 + 4 ≤ length bytes
      → Contains new (fullword_at bytes (slice_index numbers j * 4)) in
      subst P is added.here inside)
]

-- After the last number each fullword is found.
pub all_found : (bytes : List ℕ) (numbers : List ℕ) (i : ℕ) (text : List WordAt) → length numbers ≤ i
    → ((k : ℕ) → k < i → slice_index numbers k * 4 + 4 ≤ length bytes
    → Contains text (fullword_at bytes (slice_index numbers k * 4)))
    → (n : ℕ) → Contains numbers n → n * 4 + 4 ≤ length bytes → Contains text (fullword_at bytes (n * 4))
all_found bytes numbers i text all before n (k, lt, at) inside =
    let is : slice_index numbers k ≡ n = sym (get_or_default_zero numbers k n lt) ∙ at in
    let P : ℕ → Type 0 = λ j. j * 4 + 4 ≤ length bytes → Contains text (fullword_at bytes (j * 4)) in
    subst P is (before k (omega (arith, lt, all))) inside

pub none_told : (bytes numbers : List ℕ) (text : List WordAt) → text ≡ [] → (w : WordAt) → Contains text w
    → (k : ℕ) × (k < 0) × (w ≡ fullword_at bytes (slice_index numbers k * 4))
none_told bytes numbers text none w there = let (k, lt, e) = rw none at there in absurd (omega (arith, lt))

-- Nothing but the fullwords of these numbers is added.
pub only_more : (bytes : List ℕ) (present : ℕ → Bool) (numbers : List ℕ) (i : ℕ) (old new : List WordAt)
    → ((w : WordAt) → Contains old w → (k : ℕ) × (k < i) × (w ≡ fullword_at bytes (slice_index numbers k * 4)))
    → IsAdded bytes present (slice_index numbers i) old new → (w : WordAt) → Contains new w
    → (k : ℕ) × (k < i + 1) × (w ≡ fullword_at bytes (slice_index numbers k * 4))
only_more bytes present numbers i old new before added w there = by_case (added.only w there)
  where
    by_case : Contains old w ⊎ (w ≡ fullword_at bytes (slice_index numbers i * 4))
        → (k : ℕ) × (k < i + 1) × (w ≡ fullword_at bytes (slice_index numbers k * 4))
    by_case (inl earlier) = (let was = before w earlier in let low = was.1 in (was.0, omega (arith, low), was.2))
    by_case (inr is) = (i, omega arith, is)

-- Each fullword that is found has one of these numbers.
pub only_found : (bytes numbers : List ℕ) (i : ℕ) (text : List WordAt) → i ≤ length numbers
    → ((w : WordAt) → Contains text w → (k : ℕ) × (k < i) × (w ≡ fullword_at bytes (slice_index numbers k * 4)))
    → (w : WordAt) → Contains text w → (n : ℕ) × Contains numbers n × (w ≡ fullword_at bytes (n * 4))
only_found bytes numbers i text within before w there =
    let was = before w there in
    let low = was.1 in
    let lt : was.0 < length numbers = omega (arith, low, within) in
    (slice_index numbers was.0, (was.0, lt, get_or_default_zero numbers was.0 (slice_index numbers was.0) lt), was.2)
