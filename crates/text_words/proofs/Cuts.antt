-- A text cut at its first LF, and a line at its first blank.
use Rattle.std.proofs.Common.{◌≡◌, ℕ, ◌+◌, ◌<◌, zero, suc, Bool, true, false, cond, not, eqb, ltb, List, [], ◌∷◌}
use Rattle.std.proofs.Common.{length, get_or, take, drop, Some, None, refl, ap, add-one, arith}
use Rattle.std.specs.List.{onto_first, position, position_or_len}
use Rattle.std.proofs.lemmas.List.Sums.{prefix_len_passes}
use Rattle.std.proofs.lemmas.Bool.{ltb-false}
use Rattle.std.proofs.lemmas.List.Quantifiers.{position-Some}
use Rattle.text_words.specs.Lines.{lines_of}
use Rattle.text_words.specs.Words.{word_of, after_word}

-- this byte is there, and nowhere before
record First (byte : ℕ) (xs : List ℕ) (at : ℕ) : Type 0 where
  within : at < length xs
  here : eqb (get_or xs at 0) byte ≡ true
  before : (k : ℕ) → k < at → eqb (get_or xs k 0) byte ≡ false

first : (byte : ℕ) (xs : List ℕ) (at : ℕ) → position (λ c. eqb c byte) xs ≡ Some at → First byte xs at
first byte xs at e = let h = position-Some (λ c. eqb c byte) xs at 0 e in
    record { within = h.0; here = h.1; before = h.2 }

later : (byte c : ℕ) (cs : List ℕ) (at : ℕ) → First byte (c ∷ cs) (suc at) → First byte cs at
later byte c cs at h = record {
  within = omega (arith, h.within);
  here = h.here;
  before = λ k less. h.before (suc k) (omega arith);
}

lines_cut : (xs : List ℕ) (at : ℕ) → First 10 xs at → lines_of xs ≡ take at xs ∷ lines_of (drop (suc at) xs)
lines_cut [] at h = absurd (omega (arith, h.within))
lines_cut (c ∷ cs) zero h = rw h.here refl
lines_cut (c ∷ cs) (suc at) h = rw (h.before zero (omega arith))
    (ap (onto_first c) (lines_cut cs at (later 10 c cs at h)))

-- The first of the lines ends at the first line feed.
pub lines_at : (xs : List ℕ) (at : ℕ) → position (λ c. eqb c 10) xs ≡ Some at
    → lines_of xs ≡ take at xs ∷ lines_of (drop (at + 1) xs)
lines_at xs at e = rw add-one (lines_cut xs at (first 10 xs at e))

word_cut : (xs : List ℕ) (at : ℕ) → First 32 xs at → word_of xs ≡ take at xs
word_cut [] at h = absurd (omega (arith, h.within))
word_cut (c ∷ cs) zero h = rw h.here refl
word_cut (c ∷ cs) (suc at) h = rw (h.before zero (omega arith))
    (ap (λ (l : List ℕ). c ∷ l) (word_cut cs at (later 32 c cs at h)))

-- The first word ends at the first blank.
pub word_at : (xs : List ℕ) (at : ℕ) → position (λ c. eqb c 32) xs ≡ Some at → word_of xs ≡ take at xs
word_at xs at e = word_cut xs at (first 32 xs at e)

after_cut : (xs : List ℕ) (at : ℕ) → First 32 xs at → after_word xs ≡ Some (drop (suc at) xs)
after_cut [] at h = absurd (omega (arith, h.within))
after_cut (c ∷ cs) zero h = rw h.here refl
after_cut (c ∷ cs) (suc at) h = rw (h.before zero (omega arith)) (after_cut cs at (later 32 c cs at h))

-- What follows the first word begins after the first blank.
pub after_at : (xs : List ℕ) (at : ℕ) → position (λ c. eqb c 32) xs ≡ Some at → after_word xs ≡ Some (drop (at + 1) xs)
after_at xs at e = rw add-one (after_cut xs at (first 32 xs at e))

-- A text without a line feed is one line.
pub line_alone : (xs : List ℕ) → 0 < length xs → ((k : ℕ) → k < length xs → eqb (get_or xs k 0) 10 ≡ false)
    → lines_of xs ≡ xs ∷ []
line_alone [] some h = absurd (omega arith)
line_alone (c ∷ []) some h = rw (h zero (omega arith)) refl
line_alone (c ∷ d ∷ ds) some h = rw (h zero (omega arith)) (ap (onto_first c)
    (line_alone (d ∷ ds) (omega arith) (λ k less. h (suc k) (omega arith))))

-- A text without a blank is one word.
pub word_alone : (xs : List ℕ) → ((k : ℕ) → k < length xs → eqb (get_or xs k 0) 32 ≡ false) → word_of xs ≡ xs
word_alone [] h = refl
word_alone (c ∷ cs) h = rw (h zero (omega arith)) (ap (λ (l : List ℕ). c ∷ l)
    (word_alone cs (λ k less. h (suc k) (omega arith))))

-- Nothing follows the first word of a text without a blank.
pub after_none : (xs : List ℕ) → ((k : ℕ) → k < length xs → eqb (get_or xs k 0) 32 ≡ false) → after_word xs ≡ None
after_none [] h = refl
after_none (c ∷ cs) h = rw (h zero (omega arith)) (after_none cs (λ k less. h (suc k) (omega arith)))

past : (b : Bool) (n : ℕ) → cond b (Some n) None ≡ None → b ≡ false
past true n e = cc
past false n e = refl

fails : (b : Bool) → not b ≡ true → b ≡ false
fails true e = cc
fails false e = refl

-- where no place is found, it is nowhere
pub nowhere : (byte : ℕ) (xs : List ℕ) → position (λ c. eqb c byte) xs ≡ None → (k : ℕ) → k < length xs
    → eqb (get_or xs k 0) byte ≡ false
nowhere byte xs e k less =
    let none : ltb (position_or_len (λ c. eqb c byte) xs) (length xs) ≡ false = past _ _ e in
    fails (eqb (get_or xs k 0) byte) (prefix_len_passes (λ c. not (eqb c byte)) xs k 0
    (omega (arith, ltb-false _ _ none)))
