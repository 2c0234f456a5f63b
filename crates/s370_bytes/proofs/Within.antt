-- The strings that rows store, each no longer than the range that its row tests: what laws over all rows cite.
use Rattle.std.proofs.Common.{◌≡◌, ℕ, zero, suc, ◌+◌, ◌-◌, ◌*◌, ◌≤◌, Bool, true, false, if◌then◌else◌, slice_index, ◌∙◌}
use Rattle.std.proofs.Common.{List, [], ◌∷◌, ◌++◌, length, replicate, refl, arith, length-append}
use Rattle.std.proofs.lemmas.Grind.{common_steps}
use Rattle.std.specs.List.{slice_range}
use Rattle.std.specs.Int.{w64, to_be_bytes}
use Rattle.s370_bytes.specs.declared.combine.Combine.{Combine}
use Rattle.s370_bytes.specs.Combine.{made_of, changed}
use Rattle.s370_bytes.specs.Translate.{translation, translated}
use Rattle.s370_bytes.specs.Strings.{padded}
use Rattle.s370_bytes.specs.Digits.{string_of}
use Rattle.s370_bytes.specs.Multiple.{words_from}
use Rattle.s370_bytes.specs.Masks.{chosen, chosen_from, chosen_count, chosen_before, tested_count, is_chosen}
use Rattle.s370_bytes.proofs.FromRight.{length-string_of}
use Rattle.s370_bytes.proofs.Padding.{length-replicate}

pub range_within : (xs : List ℕ) (a n : ℕ) → length (slice_range xs a (a + n)) ≤ n
range_within xs a n = let e : a + n - a ≡ n = omega arith in rw e (grind (arith, common_steps))

-- MVN, MVC, MVZ, NC, OC, XC
pub made_within : (op : Combine) (bytes : List ℕ) (a b n : ℕ) → length (made_of op bytes a b n) ≤ n
made_within op bytes a b n = range_within (changed op bytes a b n) a n

-- TR
pub translation_within : (bytes : List ℕ) (a t n : ℕ) → length (translation bytes a t n) ≤ n
translation_within bytes a t n = range_within (translated bytes a t n) a n

-- MVCL
pub padded_within : (bytes : List ℕ) (b j pad k : ℕ) → j ≤ k → length (padded (slice_range bytes b (b + j)) pad k) ≤ k
padded_within bytes b j pad k h =
    let xs = slice_range bytes b (b + j) in
    omega (
      arith,
      range_within bytes b j,
      length-append xs (replicate (k - length xs) pad),
      length-replicate (k - length xs) pad,
    )

-- MVO, PACK, UNPK
pub string_within : (n : ℕ) (f : ℕ → ℕ) → length (string_of n f) ≤ n
string_within n f = omega (arith, length-string_of n f)

-- STM
word_more : (xs : List ℕ) (a b c d n : ℕ) → length xs ≤ 4 * n → length (xs ++ (a ∷ b ∷ c ∷ d ∷ [])) ≤ 4 * suc n
word_more xs a b c d n h = omega (arith, length-append xs (a ∷ b ∷ c ∷ d ∷ []))

-- Words of registers take at most four bytes each.
pub words_within : (general : List ℕ) (r n : ℕ) → length (words_from general r n) ≤ 4 * n
words_within general r zero = omega arith
words_within general r (suc n) = word_more (words_from general r n) _ _ _ _ n (words_within general r n)

-- CVD
pub doubleword_within : (d : ℕ) → length (to_be_bytes w64 d) ≤ 8
doubleword_within d = omega arith

-- STCM
length-one : (b : Bool) (x : ℕ) → length (if b then x ∷ [] else []) ≡ (if b then 1 else 0)
length-one true x = refl
length-one false x = refl

chosen_length : (mask : ℕ) (xs : List ℕ) (k : ℕ) → length (chosen_from mask xs k) ≡ chosen_before mask k
chosen_length mask xs zero = refl
chosen_length mask xs (suc k) =
    let l = length-one (is_chosen mask k) (slice_index xs k) in
    let e = chosen_length mask xs k in
    length-append (chosen_from mask xs k) (if is_chosen mask k then slice_index xs k ∷ [] else []) ∙ cc

within_tested : (l k : ℕ) → l ≡ k → l ≤ tested_count k
within_tested l k e = omega arith

-- Chosen bytes take no more than were tested.
pub chosen_within : (mask : ℕ) (xs : List ℕ) → length (chosen mask xs) ≤ tested_count (chosen_count mask)
unfolding chosen chosen_count
chosen_within mask xs = within_tested (length (chosen_from mask xs 4)) (chosen_before mask 4) (chosen_length mask xs 4)
