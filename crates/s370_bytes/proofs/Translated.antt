-- Bytes of a storage that are translated by a table in it, one by one or through a buffer.
use Rattle.std.proofs.Common.{◌≡◌, ◌≢◌, ℕ, zero, suc, ◌+◌, ◌<◌, ◌≤◌, ⊎_elim, true, List, [], ◌∷◌, ◌++◌, length}
use Rattle.std.proofs.Common.{get_or, set, take, drop, refl, sym, ap, ◌∙◌, arith, add-one, length-set}
use Rattle.std.proofs.lemmas.Grind.{same_number_lists}
use Rattle.std.proofs.lemmas.List.{get_or-set_same, get_or-set_other}
use Rattle.std.proofs.lemmas.Bool.{cases_lt, cases_eq}
use Rattle.std.proofs.lemmas.Bool.Decides.{nat_tests}
use Rattle.std.specs.List.{slice_range}
use Rattle.s370_store.specs.Access.{put}
use Rattle.s370_bytes.specs.Translate.{translated, translation, are_disjoint, zeros}
use Rattle.s370_bytes.proofs.Places.{put_range, range_inside, length-range}

put_one : (xs : List ℕ) (i y : ℕ) → i < length xs → take i xs ++ (y ∷ drop 1 (drop i xs)) ≡ set xs i y
put_one [] i y h = absurd (omega arith)
put_one (x ∷ xs) zero y h = refl
put_one (x ∷ xs) (suc i) y h = ap (λ (l : List ℕ). x ∷ l) (put_one xs i y (omega arith))

put_one_is : (xs : List ℕ) (i y : ℕ) → i < length xs → put xs i (y ∷ []) ≡ set xs i y
unfolding put
put_one_is xs i y h = put_one xs i y h

-- one more byte is translated
pub one_translated : (bytes sofar : List ℕ) (a t k name byte : ℕ) → a + k < length sofar
    → sofar ≡ translated bytes a t k → name ≡ get_or sofar (a + k) 0 → byte ≡ get_or sofar (t + name) 0
    → put sofar (a + k) (byte ∷ []) ≡ translated bytes a t (k + 1)
one_translated bytes sofar a t k name byte h e n b =
    put_one_is sofar (a + k) byte h ∙ ap (λ (x : ℕ). set sofar (a + k) x) (b ∙ ap (λ (x : ℕ). get_or sofar (t + x) 0) n)
    ∙ ap (λ (l : List ℕ). set l (a + k) (get_or l (t + get_or l (a + k) 0) 0)) e ∙ (rw add-one refl)

-- what a translation leaves as it was
record Kept (bytes now : List ℕ) (a k : ℕ) : Type 0 where
  size : length now ≡ length bytes
  below : (j : ℕ) → j < a → get_or now j 0 ≡ get_or bytes j 0
  above : (j : ℕ) → a + k ≤ j → get_or now j 0 ≡ get_or bytes j 0

kept_more : (bytes now : List ℕ) (a k x : ℕ) → Kept bytes now a k → Kept bytes (set now (a + k) x) a (k + 1)
kept_more bytes now a k x s = record {
  size = simp length-set s.size;
  below = λ j small. get_or-set_other now (a + k) j x 0 (omega arith) ∙ s.below j small;
  above = λ j large. get_or-set_other now (a + k) j x 0 (omega arith) ∙ s.above j (omega arith);
}

kept : (bytes : List ℕ) (a t k : ℕ) → Kept bytes (translated bytes a t k) a k
kept bytes a t zero = record { size = refl; below = λ j s. refl; above = λ j s. refl }
kept bytes a t (suc k) = rw (← add-one) (kept_more bytes (translated bytes a t k) a k _ (kept bytes a t k))

-- a translation is one string that is put
pub translated_is : (bytes : List ℕ) (a t n : ℕ) → a + n ≤ length bytes
    → translated bytes a t n ≡ put bytes a (translation bytes a t n)
translated_is bytes a t n h =
    let s = kept bytes a t n in
    put_range bytes (translated bytes a t n) a n h s.size s.below s.above

-- a byte of a table that has none of the bytes that were translated
far : (bytes now : List ℕ) (a t n k x : ℕ) → are_disjoint a n t ≡ true → x < 256 → k ≤ n → Kept bytes now a k
    → get_or now (t + x) 0 ≡ get_or bytes (t + x) 0
far bytes now a t n k x apart small l s =
    ⊎_elim
    (λ (low : t + x < a). s.below (t + x) low)
    (λ (high : a ≤ t + x). s.above (t + x) (grind (arith, nat_tests)))
    (cases_lt (t + x) a)

-- the bytes that are translated, by a table that has none of them
inside : (bytes : List ℕ) (a t n k j : ℕ) → are_disjoint a n t ≡ true → a + n ≤ length bytes → k ≤ n
    → ((i : ℕ) → i < n → get_or bytes (a + i) 0 < 256)
    → j < k → get_or (translated bytes a t k) (a + j) 0 ≡ get_or bytes (t + get_or bytes (a + j) 0) 0
inside bytes a t n zero j apart h l b s = absurd (omega arith)
inside bytes a t n (suc k) j apart h l b s =
    let sofar = translated bytes a t k in
    let r = kept bytes a t k in
    ⊎_elim
    (λ (same : j ≡ k).
    (let small : get_or bytes (a + k) 0 < 256 = b k (omega arith) in
    let name : get_or sofar (a + k) 0 ≡ get_or bytes (a + k) 0 = r.above (a + k) (omega arith) in
    let byte : get_or sofar (t + get_or bytes (a + k) 0) 0 ≡ get_or bytes
    (t + get_or bytes (a + k) 0) 0 = far bytes sofar a t n k (get_or bytes (a + k) 0) apart small (omega arith) r in
    rw (same, get_or-set_same sofar (a + k) _ 0 (omega (arith, r.size)), name) byte))
    (λ (other : j ≡ k → ⊥).
    (get_or-set_other sofar (a + k) (a + j) _ 0 (omega (arith, other))
    ∙ inside bytes a t n k j apart h (omega arith) b (omega (arith, other))))
    (cases_eq j k)

-- what a buffer leaves that was loaded, translated and stored
pub made_is : (bytes first table made : List ℕ) (a t n : ℕ) → are_disjoint a n t ≡ true → a + n ≤ length bytes
    → length made ≡ n
    → first ≡ slice_range bytes a (a + n) → table ≡ slice_range bytes t (t + 256) → ((j : ℕ) → get_or first j 0 < 256)
    → ((j : ℕ) → j < n → get_or made j 0 ≡ get_or table (get_or first j 0) 0) → made ≡ translation bytes a t n
made_is bytes first table made a t n apart h l p q b e =
    let at : (j : ℕ) → j < n → get_or first j 0 ≡ get_or bytes (a + j) 0 = λ j s. ap (λ (xs : List ℕ). get_or xs j 0) p
    ∙ range_inside bytes a n j s in
    let size : length (translated bytes a t n) ≡ length bytes = (kept bytes a t n).size in
    same_number_lists _ _ (l ∙ sym (length-range (translated bytes a t n) a n (omega arith)))
    (λ j s. (
    let small : j < n = omega arith in
    let name : get_or first j 0 ≡ get_or bytes (a + j) 0 = at j small in
    let below : get_or first j 0 < 256 = b j in
    let entry : get_or table (get_or first j 0) 0 ≡ get_or bytes (t + get_or first j 0) 0 = ap
    (λ (xs : List ℕ). get_or xs (get_or first j 0) 0) q ∙ range_inside bytes t 256 (get_or first j 0) below in
    e j small ∙ entry ∙ ap (λ (x : ℕ). get_or bytes (t + x) 0) name
    ∙ sym (range_inside (translated bytes a t n) a n j small
    ∙ inside bytes a t n n j apart h (omega arith) (λ i r. (let f = at i r in omega (arith, f, b i))) small)))

-- how many function bytes are zero before the first that is not
pub zeros_is : (table xs : List ℕ) (k : ℕ) → k ≤ length xs → ((j : ℕ) → j < k → get_or table (get_or xs j 0) 0 ≡ 0)
    → (k < length xs → get_or table (get_or xs k 0) 0 ≢ 0) → k ≡ zeros table xs
zeros_is table [] k h e d = omega arith
zeros_is table (x ∷ xs) zero h e d =
    let n : get_or table x 0 ≢ 0 = d (omega arith) in
    grind (arith, nat_tests)
zeros_is table (x ∷ xs) (suc k) h e d =
    let m : get_or table x 0 ≡ 0 = e 0 (omega arith) in
    let r : k ≡ zeros table xs = zeros_is table xs k (omega arith) (λ j s. e (suc j) (omega arith))
    (λ s. d (omega arith)) in
    grind (arith, nat_tests)
