-- What is at a place of bytes after a put, and strings as numbers.
use Rattle.std.proofs.Common.{◌≡◌, ◌≢◌, ⊎_elim, ℕ, zero, suc, ◌+◌, ◌-◌, ◌*◌, ◌^◌, ◌<◌, ◌≤◌, List, [], ◌∷◌, length}
use Rattle.std.proofs.Common.{get_or, take, drop, refl, ap, sym, ◌∙◌, arith}
use Rattle.std.proofs.lemmas.Grind.{common_steps, same_number_lists}
use Rattle.std.proofs.lemmas.List.{get_or-take, get_or-drop, get_or_append_left, get_or-append_right}
use Rattle.std.proofs.lemmas.Nat.{mul-add-lt, mul-le}
use Rattle.std.proofs.Math.Nat.{mul_comm}
use Rattle.std.proofs.lemmas.Bool.{cases_lt}
use Rattle.std.proofs.lemmas.Bool.Decides.{nat_tests}
use native.Mathlib.Nat.{pow-suc}
use Rattle.std.specs.List.{slice_range}
use Rattle.s370_store.specs.Access.{put}
use Rattle.s370_rows.specs.Arithmetic.{order_code}
use Rattle.s370_bytes.specs.Strings.{number}
use Rattle.s370_bytes.specs.Compare.{equal_pairs}

-- Putting bytes inside storage changes no length.
pub length-put : (xs ys : List ℕ) (a : ℕ) → a + length ys ≤ length xs → length (put xs a ys) ≡ length xs
unfolding put
length-put xs ys a h = grind (arith, common_steps)

-- Bytes below those that are put stay.
pub put_below : (xs ys : List ℕ) (a j : ℕ) → a + length ys ≤ length xs → j < a
    → get_or (put xs a ys) j 0 ≡ get_or xs j 0
unfolding put
put_below xs ys a j h small =
    get_or_append_left (take a xs) _ 0 j (grind (arith, common_steps)) ∙ get_or-take a xs j 0 small

-- Bytes that are put are read back.
pub put_inside : (xs ys : List ℕ) (a j : ℕ) → a + length ys ≤ length xs → a ≤ j → j < a + length ys
    → get_or (put xs a ys) j 0 ≡ get_or ys (j - a) 0
unfolding put
put_inside xs ys a j h low high =
    get_or-append_right (take a xs) _ a j 0 (grind (arith, common_steps)) low
    ∙ get_or_append_left ys _ 0 (j - a) (omega arith)

-- Bytes above those that are put stay.
pub put_above : (xs ys : List ℕ) (a j : ℕ) → a + length ys ≤ length xs → a + length ys ≤ j
    → get_or (put xs a ys) j 0 ≡ get_or xs j 0
unfolding put
put_above xs ys a j h high =
    get_or-append_right (take a xs) _ a j 0 (grind (arith, common_steps)) (omega arith)
    ∙ get_or-append_right ys _ (length ys) (j - a) 0 refl (omega arith)
    ∙ get_or-drop (length ys) (drop a xs) (j - a - length ys) 0
    ∙ get_or-drop a xs (length ys + (j - a - length ys)) 0
    ∙ ap (λ (k : ℕ). get_or xs k 0) (omega arith)

-- A byte of a range is that byte of storage.
pub range_inside : (xs : List ℕ) (a n k : ℕ) → k < n → get_or (slice_range xs a (a + n)) k 0 ≡ get_or xs (a + k) 0
range_inside xs a n k h =
    let e : a + n - a ≡ n = omega arith in
    rw e (get_or-take n (drop a xs) k 0 h ∙ get_or-drop a xs k 0)

-- A range of storage has its length.
pub length-range : (xs : List ℕ) (a n : ℕ) → a + n ≤ length xs → length (slice_range xs a (a + n)) ≡ n
length-range xs a n h = let e : a + n - a ≡ n = omega arith in rw e (grind (arith, common_steps))

-- A range that is put is read back.
pub range_put : (xs ys : List ℕ) (a n : ℕ) → a + n ≤ length xs → length ys ≡ n
    → slice_range (put xs a ys) a (a + n) ≡ ys
range_put xs ys a n h l =
    same_number_lists _ _ (length-range (put xs a ys) a n (omega (arith, length-put xs ys a (omega arith))) ∙ sym l)
    (λ k small. (
    let s : k < n = omega (
      arith,
      small,
      length-range (put xs a ys) a n
          (omega (arith, length-put xs ys a (omega arith))),
    ) in
    let e : a + k - a ≡ k = omega arith in
    range_inside (put xs a ys) a n k s ∙ put_inside xs ys a (a + k) (omega arith) (omega arith) (omega arith)
    ∙ ap (λ (i : ℕ). get_or ys i 0) e))

-- a list that differs from another in a range is that other with its range put
pub put_range : (xs ys : List ℕ) (a n : ℕ) → a + n ≤ length xs → length ys ≡ length xs
    → ((j : ℕ) → j < a → get_or ys j 0 ≡ get_or xs j 0)
    → ((j : ℕ) → a + n ≤ j → get_or ys j 0 ≡ get_or xs j 0) → ys ≡ put xs a (slice_range ys a (a + n))
put_range xs ys a n h l below above =
    let zs = slice_range ys a (a + n) in
    let m : length zs ≡ n = length-range ys a n (omega arith) in
    same_number_lists ys _ (l ∙ sym (length-put xs zs a (omega arith)))
    (λ k small. ⊎_elim
    (λ (low : k < a). below k low ∙ sym (put_below xs zs a k (omega arith) low))
    (λ (high : a ≤ k). ⊎_elim
    (λ (within : k < a + n).
    (let e : a + (k - a) ≡ k = omega arith in
    sym (put_inside xs zs a k (omega arith) high (omega arith) ∙ range_inside ys a n (k - a) (omega arith)
    ∙ ap (λ (i : ℕ). get_or ys i 0) e)))
    (λ (out : a + n ≤ k). above k out ∙ sym (put_above xs zs a k (omega arith) (omega arith)))
    (cases_lt k (a + n)))
    (cases_lt k a))

-- ---- strings that are compared in groups

-- Equal ranges have equal bytes.
pub range_same : (xs ys : List ℕ) (a n k : ℕ) → slice_range xs a (a + n) ≡ slice_range ys a (a + n) → k < n
    → get_or xs (a + k) 0 ≡ get_or ys (a + k) 0
range_same xs ys a n k e s = sym (range_inside xs a n k s) ∙ ap (λ (zs : List ℕ). get_or zs k 0) e
    ∙ range_inside ys a n k s

-- one group more
pub groups_more : (xs ys : List ℕ) (k : ℕ) → ((j : ℕ) → j < 8 * k → get_or xs j 0 ≡ get_or ys j 0)
    → ((j : ℕ) → j < 8 → get_or xs (8 * k + j) 0 ≡ get_or ys (8 * k + j) 0)
    → (j : ℕ) → j < 8 * (k + 1) → get_or xs j 0 ≡ get_or ys j 0
groups_more xs ys k before group j s =
    ⊎_elim
    (λ (low : j < 8 * k). before j low)
    (λ (high : 8 * k ≤ j).
    (let e : 8 * k + (j - 8 * k) ≡ j = omega arith in
    let h : get_or xs (8 * k + (j - 8 * k)) 0 ≡ get_or ys (8 * k + (j - 8 * k)) 0 = group (j - 8 * k) (omega arith) in
    rw e at h))
    (cases_lt j (8 * k))

-- ---- strings as numbers

pow_some : (n : ℕ) → 1 ≤ 256 ^ n
pow_some zero = omega arith
pow_some (suc n) = rw pow-suc (omega (arith, pow_some n))

-- A number of zero bytes is zero.
pub number_zero : (xs : List ℕ) → ((k : ℕ) → k < length xs → get_or xs k 0 ≡ 0) → number xs ≡ 0
number_zero [] h = refl
number_zero (x ∷ xs) h =
    let e : x ≡ 0 = h 0 (omega arith) in
    let f : number xs ≡ 0 = number_zero xs (λ k s. h (suc k) (omega arith)) in
    rw (e, f) (omega arith)

-- A number with a byte that is not zero is more than zero.
pub number_some : (xs : List ℕ) (k : ℕ) → k < length xs → 0 < get_or xs k 0 → 0 < number xs
number_some [] k s h = absurd (omega arith)
number_some (x ∷ xs) zero s h = let g : 1 * 1 ≤ x * 256 ^ length xs = mul-le 1 1 x (256 ^ length xs) h
    (pow_some (length xs)) in omega arith
number_some (x ∷ xs) (suc k) s h = omega (arith, number_some xs k (omega arith) h)

pub number_below : (xs : List ℕ) → ((k : ℕ) → get_or xs k 0 < 256) → number xs < 256 ^ length xs
number_below [] h = omega arith
number_below (x ∷ xs) h =
    let f : number xs < 256 ^ length xs = number_below xs (λ k. h (suc k)) in
    let b : x < 256 = h 0 in
    let g : x * 256 ^ length xs + number xs < 256 ^ length xs * 256 = mul-add-lt x (256 ^ length xs)
    (number xs) 256 b f in
    rw pow-suc (omega (arith, g))

-- the first bytes that differ decide
pub compared_at : (xs ys : List ℕ) (k : ℕ) → length xs ≡ length ys → ((j : ℕ) → get_or xs j 0 < 256)
    → ((j : ℕ) → get_or ys j 0 < 256)
    → ((j : ℕ) → j < k → get_or xs j 0 ≡ get_or ys j 0) → k < length xs → get_or xs k 0 < get_or ys k 0
    → number xs < number ys
compared_at [] ys k l p q e s d = absurd (omega arith)
compared_at (x ∷ xs) [] k l p q e s d = absurd (omega arith)
compared_at (x ∷ xs) (y ∷ ys) zero l p q e s d =
    let m : length xs ≡ length ys = omega arith in
    let f : number xs < 256 ^ length xs = number_below xs (λ j. p (suc j)) in
    let g : x * 256 ^ length xs + number xs < 256 ^ length xs * y = mul-add-lt x (256 ^ length xs) (number xs) y d f in
    rw (← m) (omega (arith, g, mul_comm y (256 ^ length xs)))
compared_at (x ∷ xs) (y ∷ ys) (suc k) l p q e s d =
    let m : length xs ≡ length ys = omega arith in
    let h : x ≡ y = e 0 (omega arith) in
    let f : number xs < number ys = compared_at xs ys k m (λ j. p (suc j)) (λ j. q (suc j))
    (λ j t. e (suc j) (omega arith)) (omega arith) d in
    rw (h, m) (omega (arith, f))

-- Ranges with equal bytes are equal.
pub compared_same : (xs ys : List ℕ) → length xs ≡ length ys → ((j : ℕ) → j < length xs → get_or xs j 0 ≡ get_or ys j 0)
    → xs ≡ ys
compared_same xs ys l e = same_number_lists xs ys l e

-- The number of equal pairs ends at the first difference.
pub equal_pairs_is : (xs ys : List ℕ) (k : ℕ) → length xs ≡ length ys → k ≤ length xs
    → ((j : ℕ) → j < k → get_or xs j 0 ≡ get_or ys j 0) → (k < length xs → get_or xs k 0 ≢ get_or ys k 0)
    → k ≡ equal_pairs xs ys
equal_pairs_is [] ys k l h e d = omega arith
equal_pairs_is (x ∷ xs) [] k l h e d = absurd (omega arith)
equal_pairs_is (x ∷ xs) (y ∷ ys) zero l h e d =
    let n : x ≢ y = d (omega arith) in
    grind (arith, nat_tests)
equal_pairs_is (x ∷ xs) (y ∷ ys) (suc k) l h e d =
    let m : x ≡ y = e 0 (omega arith) in
    let r : k ≡ equal_pairs xs ys = equal_pairs_is xs ys k (omega arith) (omega arith) (λ j s. e (suc j) (omega arith))
    (λ s. d (omega arith)) in
    grind (arith, nat_tests)

-- the order of the first bytes that differ is that of the strings
pub order_is : (xs ys : List ℕ) (k : ℕ) → length xs ≡ length ys → ((j : ℕ) → get_or xs j 0 < 256)
    → ((j : ℕ) → get_or ys j 0 < 256)
    → ((j : ℕ) → j < k → get_or xs j 0 ≡ get_or ys j 0) → k < length xs → get_or xs k 0 ≢ get_or ys k 0
    → order_code (get_or xs k 0) (get_or ys k 0) ≡ order_code (number xs) (number ys)
order_is xs ys k l p q e s d =
    ⊎_elim
    (λ (low : get_or xs k 0 < get_or ys k 0).
    (let n : number xs < number ys = compared_at xs ys k l p q e s low in
    grind (arith, nat_tests)))
    (λ (high : get_or ys k 0 ≤ get_or xs k 0).
    (let n : number ys < number xs = compared_at ys xs k (sym l) q p (λ j t. sym (e j t)) (omega (arith, l))
    (omega arith) in
    grind (arith, nat_tests)))
    (cases_lt (get_or xs k 0) (get_or ys k 0))
