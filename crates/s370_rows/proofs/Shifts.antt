-- Numbers with a sign that are shifted left, by their bits without it.
use Rattle.std.proofs.Common.{◌≡◌, ℕ, zero, suc, ◌+◌, ◌-◌, ◌*◌, ◌/◌, ◌%◌, ◌^◌, ◌<◌, ◌≤◌, ◌≢◌, ⊎_elim, false, refl}
use Rattle.std.proofs.Common.{arith, ap, sym, ◌∙◌}
use Rattle.std.proofs.lemmas.Bool.{cases_lt, le-ltb, lt-ltb}
use Rattle.std.proofs.lemmas.Nat.{mul-le, pow-add, pow_pos}
use Rattle.std.proofs.Math.IntN.{neg_ℤ, negsuc-*ℤ-pos, pos-*ℤ-pos}
use Rattle.std.proofs.Math.Nat.{add-mul, div-eq_of_lt, lt-div-mul-add, mul_assoc, pow-le-pow_right}
use Rattle.std.specs.Prelude.{pos, negsuc, ◌*ℤ◌}
use Rattle.s370_rows.specs.Arithmetic.{fits_word, sign_code, signed}
use Rattle.s370_rows.specs.Pair.{signed_pair}
use Rattle.s370_rows.specs.Shift.{fits_pair, left_pair, plain_pair}

-- ---- a product of a negative number

negative_times : (k q j : ℕ) → suc k * q ≡ suc j → negsuc k *ℤ pos q ≡ negsuc j
negative_times k q j e = negsuc-*ℤ-pos k q ∙ ap (λ (p : ℕ). neg_ℤ (pos p)) e

product_some : (a q : ℕ) → 0 < q → suc a * q ≡ suc (suc a * q - 1)
product_some a q some = let m : 1 * 1 ≤ suc a * q = mul-le 1 1 (suc a) q (omega arith) some in omega arith

-- a factor over zero leaves the sign
sign_same : (a q : ℕ) → 0 < q → sign_code (pos (a * q)) ≡ sign_code (pos a)
sign_same zero q some = let e : 0 * q ≡ 0 = omega arith in rw e refl
sign_same (suc a) q some = rw (product_some a q some) refl

-- ---- a word

word_low : (a : ℕ) → a < 2 ^ 31 → signed a ≡ pos a
word_low a l = rw (lt-ltb a (2 ^ 31) l) refl

word_high : (a : ℕ) → 2 ^ 31 ≤ a → signed a ≡ negsuc (2 ^ 32 - suc a)
word_high a h = rw (le-ltb a (2 ^ 31) h) refl

-- A word that is not zero does not fit after a shift by 32 bits or more.
pub far_lost : (a n : ℕ) → 0 < a → a < 2 ^ 32 → 32 ≤ n → fits_word (signed a *ℤ pos (2 ^ n)) ≡ false
far_lost a n some fits far =
    let two : 0 < 2 = omega arith in
    let q : 2 ^ 32 ≤ 2 ^ n = pow-le-pow_right two far in
    ⊎_elim
    (λ (low : a < 2 ^ 31).
    (let m : 1 * 2 ^ 32 ≤ a * 2 ^ n = mul-le 1 (2 ^ 32) a (2 ^ n) some q in
    rw (word_low a low) (le-ltb (a * 2 ^ n) (2 ^ 31) (omega arith))))
    (λ (high : 2 ^ 31 ≤ a).
    (let k = 2 ^ 32 - suc a in
    let m : 1 * 2 ^ 32 ≤ suc k * 2 ^ n = mul-le 1 (2 ^ 32) (suc k) (2 ^ n) (omega arith) q in
    rw (word_high a high, negative_times k (2 ^ n) (suc k * 2 ^ n - 1) (product_some k (2 ^ n) (pow_pos n)))
    (le-ltb (suc k * 2 ^ n - 1) (2 ^ 31) (omega arith))))
    (cases_lt a (2 ^ 31))

-- A shift by 31 bits or more leaves none of the low 31.
pub far_low : (a n : ℕ) → 31 ≤ n → a * 2 ^ n % 2 ^ 31 ≡ 0
far_low a n far =
    let whole : n ≡ n - 31 + 31 = omega arith in
    let e : 2 ^ n ≡ 2 ^ (n - 31) * 2 ^ 31 = ap (λ (m : ℕ). 2 ^ m) whole ∙ pow-add 2 (n - 31) 31 in
    let f : a * 2 ^ n ≡ a * 2 ^ (n - 31) * 2 ^ 31 =
    ap (λ (m : ℕ). a * m) e ∙ sym (mul_assoc a (2 ^ (n - 31)) (2 ^ 31)) in
    omega (arith, f)

-- ---- a pair

pair_low : (a : ℕ) → a < 2 ^ 63 → signed_pair a ≡ pos a
pair_low a l = rw (lt-ltb a (2 ^ 63) l) refl

pair_high : (a : ℕ) → 2 ^ 63 ≤ a → signed_pair a ≡ negsuc (2 ^ 64 - suc a)
pair_high a h = rw (le-ltb a (2 ^ 63) h) refl

-- what no bit is shifted out of but the sign fits
bits_fit : (k s q : ℕ) → 0 < s → s * q ≡ 2 ^ 63 → k / s ≡ 0 → suc k * q ≤ 2 ^ 63
bits_fit k s q some e z =
    let l : k < k / s * s + s = lt-div-mul-add some in
    let l' : k < 0 * s + s = rw z at l in
    let n : 0 * s ≡ 0 = omega arith in
    let m : suc k * q ≤ s * q = mul-le (suc k) q s q (omega arith) (omega arith) in
    omega arith

bits_lost : (k s q : ℕ) → s * q ≡ 2 ^ 63 → k / s ≢ 0 → 2 ^ 63 ≤ k * q
bits_lost k s q e z =
    ⊎_elim
    (λ (small : k < s). absurd (z (div-eq_of_lt small)))
    (λ (large : s ≤ k). (let m : s * q ≤ k * q = mul-le s q k q large (omega arith) in omega arith))
    (cases_lt k s)

-- A pair that loses no significant bit is its bits moved, under its sign.
pub pair_kept : (a n k : ℕ) → a < 2 ^ 64 → n < 64 → (a < 2 ^ 63 → k ≡ a) → (2 ^ 63 ≤ a → k + a + 1 ≡ 2 ^ 64)
    → k / 2 ^ (63 - n) ≡ 0
    → left_pair a n ≡ plain_pair (a * 2 ^ n % 2 ^ 64) (sign_code (signed_pair a))
pair_kept a n k fits short positive negative z =
    let q = 2 ^ n in
    let whole : 63 - n + n ≡ 63 = omega arith in
    let e : 2 ^ (63 - n) * q ≡ 2 ^ 63 = sym (pow-add 2 (63 - n) n) ∙ ap (λ (m : ℕ). 2 ^ m) whole in
    let b : suc k * q ≤ 2 ^ 63 = bits_fit k (2 ^ (63 - n)) q (pow_pos (63 - n)) e z in
    let some : 0 < q = pow_pos n in
    ⊎_elim
    (λ (low : a < 2 ^ 63).
    (let p : k ≡ a = positive low in
    let c : suc a * q ≤ 2 ^ 63 = rw p at b in
    let d : suc a * q ≡ a * q + q = omega arith in
    let small : a * q < 2 ^ 63 = omega arith in
    let same : a * q % 2 ^ 64 ≡ a * q = omega (arith, small) in
    rw (pair_low a low, pos-*ℤ-pos a q, lt-ltb (a * q) (2 ^ 63) small, same, sign_same a q some) refl))
    (λ (high : 2 ^ 63 ≤ a).
    (let p : k + a + 1 ≡ 2 ^ 64 = negative high in
    let k_is : 2 ^ 64 - suc a ≡ k = omega arith in
    let j = suc k * q - 1 in
    let over : suc k * q ≡ suc j = product_some k q some in
    let small : j < 2 ^ 63 = omega arith in
    let sum : (a + suc k) * q ≡ a * q + suc k * q = add-mul a (suc k) q in
    let all : (a + suc k) * q ≡ 2 ^ 64 * q = ap (λ (m : ℕ). m * q) (omega arith) in
    let value : 2 ^ 64 - suc j ≡ a * q % 2 ^ 64 = omega arith in
    rw (pair_high a high, k_is, negative_times k q j over, lt-ltb j (2 ^ 63) small, value) refl))
    (cases_lt a (2 ^ 63))

-- A pair that loses a significant bit does not fit.
pub pair_lost : (a n k : ℕ) → a < 2 ^ 64 → n < 64 → (a < 2 ^ 63 → k ≡ a) → (2 ^ 63 ≤ a → k + a + 1 ≡ 2 ^ 64)
    → k / 2 ^ (63 - n) ≢ 0 → fits_pair (signed_pair a *ℤ pos (2 ^ n)) ≡ false
pair_lost a n k fits short positive negative z =
    let q = 2 ^ n in
    let whole : 63 - n + n ≡ 63 = omega arith in
    let e : 2 ^ (63 - n) * q ≡ 2 ^ 63 = sym (pow-add 2 (63 - n) n) ∙ ap (λ (m : ℕ). 2 ^ m) whole in
    let b : 2 ^ 63 ≤ k * q = bits_lost k (2 ^ (63 - n)) q e z in
    let some : 0 < q = pow_pos n in
    ⊎_elim
    (λ (low : a < 2 ^ 63).
    (let p : k ≡ a = positive low in
    let c : 2 ^ 63 ≤ a * q = rw p at b in
    rw (pair_low a low) (le-ltb (a * q) (2 ^ 63) c)))
    (λ (high : 2 ^ 63 ≤ a).
    (let p : k + a + 1 ≡ 2 ^ 64 = negative high in
    let k_is : 2 ^ 64 - suc a ≡ k = omega arith in
    let d : suc k * q ≡ k * q + q = omega arith in
    rw (pair_high a high, k_is, negative_times k q (suc k * q - 1) (product_some k q some))
    (le-ltb (suc k * q - 1) (2 ^ 63) (omega arith))))
    (cases_lt a (2 ^ 63))
