-- A string that is made from the right.
use Rattle.std.proofs.Common.{◌≡◌, ℕ, zero, suc, ◌-◌, ◌<◌, List, [], ◌∷◌, length, get_or, refl, ap, ◌∙◌, arith}
use Rattle.s370_bytes.specs.Digits.{string_of}

-- A string has its length.
pub length-string_of : (n : ℕ) (f : ℕ → ℕ) → length (string_of n f) ≡ n
length-string_of zero f = refl
length-string_of (suc n) f = ap suc (length-string_of n f)

-- a list that has f of each place from the right
pub string_is : (xs : List ℕ) (f : ℕ → ℕ) (n : ℕ) → length xs ≡ n → ((j : ℕ) → j < n → get_or xs j 0 ≡ f (n - 1 - j))
    → xs ≡ string_of n f
string_is [] f zero l h = refl
string_is [] f (suc n) l h = absurd (omega arith)
string_is (x ∷ xs) f zero l h = absurd (omega arith)
string_is (x ∷ xs) f (suc n) l h =
    let m : length xs ≡ n = omega arith in
    let p : suc n - 1 - 0 ≡ n = omega arith in
    let first : x ≡ f n = h 0 (omega arith) ∙ ap f p in
    let rest : xs ≡ string_of n f = string_is xs f n m (λ j s. (
    let q : suc n - 1 - suc j ≡ n - 1 - j = omega arith in
    h (suc j) (omega arith) ∙ ap f q)) in
    rw (first, rest) refl
