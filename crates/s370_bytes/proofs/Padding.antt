-- A string loaded over pads.
use Rattle.std.proofs.Common.{◌≡◌, ℕ, zero, suc, ◌-◌, ◌<◌, List, [], ◌∷◌, ◌++◌, length, get_or, drop}
use Rattle.std.proofs.Common.{replicate, refl, ap, arith}
use Rattle.s370_bytes.specs.Strings.{padded}

drop_replicate : (n k pad : ℕ) → drop k (replicate n pad) ≡ replicate (n - k) pad
drop_replicate zero zero pad = refl
drop_replicate zero (suc k) pad = let e : 0 - suc k ≡ 0 = omega arith in rw e refl
drop_replicate (suc n) zero pad = let e : suc n - 0 ≡ suc n = omega arith in rw e refl
drop_replicate (suc n) (suc k) pad = let e : suc n - suc k ≡ n - k = omega arith in rw e (drop_replicate n k pad)

-- a string loaded over pads
pub padded_is : (xs pads : List ℕ) (pad k n : ℕ) → pads ≡ replicate n pad → length xs ≡ k
    → xs ++ drop k pads ≡ padded xs pad n
padded_is xs pads pad k n p l =
    rw (p, l) (ap (λ (ys : List ℕ). xs ++ ys) (drop_replicate n k pad))

pub padded_none : (pad n : ℕ) → padded [] pad n ≡ replicate n pad
padded_none pad n = let e : n - 0 ≡ n = omega arith in rw e refl

-- A list of one value has its length.
pub length-replicate : (n pad : ℕ) → length (replicate n pad) ≡ n
length-replicate zero pad = refl
length-replicate (suc n) pad = ap suc (length-replicate n pad)

-- A list whose bytes are all the same is that byte repeated.
pub replicate_is : (xs : List ℕ) (pad n : ℕ) → length xs ≡ n → ((j : ℕ) → j < n → get_or xs j 0 ≡ pad)
    → xs ≡ replicate n pad
replicate_is [] pad zero l h = refl
replicate_is [] pad (suc n) l h = absurd (omega arith)
replicate_is (x ∷ xs) pad zero l h = absurd (omega arith)
replicate_is (x ∷ xs) pad (suc n) l h =
    let first : x ≡ pad = h 0 (omega arith) in
    let rest : xs ≡ replicate n pad = replicate_is xs pad n (omega arith) (λ j s. h (suc j) (omega arith)) in
    rw (first, rest) refl
