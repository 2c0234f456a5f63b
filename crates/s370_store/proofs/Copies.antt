-- What a copy between two places of a list leaves, by the two parts between which it is made.
use Rattle.std.proofs.Common.{◌≡◌, ℕ, ◌+◌, ◌-◌, ◌≤◌, List, ◌++◌, length, take, drop, refl, sym, ◌∙◌, ap, arith}
use Rattle.std.specs.List.{slice_range}
use Rattle.std.proofs.lemmas.List.{append_assoc, drop-take, take-take, drop-drop, take-append-drop}
use Rattle.s370_store.specs.Access.{put}

-- the first m, and what follows them with a beginning written over
pub put_high : (bytes xs : List ℕ) (m : ℕ) → take m bytes ++ put (drop m bytes) 0 xs ≡ put bytes m xs
unfolding put
put_high bytes xs m = refl

range_first : (bytes : List ℕ) (m a n : ℕ) → a + n ≤ m → take n (drop a (take m bytes)) ≡ take n (drop a bytes)
range_first bytes m a n h =
    let whole : m ≡ a + (m - a) = omega arith in
    ap (λ i. take n (drop a (take i bytes))) whole ∙ ap (take n) (drop-take a (m - a) bytes)
    ∙ take-take n (m - a) (drop a bytes) (omega arith)

-- A range below the cut is the same range of all bytes.
pub range_low : (bytes : List ℕ) (m a n : ℕ) → a + n ≤ m → slice_range (take m bytes) a (a + n) ≡ slice_range bytes a
    (a + n)
range_low bytes m a n h = let e : a + n - a ≡ n = omega arith in rw e (range_first bytes m a n h)

-- What is taken after a cut is a range of all bytes.
pub range_high : (bytes : List ℕ) (m n : ℕ) → take n (drop m bytes) ≡ slice_range bytes m (m + n)
range_high bytes m n = let e : m + n - m ≡ n = omega arith in rw e refl

-- what is left of the first m after k, and what follows them
rest_low : (bytes : List ℕ) (m k : ℕ) → k ≤ m → drop k (take m bytes) ++ drop m bytes ≡ drop k bytes
rest_low bytes m k h =
    let whole : m ≡ k + (m - k) = omega arith in
    let first : drop k (take m bytes) ≡ take (m - k) (drop k bytes) = ap (λ i. drop k (take i bytes)) whole
    ∙ drop-take k (m - k) bytes in
    let last : drop m bytes ≡ drop (m - k) (drop k bytes) = ap (λ i. drop i bytes) whole
    ∙ sym (drop-drop (m - k) k bytes) in
    ap (λ xs. xs ++ drop m bytes) first ∙ ap (λ xs. take (m - k) (drop k bytes) ++ xs) last
    ∙ take-append-drop (m - k) (drop k bytes)

-- the first m with a part written over, and what follows them
pub put_low : (bytes xs : List ℕ) (m a : ℕ) → a + length xs ≤ m
    → put (take m bytes) a xs ++ drop m bytes ≡ put bytes a xs
unfolding put
put_low bytes xs m a h =
    let k = length xs in
    let front : take a (take m bytes) ≡ take a bytes = take-take a m bytes (omega arith) in
    let rest : drop k (drop a (take m bytes)) ++ drop m bytes ≡ drop k (drop a bytes) =
    ap (λ ys. ys ++ drop m bytes) (drop-drop k a (take m bytes)) ∙ rest_low bytes m (a + k) h
    ∙ sym (drop-drop k a bytes) in
    append_assoc (take a (take m bytes)) (xs ++ drop k (drop a (take m bytes))) (drop m bytes)
    ∙ ap (λ ys. ys ++ (xs ++ drop k (drop a (take m bytes)) ++ drop m bytes)) front
    ∙ ap (λ ys. take a bytes ++ ys) (append_assoc xs (drop k (drop a (take m bytes))) (drop m bytes)
    ∙ ap (λ ys. xs ++ ys) rest)
