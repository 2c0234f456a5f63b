-- Several registers stored in words or loaded from them, one group after another.
use Rattle.std.proofs.Common.{◌≡◌, ℕ, zero, suc, ◌+◌, ◌-◌, ◌*◌, ◌%◌, ◌<◌, ◌≤◌, List, [], ◌∷◌, ◌++◌}
use Rattle.std.proofs.Common.{length, take, drop, refl, ap, sym, ◌∙◌, arith, get_or, add-one, add-zero, zero-add}
use Rattle.std.proofs.lemmas.List.{append-nil, append_assoc, drop-drop, drop-take, length-append, take-take}
use Rattle.std.proofs.lemmas.List.{take_all}
use Rattle.std.proofs.Math.ListN.{drop_of_length-le}
use Rattle.std.proofs.Math.Seq.{drop-append_seam, drop-nil, take-append_seam}
use Rattle.std.specs.Int.{w32, from_be_bytes, to_be_bytes}
use Rattle.std.specs.List.{slice_range}
use Rattle.s370_store.specs.Access.{put}
use Rattle.s370_store.specs.Memory.{Memory, memory_of, with_stored}
use Rattle.s370_store.proofs.Puts.{put-nothing}
use Rattle.s370_rows.specs.Rows.{word_at}
use Rattle.s370_bytes.specs.Multiple.{loaded_from, words_from}

-- ---- bytes that are put one after another

put_none : (xs : List ℕ) (a : ℕ) → put [] a xs ≡ xs
unfolding put
put_none xs zero = ap (λ (zs : List ℕ). xs ++ zs) (drop-nil (length xs)) ∙ append-nil xs
put_none xs (suc a) = ap (λ (zs : List ℕ). xs ++ zs) (drop-nil (length xs)) ∙ append-nil xs

put_past : (xs ys : List ℕ) (a : ℕ) → put xs (a + length xs) ys ≡ xs ++ ys
unfolding put
put_past xs ys a =
    let front : take (a + length xs) xs ≡ xs = take_all (a + length xs) xs (omega arith) in
    let back : drop (a + length xs) xs ≡ [] = drop_of_length-le xs (omega arith) in
    rw (front, back) (ap (λ (zs : List ℕ). xs ++ (ys ++ zs)) (drop-nil (length ys))
    ∙ ap (λ (zs : List ℕ). xs ++ zs) (append-nil ys))

put_first : (bytes xs ys : List ℕ) → put (put bytes 0 xs) (length xs) ys ≡ put bytes 0 (xs ++ ys)
unfolding put
put_first bytes xs ys =
    let rest = drop (length xs) bytes in
    let both : length (xs ++ ys) ≡ length xs + length ys = length-append xs ys in
    rw (take-append_seam xs rest, drop-append_seam xs rest, both, drop-drop (length ys) (length xs) bytes)
    (sym (append_assoc xs ys _))

-- Bytes that are put right after others are put with them, past the end of storage too.
put_more : (bytes xs ys : List ℕ) (a : ℕ) → put (put bytes a xs) (a + length xs) ys ≡ put bytes a (xs ++ ys)
unfolding put
put_more [] xs ys a = ap (λ (zs : List ℕ). put zs (a + length xs) ys) (put_none xs a) ∙ put_past xs ys a
    ∙ sym (put_none (xs ++ ys) a)
put_more (b ∷ bytes) xs ys zero =
    ap (λ (k : ℕ). put (put (b ∷ bytes) 0 xs) k ys) (zero-add (length xs)) ∙ put_first (b ∷ bytes) xs ys
put_more (b ∷ bytes) xs ys (suc a) =
    let e : suc a + length xs ≡ suc (a + length xs) = omega arith in
    ap (λ (k : ℕ). put (put (b ∷ bytes) (suc a) xs) k ys) e
    ∙ ap (λ (zs : List ℕ). b ∷ zs) (put_more bytes xs ys a)

-- A store that goes on where another ended stores both strings.
pub stored_more : (m : Memory) (xs ys : List ℕ) (a b : ℕ) → b ≡ a + length xs
    → with_stored (with_stored m a xs) b ys ≡ with_stored m a (xs ++ ys)
stored_more m xs ys a b e = rw e (ap (λ (bytes : List ℕ). memory_of bytes m.keys) (put_more m.bytes xs ys a))

-- A store of no byte leaves the storage as it is.
pub stored_none : (m : Memory) (a : ℕ) → m ≡ with_stored m a []
stored_none m a = ap (λ (bytes : List ℕ). memory_of bytes m.keys) (sym (put-nothing m.bytes a))

-- ---- words of registers

-- Each register has four bytes.
pub length-words : (registers : List ℕ) (r n : ℕ) → length (words_from registers r n) ≡ 4 * n
length-words registers r zero = refl
length-words registers r (suc n) =
    length-append (words_from registers r n) _ ∙ omega (arith, length-words registers r n)

-- Words of so many registers, and of those that follow.
pub words_more : (registers : List ℕ) (r m n : ℕ)
    → words_from registers r (m + n) ≡ words_from registers r m ++ words_from registers (r + m) n
words_more registers r m zero =
    ap (words_from registers r) (add-zero m) ∙ sym (append-nil (words_from registers r m))
words_more registers r m (suc n) =
    let e : m + suc n ≡ suc (m + n) = omega arith in
    let f : r + (m + n) ≡ r + m + n = omega arith in
    ap (words_from registers r) e
    ∙ rw (f, words_more registers r m n) (append_assoc (words_from registers r m) (words_from registers (r + m) n) _)

-- One group of four words more.
pub group_stored : (m : Memory) (registers : List ℕ) (a r k : ℕ)
    → with_stored (with_stored m a (words_from registers r (4 * k))) (a + 16 * k)
    (words_from registers (r + 4 * k) 4) ≡ with_stored m a (words_from registers r (4 * (k + 1)))
group_stored m registers a r k =
    let e : 4 * (k + 1) ≡ 4 * k + 4 = omega arith in
    stored_more m (words_from registers r (4 * k)) (words_from registers (r + 4 * k) 4) a (a + 16 * k)
    (omega (arith, length-words registers r (4 * k)))
    ∙ ap (with_stored m a) (sym (ap (words_from registers r) e ∙ words_more registers r (4 * k) 4))

-- One word more.
pub word_stored : (m : Memory) (registers : List ℕ) (a r k : ℕ)
    → with_stored (with_stored m a (words_from registers r k)) (a + 4 * k)
    (to_be_bytes w32 (get_or registers ((r + k) % 16) 0)) ≡ with_stored m a (words_from registers r (k + 1))
word_stored m registers a r k =
    rw add-one (stored_more m (words_from registers r k) _ a (a + 4 * k)
    (omega (arith, length-words registers r k)))

-- ---- registers that are loaded

-- The first registers, and those that follow from where they end.
loaded_more : (bytes registers : List ℕ) (a r m n : ℕ)
    → loaded_from bytes registers a r (m + n)
    ≡ loaded_from bytes (loaded_from bytes registers a r m) (a + 4 * m) (r + m) n
loaded_more bytes registers a r m zero = ap (loaded_from bytes registers a r) (add-zero m)
loaded_more bytes registers a r m (suc n) =
    let e : m + suc n ≡ suc (m + n) = omega arith in
    let f : r + (m + n) ≡ r + m + n = omega arith in
    let h : a + 4 * (m + n) ≡ a + 4 * m + 4 * n = omega arith in
    ap (loaded_from bytes registers a r) e ∙ rw (f, h, loaded_more bytes registers a r m n) refl

-- a word of sixteen bytes that were loaded
word_of_range : (bytes : List ℕ) (b k : ℕ) → k < 4
    → word_at (slice_range bytes b (b + 16)) (0 + 4 * k) ≡ word_at bytes (b + 4 * k)
word_of_range bytes b k small =
    let whole : b + 16 - b ≡ 4 * k + (16 - 4 * k) = omega arith in
    let one : 0 + 4 * k + 4 - (0 + 4 * k) ≡ 4 = omega arith in
    let other : b + 4 * k + 4 - (b + 4 * k) ≡ 4 = omega arith in
    let place : 0 + 4 * k ≡ 4 * k = omega arith in
    let e : take 4 (drop (4 * k) (take (4 * k + (16 - 4 * k)) (drop b bytes))) ≡ take 4 (drop (b + 4 * k) bytes) =
    ap (take 4) (drop-take (4 * k) (16 - 4 * k) (drop b bytes))
    ∙ take-take 4 (16 - 4 * k) (drop (4 * k) (drop b bytes)) (omega arith)
    ∙ ap (take 4) (drop-drop (4 * k) b bytes) in
    let f : slice_range (slice_range bytes b (b + 16)) (0 + 4 * k) (0 + 4 * k + 4)
    ≡ slice_range bytes (b + 4 * k) (b + 4 * k + 4) =
    rw (whole, one, other, place) e in
    ap (from_be_bytes w32) f

-- At most four registers, loaded through sixteen bytes.
loaded_through : (bytes registers : List ℕ) (b r n : ℕ) → n ≤ 4
    → loaded_from (slice_range bytes b (b + 16)) registers 0 r n ≡ loaded_from bytes registers b r n
loaded_through bytes registers b r zero few = refl
loaded_through bytes registers b r (suc n) few =
    rw (loaded_through bytes registers b r n (omega arith), word_of_range bytes b n (omega arith)) refl

-- One group of four registers more.
pub group_loaded : (bytes registers : List ℕ) (a r k : ℕ)
    → loaded_from (slice_range bytes (a + 16 * k) (a + 16 * k + 16)) (loaded_from bytes registers a r (4 * k)) 0
    (r + 4 * k) 4 ≡ loaded_from bytes registers a r (4 * (k + 1))
group_loaded bytes registers a r k =
    let e : 4 * (k + 1) ≡ 4 * k + 4 = omega arith in
    let f : a + 4 * (4 * k) ≡ a + 16 * k = omega arith in
    let few : 4 ≤ 4 = omega arith in
    loaded_through bytes (loaded_from bytes registers a r (4 * k)) (a + 16 * k) (r + 4 * k) 4 few
    ∙ sym (ap (loaded_from bytes registers a r) e ∙ loaded_more bytes registers a r (4 * k) 4
    ∙ ap (λ (b : ℕ). loaded_from bytes (loaded_from bytes registers a r (4 * k)) b (r + 4 * k) 4) f)
