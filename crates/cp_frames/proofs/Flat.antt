-- The bytes of all frames, one after another.
use Rattle.std.proofs.Common.{◌≡◌, ℕ, zero, suc, ◌+◌, ◌-◌, ◌*◌, ◌/◌, ◌%◌, ◌<◌, ◌≤◌, List, [], ◌∷◌, ◌++◌, length, get_or}
use Rattle.std.proofs.Common.{take, drop, length-drop, ◌∙◌, ap, arith}
use Rattle.std.specs.List.{flat_map, slice_range}
use Rattle.std.proofs.Math.Seq.{drop-append-add}
use Rattle.std.proofs.lemmas.List.{drop-append-le, take-append-le}

abbrev AreFull : List (List ℕ) → Type 0
AreFull frames = (i : ℕ) → i < length frames → length (get_or frames i []) ≡ 4096

-- what follows a place of a frame
follows : (frames : List (List ℕ)) (i o : ℕ) → AreFull frames → i < length frames → o ≤ 4096
    → drop (i * 4096 + o) (flat_map (λ x. x) frames) ≡ drop o (get_or frames i [])
    ++ flat_map (λ x. x) (drop (suc i) frames)
follows [] i o all lt le = absurd (omega (arith, lt))
follows (x ∷ xs) zero o all lt le =
    let full : length x ≡ 4096 = all 0 (omega arith) in
    let e : zero * 4096 + o ≡ o = omega arith in
    ap (λ (n : ℕ). drop n (x ++ flat_map (λ y. y) xs)) e ∙ drop-append-le o x (flat_map (λ y. y) xs)
    (omega (arith, full))
follows (x ∷ xs) (suc i) o all lt le =
    let full : length x ≡ 4096 = all 0 (omega arith) in
    let e : suc i * 4096 + o ≡ length x + (i * 4096 + o) = omega (arith, full) in
    ap (λ (n : ℕ). drop n (x ++ flat_map (λ y. y) xs)) e ∙ drop-append-add x (flat_map (λ y. y) xs) (i * 4096 + o)
    ∙ follows xs i o (λ k h. all (suc k) (omega (arith, h))) (omega (arith, lt)) le

-- a part of one frame is a part of all
pub flat_part : (frames : List (List ℕ)) (place n : ℕ) → AreFull frames → place / 4096 < length frames
    → place % 4096 + n ≤ 4096
    → slice_range (flat_map (λ x. x) frames) place (place + n)
    ≡ slice_range (get_or frames (place / 4096) []) (place % 4096) (place % 4096 + n)
flat_part frames place n all lt le =
    let i = place / 4096 in
    let o = place % 4096 in
    let frame = get_or frames i [] in
    let at : place ≡ i * 4096 + o = omega arith in
    let whole : place + n - place ≡ n = omega arith in
    let part : o + n - o ≡ n = omega arith in
    let room : n ≤ length (drop o frame) = rw length-drop (omega (arith, all i lt)) in
    rw (whole, part) (ap (λ (a : ℕ). take n (drop a (flat_map (λ x. x) frames))) at ∙ ap (take n)
    (follows frames i o all lt (omega arith)) ∙ take-append-le n (drop o frame)
    (flat_map (λ x. x) (drop (suc i) frames)) room)
