-- A line of so many characters, in a field that has blanks after them.
use Rattle.std.proofs.Common.{◌≡◌, ◌≤◌, ℕ, List, ◌++◌, length, take, sym, ap, ◌∙◌, arith, min}
use Rattle.std.proofs.Math.Seq.{take-append_seam}
use Rattle.std.proofs.lemmas.List.{length-take-le, take_min}

-- the characters that were taken are in front
pub taken : (text front rest : List ℕ) (n : ℕ) → n ≡ min 144 (length text) → front ≡ take n text
    → take n (front ++ rest) ≡ take 144 text
taken text front rest n is covers =
    let few : n ≤ length text = omega (arith, is) in
    let long : length front ≡ n = ap length covers ∙ length-take-le n text few in
    let seam : take n (front ++ rest) ≡ front =
    ap (λ m. take m (front ++ rest)) (sym long) ∙ take-append_seam front rest in
    seam ∙ covers ∙ ap (λ m. take m text) is ∙ take_min 144 text
