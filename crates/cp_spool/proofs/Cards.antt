-- The bytes of a card.
use Rattle.std.specs.Prelude.{ℕ, ◌-◌, ◌≡◌, refl, min, List, ◌++◌, length, take, drop, replicate}
use Rattle.std.proofs.Common.{◌∙◌, ap, arith}
use Rattle.std.proofs.lemmas.List.{take_min, drop-replicate}
use Rattle.cp_spool.specs.File.{card_of}

-- What was punched covers the first of 80 blanks.
pub covered : (bytes front : List ℕ) (n : ℕ) → n ≡ min 80 (length bytes) → front ≡ take n bytes
    → front ++ drop n (replicate 80 0x40) ≡ card_of bytes
covered bytes front n is covers =
    let blank : ℕ = 0x40 in
    let head : front ≡ take 80 bytes = covers ∙ ap (λ m. take m bytes) is ∙ take_min 80 bytes in
    let left : 80 - n ≡ 80 - length bytes = omega (arith, is) in
    let tail : drop n (replicate 80 blank) ≡ replicate (80 - length bytes) blank =
    drop-replicate n 80 blank ∙ ap (λ m. replicate m blank) left in
    rw head (rw tail refl)
