-- Numbers of many digits, capped.
use Rattle.std.proofs.Common.{◌≡◌, ℕ, ◌+◌, ◌*◌, ◌-◌, ◌<◌, suc, List, [], ◌∷◌, length, get_or, drop, min, ap, ◌∙◌}
use Rattle.std.proofs.Common.{add-one, arith}
use Rattle.std.proofs.Math.Seq.{drop-cons}
use Rattle.cp_directory.specs.Sizes.{number}

-- what a cap takes off, more digits do not bring back
capped : (n m : ℕ) (digits : List ℕ) → min 9999 n ≡ min 9999 m → min 9999 (number n digits) ≡ min 9999 (number m digits)
capped n m [] h = h
capped n m (c ∷ cs) h = capped (n * 10 + (c - 48)) (m * 10 + (c - 48)) cs (omega (arith, h))

-- a capped number, and one digit more
pub capped_more : (digits : List ℕ) (i n m total : ℕ) → i < length digits
    → min 9999 total ≡ min 9999 (number n (drop i digits))
    → m ≡ min (n * 10 + (get_or digits i 0 - 48)) 9999 → min 9999 total ≡ min 9999 (number m (drop (i + 1) digits))
capped_more digits i n m total h so_far e =
    rw add-one (so_far ∙ ap (λ (l : List ℕ). min 9999 (number n l)) (drop-cons digits i 0 h)
    ∙ capped (n * 10 + (get_or digits i 0 - 48)) m (drop (suc i) digits) (omega (arith, e)))
