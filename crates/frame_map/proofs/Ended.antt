-- Texts whose last line is ended.
use Rattle.std.proofs.Common.{◌≡◌, ◌-◌, ◌<◌, ℕ, List, [], ◌∷◌, length, refl, arith}
use Rattle.std.specs.Prelude.{nat_eq, slice_index_or}
use Rattle.sessions.specs.Follow.{is_whole}

last_ends : (c : ℕ) (cs : List ℕ) → nat_eq (slice_index_or (c ∷ cs) (length cs) 0) 10 ≡ is_whole (c ∷ cs)
last_ends c [] = refl
last_ends c (d ∷ cs) = last_ends d cs

-- The last character says it, if there is one.
pub ended_by_last : (text : List ℕ) → 0 < length text
    → nat_eq (slice_index_or text (length text - 1) 0) 10 ≡ is_whole text
ended_by_last [] some = absurd (omega (arith, some))
ended_by_last (c ∷ cs) some = let e : length (c ∷ cs) - 1 ≡ length cs = omega arith in rw e (last_ends c cs)
