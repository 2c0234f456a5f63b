-- One page more is marked.
use Rattle.std.proofs.Common.{◌≡◌, ℕ, ◌<◌, List, [], ◌∷◌, Bool, true, false, zero, suc, length, slice_index_or}
use Rattle.std.proofs.Common.{slice_set, arith}
use Rattle.cp_trial.specs.Trial.{untouched_count}

-- Marking one more page as touched leaves fewer that are not.
pub marked_fewer : (flags : List Bool) (page : ℕ) → page < length flags → slice_index_or flags page false ≡ false
    → untouched_count (slice_set flags page true) < untouched_count flags
marked_fewer [] page inside away = absurd (omega (arith, inside))
marked_fewer (true ∷ flags) zero inside away = absurd cc
marked_fewer (false ∷ flags) zero inside away = omega arith
marked_fewer (true ∷ flags) (suc page) inside away = marked_fewer flags page (omega (arith, inside)) away
marked_fewer (false ∷ flags) (suc page) inside away = let rest =
    marked_fewer flags page (omega (arith, inside)) away in omega (arith, rest)
