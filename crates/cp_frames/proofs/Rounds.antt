-- Pins in rounds.
use Rattle.std.proofs.Common.{◌≡◌, ℕ, zero, suc, ◌<◌, ◌≤◌, ◌==◌, List, [], ◌∷◌, length, map, replicate, refl}
use Rattle.std.proofs.Common.{false, ap, arith, ◌∙◌}
use Rattle.std.proofs.lemmas.Bool.Decides.{nat_tests}
use Rattle.std.specs.Prelude.{All}

-- no frame was pinned in a later round than all of these
pub none_pinned : (rounds : List ℕ) (present later : ℕ) → All (λ round. round ≤ present) rounds → present < later
    → map (λ round. round == later) rounds ≡ replicate (length rounds) false
none_pinned [] present later all lt = refl
none_pinned (round ∷ rounds) present later all lt =
    let past : round ≤ present = all 0 0 (omega arith) in
    let first : (round == later) ≡ false = grind (arith, nat_tests) in
    let rest = none_pinned rounds present later (λ k d less. all (suc k) d (omega arith)) lt in
    ap (λ b. b ∷ map (λ r. r == later) rounds) first ∙ ap (λ bs. false ∷ bs) rest

-- no frame was pinned at first
pub none_at_first : (count : ℕ) → map (λ round. round == 1) (replicate count 0) ≡ replicate count false
none_at_first zero = refl
none_at_first (suc count) = ap (λ bs. false ∷ bs) (none_at_first count)
