-- What a test counts.
use Rattle.std.proofs.Common.{ℕ, ◌≤◌, ◌≡◌, ◌==◌, Bool, true, false, refl, arith}
use Rattle.std.proofs.lemmas.Bool.Decides.{nat_tests}
use Rattle.cp_dat.specs.Copies.{counted}

-- What is counted by a test is counted at most once.
pub counted_once : (b : Bool) → counted b ≤ 1
counted_once true = omega arith
counted_once false = omega arith

-- What is another is not counted.
pub apart_test : (b : Bool) (m n : ℕ) → (m == n) ≡ b → (m ≡ n → ⊥) → counted b ≡ 0
apart_test false m n test apart = refl
apart_test true m n test apart = (let same : m ≡ n = grind (arith, nat_tests) in absurd (apart same))
