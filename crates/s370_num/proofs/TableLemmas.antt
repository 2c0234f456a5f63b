-- A table is held against a function at each of its places, by computing.
use Rattle.std.proofs.Common.{◌≡◌, ℕ, zero, suc, ◌+◌, ◌<◌, List, [], ◌∷◌, get_or, arith, ap, ◌∙◌}

-- the function's values at n numbers from this one on
abbrev pub values : (ℕ → ℕ) → ℕ → ℕ → List ℕ
values f start zero = []
values f start (suc n) = f start ∷ values f (start + 1) n

get_or-values : (f : ℕ → ℕ) (start n i : ℕ) → i < n → get_or (values f start n) i 0 ≡ f (start + i)
get_or-values f start zero i within = absurd (omega arith)
get_or-values f start (suc n) zero within = ap f (omega arith)
get_or-values f start (suc n) (suc i) within = get_or-values f (start + 1) n i (omega arith) ∙ ap f (omega arith)

-- a table of 256 bytes that has the function's values
pub from_table : (table : List ℕ) (f : ℕ → ℕ) → table ≡ values f 0 256 → (i : ℕ) → i < 256 → get_or table i 0 ≡ f i
from_table table f same i within = rw same (get_or-values f 0 256 i within ∙ ap f (omega arith))
