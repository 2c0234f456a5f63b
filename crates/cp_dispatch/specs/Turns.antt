-- Turns that are dealt to those who are in a line.
use Rattle.std.specs.Prelude.{◌≡◌, ◌<◌, ◌⊎◌, ℕ, Bool, true, false, if◌then◌else◌, List, [], ◌∷◌}
use Rattle.std.specs.Prelude.{◌++◌, length, Option, Some, None}
use Rattle.std.specs.List.{list_any}

-- the line without the first one that is such
abbrev pub without : {X : Type 0} → (X → Bool) → List X → List X
without is_such [] = []
without is_such (x ∷ xs) = if is_such x then xs else x ∷ without is_such xs

-- one who comes is at the end, and nowhere else
abbrev pub at_end : {X : Type 0} → (X → Bool) → X → List X → List X
at_end is_such one line = without is_such line ++ one ∷ []

-- the first who is ready has a turn; those before go to the end in order, and after them the one
-- who had it
pub record IsTaken {X : Type 0} (ready : X → Bool) (old : List X) (one : X)
    (new : List X) : Type 0 where
  pub before : List X
  pub after : List X
  pub split : old ≡ before ++ one ∷ after
  pub passed : list_any ready before ≡ false
  pub is_ready : ready one ≡ true
  pub turned : new ≡ after ++ (before ++ one ∷ [])

-- a turn is dealt, unless nobody is ready; then the line stays
abbrev pub IsDealt : {X : Type 0} → (X → Bool) → List X → Option X → List X → Type 0
IsDealt ready old (Some one) new = IsTaken ready old one new
IsDealt ready old None new = (list_any ready old ≡ false) × (new ≡ old)

-- one is in the line with fewer than so many before
pub record StandsWithin {X : Type 0} (one : X) (line : List X) (bound : ℕ) : Type 0 where
  pub before : List X
  pub after : List X
  pub split : line ≡ before ++ one ∷ after
  pub near : length before < bound

-- whoever is ready and is in the line has this turn, or comes at least one place forward
abbrev pub BringsForward : {X : Type 0} → (X → Bool) → List X → Option X → List X → Type 0
BringsForward {X} ready old taken new =
    (one : X) (before after : List X) → old ≡ before ++ one ∷ after → ready one ≡ true
    → (taken ≡ Some one) ⊎ StandsWithin one new (length before)
