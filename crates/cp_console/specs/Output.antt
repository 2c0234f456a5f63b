-- What a console has printed.
use Rattle.std.specs.Prelude.{ℕ, ◌≡◌, ◌≤◌, List, [], ◌∷◌, slice_range}

-- the lines, the oldest first, and for how many more there is room
pub record Printed : Type 0 where
  pub lines : List (List ℕ)
  pub room : ℕ

-- The lines that a text has, one after the other from a place on, where they end at these places.
abbrev pub lines_from : ℕ → List ℕ → List ℕ → List (List ℕ)
lines_from start text [] = []
lines_from start text (end ∷ ends) = slice_range text start end ∷ lines_from end text ends

-- they end one after the other, and the last where the text does
abbrev pub IsCut : ℕ → List ℕ → ℕ → Type 0
IsCut start [] size = start ≡ size
IsCut start (end ∷ ends) size = (start ≤ end) × IsCut end ends size
