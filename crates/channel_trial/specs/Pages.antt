-- The pages that a dry run touches.
use Rattle.std.specs.Prelude.{◌≡◌, ℕ, ◌/◌, ◌⊎◌, Bool, Contains, List, [], ◌∷◌, false, slice_index}

-- the bytes of pages that were not touched are those they were
abbrev pub KeepsUntouched : (ℕ → Bool) → List ℕ → List ℕ → Type 0
KeepsUntouched touched old new = (address : ℕ) → touched (address / 4096) ≡ false
    → slice_index new address ≡ slice_index old address

-- one of the pages of these units
abbrev pub IsIn : List (List ℕ) → ℕ → Type 0
IsIn [] page = ⊥
IsIn (pages ∷ units) page = Contains pages page ⊎ IsIn units page
