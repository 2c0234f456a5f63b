-- A volume: its serial number, and its cylinders, each of 19 tracks.
use Rattle.std.specs.Prelude.{ℕ, zero, suc, ◌+◌, ◌/◌, ◌%◌, ◌<◌, ◌≤◌, List, [], ◌∷◌, ◌++◌, length}
use Rattle.std.specs.Prelude.{take, drop}
use Rattle.ckd_volume.specs.Front.{Cylinder}

-- a volume: its serial number and its cylinders
pub record VolumeFormat : Type 0 where
  pub volser : List ℕ
  pub cylinders : List Cylinder

-- a home address: flag, cylinder and head
abbrev pub home_of : ℕ → ℕ → List ℕ
home_of c h = 0 ∷ c / 256 ∷ c % 256 ∷ 0 ∷ h ∷ []

-- tracks without records, from this head on
abbrev pub blank_tracks : ℕ → ℕ → ℕ → Cylinder
blank_tracks c h zero = []
blank_tracks c h (suc more) =
    (record { home = home_of c h; records = [] }) ∷ blank_tracks c (h + 1) more

-- cylinders without records, from this one on
abbrev pub blank_cylinders : ℕ → ℕ → List Cylinder
blank_cylinders c zero = []
blank_cylinders c (suc more) = blank_tracks c 0 19 ∷ blank_cylinders (c + 1) more

-- so many cylinders of a volume, from this one on
abbrev pub slice_of : List Cylinder → ℕ → ℕ → List Cylinder
slice_of cylinders start count = take count (drop start cylinders)

-- these cylinders in the place of as many, from this one on
abbrev pub put_back : List Cylinder → ℕ → List Cylinder → List Cylinder
put_back cylinders start others = take start cylinders
    ++ (others ++ drop (start + length others) cylinders)

-- a volume has 1 to 808 cylinders
abbrev pub IsCount : ℕ → Type 0
IsCount cylinders = (0 < cylinders) × (cylinders ≤ 808)
