-- What comes for a unit, whatever the unit.
use Rattle.std.specs.Prelude.{◌≡◌, ℕ, List, [], ◌∷◌, Contains, true}
use Rattle.cp_frames.specs.Layout.{FrameSupply, is_there}
use Rattle.cp_dat.specs.Supplied.{ArePageIns}

-- no page is in the list twice
abbrev pub AreDistinct : List ℕ → Type 0
AreDistinct [] = Unit {0}
AreDistinct (page ∷ pages) = (Contains pages page → ⊥) × AreDistinct pages

-- no page comes twice for a unit
abbrev pub ComesOnce : Type 0
ComesOnce = (user : ℕ) (pages : List ℕ) (old held : FrameSupply) → ArePageIns user old pages held
    → AreDistinct pages

-- each page that has come for a unit is in a frame until the unit ends
abbrev pub StaysToTheEnd : Type 0
StaysToTheEnd = (user : ℕ) (pages : List ℕ) (old held : FrameSupply) (page : ℕ)
    → ArePageIns user old pages held → Contains pages page → is_there held.owners user page ≡ true
