-- The sizes of a system.
use Rattle.std.specs.Prelude.{ℕ}

-- frames of real storage, and slots for pages that are in none
pub record SystemSizes : Type 0 where
  pub frames : ℕ
  pub slots : ℕ
