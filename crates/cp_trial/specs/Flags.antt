-- Flags of pages.
use Rattle.std.specs.Prelude.{◌≡◌, ℕ, ◌<◌, ◌⊎◌, Bool, Contains, List, length}
use Rattle.cp_dat.specs.Copies.{is_wanted}

-- the pages of these, which a function says, were marked where there is a flag for them, and no
-- others
pub record AreFlagged {X : Type 0} (page_of : X → ℕ) (xs : List X)
    (old new : List Bool) : Type 0 where
  pub size : length new ≡ length old
  pub stays : (page : ℕ) → is_wanted old page → is_wanted new page
  pub marked : (x : X) → Contains xs x → page_of x < length old → is_wanted new (page_of x)
  pub only : (page : ℕ) → is_wanted new page
      → is_wanted old page ⊎ ((x : X) × Contains xs x × (page ≡ page_of x))
