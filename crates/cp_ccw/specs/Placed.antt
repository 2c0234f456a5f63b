-- A page that is noted with its frame.
use Rattle.std.specs.Prelude.{◌*◌, ◌+◌, ◌≤◌, ◌≡◌, ◌⊎◌, All, Contains, List, length}
use Rattle.s370_store.specs.declared.Page.{Page}
use Rattle.cp_dat.specs.declared.dat.Dat.{Dat}
use Rattle.cp_dat.specs.Lent.{lent_bytes}
use Rattle.cp_ccw.specs.declared.kept.PageInFrame.{PageInFrame}
use Rattle.cp_ccw.specs.CachedProgram.{Grows, IsFrame}

-- a page was noted, with its frame, where it lies whole in storage
pub record IsPlacedOne (d : Dat) (page : Page) (old new : List PageInFrame) : Type 0 where
  pub grows : Grows old new
  pub here : page.0 * 4096 + 4096 ≤ length (lent_bytes d)
      → (h : PageInFrame) × Contains new h × (h.page ≡ page)
  pub only : (h : PageInFrame) → Contains new h → Contains old h ⊎ (h.page ≡ page)
  pub stand : All (IsFrame d) old → All (IsFrame d) new
