-- What is known of a program that is read where it is.
use Rattle.std.specs.Prelude.{ℕ, ◌*◌, ◌+◌, ◌≤◌, ◌%◌, ◌≡◌, All, Contains, List, length}
use Rattle.s370_channel.specs.declared.words.Caw.{Caw}
use Rattle.s370_store.specs.declared.Page.{Page}
use Rattle.s370_store.specs.Memory.{Memory}
use Rattle.cp_needs.specs.declared.kept.WordAt.{WordAt}
use Rattle.cp_needs.specs.Kept.{IsAsItStood, IsPaged, IsPagedOnly, IsText, IsTextOnly}
use Rattle.cp_needs.specs.Needs.{IsFixed}
use Rattle.cp_dat.specs.declared.dat.Dat.{Dat}
use Rattle.cp_dat.specs.Lent.{is_lent_page, lent_bytes}
use Rattle.cp_ccw.specs.declared.kept.PageInFrame.{PageInFrame}
use Rattle.cp_ccw.specs.CachedProgram.{IsFrame}

-- these pages, where they lie whole in storage, are noted with a frame
abbrev pub ArePlaced : ℕ → List Page → List PageInFrame → Type 0
ArePlaced size pages held = (page : Page) → Contains pages page → page.0 * 4096 + 4096 ≤ size
    → (h : PageInFrame) × Contains held h × (h.page ≡ page)

-- and no others
abbrev pub ArePlacedOnly : List Page → List PageInFrame → Type 0
ArePlacedOnly pages held = (h : PageInFrame) → Contains held h → Contains pages h.page

-- It was fixed, with these words and lists, and its areas lie on these pages.
pub record IsKnown (start size : ℕ) (text : List WordAt) (held : List PageInFrame) : Type 0 where
  pub memory : Memory
  pub pages : List Page
  pub fixed : IsFixed memory start
  pub sized : length memory.bytes ≡ size
  pub whole : size % 4096 ≡ 0
  pub text_is : IsText memory start text
  pub text_only : IsTextOnly memory start text
  pub paged : IsPaged memory start pages
  pub paged_only : IsPagedOnly memory start pages
  pub placed : ArePlaced size pages held
  pub placed_only : ArePlacedOnly pages held

-- what is known of it: its address word, the size of the storage, the words and lists, and the
-- frames of the pages of its data
pub record KnownProgram : Type 0 where
  pub caw : Caw
  pub size : ℕ
  pub text : List WordAt
  pub held : List PageInFrame

-- All that is known of it is as it was.
pub record IsAsKnown (k : KnownProgram) (d : Dat) (caw : Caw) : Type 0 where
  pub same_caw : k.caw ≡ caw
  pub same_size : k.size ≡ length (lent_bytes d)
  pub words : All (IsAsItStood (lent_bytes d) (is_lent_page d)) k.text
  pub frames : All (IsFrame d) k.held
