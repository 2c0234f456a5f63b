-- The words of a program as they were, and storages that keep them.
use Rattle.std.specs.Prelude.{ℕ, ◌+◌, ◌*◌, ◌/◌, ◌<◌, ◌≤◌, ◌≡◌, ◌⊎◌, All, Bool, List, Contains}
use Rattle.std.specs.Prelude.{length, slice_range}
use Rattle.s370_store.specs.Access.{IsGranted}
use Rattle.s370_store.specs.declared.Page.{Page}
use Rattle.s370_store.specs.Memory.{Memory}
use Rattle.s370_walk.specs.Hardware.{byte_at}
use Rattle.cp_needs.specs.declared.kept.Analysis.{Analysis}
use Rattle.cp_needs.specs.declared.kept.Analysis.TheVariants as found
use Rattle.cp_needs.specs.declared.kept.WordAt.{WordAt}
use Rattle.cp_needs.specs.Needs.{IsDataByte, IsReached, IsTextByte}
use Rattle.cp_needs.specs.Noted.{page_at}

-- The words and lists of the program are as they were in m0.
pub record IsKept (m0 : Memory) (start : ℕ) (m : Memory) : Type 0 where
  pub size : length m.bytes ≡ length m0.bytes
  pub text : (address a : ℕ) → IsReached m0 start address → IsTextByte m0 address a
      → byte_at m a ≡ byte_at m0 a

-- a fullword as it is
abbrev pub fullword_at : List ℕ → ℕ → WordAt
fullword_at bytes start = record { start = start; bytes = slice_range bytes start (start + 4) }

-- a fullword is, on a page that is present, as it was
abbrev pub IsAsItStood : List ℕ → (ℕ → Bool) → WordAt → Type 0
IsAsItStood bytes present w = IsGranted (length bytes) present w.start 4
    × (slice_range bytes w.start (w.start + 4) ≡ w.bytes)

-- the fullword of a number was added, where it lies in storage
pub record IsAdded (bytes : List ℕ) (present : ℕ → Bool) (number : ℕ)
    (old new : List WordAt) : Type 0 where
  pub stays : (w : WordAt) → Contains old w → Contains new w
  pub here : number * 4 + 4 ≤ length bytes → Contains new (fullword_at bytes (number * 4))
  pub only : (w : WordAt) → Contains new w → Contains old w ⊎ (w ≡ fullword_at bytes (number * 4))
  pub stand : All (IsAsItStood bytes present) old → All (IsAsItStood bytes present) new

-- these have the fullwords of storage in which the words and lists of the program lie, as they are
abbrev pub IsText : Memory → ℕ → List WordAt → Type 0
IsText m start text = (address a : ℕ) → IsReached m start address → IsTextByte m address a
    → a < length m.bytes → Contains text (fullword_at m.bytes (a / 4 * 4))

-- and no other fullwords
abbrev pub IsTextOnly : Memory → ℕ → List WordAt → Type 0
IsTextOnly m start text = (w : WordAt) → Contains text w
    → (address : ℕ) × IsReached m start address × IsTextByte m address w.start

-- these have the pages of storage on which the areas of the program's words lie
abbrev pub IsPaged : Memory → ℕ → List Page → Type 0
IsPaged m start pages = (address a : ℕ) → IsReached m start address → IsDataByte m address a
    → Contains pages (page_at a)

-- and no other pages
abbrev pub IsPagedOnly : Memory → ℕ → List Page → Type 0
IsPagedOnly m start pages = (page : Page) → Contains pages page
    → (address a : ℕ) × IsReached m start address × IsDataByte m address a × (page_at a ≡ page)

-- what holds of the page that is reported
abbrev pub IfFound : Analysis → (ℕ → Type 0) → Type 0
IfFound (found.Page page) P = P page.0
IfFound (found.Fixed text pages) P = Unit {0}
IfFound found.SelfModifying P = Unit {0}

-- what holds of the words that are reported
abbrev pub IfText : Analysis → (List WordAt → Type 0) → Type 0
IfText (found.Page page) P = Unit {0}
IfText (found.Fixed text pages) P = P text.items
IfText found.SelfModifying P = Unit {0}

-- what holds of the pages of areas that are reported
abbrev pub IfPages : Analysis → (List Page → Type 0) → Type 0
IfPages (found.Page page) P = Unit {0}
IfPages (found.Fixed text pages) P = P pages.items
IfPages found.SelfModifying P = Unit {0}

-- what holds where an input is reported to be able to change the program
abbrev pub IfOpen : Analysis → Type 0 → Type 0
IfOpen (found.Page page) P = Unit {0}
IfOpen (found.Fixed text pages) P = Unit {0}
IfOpen found.SelfModifying P = P
