-- A copied program that is kept, and all that it was copied from.
use Rattle.std.specs.Prelude.{ℕ, ◌+◌, ◌*◌, ◌/◌, ◌<◌, ◌≤◌, ◌≡◌, All, Contains, List, Option, None}
use Rattle.std.specs.Prelude.{Some, length, slice_index_or}
use Rattle.s370_channel.specs.Guest.{guest_text, guest_written}
use Rattle.s370_channel.specs.declared.words.Caw.{Caw}
use Rattle.s370_store.specs.Memory.{Memory}
use Rattle.s370_walk.specs.Walk.{live}
use Rattle.s370_walk.specs.declared.places.CcwLocation.{CcwLocation}
use Rattle.s370_walk.specs.Copy.{guest_of, IsCopyOf, IsPlace}
use Rattle.s370_walk.specs.Mapped.{Program}
use Rattle.cp_needs.specs.declared.program.Node.{Node}
use Rattle.cp_needs.specs.declared.kept.WordAt.{WordAt}
use Rattle.cp_needs.specs.Kept.{IsAsItStood, IsText, IsTextOnly}
use Rattle.cp_needs.specs.Needs.{IsFixed}
use Rattle.cp_dat.specs.declared.dat.Dat.{Dat}
use Rattle.cp_dat.specs.Lent.{is_lent_page, lent_bytes, lent_frame}
use Rattle.cp_ccw.specs.declared.kept.PageInFrame.{PageInFrame}
use Rattle.cp_ccw.specs.Translated.{IsTranslatedFor}

-- a page of the user is in the frame in which it was
abbrev pub IsFrame : Dat → PageInFrame → Type 0
IsFrame d h = (h.page.0 * 4096 < length (lent_bytes d)) × (lent_frame d h.page.0 ≡ Some h.frame.0)

-- the page of an address of the user, where it lies whole in his storage and is in a frame, is
-- noted with that frame
abbrev pub IsNotedAt : Dat → List PageInFrame → ℕ → Type 0
IsNotedAt d held a = (frame : ℕ) → a / 4096 * 4096 + 4096 ≤ length (lent_bytes d)
    → lent_frame d (a / 4096) ≡ Some frame
    → Contains held (record { page = record { 0 = a / 4096 }; frame = record { 0 = frame } })

-- an address that may be missing is noted with its frame
abbrev pub IsNoted : Dat → List PageInFrame → Option ℕ → Type 0
IsNoted d held None = Unit {0}
IsNoted d held (Some a) = IsNotedAt d held a

-- so is that of each address that a program names
abbrev pub AreNoted : Dat → List PageInFrame → Program → Type 0
AreNoted d held c = (at j a : ℕ) → c.lists at j ≡ Some a → IsNotedAt d held a

-- an address lies on the page that is noted
abbrev pub IsOf : Option ℕ → PageInFrame → Type 0
IsOf None h = ⊥
IsOf (Some a) h = h.page.0 ≡ a / 4096

-- so does one of a list
abbrev pub IsOfList : List (Option ℕ) → PageInFrame → Type 0
IsOfList list h = (j a : ℕ) × (slice_index_or list j None ≡ Some a) × (h.page.0 ≡ a / 4096)

-- on each page that is noted lies an address that a program names
abbrev pub AreNotedOnly : List PageInFrame → Program → Type 0
AreNotedOnly held c = (h : PageInFrame) → Contains held h
    → (at j a : ℕ) × (c.lists at j ≡ Some a) × (h.page.0 ≡ a / 4096)

-- what is noted stays noted
abbrev pub Grows : List PageInFrame → List PageInFrame → Type 0
Grows old new = (h : PageInFrame) → Contains old h → Contains new h

-- It is a copy of a fixed program whose words and lists are these, for whoever's storage has this
-- size, and these pages in these frames.
pub record IsMade (start size : ℕ) (text : List WordAt) (held : List PageInFrame)
    (places : List CcwLocation) (nodes : List Node) (first : ℕ) : Type 0 where
  pub memory : Memory
  pub fixed : IsFixed memory start
  pub sized : length memory.bytes ≡ size
  pub text_is : IsText memory start text
  pub text_only : IsTextOnly memory start text
  pub place : IsPlace places (guest_text memory) first
  pub at : guest_of places first ≡ start
  pub guests : Program
  pub copy : IsCopyOf places guests (live guest_written) memory
  pub held_only : AreNotedOnly held guests
  pub translated : (d : Dat) → length (lent_bytes d) ≡ size → All (IsFrame d) held
      → IsTranslatedFor d places nodes memory

-- a program that is kept, and all that it was copied from: its address word, the size of the
-- storage, the words and lists, and the frames of the pages of its data
pub record KeptProgram : Type 0 where
  pub caw : Caw
  pub size : ℕ
  pub text : List WordAt
  pub held : List PageInFrame
  pub places : List CcwLocation
  pub nodes : List Node
  pub first : ℕ

-- All that it was copied from is as it was.
pub record IsAtBase (k : KeptProgram) (d : Dat) (caw : Caw) : Type 0 where
  pub same_caw : k.caw ≡ caw
  pub same_size : k.size ≡ length (lent_bytes d)
  pub words : All (IsAsItStood (lent_bytes d) (is_lent_page d)) k.text
  pub frames : All (IsFrame d) k.held
