-- What is noted of a program: the fullwords in which its words and lists lie, and the pieces of
-- storage that its inputs could fill.
use Rattle.std.specs.Prelude.{ℕ, ◌+◌, ◌*◌, ◌/◌, ◌<◌, ◌≤◌, ◌≡◌, false, true, List, ◌++◌, Contains}
use Rattle.std.specs.Prelude.{slice_index, Some}
use Rattle.s370_store.specs.declared.Page.{Page}
use Rattle.s370_store.specs.declared.Range.{Range}
use Rattle.s370_channel.specs.Guest.{guest_text, later}
use Rattle.s370_walk.specs.declared.parts.Ccw.{Ccw}
use Rattle.s370_store.specs.Memory.{Memory}
use Rattle.s370_walk.specs.Walk.{is_indirect, skips}
use Rattle.cp_needs.specs.Areas.{IsAreaByte}
use Rattle.cp_needs.specs.Needs.{IsDataByte, IsTextByte}

-- an address lies in a piece
abbrev pub IsInPiece : Range → ℕ → Type 0
IsInPiece piece a = (piece.start ≤ a) × (a < piece.start + piece.count)

-- an address lies in one of these pieces
abbrev pub IsInSome : List Range → ℕ → Type 0
IsInSome pieces a = (piece : Range) × Contains pieces piece × IsInPiece piece a

-- the least number of a list that is no less than another
abbrev pub IsFirstFrom : List ℕ → ℕ → ℕ → Type 0
IsFirstFrom numbers from n = Contains numbers n × (from ≤ n)
    × ((other : ℕ) → Contains numbers other → from ≤ other → n ≤ other)

-- The fullwords of these bytes, and no others, were added; each is noted by a fourth of its
-- address.
pub record AreMarked (IsOne : ℕ → Type 0) (old new : List ℕ) : Type 0 where
  pub rest : List ℕ
  pub is : new ≡ old ++ rest
  pub marked : (a : ℕ) → IsOne a → Contains rest (a / 4)
  pub only : (n : ℕ) → Contains rest n → (k : ℕ) → k < 4 → IsOne (4 * n + k)

-- Pieces of storage with these bytes, and no others, were added.
pub record AreStored (IsOne : ℕ → Type 0) (old new : List Range) : Type 0 where
  pub rest : List Range
  pub is : new ≡ old ++ rest
  pub stored : (a : ℕ) → IsOne a → IsInSome rest a
  pub only : (a : ℕ) → IsInSome rest a → IsOne a

-- the page of an address
abbrev pub page_at : ℕ → Page
page_at a = record { 0 = a / 4096 }

-- The pages of these bytes, and no others, were added.
pub record ArePaged (IsOne : ℕ → Type 0) (old new : List Page) : Type 0 where
  pub rest : List Page
  pub is : new ≡ old ++ rest
  pub paged : (a : ℕ) → IsOne a → Contains rest (page_at a)
  pub only : (page : Page) → Contains rest page → (a : ℕ) × IsOne a × (page_at a ≡ page)

-- a byte of the word of a word's list that says where a block begins
abbrev pub IsEntryByte : Ccw → ℕ → ℕ → Type 0
IsEntryByte w number a = (is_indirect w ≡ true) × (k : ℕ) × (k < 4)
    × (a ≡ later w.address (4 * number) + k)

-- a byte of a piece of a word's area, which an input could fill, since the word does not skip
abbrev pub IsPieceByte : Ccw → Range → ℕ → Type 0
IsPieceByte w piece a = (skips w ≡ false) × IsInPiece piece a

-- a byte of a word's area that an input could fill
abbrev pub IsFilled : Memory → Ccw → ℕ → Type 0
IsFilled m w a = (skips w ≡ false) × IsAreaByte m w a

-- a byte that an input of the word at an address could fill
abbrev pub IsFilledAt : Memory → ℕ → ℕ → Type 0
IsFilledAt m address a = (w : Ccw) × (guest_text m address ≡ Some w) × IsFilled m w a

-- a byte of one of the first n of these words, or of its list
abbrev pub IsTextOf : Memory → List ℕ → ℕ → ℕ → Type 0
IsTextOf m words n a = (i : ℕ) × (i < n) × IsTextByte m (slice_index words i) a

-- a byte that an input of one of them could fill
abbrev pub IsFilledBy : Memory → List ℕ → ℕ → ℕ → Type 0
IsFilledBy m words n a = (i : ℕ) × (i < n) × IsFilledAt m (slice_index words i) a

-- a byte of the area of one of the first n of these words
abbrev pub IsDataOf : Memory → List ℕ → ℕ → ℕ → Type 0
IsDataOf m words n a = (i : ℕ) × (i < n) × IsDataByte m (slice_index words i) a
