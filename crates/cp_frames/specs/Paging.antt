-- How a page comes into a frame, and which page is given up for it.
use Rattle.std.specs.Prelude.{◌≡◌, ℕ, zero, suc, ◌+◌, ◌<◌, Bool, true, false, ◌==◌, if◌then◌else◌}
use Rattle.std.specs.Prelude.{List, [], ◌∷◌, ◌++◌, length, slice_index, slice_index_or, slice_set}
use Rattle.std.specs.Prelude.{Option, Some, None, MatchOption, IsSome, All, take, ◌⊎◌}
use Rattle.std.specs.List.{remove}
use Rattle.cp_frames.specs.declared.numbers.UserPage.{UserPage}
use Rattle.cp_frames.specs.Layout.{FrameSupply, owned, frame_of}

-- one more, which stays at its greatest value
abbrev pub counted : ℕ → ℕ
counted n = if n == 18446744073709551615 then n else n + 1

-- so many more, which stay at their greatest value
abbrev pub counted_by : ℕ → ℕ → ℕ
counted_by zero n = n
counted_by (suc more) n = counted_by more (counted n)

-- how many frames are not pinned
abbrev pub unpinned_count : List Bool → ℕ
unpinned_count [] = 0
unpinned_count (true ∷ pins) = unpinned_count pins
unpinned_count (false ∷ pins) = suc (unpinned_count pins)

-- this frame is pinned
abbrev pub IsPinned : List Bool → ℕ → Type 0
IsPinned pins frame = slice_index_or pins frame false ≡ true

-- this is a frame, and not a pinned one
abbrev pub IsOpen : List Bool → ℕ → Type 0
IsOpen pins frame = (frame < length pins) × (slice_index_or pins frame false ≡ false)

-- the frame that has this turn is not pinned, and all whose pages came before are
pub record IsLongest (order : List ℕ) (pins : List Bool) (turn : ℕ) : Type 0 where
  pub unpinned : slice_index_or pins (slice_index order turn) false ≡ false
  pub earlier : All (IsPinned pins) (take turn order)

-- the frame that has this turn is free; or none is free, and of those that are not pinned its page
-- is longest in its frame
abbrev pub IsChosen : FrameSupply → ℕ → Type 0
IsChosen supply turn = (slice_index_or supply.owners (slice_index supply.order turn) None ≡ None)
    ⊎ (All IsSome supply.owners × IsLongest supply.order supply.pins turn)

-- the pages in slots, before and after: what is given up takes the slot that the wanted page
-- leaves, or else a free slot
abbrev pub IsGivenUp : Option ℕ → Option UserPage → List (Option UserPage) → List (Option UserPage)
    → Type 0
IsGivenUp (Some left) given old new = new ≡ slice_set old left given
IsGivenUp None None old new = new ≡ old
IsGivenUp None (Some page) old new = (slot : ℕ) × (slot < length old)
    × (slice_index_or old slot None ≡ None) × (new ≡ slice_set old slot (Some page))

-- what is in a frame and what is in a slot have changed places
abbrev pub exchanged : FrameSupply → ℕ → ℕ → FrameSupply
exchanged supply frame slot =
    record supply {
      owners = slice_set supply.owners frame (slice_index_or supply.slots slot None);
      slots = slice_set supply.slots slot (slice_index_or supply.owners frame None);
    }

-- a page that was nowhere is in a frame
abbrev pub filled : FrameSupply → ℕ → ℕ → ℕ → FrameSupply
filled supply frame user page =
    record supply { owners = slice_set supply.owners frame (Some (owned user page)) }

-- the frame that has this turn has its page last
abbrev pub paged_in : FrameSupply → ℕ → FrameSupply
paged_in supply turn = record
    supply {
      order = remove supply.order turn ++ slice_index supply.order turn ∷ [];
      page_ins = counted supply.page_ins;
    }

-- the page is in this frame, and what was in it is given up; all else is as it was
pub record IsPut (old new : FrameSupply) (user page frame : ℕ) : Type 0 where
  pub owners : new.owners ≡ slice_set old.owners frame (Some (owned user page))
  pub slots : IsGivenUp (frame_of old.slots user page) (slice_index_or old.owners frame None)
      old.slots new.slots
  pub pins : new.pins ≡ old.pins
  pub order : new.order ≡ old.order
  pub page_ins : new.page_ins ≡ old.page_ins

-- a page that was in no frame has come into this one
pub record IsPagedIn (old new : FrameSupply) (user page frame : ℕ) : Type 0 where
  pub turn : ℕ
  pub within : turn < length old.order
  pub here : slice_index old.order turn ≡ frame
  pub chosen : IsChosen old turn
  pub owners : new.owners ≡ slice_set old.owners frame (Some (owned user page))
  pub slots : IsGivenUp (frame_of old.slots user page) (slice_index_or old.owners frame None)
      old.slots new.slots
  pub pins : new.pins ≡ old.pins
  pub order : new.order ≡ remove old.order turn ++ frame ∷ []
  pub page_ins : new.page_ins ≡ counted old.page_ins

-- the page is in this frame already, or it has come into it
abbrev pub IsBrought : FrameSupply → FrameSupply → ℕ → ℕ → ℕ → Type 0
IsBrought old new user page frame =
    MatchOption (frame_of old.owners user page) (IsPagedIn old new user page frame)
    (λ there. (there ≡ frame) × (new ≡ old))

-- the page is in no frame, and none is free; and all are pinned, or no slot is free and the page is
-- in none
pub record IsRefused (supply : FrameSupply) (user page : ℕ) : Type 0 where
  pub absent : frame_of supply.owners user page ≡ None
  pub full : All IsSome supply.owners
  pub stuck : All (λ pinned. pinned ≡ true) supply.pins
      ⊎ (All IsSome supply.slots × (frame_of supply.slots user page ≡ None))
