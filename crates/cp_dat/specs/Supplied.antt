-- What bringing pages of a user leaves of the frames from which his storage is borrowed.
use Rattle.std.specs.Prelude.{◌≡◌, ℕ, ◌+◌, ◌≤◌, All, IsSome, List, [], ◌∷◌, true, false, ◌⊎◌}
use Rattle.std.specs.Prelude.{length, replicate, slice_index_or, slice_set, Contains, Option, Some}
use Rattle.std.specs.Prelude.{None}
use Rattle.std.specs.List.{concat}
use Rattle.cp_frames.specs.declared.numbers.UserPage.{UserPage}
use Rattle.cp_dat.specs.declared.dat.Dat.{Dat}
use Rattle.cp_frames.specs.Layout.{FrameSupply, owned, frame_of, is_there, cleared_of, Holds}
use Rattle.cp_frames.specs.Paging.{IsOpen, IsPagedIn, IsPinned, counted_by, unpinned_count}
use Rattle.cp_dat.specs.Lent.{KeepsFrames, user_of, lent_pool}

-- a page of a user is in a frame or in a slot
abbrev pub Stands : FrameSupply → ℕ → ℕ → Type 0
Stands supply user page = (is_there supply.owners user page ≡ true)
    ⊎ (is_there supply.slots user page ≡ true)

-- a page of a user is in a pinned frame
pub record IsHeld (supply : FrameSupply) (user page : ℕ) : Type 0 where
  pub frame : ℕ
  pub here : Holds supply.owners frame (owned user page)
  pub pinned : IsPinned supply.pins frame

-- a pinned frame stays pinned and keeps its page
pub record StaysPinned (old new : FrameSupply) (frame : ℕ) : Type 0 where
  pub pinned : IsPinned new.pins frame
  pub kept : slice_index_or new.owners frame None ≡ slice_index_or old.owners frame None

-- a frame has such a page of this user
pub record HasSuch (user : ℕ) (is_such : ℕ → Type 0) (owners : List (Option UserPage))
    (frame : ℕ) : Type 0 where
  pub page : ℕ
  pub such : is_such page
  pub here : Holds owners frame (owned user page)

-- a page of this user that was in no frame has come into one that was not pinned, and is pinned
-- there
pub record IsPageIn (user : ℕ) (old : FrameSupply) (page : ℕ) (new : FrameSupply) : Type 0 where
  pub frame : ℕ
  pub between : FrameSupply
  pub absent : frame_of old.owners user page ≡ None
  pub unpinned : IsOpen old.pins frame
  pub paged : IsPagedIn old between user page frame
  pub pinned : new ≡ record between { pins = slice_set between.pins frame true }
  pub there : frame_of new.owners user page ≡ Some frame

-- these pages have come so, one after another, and nothing else has happened
abbrev pub ArePageIns : ℕ → FrameSupply → List ℕ → FrameSupply → Type 0
ArePageIns user old [] new = new ≡ old
ArePageIns user old (page ∷ pages) new = (next : FrameSupply) × IsPageIn user old page next
    × ArePageIns user next pages new

-- these pages of this user came into frames, one after another, and each stays there in a pinned
-- frame, as no other frame was pinned: no pinned frame has lost its page, no page that was
-- somewhere is nowhere, and none but these came into a frame, or from nowhere; each was pinned
-- once, and counted once
pub record IsPagedFor (user : ℕ) (pages : List ℕ) (old new : FrameSupply) : Type 0 where
  pub page_ins_are : ArePageIns user old pages new
  pub same_frames : length new.owners ≡ length old.owners
  pub same_slots : length new.slots ≡ length old.slots
  pub same_marks : length new.pins ≡ length old.pins
  pub stays : (frame : ℕ) → IsPinned old.pins frame → StaysPinned old new frame
  pub held : (page : ℕ) → Contains pages page → IsHeld new user page
  pub marked : (frame : ℕ) → IsPinned new.pins frame
      → IsPinned old.pins frame ⊎ HasSuch user (Contains pages) new.owners frame
  pub fewer : unpinned_count old.pins ≡ unpinned_count new.pins + length pages
  pub kept : (u page : ℕ) → Stands old u page → Stands new u page
  pub framed : (u page : ℕ) → is_there new.owners u page ≡ true
      → (is_there old.owners u page ≡ true) ⊎ ((u ≡ user) × Contains pages page)
  pub paged_in : (u page : ℕ) → Stands new u page
      → Stands old u page ⊎ ((u ≡ user) × Contains pages page)
  pub page_ins : new.page_ins ≡ counted_by (length pages) old.page_ins

-- from one to the other just these pages of the user were brought and pinned: the same user of the
-- same frames, with as many bytes, where each other user has the bytes he had
pub record Supplied (old : Dat) (pages : List ℕ) (new : Dat) : Type 0 where
  pub kept : KeepsFrames old new
  pub paged : IsPagedFor (user_of old) pages (lent_pool old).supply (lent_pool new).supply

-- the same user of the same frames, with as many bytes, where each other user has the bytes he had;
-- the user's pages have left their frames and slots, no other page has, and no frame is pinned
pub record GivesBack (old new : Dat) : Type 0 where
  pub kept : KeepsFrames old new
  pub supply : (lent_pool new).supply ≡ record (lent_pool old).supply {
    owners = cleared_of (user_of old) (lent_pool old).supply.owners;
    slots = cleared_of (user_of old) (lent_pool old).supply.slots;
    pins = replicate (length (lent_pool old).supply.pins) false;
  }
  pub gone : (page : ℕ) → is_there (lent_pool new).supply.owners (user_of old) page ≡ false
  pub gone_slots : (page : ℕ) → is_there (lent_pool new).supply.slots (user_of old) page ≡ false

-- ---- units one after another

-- between two units, and between events: no frame is pinned, and there are at least 16, more than a
-- unit needs
pub record IsBetweenUnits (supply : FrameSupply) : Type 0 where
  pub idle : supply.pins ≡ replicate (length supply.owners) false
  pub many : 16 ≤ length supply.owners

-- the pins are taken away
abbrev pub unpinned : FrameSupply → FrameSupply
unpinned supply = record supply { pins = replicate (length supply.pins) false }

-- there is no room for a page of a user: it is in no frame and in no slot, and each frame and each
-- slot is taken
pub record HasNoRoom (supply : FrameSupply) (user page : ℕ) : Type 0 where
  pub absent : is_there supply.owners user page ≡ false
  pub nowhere : is_there supply.slots user page ≡ false
  pub full : All IsSome supply.owners
  pub full_slots : All IsSome supply.slots

-- just these pages of this user came, and each was counted: no page that was in a frame or a slot
-- is nowhere, and none but these came into a frame, or from nowhere
pub record IsBroughtFor (user : ℕ) (pages : List ℕ) (old new : FrameSupply) : Type 0 where
  pub same_frames : length new.owners ≡ length old.owners
  pub same_slots : length new.slots ≡ length old.slots
  pub kept : (u page : ℕ) → Stands old u page → Stands new u page
  pub framed : (u page : ℕ) → is_there new.owners u page ≡ true
      → (is_there old.owners u page ≡ true) ⊎ ((u ≡ user) × Contains pages page)
  pub paged_in : (u page : ℕ) → Stands new u page
      → Stands old u page ⊎ ((u ≡ user) × Contains pages page)
  pub page_ins : new.page_ins ≡ counted_by (length pages) old.page_ins

-- for one unit these pages have come, one after another, and then the pins are taken away
pub record IsUnit (user : ℕ) (old : FrameSupply) (pages : List ℕ) (new : FrameSupply) : Type 0 where
  pub held : FrameSupply
  pub page_ins : ArePageIns user old pages held
  pub let_go : new ≡ unpinned held

-- units, one after another, with the pages that have come for each
abbrev pub AreUnits : ℕ → FrameSupply → List (List ℕ) → FrameSupply → Type 0
AreUnits user old [] new = new ≡ old
AreUnits user old (pages ∷ units) new = (next : FrameSupply) × IsUnit user old pages next
    × AreUnits user next units new

-- just these pages of this user came, in these units; so each was counted once, and no other was
pub record IsBroughtInUnits (user : ℕ) (units : List (List ℕ))
    (old new : FrameSupply) : Type 0 where
  pub in_units : AreUnits user old units new
  pub brought : IsBroughtFor user (concat units) old new

-- from one to the other just these pages of the user came, in these units: the same user of the
-- same frames, with as many bytes, where each other user has the bytes he had
pub record SuppliedUnits (old : Dat) (units : List (List ℕ)) (new : Dat) : Type 0 where
  pub kept : KeepsFrames old new
  pub brought : IsBroughtInUnits (user_of old) units (lent_pool old).supply (lent_pool new).supply

-- the pins are taken away, and all else stays
pub record TakesPins (old new : Dat) : Type 0 where
  pub kept : KeepsFrames old new
  pub supply : (lent_pool new).supply ≡ unpinned (lent_pool old).supply
