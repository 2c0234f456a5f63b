-- What frames, and the pages that are in them, mean: the storage of each user.
use Rattle.std.specs.Prelude.{◌≡◌, ℕ, ◌+◌, ◌-◌, ◌*◌, ◌/◌, ◌%◌, ◌<◌, ◌≤◌, Bool, true, false, nat_lt}
use Rattle.std.specs.Prelude.{◌&&◌, ◌==◌, if◌then◌else◌, List, [], ◌++◌, map, length}
use Rattle.std.specs.Prelude.{slice_index, slice_index_or, Option, Some, None, is_some, IsSome}
use Rattle.std.specs.Prelude.{slice_set, All, take, drop}
use Rattle.std.specs.List.{position_from, range_with_len}
use Rattle.std.specs.List.Sorted.{IsPermutation}
use Rattle.cp_frames.specs.declared.numbers.UserPage.{UserPage}
use Rattle.cp_frames.specs.declared.numbers.FrameNo.{FrameNo}
use Rattle.cp_frames.specs.Tables.{half_at, word_at, segment_place, page_place, segment_entry}
use Rattle.cp_frames.specs.Tables.{page_entry}

-- the page that is in each frame and in each slot, which frames are pinned, the frames in the order
-- in which their pages came, and how many pages have come
pub record FrameSupply : Type 0 where
  pub owners : List (Option UserPage)
  pub slots : List (Option UserPage)
  pub pins : List Bool
  pub order : List ℕ
  pub page_ins : ℕ

-- the storage of each user, and where its pages are
pub record Pool : Type 0 where
  pub storages : List (List ℕ)
  pub supply : FrameSupply

-- a page of a user, by their numbers
abbrev pub owned : ℕ → ℕ → UserPage
owned user page = record { user = user; page = record { 0 = page } }

-- the number of a frame
abbrev pub number_of : Option FrameNo → Option ℕ
number_of None = None
number_of (Some frame) = Some frame.0

-- whether this page is in a frame with this owner
abbrev pub is_page : ℕ → ℕ → Option UserPage → Bool
is_page user page None = false
is_page user page (Some there) = (there.user == user) && (there.page.0 == page)

-- the frame in which a page of a user is
abbrev pub frame_of : List (Option UserPage) → ℕ → ℕ → Option ℕ
frame_of owners user page = position_from (is_page user page) 0 owners

-- whether a page of a user is in a frame
abbrev pub is_there : List (Option UserPage) → ℕ → ℕ → Bool
is_there owners user page = is_some (frame_of owners user page)

-- a byte of a page, by the frame in which the page is; a page in no frame is all zero
abbrev pub byte_in : List (List ℕ) → Option ℕ → ℕ → ℕ
byte_in frames None offset = 0
byte_in frames (Some frame) offset = slice_index (slice_index_or frames frame []) offset

-- the byte of a user at an address: pages have 4096 bytes
abbrev pub byte_at : List (List ℕ) → List (Option UserPage) → ℕ → ℕ → ℕ
byte_at frames owners user address =
    byte_in frames (frame_of owners user (address / 4096)) (address % 4096)

-- the storage of a user who has so many pages
abbrev pub storage_of : List (List ℕ) → List (Option UserPage) → ℕ → ℕ → List ℕ
storage_of frames owners user pages =
    map (byte_at frames owners user) (range_with_len 0 (pages * 4096))

-- the storage of each user, where sizes counts the pages of each
abbrev pub storages_of : List (List ℕ) → List (Option UserPage) → List ℕ → List (List ℕ)
storages_of frames owners sizes =
    map (λ user. storage_of frames owners user (slice_index sizes user))
    (range_with_len 0 (length sizes))

-- the storage of one user, empty where there is no such user
abbrev pub bytes_of : Pool → ℕ → List ℕ
bytes_of pool user = slice_index_or pool.storages user []

-- each byte of the page is zero
abbrev pub IsZeroPage : List ℕ → ℕ → Type 0
IsZeroPage storage page = (address : ℕ) → address / 4096 ≡ page → slice_index storage address ≡ 0

-- this page is in the frame
abbrev pub Holds : List (Option UserPage) → ℕ → UserPage → Type 0
Holds owners frame page = slice_index_or owners frame None ≡ Some page

-- each page is in one frame at most, which has its bytes, and is a page of its user's storage
pub record IsWhole (frames : List (List ℕ)) (owners : List (Option UserPage))
    (sizes : List ℕ) : Type 0 where
  pub room : length frames ≡ length owners
  pub small : (user : ℕ) → slice_index sizes user ≤ 1024
  pub once : (frame : ℕ) (page : UserPage) → Holds owners frame page
      → frame_of owners page.user page.page.0 ≡ Some frame
  pub inside : (frame : ℕ) (page : UserPage) → Holds owners frame page
      → page.page.0 < slice_index sizes page.user

-- the entry of a page in the list of frames: how far the places of its bytes, among those of all
-- frames one after another, are beyond their addresses, in 32 bits; 1 where it is in none
abbrev pub frame_entry : Option ℕ → ℕ → ℕ
frame_entry None page = 1
frame_entry (Some frame) page =
    (frame * 4096 + (4294967296 - page * 4096 % 4294967296)) % 4294967296

-- the entry of a page in the list of slots: its slot; the greatest number of 32 bits where it is in
-- none
abbrev pub slot_entry : Option ℕ → ℕ → ℕ
slot_entry None page = 4294967295
slot_entry (Some slot) page = slot

-- the list where the entry of a page says this place, or that it is in none
abbrev pub reported : (Option ℕ → ℕ → ℕ) → Option UserPage → Option ℕ → List ℕ → List ℕ
reported entry None place table = table
reported entry (Some there) place table =
    slice_set table (there.user * 1024 + there.page.0) (entry place there.page.0)

-- the entry of each page says the place among these in which the page is
pub record IsTabled (entry : Option ℕ → ℕ → ℕ) (owners : List (Option UserPage))
    (sizes table : List ℕ) : Type 0 where
  pub few : length owners ≤ 65536
  pub users : length sizes ≤ 64
  pub entries : length table ≡ 1024 * length sizes
  pub agrees : (user page : ℕ) → user < length sizes → page < 1024
      → slice_index table (user * 1024 + page) ≡ entry (frame_of owners user page) page

-- the tables are segment and page tables: of users with so many pages each, where an entry says the
-- frame of each page
pub record IsMapped (owners : List (Option UserPage)) (sizes tables : List ℕ) : Type 0 where
  pub few : length owners ≤ 4096
  pub users : length sizes ≤ 64
  pub room : length tables ≡ 2304 * length sizes
  pub segments : (user segment : ℕ) → user < length sizes → segment < 64
      → word_at tables (segment_place user segment)
      ≡ segment_entry user (slice_index sizes user) segment
  pub pages : (user page : ℕ) → user < length sizes → page < 1024
      → half_at tables (page_place user page) ≡ page_entry (frame_of owners user page)

-- a pinned frame has a page, and the order has each frame once
pub record IsOrdered (owners : List (Option UserPage)) (pins : List Bool)
    (order : List ℕ) : Type 0 where
  pub frames : length owners ≤ 4096
  pub marks : length pins ≡ length owners
  pub used : (frame : ℕ) → slice_index_or pins frame false ≡ true
      → IsSome (slice_index_or owners frame None)
  pub each : IsPermutation (range_with_len 0 (length owners)) order

-- each of these pages is in one of these places at most, and is a page of its user's storage
pub record ArePages (owners : List (Option UserPage)) (sizes : List ℕ) : Type 0 where
  pub small : (user : ℕ) → slice_index sizes user ≤ 1024
  pub once : (place : ℕ) (page : UserPage) → Holds owners place page
      → frame_of owners page.user page.page.0 ≡ Some place
  pub inside : (place : ℕ) (page : UserPage) → Holds owners place page
      → page.page.0 < slice_index sizes page.user

-- each of these frames has a page
abbrev pub AreTaken : List (Option UserPage) → List ℕ → Type 0
AreTaken owners frames = All (λ frame. IsSome (slice_index_or owners frame None)) frames

-- what is always so of where a search for a free frame ends, and of where one for a free slot
-- begins: the frames whose turn is that or a later one have pages, and so have the slots before
pub record IsSought (owners slot_owners : List (Option UserPage)) (order : List ℕ)
    (end low : ℕ) : Type 0 where
  pub within : end ≤ length order
  pub taken : AreTaken owners (drop end order)
  pub before : All IsSome (take low slot_owners)

-- what is always so of frames with their pages, slots with theirs, the users' sizes, the tables of
-- frames, the list next to them in which a page is looked up, the table of slots, the pins, the
-- order, and where searches end and begin: frames and slots together are places, and each page is
-- in one place at most
pub record IsSound (frames slots : List (List ℕ)) (owners slot_owners : List (Option UserPage))
    (sizes tables lookup slot_table : List ℕ) (pins : List Bool) (order : List ℕ)
    (end low : ℕ) : Type 0 where
  pub frame_room : length frames ≡ length owners
  pub slot_room : length slots ≡ length slot_owners
  pub whole : IsWhole (frames ++ slots) (owners ++ slot_owners) sizes
  pub mapped : IsMapped owners sizes tables
  pub looked : IsTabled frame_entry owners sizes lookup
  pub slots_tabled : IsTabled slot_entry slot_owners sizes slot_table
  pub ordered : IsOrdered owners pins order
  pub sought : IsSought owners slot_owners order end low

-- what is in a frame when a user's pages have left
abbrev pub without : ℕ → Option UserPage → Option UserPage
without user None = None
without user (Some there) = if there.user == user then None else Some there

-- what is in each frame when a user's pages have left
abbrev pub cleared_of : ℕ → List (Option UserPage) → List (Option UserPage)
cleared_of user owners = map (without user) owners

-- whether this is one of a user's first pages, so many of them
abbrev pub is_under : ℕ → ℕ → Option UserPage → Bool
is_under user count None = false
is_under user count (Some there) = (there.user == user) && nat_lt there.page.0 count

-- what is in a frame when a user's first pages have left
abbrev pub without_under : ℕ → ℕ → Option UserPage → Option UserPage
without_under user count o = if is_under user count o then None else o

-- a storage after this was written over one of its pages
abbrev pub put_page : List ℕ → ℕ → List ℕ → List ℕ
put_page storage page written =
    map (λ address. if address / 4096 == page then slice_index written (address % 4096)
    else slice_index storage address) (range_with_len 0 (length storage))

-- what is written to the frame of a page is the content of the page
abbrev pub written_page : Pool → Option UserPage → List ℕ → Pool
written_page pool None written = pool
written_page pool (Some there) written =
    record pool {
      storages = slice_set pool.storages there.user
          (put_page (bytes_of pool there.user) there.page.0 written);
    }

-- what is written to a frame is the content of the page that is in it
abbrev pub written_frame : Pool → ℕ → List ℕ → Pool
written_frame pool frame written =
    written_page pool (slice_index_or pool.supply.owners frame None) written
