-- The entry of a page in the tables, and its place, by the parts of Frames.
use Rattle.std.proofs.Common.{◌≡◌, ℕ, ◌+◌, ◌*◌, ◌/◌, ◌<◌, ◌≤◌, List, [], ◌++◌, length, get_or, Option, Some, refl, ◌∙◌}
use Rattle.std.proofs.Common.{arith}
use Rattle.cp_frames.specs.declared.numbers.UserPage.{UserPage}
use Rattle.cp_frames.specs.declared.pool.Frames.TheInside.{Inside}
use Rattle.cp_frames.specs.Layout.{frame_entry, frame_of, slot_entry, storage_of, storages_of, Holds, IsSound}
use Rattle.std.proofs.lemmas.List.FromFn.{length-map-range_with_len}
use Rattle.cp_frames.proofs.Layouts.{frame_found, length-bytes_of, user_with}
use Rattle.cp_frames.proofs.Tables.{IsPlace, place}
use Rattle.cp_frames.proofs.Halves.{from_frame, hold_left}

-- the places: frames, then slots
abbrev pub places_in : Inside → List (List ℕ)
places_in f = f.frames.items ++ f.slots.items

abbrev pub owners_in : Inside → List (Option UserPage)
owners_in f = f.owners.items ++ f.slot_owners.items

abbrev pub bytes_in : Inside → ℕ → List ℕ
bytes_in f user = get_or (storages_of (places_in f) (owners_in f) f.sizes.items) user []

abbrev pub IsKept : Inside → Type 0
IsKept f = IsSound f.frames.items f.slots.items f.owners.items f.slot_owners.items f.sizes.items f.tables.items
    f.lookup.items f.slot_table.items f.pins f.order f.end f.low

-- an address of the user has an entry in the list next to the tables, which says the frame of its page
pub look_place : (f : Inside) (user start : ℕ) → IsKept f → start < length (bytes_in f user)
    → IsPlace f.sizes.items f.lookup.items user (start / 4096)
look_place f user start kept lt =
    place frame_entry (places_in f) (owners_in f) f.owners.items f.sizes.items f.lookup.items user (start / 4096) start
    kept.whole kept.looked lt refl

-- The entry that is looked up tells the frame of the page.
pub looked_at : (f : Inside) (user start entry : ℕ) → IsKept f → start < length (bytes_in f user)
    → entry ≡ get_or f.lookup.items (user * 1024 + start / 4096) 0
    → entry ≡ frame_entry (frame_of f.owners.items user (start / 4096)) (start / 4096)
looked_at f user start entry kept lt read =
    let at = look_place f user start kept lt in read ∙ kept.looked.agrees user (start / 4096) at.of_user at.of_page

-- a page of the user has an entry in that list, and in that of the slots
pub look_place_of_page : (f : Inside) (user page : ℕ) → IsKept f → page * 4096 < length (bytes_in f user)
    → IsPlace f.sizes.items f.lookup.items user page
look_place_of_page f user page kept lt =
    place frame_entry (places_in f) (owners_in f) f.owners.items f.sizes.items f.lookup.items user page (page * 4096)
    kept.whole kept.looked lt (omega arith)

-- A page of a user's storage has its place in the slot table.
pub slot_place_of_page : (f : Inside) (user page : ℕ) → IsKept f → page * 4096 < length (bytes_in f user)
    → IsPlace f.sizes.items f.slot_table.items user page
slot_place_of_page f user page kept lt =
    place slot_entry (places_in f) (owners_in f) f.slot_owners.items f.sizes.items f.slot_table.items user page
    (page * 4096) kept.whole kept.slots_tabled lt (omega arith)

-- a user who has a byte is a user
pub of_user : (f : Inside) (user start : ℕ) {n : ℕ} → start + n ≤ length (bytes_in f user) → 0 < n
    → user < length f.sizes.items
of_user f user start inside some = (user_with (places_in f) (owners_in f) f.sizes.items user start (omega arith)).0

-- a page that is in a frame
pub record IsSlot (f : Inside) (user page slot : ℕ) : Type 0 where
  pub there : frame_of (owners_in f) user page ≡ Some slot
  pub room : slot < length f.frames.items

-- A page in a frame has a slot entry that says so.
pub slot_in : (f : Inside) (user page slot : ℕ) → IsKept f → frame_of f.owners.items user page ≡ Some slot
    → IsSlot f user page slot
slot_in f user page slot kept there = record {
  there = from_frame f.owners.items f.slot_owners.items user page slot kept.whole.once there;
  room = omega (arith, (frame_found f.owners.items user page slot there).within, kept.frame_room);
}

-- how many users there are, and how many pages each has
pub users_in : (f : Inside) → length (storages_of (places_in f) (owners_in f) f.sizes.items) ≡ length f.sizes.items
users_in f = length-map-range_with_len
    (λ user. storage_of (places_in f) (owners_in f) user (get_or f.sizes.items user 0)) 0 (length f.sizes.items)

-- A user has as many pages as his size says.
pub pages_in : (f : Inside) (user : ℕ) → length (bytes_in f user) / 4096 ≡ get_or f.sizes.items user 0
pages_in f user = let long = length-bytes_of (places_in f) (owners_in f) f.sizes.items user in omega arith

-- A page in a frame is within its user's size.
pub page_within : (f : Inside) (user : ℕ) → IsKept f → (k : ℕ) (p : UserPage) → Holds f.owners.items k p → p.user ≡ user
    → p.page.0 < get_or f.sizes.items user 0
page_within f user kept k p h e = let inside =
    kept.whole.inside k p (hold_left f.owners.items f.slot_owners.items k p h) in rw e at inside
