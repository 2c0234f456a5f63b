-- The places of a system, frames and slots, and the page that is in each.
use Rattle.std.specs.Prelude.{ℕ, zero, suc, List, length, nat_lt, if◌then◌else◌, replicate}
use Rattle.std.specs.Prelude.{slice_get, slice_set, Option, Some, None}
use Rattle.cp_core.specs.Loan.{frame_at, slot_at}
use Rattle.cp_core.specs.System.{SystemView}
use Rattle.cp_directory.specs.Users.{DirectoryUser}
use Rattle.frame_map.specs.declared.places.Owner.{Owner}
use Rattle.frame_map.specs.declared.places.PlaceKind.{PlaceKind}
use Rattle.frame_map.specs.declared.places.PlaceKind.TheVariants as kinds

-- the place of a kind in which a page of a user is: a frame, or a slot
abbrev pub place_in : SystemView → PlaceKind → ℕ → ℕ → Option ℕ
place_in s kinds.Frames user page = frame_at s user page
place_in s kinds.Slots user page = slot_at s user page

-- how many pages a user's storage has
abbrev pub pages_of : Option DirectoryUser → ℕ
pages_of None = 0
pages_of (Some user) = user.pages

-- a page is put into the place that has it, if it is one of these
abbrev pub put_at : Option ℕ → Owner → List (Option Owner) → List (Option Owner)
put_at None owner places = places
put_at (Some number) owner places =
    if nat_lt number (length places) then slice_set places number (Some owner) else places

-- the first so many pages of a user, from page 0 on, are each put into the place that has it
abbrev pub put_pages : (ℕ → Option ℕ) → ℕ → ℕ → List (Option Owner) → List (Option Owner)
put_pages place user zero places = places
put_pages place user (suc page) places =
    put_at (place page) (record { user = user; page = page }) (put_pages place user page places)

-- so are all pages of the first so many users
abbrev pub put_users : SystemView → PlaceKind → ℕ → List (Option Owner) → List (Option Owner)
put_users s kind zero places = places
put_users s kind (suc user) places =
    put_pages (place_in s kind user) user (pages_of (slice_get s.directory user))
    (put_users s kind user places)

-- what is in each of so many places of a kind: of each page of each user the place that has it, and
-- nothing in those that are left
abbrev pub places_in : SystemView → PlaceKind → ℕ → List (Option Owner)
places_in s kind count = put_users s kind (length s.directory) (replicate count None)
