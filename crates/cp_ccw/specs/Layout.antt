-- Real storage: the pages of one user at the addresses of their frames, and an area after the
-- frames.
use Rattle.std.specs.Prelude.{ℕ, ◌+◌, ◌*◌, ◌/◌, ◌%◌, Bool, true, false, ◌&&◌, ◌==◌, nat_lt, nat_le}
use Rattle.std.specs.Prelude.{if◌then◌else◌, List, ◌++◌, map, length, slice_index, slice_index_or}
use Rattle.std.specs.Prelude.{Option, Some, None, is_some, replicate}
use Rattle.std.specs.List.{range_with_len}
use Rattle.std.proofs.Common.{◌≡◌, ◌∙◌, ap, length-append}
use Rattle.std.proofs.lemmas.List.FromFn.{length-map-range_with_len}
use Rattle.cp_frames.specs.declared.numbers.UserPage.{UserPage}
use Rattle.cp_dat.specs.declared.dat.Dat.{Dat}
use Rattle.cp_frames.specs.Layout.{frame_of}
use Rattle.cp_dat.specs.Lent.{lent_bytes, lent_pool, user_of}

-- whether a frame is this one
abbrev pub is_frame : ℕ → Option ℕ → Bool
is_frame frame None = false
is_frame frame (Some other) = other == frame

-- the page, if it is one of this user's, is in this frame, and lies whole in his storage
abbrev pub own_page : List (Option UserPage) → ℕ → ℕ → ℕ → Option UserPage → Option ℕ
own_page owners user size frame None = None
own_page owners user size frame (Some there) =
    if (there.user == user) &&
    (is_frame frame (frame_of owners user there.page.0) && nat_le (there.page.0 * 4096 + 4096)
    size) then Some there.page.0 else None

-- the user's page that is in a frame
abbrev pub page_at : List (Option UserPage) → ℕ → ℕ → ℕ → Option ℕ
page_at owners user size frame = own_page owners user size frame (slice_index_or owners frame None)

-- a byte of the user's page in a frame; a frame without one shows nothing
abbrev pub byte_of : List ℕ → Option ℕ → ℕ → ℕ
byte_of storage None offset = 0
byte_of storage (Some page) offset = slice_index storage (page * 4096 + offset)

-- the key of half of a frame
abbrev pub key_of : List ℕ → Option ℕ → ℕ → ℕ
key_of keys None half = 0
key_of keys (Some page) half = slice_index keys (2 * page + half)

-- the pages of a user in their frames
unfoldable pub framed_bytes : List ℕ → List (Option UserPage) → ℕ → List ℕ
framed_bytes storage owners user =
    map (λ a. byte_of storage (page_at owners user (length storage) (a / 4096)) (a % 4096))
    (range_with_len 0 (4096 * length owners))

-- the bytes of real storage: the frames, and the area after them
abbrev pub real_bytes : List ℕ → List (Option UserPage) → ℕ → List ℕ → List ℕ
real_bytes storage owners user area = framed_bytes storage owners user ++ area

pub length-framed : (storage : List ℕ) (owners : List (Option UserPage)) (user : ℕ)
    → length (framed_bytes storage owners user) ≡ 4096 * length owners
unfolding framed_bytes
length-framed storage owners user = length-map-range_with_len _ 0 (4096 * length owners)

pub length-real : (storage : List ℕ) (owners : List (Option UserPage)) (user : ℕ) (area : List ℕ)
    → length (real_bytes storage owners user area) ≡ 4096 * length owners + length area
length-real storage owners user area =
    length-append (framed_bytes storage owners user) area ∙ ap (λ k. k + length area)
    (length-framed storage owners user)

-- the keys of the user's pages in their frames, and the key zero for each block of the area
unfoldable pub real_keys : List ℕ → List ℕ → List (Option UserPage) → ℕ → ℕ → List ℕ
real_keys storage keys owners user area =
    map (λ b. key_of keys (page_at owners user (length storage) (b / 2)) (b % 2))
    (range_with_len 0 (2 * length owners)) ++ replicate ((area + 2047) / 2048) 0

-- they depend on the user's storage by its size alone
pub keys_by_size : (storage other keys : List ℕ) (owners : List (Option UserPage)) (user area : ℕ)
    → length storage ≡ length other
    → real_keys storage keys owners user area ≡ real_keys other keys owners user area
unfolding real_keys
keys_by_size storage other keys owners user area e =
    ap (λ n. map (λ b. key_of keys (page_at owners user n (b / 2)) (b % 2))
    (range_with_len 0 (2 * length owners)) ++ replicate ((area + 2047) / 2048) 0) e

-- a frame is present if one of the user's pages is in it; the area is present
abbrev pub is_page_shown : List (Option UserPage) → ℕ → ℕ → ℕ → Bool
is_page_shown owners user size page = if nat_lt page (length owners)
    then is_some (page_at owners user size page) else true

-- whether a page of real storage is present
abbrev pub is_real_page : List ℕ → List (Option UserPage) → ℕ → ℕ → Bool
is_real_page storage owners user page = is_page_shown owners user (length storage) page

-- the user's page that is in a frame
abbrev pub page_of : Dat → ℕ → Option ℕ
page_of d frame = page_at (lent_pool d).supply.owners (user_of d) (length (lent_bytes d)) frame

-- the real address of a byte in a frame
abbrev pub at_frame : Option ℕ → ℕ → Option ℕ
at_frame None offset = None
at_frame (Some frame) offset = Some (frame * 4096 + offset)

-- the real address of a user's byte: in the frame of its page, where that page lies whole in his
-- storage
abbrev pub real_of : List (Option UserPage) → ℕ → ℕ → ℕ → Option ℕ
real_of owners user size a =
    at_frame (if nat_le (a / 4096 * 4096 + 4096) size then frame_of owners user (a / 4096)
    else None) (a % 4096)

-- the real addresses of one user's lent storage
abbrev pub real_in : Dat → ℕ → Option ℕ
real_in d = real_of (lent_pool d).supply.owners (user_of d) (length (lent_bytes d))
