-- Segment and page tables as bytes, with segments of 64K and pages of 4K (GA22-7000, "Dynamic
-- Address Translation").
use Rattle.std.specs.Prelude.{ℕ, ◌+◌, ◌-◌, ◌*◌, ◌/◌, ◌%◌, ◌||◌, nat_lt, ◌==◌, if◌then◌else◌, List}
use Rattle.std.specs.Prelude.{slice_index, slice_set, Option, Some, None}
use Rattle.cp_frames.specs.declared.numbers.UserPage.{UserPage}

-- a halfword and a word of the tables, the leftmost byte first
abbrev pub half_at : List ℕ → ℕ → ℕ
half_at tables place = slice_index tables place * 256 + slice_index tables (place + 1)

-- a word of the tables
abbrev pub word_at : List ℕ → ℕ → ℕ
word_at tables place = half_at tables place * 65536 + half_at tables (place + 2)

-- a user owns 2304 bytes: an entry of 4 bytes for each of 64 segments, then 16 entries of 2 bytes
-- for the pages of each
abbrev pub segment_place : ℕ → ℕ → ℕ
segment_place user segment = user * 2304 + segment * 4

-- the place of a page's entry in the tables
abbrev pub page_place : ℕ → ℕ → ℕ
page_place user page = user * 2304 + 256 + page * 2

-- the entry of a segment, of a user who has so many pages: in bits 0 to 3 how many of them are its
-- own, less one, in bits 8 to 28 where their entries begin, without the last three bits; bit 31
-- alone where none is
abbrev pub segment_entry : ℕ → ℕ → ℕ → ℕ
segment_entry user pages segment =
    let own : ℕ = if nat_lt 15 (pages - segment * 16) then 16 else pages - segment * 16 in
    if own == 0 then 1 else (own - 1) * 268435456 + page_place user (segment * 16)

-- the halfword of this number of the tables of a user who has so many pages, where none of them is
-- in a frame
abbrev pub first_half : ℕ → ℕ → ℕ → ℕ
first_half user pages half =
    let entry : ℕ = segment_entry user pages (half / 2) in
    if nat_lt half 128 then (if half % 2 == 0 then entry / 65536 else entry % 65536) else 8

-- the entry of a page: in bits 0 to 11 its frame; bit 12 alone where it is in none
abbrev pub page_entry : Option ℕ → ℕ
page_entry None = 8
page_entry (Some frame) = frame * 16

-- the frame that a page entry says
abbrev pub frame_in : ℕ → Option ℕ
frame_in entry = if entry / 8 % 2 == 1 then None else Some (entry / 16)

-- the frame that a segment entry says, with the entries at its origin, of one of 16 pages
abbrev pub frame_through : List ℕ → ℕ → ℕ → Option ℕ
frame_through tables entry page =
    if (entry % 2 == 1) || nat_lt (entry / 268435456) page then None
    else frame_in (half_at tables (entry / 8 % 2097152 * 8 + page * 2))

-- the frame of a user's page, by the bytes of the tables alone
abbrev pub walk : List ℕ → ℕ → ℕ → Option ℕ
walk tables user page = frame_through tables (word_at tables (segment_place user (page / 16)))
    (page % 16)

-- the tables with this halfword at a place
abbrev pub put_half : List ℕ → ℕ → ℕ → List ℕ
put_half tables place half =
    slice_set (slice_set tables place (half / 256)) (place + 1) (half % 256)

-- the tables where the entry of a page is this
abbrev pub noted : Option UserPage → ℕ → List ℕ → List ℕ
noted None entry tables = tables
noted (Some there) entry tables = put_half tables (page_place there.user there.page.0) entry
