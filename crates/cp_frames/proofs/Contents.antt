-- The content of a page where it is, and content that is written there.
use Rattle.std.proofs.Common.{◌≡◌, ℕ, ◌+◌, ◌-◌, ◌*◌, ◌/◌, ◌%◌, ◌<◌, ◌≤◌, List, [], ◌∷◌, length, get_or, map, take, drop}
use Rattle.std.proofs.Common.{Option, Some, refl, sym, ◌∙◌, ap, arith}
use Rattle.std.proofs.lemmas.List.{take_all, get_or_append_left}
use Rattle.std.specs.List.{range_with_len}
use Rattle.cp_frames.specs.declared.numbers.UserPage.{UserPage}
use Rattle.cp_frames.specs.declared.pool.Frames.TheInside.{Inside}
use Rattle.cp_frames.specs.Layout.{frame_of, owned, storage_of, storages_of}
use Rattle.cp_frames.proofs.Layouts.{frame_found, length-bytes_of, length-storage_of}
use Rattle.cp_frames.proofs.Halves.{from_frame, hold_right, at_right}
use Rattle.cp_frames.proofs.Inside.{bytes_in, places_in, owners_in, IsKept}
use Rattle.cp_frames.proofs.PageParts.{part_read}
use Rattle.cp_frames.proofs.Tables.{page_is}

-- ---- content that is read

content_at : (f : Inside) (user page place : ℕ) (content : List ℕ) → frame_of (owners_in f) user page ≡ Some place →
    content ≡ get_or (places_in f) place [] → length content ≡ 4096 → page * 4096 < length (bytes_in f user) →
    content ≡ take 4096 (drop (page * 4096) (bytes_in f user))
content_at f user page place content there is full inside =
    let start = page * 4096 in
    let bytes = bytes_in f user in
    let at : page ≡ start / 4096 = omega arith in
    let none : start % 4096 ≡ 0 = omega arith in
    let count : start + 4096 - start ≡ 4096 = omega arith in
    let long : start + 4096 ≤ length bytes =
    omega (arith, inside, length-bytes_of (places_in f) (owners_in f) f.sizes.items user) in
    let read = part_read (places_in f) (owners_in f) f.sizes.items user start place 4096 content
    (ap (frame_of (owners_in f) user) (sym at) ∙ there) is full (omega (arith, none)) long in
    sym (take_all 4096 content (omega (arith, full))) ∙ ap (λ n. take (n + 4096 - n) (drop n content)) (sym none) ∙ read
    ∙ ap (λ n. take n (drop start bytes)) count

-- The content of the frame that has a page is that page of the user's storage.
pub content_in_frame : (f : Inside) (user page frame : ℕ) (content : List ℕ) → IsKept f
    → frame_of f.owners.items user page ≡ Some frame →
    content ≡ get_or f.frames.items frame [] → length content ≡ 4096 → page * 4096 < length (bytes_in f user) →
    content ≡ take 4096 (drop (page * 4096) (bytes_in f user))
content_in_frame f user page frame content kept there is full inside =
    let all = from_frame f.owners.items f.slot_owners.items user page frame kept.whole.once there in
    let room : frame < length f.frames.items =
    omega (arith, (frame_found f.owners.items user page frame there).within, kept.frame_room) in
    content_at f user page frame content all (is ∙ sym (get_or_append_left f.frames.items f.slots.items [] frame room))
    full inside

-- The content of the slot that has a page is that page of the user's storage.
pub content_in_slot : (f : Inside) (user page slot : ℕ) (content : List ℕ) → IsKept f
    → frame_of f.slot_owners.items user page ≡ Some slot →
    content ≡ get_or f.slots.items slot [] → length content ≡ 4096 → page * 4096 < length (bytes_in f user) →
    content ≡ take 4096 (drop (page * 4096) (bytes_in f user))
content_in_slot f user page slot content kept there is full inside =
    let all = kept.whole.once (length f.owners.items + slot) (owned user page)
    (hold_right f.owners.items f.slot_owners.items slot (owned user page)
    (page_is f.slot_owners.items user page slot there)) in
    let place = sym (at_right f.frames.items f.slots.items slot []) ∙ ap (λ n. get_or (places_in f) (n + slot) [])
    kept.frame_room in
    content_at f user page (length f.owners.items + slot) content all (is ∙ place) full inside

-- The frame that has a page is one of the pool.
pub frame_within : (f : Inside) (user page frame : ℕ) → IsKept f → frame_of f.owners.items user page ≡ Some frame
    → frame < length f.frames.items
frame_within f user page frame kept there =
    omega (arith, (frame_found f.owners.items user page frame there).within, kept.frame_room)

-- The slot that has a page is one of the pool.
pub slot_within : (f : Inside) (user page slot : ℕ) → IsKept f → frame_of f.slot_owners.items user page ≡ Some slot
    → slot < length f.slots.items
slot_within f user page slot kept there =
    omega (arith, (frame_found f.slot_owners.items user page slot there).within, kept.slot_room)

-- ---- content that is written

map_long : {X : Type 0} (f g : X → List ℕ) → ((x : X) → length (f x) ≡ length (g x)) → (xs : List X)
    → map length (map f xs) ≡ map length (map g xs)
map_long f g same [] = refl
map_long f g same (x ∷ xs) =
    ap (λ n. n ∷ map length (map f xs)) (same x) ∙ ap (λ l. length (g x) ∷ l) (map_long f g same xs)

-- whatever is in the places, storages are as large
pub sizes_same : (bytes others : List (List ℕ)) (owners : List (Option UserPage)) (sizes : List ℕ)
    → map length (storages_of bytes owners sizes) ≡ map length (storages_of others owners sizes)
sizes_same bytes others owners sizes =
    map_long (λ user. storage_of bytes owners user (get_or sizes user 0))
    (λ user. storage_of others owners user (get_or sizes user 0))
    (λ user. length-storage_of bytes owners user (get_or sizes user 0) ∙ sym
    (length-storage_of others owners user (get_or sizes user 0)))
    (range_with_len 0 (length sizes))
