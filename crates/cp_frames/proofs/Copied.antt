-- What a copy from one frame to another leaves of all frames.
use Rattle.std.proofs.Common.{◌/◌, ◌%◌, ◌-◌, Option, Some, refl, subst, length-drop, ◌≡◌, ℕ, ◌+◌, ◌<◌, ◌≤◌, List, []}
use Rattle.std.proofs.Common.{◌++◌, length, get_or, take, drop, sym, ◌∙◌, ap, arith}
use Rattle.std.proofs.Math.ListN.{set}
use Rattle.std.specs.List.{slice_range}
use Rattle.s370_store.specs.Access.{put}
use Rattle.cp_frames.specs.declared.numbers.UserPage.{UserPage}
use Rattle.cp_frames.specs.Layout.{frame_of, storages_of, IsWhole}
use Rattle.cp_frames.proofs.PageParts.{IsStored, part_read, part_stored}
use Rattle.std.proofs.lemmas.List.{take-append-drop, take-set-le, drop-set-add, set-append_left, get_or_append_left}
use Rattle.std.proofs.lemmas.List.{get_or-take, get_or-drop, length-take-le, take-append-le, take_all}

-- those before a frame, and that frame with those after it, the first of which is another now
pub set_high : (frames : List (List ℕ)) (m : ℕ) (frame : List ℕ)
    → take m frames ++ set (drop m frames) 0 frame ≡ set frames m frame
set_high frames m frame =
    ap (λ (xs : List (List ℕ)). xs ++ set (drop m frames) 0 frame) (sym (take-set-le m frames m frame (omega arith)))
    ∙ ap (λ (xs : List (List ℕ)). take m (set frames m frame) ++ xs)
    (sym (let e : m + 0 ≡ m = omega arith in rw e at (drop-set-add m frames 0 frame)))
    ∙ take-append-drop m (set frames m frame)

-- those before a frame, of which one is another now, and that frame with those after it
pub set_low : (frames : List (List ℕ)) (m i : ℕ) (frame : List ℕ) → i < m → m ≤ length frames
    → set (take m frames) i frame ++ drop m frames ≡ set frames i frame
set_low frames m i frame h l =
    let long : length (take m frames) ≡ m = length-take-le m frames l in
    sym (set-append_left (take m frames) (drop m frames) i frame (omega (arith, long)))
    ∙ ap (λ (xs : List (List ℕ)). set xs i frame) (take-append-drop m frames)

-- Frames below the cut are those of the lower half.
pub frame_low : (frames low : List (List ℕ)) (m i : ℕ) → low ≡ take m frames → i < m
    → get_or low i [] ≡ get_or frames i []
frame_low frames low m i e h = ap (λ (xs : List (List ℕ)). get_or xs i []) e ∙ get_or-take m frames i [] h

-- The first frame after the cut is that of the upper half.
pub frame_high : (frames high : List (List ℕ)) (m : ℕ) → high ≡ drop m frames → get_or high 0 [] ≡ get_or frames m []
frame_high frames high m e =
    ap (λ (xs : List (List ℕ)). get_or xs 0 []) e ∙
    (let e : m + 0 ≡ m = omega arith in rw e at (get_or-drop m frames 0 []))

-- the items that are left where a list of one length with others takes their place
pub items_are : (frames made : List (List ℕ)) (n : ℕ) → length made ≡ n
    → take n (made ++ drop (length made) frames) ≡ made
items_are frames made n h =
    take-append-le n made (drop (length made) frames) (omega (arith, h)) ∙ take_all n made (omega (arith, h))

length-part : (xs : List ℕ) (a n : ℕ) → a + n ≤ length xs → length (slice_range xs a (a + n)) ≡ n
length-part xs a n h = let e : a + n - a ≡ n =
    omega arith in rw e (length-take-le n (drop a xs) (rw length-drop (omega arith)))

-- frames are the first of the places
pub copied_among : (frames slots : List (List ℕ)) (source target from to count : ℕ) → source < length frames
    → target < length frames →
    set frames target (put (get_or frames target []) (to % 4096)
    (slice_range (get_or frames source []) (from % 4096) (from % 4096 + count))) ++ slots
    ≡ set (frames ++ slots) target
    (put (get_or (frames ++ slots) target []) (to % 4096)
    (slice_range (get_or (frames ++ slots) source []) (from % 4096) (from % 4096 + count)))
copied_among frames slots source target from to count lt less =
    let first : get_or (frames ++ slots) source [] ≡ get_or frames source [] =
    get_or_append_left frames slots [] source lt in
    let second : get_or (frames ++ slots) target [] ≡ get_or frames target [] =
    get_or_append_left frames slots [] target less in
    rw (first, second) (sym (set-append_left frames slots target
    (put (get_or frames target []) (to % 4096)
    (slice_range (get_or frames source []) (from % 4096) (from % 4096 + count))) less))

-- a part of one page that is copied into another, or the same
pub copied : (items : List (List ℕ)) (owners : List (Option UserPage)) (sizes : List ℕ)
    (user from to source target count : ℕ) → IsWhole items owners sizes → user < length sizes →
    frame_of owners user (from / 4096) ≡ Some source → frame_of owners user (to / 4096) ≡ Some target
    → length (get_or items source []) ≡ 4096 → length (get_or items target []) ≡ 4096 →
    from % 4096 + count ≤ 4096 → to % 4096 + count ≤ 4096
    → from + count ≤ length (get_or (storages_of items owners sizes) user [])
    → to + count ≤ length (get_or (storages_of items owners sizes) user []) →
    IsStored (storages_of items owners sizes)
    (storages_of (set items target
    (put (get_or items target []) (to % 4096)
    (slice_range (get_or items source []) (from % 4096) (from % 4096 + count)))) owners sizes)
    user to (slice_range (get_or (storages_of items owners sizes) user []) from (from + count))
copied items owners sizes user from to source target count whole within there there_2 full full_2 one one_2 inside
    inside_2 =
    let xs : List ℕ = slice_range (get_or (storages_of items owners sizes) user []) from (from + count) in
    let part : slice_range (get_or items source []) (from % 4096) (from % 4096 + count) ≡ xs =
    part_read items owners sizes user from source count (get_or items source []) there refl full one inside in
    let long : length xs ≡ count = length-part (get_or (storages_of items owners sizes) user []) from count inside in
    subst (λ (ys : List ℕ). IsStored (storages_of items owners sizes)
    (storages_of (set items target (put (get_or items target []) (to % 4096) ys)) owners sizes) user to xs)
    (sym part)
    (part_stored items owners sizes user to target xs (get_or items target []) whole there_2 refl full_2
    (omega (arith, long, one_2)) (omega (arith, long, inside_2)) within)
