-- What is in a frame and what is in a slot change places.
use Rattle.std.proofs.Common.{◌≡◌, ℕ, ◌+◌, ◌*◌, ◌<◌, List, [], ◌++◌, length, get_or, false, Option, Some, None, refl}
use Rattle.std.proofs.Common.{sym, ◌∙◌, ap, arith, set-set}
use Rattle.std.proofs.Math.ListN.{set, length-set}
use Rattle.std.proofs.lemmas.List.{set-get_or}
use Rattle.std.specs.Prelude.{IfSome, IsSome, All, take}
use Rattle.cp_frames.specs.declared.numbers.UserPage.{UserPage}
use Rattle.cp_frames.specs.declared.pool.Frames.TheInside.{Inside}
use Rattle.cp_frames.specs.Layout.{FrameSupply, owned, frame_entry, frame_of, slot_entry, storages_of, reported}
use Rattle.cp_frames.specs.Layout.{IsWhole, IsMapped, IsTabled, IsSound}
use Rattle.cp_frames.specs.Tables.{page_place, put_half, noted}
use Rattle.cp_frames.specs.Paging.{IsGivenUp, IsPut, exchanged, filled}
use Rattle.cp_frames.proofs.Tables.{page_is}
use Rattle.cp_frames.proofs.Moves.{IsMoved, whole-moved, storages-moved, crossed}
use Rattle.cp_frames.proofs.Halves.{crossed-moved, hold_left, hold_right, once_left, once_right, no_frame_of_slot}
use Rattle.cp_frames.proofs.Halves.{no_slot_of_frame}
use Rattle.cp_frames.proofs.Told.{AreSmall, IsNew, tabled-set}
use Rattle.cp_frames.proofs.Mapped.{mapped-set}
use Rattle.cp_frames.proofs.Orders.{ordered-set, small_page}
use Rattle.cp_frames.proofs.Sought.{none_taken}
use Rattle.cp_frames.proofs.Inside.{IsKept, places_in, owners_in}

moved_in : (f : Inside) (frame slot : ℕ) → IsKept f → frame < length f.owners.items
    → slot < length f.slot_owners.items →
    IsMoved (crossed frame (length f.owners.items + slot)) (places_in f)
    (set f.frames.items frame (get_or f.slots.items slot [])
    ++ set f.slots.items slot (get_or f.frames.items frame []))
    (owners_in f) (set f.owners.items frame (get_or f.slot_owners.items slot None)
    ++ set f.slot_owners.items slot (get_or f.owners.items frame None))
moved_in f frame slot kept lt less =
    crossed-moved f.frames.items f.slots.items f.owners.items f.slot_owners.items frame slot kept.frame_room
    kept.slot_room lt less

small_left : (f : Inside) → IsKept f → AreSmall f.owners.items
small_left f kept k q h =
    (small_page (places_in f) (owners_in f) f.sizes.items k q kept.whole
    (hold_left f.owners.items f.slot_owners.items k q h)).1

small_right : (f : Inside) → IsKept f → AreSmall f.slot_owners.items
small_right f kept k q h =
    (small_page (places_in f) (owners_in f) f.sizes.items (length f.owners.items + k) q kept.whole
    (hold_right f.owners.items f.slot_owners.items k q h)).1

-- a page in a slot is in no frame, and a page in a frame in no slot
new_frame : (f : Inside) (slot : ℕ) → IsKept f → IsNew f.owners.items (get_or f.slot_owners.items slot None)
new_frame f slot kept q h =
    let there = kept.whole.once (length f.owners.items + slot) q
    (hold_right f.owners.items f.slot_owners.items slot q h) in (
      small_right f kept slot q h,
      no_frame_of_slot f.owners.items f.slot_owners.items q.user q.page.0 (length f.owners.items + slot)
          kept.whole.once there (omega arith),
    )

new_slot : (f : Inside) (frame : ℕ) → IsKept f → frame < length f.owners.items
    → IsNew f.slot_owners.items (get_or f.owners.items frame None)
new_slot f frame kept lt q h =
    let there = kept.whole.once frame q (hold_left f.owners.items f.slot_owners.items frame q h) in (
      small_left f kept frame q h,
      no_slot_of_frame f.owners.items f.slot_owners.items q.user q.page.0 frame kept.whole.once there lt,
    )

-- The pool stays sound when a frame and a slot change their pages.
pub exchange-kept : (f : Inside) (frame slot end low : ℕ) → IsKept f → frame < length f.owners.items
    → slot < length f.slot_owners.items → get_or f.pins frame false ≡ false → end ≡ length f.order
    → All IsSome (take low (set f.slot_owners.items slot (get_or f.owners.items frame None))) →
    IsSound (set f.frames.items frame (get_or f.slots.items slot []))
    (set f.slots.items slot (get_or f.frames.items frame []))
    (set f.owners.items frame (get_or f.slot_owners.items slot None))
    (set f.slot_owners.items slot (get_or f.owners.items frame None)) f.sizes.items
    (noted (get_or f.slot_owners.items slot None) (frame * 16)
    (noted (get_or f.owners.items frame None) 8 f.tables.items))
    (reported frame_entry (get_or f.slot_owners.items slot None) (Some frame)
    (reported frame_entry (get_or f.owners.items frame None) None f.lookup.items))
    (reported slot_entry (get_or f.owners.items frame None) (Some slot)
    (reported slot_entry (get_or f.slot_owners.items slot None) None f.slot_table.items)) f.pins
    f.order end low
exchange-kept f frame slot end low kept lt less unpinned all before = record {
  frame_room = rw (length-set, length-set) kept.frame_room;
  slot_room = rw (length-set, length-set) kept.slot_room;
  whole = whole-moved (crossed frame (length f.owners.items + slot)) (places_in f) _ (owners_in f) _ f.sizes.items
      kept.whole (moved_in f frame slot kept lt less);
  mapped = mapped-set f.owners.items f.sizes.items f.tables.items frame (get_or f.slot_owners.items slot None)
      (once_left f.owners.items f.slot_owners.items kept.whole.once) (small_left f kept) kept.mapped lt
      (new_frame f slot kept);
  looked = tabled-set frame_entry f.owners.items f.sizes.items f.lookup.items frame
      (get_or f.slot_owners.items slot None) (once_left f.owners.items f.slot_owners.items kept.whole.once)
      (small_left f kept) kept.looked lt (new_frame f slot kept);
  slots_tabled = tabled-set slot_entry f.slot_owners.items f.sizes.items f.slot_table.items slot
      (get_or f.owners.items frame None) (once_right f.owners.items f.slot_owners.items kept.whole.once)
      (small_right f kept) kept.slots_tabled less (new_slot f frame kept lt);
  ordered = ordered-set f.owners.items f.pins f.order frame (get_or f.slot_owners.items slot None)
      kept.ordered unpinned;
  sought = record {
    within = omega arith;
    taken = none_taken (set f.owners.items frame (get_or f.slot_owners.items slot None)) f.order end
        (omega arith);
    before = before;
  };
}

-- No storage changes when a frame and a slot change their pages.
pub exchange-storages : (f : Inside) (frame slot : ℕ) → IsKept f → frame < length f.owners.items
    → slot < length f.slot_owners.items →
    storages_of (set f.frames.items frame (get_or f.slots.items slot [])
    ++ set f.slots.items slot (get_or f.frames.items frame []))
    (set f.owners.items frame (get_or f.slot_owners.items slot None)
    ++ set f.slot_owners.items slot (get_or f.owners.items frame None)) f.sizes.items
    ≡ storages_of (places_in f) (owners_in f) f.sizes.items
exchange-storages f frame slot kept lt less =
    storages-moved (crossed frame (length f.owners.items + slot)) (places_in f) _ (owners_in f) _ f.sizes.items
    kept.whole (moved_in f frame slot kept lt less)

-- the tables, and the list next to them, where a page that was nowhere comes into a free frame
pub tables_filled : (f : Inside) (user page frame : ℕ) → IsKept f → page < 1024
    → frame_of f.owners.items user page ≡ None → frame < length f.owners.items
    → get_or f.owners.items frame None ≡ None →
    IsMapped (set f.owners.items frame (Some (owned user page))) f.sizes.items
    (put_half f.tables.items (page_place user page) (frame * 16))
tables_filled f user page frame kept small absent within free =
    let wanted : UserPage = owned user page in
    let new : IsNew f.owners.items (Some wanted) = λ q h. (let is : wanted ≡ q = cc in rw (← is) (small, absent)) in
    rw free at (mapped-set f.owners.items f.sizes.items f.tables.items frame (Some wanted)
    (once_left f.owners.items f.slot_owners.items kept.whole.once) (small_left f kept) kept.mapped within new)

-- The lookup table has the frame that a page was given.
pub looks_filled : (f : Inside) (user page frame : ℕ) → IsKept f → page < 1024
    → frame_of f.owners.items user page ≡ None → frame < length f.owners.items
    → get_or f.owners.items frame None ≡ None →
    IsTabled frame_entry (set f.owners.items frame (Some (owned user page))) f.sizes.items
    (set f.lookup.items (user * 1024 + page) (frame_entry (Some frame) page))
looks_filled f user page frame kept small absent within free =
    let wanted : UserPage = owned user page in
    let new : IsNew f.owners.items (Some wanted) = λ q h. (let is : wanted ≡ q = cc in rw (← is) (small, absent)) in
    rw free at (tabled-set frame_entry f.owners.items f.sizes.items f.lookup.items frame (Some wanted)
    (once_left f.owners.items f.slot_owners.items kept.whole.once) (small_left f kept) kept.looked within new)

-- what a page leaves and what is given up
pub put_exchanged : (s : FrameSupply) (user page frame slot : ℕ) → frame_of s.slots user page ≡ Some slot
    → IsPut s (exchanged s frame slot) user page frame
put_exchanged s user page frame slot at = record {
  owners = ap (λ o. set s.owners frame o) (page_is s.slots user page slot at);
  slots = rw at refl;
  pins = refl;
  order = refl;
  page_ins = refl;
}

given_up : (given : Option UserPage) (slots : List (Option UserPage)) (slot : ℕ) → slot < length slots
    → get_or slots slot None ≡ None → IsGivenUp None given slots (set slots slot given)
given_up None slots slot lt free = ap (λ o. set slots slot o) (sym free) ∙ set-get_or slots slot None
given_up (Some page) slots slot lt free = (slot, lt, free, refl)

-- A page that is given a free frame and a free slot's bytes is put there.
pub put_filled : (s : FrameSupply) (user page frame slot : ℕ) → frame_of s.slots user page ≡ None
    → slot < length s.slots → get_or s.slots slot None ≡ None →
    IsPut s (filled (exchanged s frame slot) frame user page) user page frame
put_filled s user page frame slot nowhere lt free = record {
  owners = set-set s.owners frame (get_or s.slots slot None) (Some (owned user page));
  slots = rw nowhere (given_up (get_or s.owners frame None) s.slots slot lt free);
  pins = refl;
  order = refl;
  page_ins = refl;
}

-- the entry of a page that is somewhere is in the tables
pub note_room : (bytes : List (List ℕ)) (all owners : List (Option UserPage)) (sizes tables : List ℕ) (k : ℕ)
    (o : Option UserPage) → IsWhole bytes all sizes → IsMapped owners sizes tables → get_or all k None ≡ o →
    IfSome o (λ p. page_place p.user p.page.0 + 1 < length tables)
note_room bytes all owners sizes tables k None whole mapped e = tt
note_room bytes all owners sizes tables k (Some p) whole mapped e =
    let small = small_page bytes all sizes k p whole e in
    omega (arith, mapped.room, small.0, small.1)
