-- What is so where all pages of a user have left, and at first.
use Rattle.std.proofs.Common.{reverse, ◌≡◌, ℕ, zero, suc, ◌+◌, ◌*◌, ◌/◌, ◌%◌, ◌<◌, ◌≤◌, List, ◌∷◌, ◌++◌, map, length}
use Rattle.std.proofs.Common.{get_or, replicate, Bool, true, false, Option, None, refl, sym, ◌∙◌, ap, arith, subst}
use Rattle.std.proofs.Common.{length-append}
use Rattle.std.specs.Prelude.{All}
use Rattle.std.specs.List.{range_with_len}
use Rattle.std.proofs.Math.ListN.{length-map, length-replicate}
use Rattle.std.proofs.lemmas.List.{map-append}
use Rattle.std.proofs.lemmas.List.FromFn.{length-range_with_len}
use Rattle.std.proofs.lemmas.List.Sorted.{IsPermutation-reverse, length_permutation}
use Rattle.cp_frames.proofs.Sought.{none_taken}
use Rattle.cp_frames.specs.declared.numbers.UserPage.{UserPage}
use Rattle.cp_frames.specs.declared.pool.Frames.TheInside.{Inside}
use Rattle.cp_frames.specs.Layout.{cleared_of, frame_entry, slot_entry, without, storages_of, ArePages, IsWhole}
use Rattle.cp_frames.specs.Layout.{IsMapped, IsTabled, IsSound}
use Rattle.cp_frames.specs.Tables.{half_at, first_half}
use Rattle.cp_frames.proofs.Layouts.{whole-cleared, storages-none}
use Rattle.cp_frames.proofs.Tables.{tabled-none, whole-none}
use Rattle.cp_frames.proofs.Mapped.{mapped-first}
use Rattle.cp_frames.proofs.Halves.{hold_left, once_left}
use Rattle.cp_frames.proofs.Inside.{IsKept, places_in, owners_in}

never_pinned : (n k : ℕ) → get_or (replicate n false) k false ≡ true → ⊥
never_pinned zero k e = cc
never_pinned (suc n) zero e = cc
never_pinned (suc n) (suc k) e = never_pinned n k e

pub both_cleared : (user : ℕ) (owners slots : List (Option UserPage))
    → cleared_of user (owners ++ slots) ≡ cleared_of user owners ++ cleared_of user slots
both_cleared user owners slots = map-append (without user) owners slots

-- The pool stays sound when a user's pages are released.
pub released-kept : (f : Inside) (user : ℕ) (tables lookup slot_table : List ℕ) (end : ℕ) → IsKept f
    → f.pins ≡ replicate (length f.pins) false →
    IsMapped (cleared_of user f.owners.items) f.sizes.items tables
    → IsTabled frame_entry (cleared_of user f.owners.items) f.sizes.items lookup
    → IsTabled slot_entry (cleared_of user f.slot_owners.items) f.sizes.items slot_table
    → end ≡ length f.order →
    IsSound f.frames.items f.slots.items (cleared_of user f.owners.items) (cleared_of user f.slot_owners.items)
    f.sizes.items tables lookup slot_table f.pins f.order end 0
released-kept f user tables lookup slot_table end kept blank mapped looked slots_tabled all = record {
  frame_room = rw length-map kept.frame_room;
  slot_room = rw length-map kept.slot_room;
  whole = subst (λ (os : List (Option UserPage)). IsWhole (places_in f) os f.sizes.items)
      (both_cleared user f.owners.items f.slot_owners.items)
      (whole-cleared (places_in f) (owners_in f) f.sizes.items user kept.whole);
  mapped = mapped;
  looked = looked;
  slots_tabled = slots_tabled;
  ordered = record {
    frames = rw length-map kept.ordered.frames;
    marks = rw length-map kept.ordered.marks;
    used = λ k e. absurd (never_pinned (length f.pins) k (ap (λ ps. get_or ps k false) (sym blank) ∙ e));
    each = rw length-map kept.ordered.each;
  };
  sought = record {
    within = omega arith;
    taken = none_taken (cleared_of user f.owners.items) f.order end (omega arith);
    before = λ k d lt. absurd (omega (arith, lt));
  };
}

-- the pages in frames
pub frame_pages : (f : Inside) → IsKept f → ArePages f.owners.items f.sizes.items
frame_pages f kept = record {
  small = kept.whole.small;
  once = once_left f.owners.items f.slot_owners.items kept.whole.once;
  inside = λ k p h. kept.whole.inside k p (hold_left f.owners.items f.slot_owners.items k p h);
}

-- The storages after a release are those of the cleared places.
pub released-storages : (f : Inside) (user : ℕ) →
    storages_of (places_in f) (cleared_of user f.owners.items ++ cleared_of user f.slot_owners.items) f.sizes.items
    ≡ storages_of (places_in f) (cleared_of user (owners_in f)) f.sizes.items
released-storages f user =
    ap (λ (os : List (Option UserPage)). storages_of (places_in f) os f.sizes.items)
    (sym (both_cleared user f.owners.items f.slot_owners.items))

-- at first no place has a page
pub none_both : (n m : ℕ) → let none : ℕ
    → List (Option UserPage) = λ k. replicate k None in none n ++ none m ≡ none (n + m)
none_both zero m = ap (λ (k : ℕ). let none : List (Option UserPage) = replicate k None in none) (omega arith)
none_both (suc n) m = ap (λ (xs : List (Option UserPage)). None ∷ xs) (none_both n m) ∙ ap
    (λ (k : ℕ). let none : List (Option UserPage) = replicate k None in none)
    (let e : suc (n + m) ≡ suc n + m = omega arith in e)

order_is : (n : ℕ) → length (reverse (range_with_len 0 n)) ≡ n
order_is n = length_permutation _ _ (IsPermutation-reverse (range_with_len 0 n)) ∙ length-range_with_len 0 n

long_order : (n : ℕ) → n ≤ length (reverse (range_with_len 0 n))
long_order n = let e = order_is n in omega arith

order_long : (n : ℕ) → length (reverse (range_with_len 0 n)) ≤ n
order_long n = let e = order_is n in omega arith

-- A pool without pages is sound.
pub sound-first : (frames slots : List (List ℕ)) (owners slot_owners : List (Option UserPage))
    (sizes tables lookup slot_table : List ℕ) (pins : List Bool) (order : List ℕ) (n m : ℕ) →
    length frames ≡ n → length slots ≡ m → owners ≡ replicate n None → slot_owners ≡ replicate m None
    → length tables ≡ 2304 * length sizes →
    ((half : ℕ) → half < 1152 * length sizes
    → half_at tables (half * 2) ≡ first_half (half / 1152) (get_or sizes (half / 1152) 0) (half % 1152))
    → lookup ≡ replicate (1024 * length sizes) 1 → slot_table ≡ replicate (1024 * length sizes) 4294967295 →
    pins ≡ replicate n false → order ≡ reverse (range_with_len 0 n) → n ≤ 4096 → m ≤ 65536 → length sizes ≤ 64
    → All (λ pages. pages ≤ 1024) sizes
    → IsSound frames slots owners slot_owners sizes tables lookup slot_table pins order n 0
sound-first frames slots owners slot_owners sizes tables lookup slot_table pins order n m room slot_room e f long halves
    l g h i few many users small =
    let both : length (frames ++ slots) ≡ n + m = omega (arith, length-append frames slots) in
    rw (e, f, l, g, h, i) (record {
      frame_room = rw length-replicate room;
      slot_room = rw length-replicate slot_room;
      whole = subst (λ (os : List (Option UserPage)). IsWhole (frames ++ slots) os sizes) (sym (none_both n m))
          (whole-none (frames ++ slots) sizes (n + m) both small);
      mapped = mapped-first sizes tables n few users long halves;
      looked = tabled-none frame_entry 1 n sizes (λ _. refl) (omega arith) users;
      slots_tabled = tabled-none slot_entry 4294967295 m sizes (λ _. refl) many users;
      ordered = record {
        frames = rw length-replicate few;
        marks = rw (length-replicate, length-replicate) refl;
        used = λ k e. absurd (never_pinned n k e);
        each = rw length-replicate (IsPermutation-reverse (range_with_len 0 n));
      };
      sought = record {
        within = long_order n;
        taken = none_taken (replicate n None) (reverse (range_with_len 0 n)) n (order_long n);
        before = λ k d lt. absurd (omega (arith, lt));
      };
    })

-- A pool without pages has storages of zeros.
pub storages-first : (places : List (List ℕ)) (owners slot_owners : List (Option UserPage)) (sizes : List ℕ) (n m : ℕ)
    → owners ≡ replicate n None → slot_owners ≡ replicate m None →
    storages_of places (owners ++ slot_owners) sizes ≡ map (λ pages. replicate (pages * 4096) 0) sizes
storages-first places owners slot_owners sizes n m e f =
    rw (e, f) (ap (λ (os : List (Option UserPage)). storages_of places os sizes) (none_both n m) ∙ storages-none places
    (n + m) sizes)
