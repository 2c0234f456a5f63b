-- The frames in the order in which their pages came, and what is so of the parts of Frames.
use Rattle.std.proofs.Common.{◌≡◌, ◌≢◌, ℕ, zero, suc, ◌+◌, ◌*◌, ◌<◌, List, [], ◌∷◌, ◌++◌, length, get_or, drop}
use Rattle.std.proofs.Common.{Bool, true, false, Option, Some, None, refl, get_or-set_other, get_or-set_same, sym, ◌∙◌}
use Rattle.std.proofs.Common.{ap, arith, zero-add}
use Rattle.std.proofs.Math.Decide.{dec_lt}
use Rattle.std.proofs.Math.ListN.{set, length-set}
use Rattle.std.specs.Prelude.{All, IsSome, IfSome, IfNone}
use Rattle.std.specs.List.{range_with_len, remove}
use Rattle.std.specs.List.Sorted.{IsPermutation}
use Rattle.std.proofs.lemmas.List.{get_or-drop, length-drop, get_or_past, get_or_default}
use Rattle.std.proofs.lemmas.List.FromFn.{get_or-range_with_len, length-range_with_len}
use Rattle.std.proofs.lemmas.List.Sorted.{All-permutation, IsPermutation-sym, IsPermutation-trans, IsPermutation-remove}
use Rattle.std.proofs.lemmas.List.Sorted.{IsPermutation-to_front}
use Rattle.cp_frames.specs.declared.numbers.UserPage.{UserPage}
use Rattle.cp_frames.specs.declared.pool.Frames.TheInside.{Inside}
use Rattle.cp_frames.specs.Layout.{owned, is_page, frame_of, storages_of, Holds, IsWhole, IsTabled, IsOrdered}
use Rattle.cp_frames.proofs.Layouts.{dec_eq, length-bytes_of, is_this_page}
use Rattle.cp_frames.proofs.Tables.{page_is}
use Rattle.cp_frames.proofs.Moves.{held_place, stands_nowhere, none_found}
use Rattle.cp_frames.proofs.Halves.{in_frame, hold_left}
use Rattle.cp_frames.proofs.Inside.{IsKept, places_in, owners_in}

-- A range that grows by one ends with the next number.
pub range_push : (a n : ℕ) → range_with_len a (suc n) ≡ range_with_len a n ++ (a + n) ∷ []
range_push a zero = ap (λ k. k ∷ []) (omega arith)
range_push a (suc n) = ap (λ xs. a ∷ xs)
    (range_push (a + 1) n ∙ ap (λ k. range_with_len (a + 1) n ++ k ∷ []) (omega arith))

-- what is so of an element and of all after it
pub all_from : {X : Type 0} (P : X → Type 0) (xs : List X) (i : ℕ) (d : X) → i < length xs → P (get_or xs i d)
    → All P (drop (i + 1) xs) → All P (drop i xs)
all_from P xs i d lt here after zero e less =
    let first : get_or (drop i xs) 0 e ≡ get_or xs i d =
    get_or-drop i xs 0 e ∙ ap (λ k. get_or xs k e) (omega arith) ∙ get_or_default xs i e d lt in
    rw first here
all_from P xs i d lt here after (suc k) e less =
    let same : get_or (drop (i + 1) xs) k e ≡ get_or (drop i xs) (suc k) e =
    get_or-drop (i + 1) xs k e ∙ ap (λ n. get_or xs n e) (omega arith) ∙ sym (get_or-drop i xs (suc k) e) in
    rw same at (after k e (omega (arith, length-drop i xs, length-drop (i + 1) xs)))

-- a frame in the order is a frame
pub order_within : (owners : List (Option UserPage)) (pins : List Bool) (order : List ℕ) → IsOrdered owners pins order
    → All (λ frame. frame < length owners) order
order_within owners pins order ordered =
    All-permutation (λ frame. frame < length owners) (range_with_len 0 (length owners)) order ordered.each
    (λ k d lt. let low : k < length owners = rw length-range_with_len at lt in let is = get_or-range_with_len 0
    (length owners) k d low in omega arith)

-- what is so of each frame in the order is so of each frame
pub all_frames_of : (owners : List (Option UserPage)) (pins : List Bool) (order : List ℕ) (P : ℕ → Type 0)
    → IsOrdered owners pins order → All P order → (k : ℕ) → k < length owners → P k
all_frames_of owners pins order P ordered all k lt =
    let long : k < length (range_with_len 0 (length owners)) = rw length-range_with_len lt in
    let here = All-permutation P order (range_with_len 0 (length owners)) (IsPermutation-sym _ _ ordered.each) all k 0
    long in
    let is : get_or (range_with_len 0 (length owners)) k 0 ≡ k =
    get_or-range_with_len 0 (length owners) k 0 lt ∙ zero-add k in
    rw is at here

-- If each frame in the order has an owner, each frame has one.
pub all_owned : (owners : List (Option UserPage)) (pins : List Bool) (order : List ℕ) → IsOrdered owners pins order
    → All (λ frame. IsSome (get_or owners frame None)) order → All IsSome owners
all_owned owners pins order ordered all k d lt =
    let here = all_frames_of owners pins order (λ frame. IsSome (get_or owners frame None)) ordered all k lt in
    rw (get_or_default owners k d None lt) here

-- If each frame in the order is pinned, all frames are.
pub all_pinned : (owners : List (Option UserPage)) (pins : List Bool) (order : List ℕ) → IsOrdered owners pins order
    → All (λ frame. get_or pins frame false ≡ true) order → All (λ pinned. pinned ≡ true) pins
all_pinned owners pins order ordered all k d lt =
    let here = all_frames_of owners pins order (λ frame. get_or pins frame false ≡ true) ordered all k
    (omega (arith, ordered.marks)) in
    rw (get_or_default pins k d false lt) here

-- the owner of a frame that is not pinned may change
pub ordered-set : (owners : List (Option UserPage)) (pins : List Bool) (order : List ℕ) (frame : ℕ)
    (o : Option UserPage) → IsOrdered owners pins order → get_or pins frame false ≡ false
    → IsOrdered (set owners frame o) pins order
ordered-set owners pins order frame o ordered unpinned = record {
  frames = rw length-set ordered.frames;
  marks = rw length-set ordered.marks;
  used = λ k pinned. (let off : k ≢
      frame = (λ e. let h : get_or pins k false ≡ false = ap (λ j. get_or pins j false) e ∙ unpinned in cc) in rw
      get_or-set_other (ordered.used k pinned));
  each = rw length-set ordered.each;
}

-- a free frame is not pinned
pub free_unpinned : (owners : List (Option UserPage)) (pins : List Bool) (order : List ℕ) (frame : ℕ)
    → IsOrdered owners pins order → get_or owners frame None ≡ None → get_or pins frame false ≡ false
free_unpinned owners pins order frame ordered free =
    let at : (b : Bool) → get_or pins frame false ≡ b → b ≡ false = elim [
      | true ↦ λ e. (let some = ordered.used frame e in let none : IsSome {T = UserPage} None = rw free at some in cc)
      | false ↦ λ e. refl
    ] in
    at (get_or pins frame false) refl

-- The order stays one when a frame goes to its end.
pub ordered-last : (owners : List (Option UserPage)) (pins : List Bool) (order : List ℕ) (turn : ℕ)
    → IsOrdered owners pins order → turn < length order
    → IsOrdered owners pins (remove order turn ++ get_or order turn 0 ∷ [])
ordered-last owners pins order turn ordered lt =
    let x : ℕ = get_or order turn 0 in
    let front : IsPermutation order (x ∷ remove order turn) =
    IsPermutation-remove order turn x lt (sym (get_or_default order turn x 0 lt)) in
    record {
      frames = ordered.frames;
      marks = ordered.marks;
      used = ordered.used;
      each = IsPermutation-trans _ _ _ ordered.each
          (IsPermutation-trans _ _ _ front (IsPermutation-sym _ _ (IsPermutation-to_front (remove order turn) x)));
    }

-- What follows from a value holds of a value that is there.
pub if_some : {X : Type 0} (o : Option X) (P Q : X → Type 0) → ((x : X) → P x → Q x) → IfSome o P → IfSome o Q
if_some None P Q f h = tt
if_some (Some x) P Q f h = f x h

-- What follows holds where no value is there.
pub if_none : {X : Type 0} (o : Option X) (A B : Type 0) → (A → B) → IfNone o A → IfNone o B
if_none None A B f h = f h
if_none (Some x) A B f h = tt

-- a page that is in no frame
pub not_held : (owners : List (Option UserPage)) (user page i : ℕ) → frame_of owners user page ≡ None
    → Holds owners i (owned user page) → ⊥
not_held owners user page i nowhere holds =
    let fails = none_found {X = Option UserPage} (is_page user page) 0 owners i None
    (held_place owners i (owned user page) holds) nowhere in
    let passes : is_page user page (get_or owners i None) ≡ true =
    ap (is_page user page) holds ∙ is_this_page user page in
    cc

-- A page that is in no frame is in none after another one was set.
pub absent_set : (owners : List (Option UserPage)) (user page frame : ℕ) (o : Option UserPage)
    → frame_of owners user page ≡ None → o ≢ Some (owned user page) → frame_of (set owners frame o) user page ≡ None
absent_set owners user page frame o nowhere ne =
    stands_nowhere (set owners frame o) user page (λ i h. elim (dec_eq frame i) [
      | yes e ↦ (let lt : frame
          < length owners = (let l = held_place (set owners frame o) i (owned user page) h in let n = length-set owners
          frame o in omega arith) in
          let here : o ≡ Some (owned user page) =
          sym (get_or-set_same owners frame o None lt) ∙ ap (λ j. get_or (set owners frame o) j None) e ∙ h in ne here)
      | no n ↦ (let off : i ≢ frame = (λ e. n (sym e)) in let there : get_or (set owners frame o) i None
          ≡ get_or owners i None = (rw get_or-set_other refl) in not_held owners user page i nowhere (sym there ∙ h))
    ])

-- the page in a frame, and the frame of a page
pub frame_inverse : (f : Inside) (frame : ℕ) (o : Option UserPage) → IsKept f → o ≡ get_or f.owners.items frame None →
    (p : UserPage) → ((o ≡ Some p) → frame_of f.owners.items p.user p.page.0 ≡ Some frame)
    × ((frame_of f.owners.items p.user p.page.0 ≡ Some frame) → o ≡ Some p)
frame_inverse f frame o kept e p = (
  λ h. let holds : Holds f.owners.items frame p = sym e ∙ h in
      in_frame f.owners.items f.slot_owners.items p.user p.page.0 frame kept.whole.once
      (kept.whole.once frame p (hold_left f.owners.items f.slot_owners.items frame p holds))
      (held_place f.owners.items frame p holds),
  λ h. e ∙ page_is f.owners.items p.user p.page.0 frame h,
)

-- The page in a frame lies in its user's storage.
pub frame_inside : (f : Inside) (frame : ℕ) (o : Option UserPage) → IsKept f → o ≡ get_or f.owners.items frame None →
    IfSome o (λ p. p.page.0 * 4096 < length (get_or (storages_of (places_in f) (owners_in f) f.sizes.items) p.user []))
frame_inside f frame None kept e = tt
frame_inside f frame (Some p) kept e =
    let small = kept.whole.inside frame p (hold_left f.owners.items f.slot_owners.items frame p (sym e)) in
    let long = length-bytes_of (places_in f) (owners_in f) f.sizes.items p.user in
    omega arith

-- a page that is somewhere is one of the largest storage, and its user is one of the users
pub small_page : (bytes : List (List ℕ)) (all : List (Option UserPage)) (sizes : List ℕ) (k : ℕ) (p : UserPage)
    → IsWhole bytes all sizes → get_or all k None ≡ Some p → (p.user < length sizes) × (p.page.0 < 1024)
small_page bytes all sizes k p whole e =
    let inside = whole.inside k p e in
    let small = whole.small p.user in
    elim (dec_lt p.user (length sizes)) [
      | yes lt ↦ (lt, omega arith)
      | no past ↦ let none = get_or_past sizes p.user 0 (omega arith) in absurd (omega arith)
    ]

-- the entry of a page that is somewhere is in each table
pub entry_room : (entry : Option ℕ → ℕ → ℕ) (bytes : List (List ℕ)) (all owners : List (Option UserPage))
    (sizes table : List ℕ) (k : ℕ) (o : Option UserPage) → IsWhole bytes all sizes → IsTabled entry owners sizes table
    → get_or all k None ≡ o →
    IfSome o (λ p. p.user * 1024 + p.page.0 < length table)
entry_room entry bytes all owners sizes table k None whole tabled e = tt
entry_room entry bytes all owners sizes table k (Some p) whole tabled e =
    let small = small_page bytes all sizes k p whole e in
    omega (arith, tabled.entries, small.0, small.1)
