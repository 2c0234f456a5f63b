-- Frames and slots as one list of places.
use Rattle.std.proofs.Common.{◌≡◌, ◌≢◌, ℕ, ◌+◌, ◌-◌, ◌<◌, ◌≤◌, List, [], ◌++◌, length, get_or, true, false, Option}
use Rattle.std.proofs.Common.{Some, None, refl, get_or-set_other, get_or-set_same, sym, ◌∙◌, ap, arith, length-append}
use Rattle.std.proofs.Math.Decide.{dec_lt}
use Rattle.std.specs.Prelude.{◌==◌}
use Rattle.std.proofs.Math.ListN.{set, length-set}
use Rattle.std.proofs.lemmas.List.{get_or_append_left, get_or-append_right, set-append_left, set-append_right}
use Rattle.std.proofs.lemmas.Bool.Decides.{nat_tests}
use Rattle.cp_frames.specs.declared.numbers.UserPage.{UserPage}
use Rattle.cp_frames.specs.Layout.{owned, frame_of, Holds}
use Rattle.cp_frames.proofs.Layouts.{dec_eq}
use Rattle.cp_frames.proofs.Tables.{page_is}
use Rattle.cp_frames.proofs.Moves.{IsMoved, stands_alone, stands_nowhere, held_place, crossed}

-- A page in the frames is in the frames and slots together.
pub hold_left : (owners slots : List (Option UserPage)) (i : ℕ) (page : UserPage) → Holds owners i page
    → Holds (owners ++ slots) i page
hold_left owners slots i page h = get_or_append_left owners slots None i (held_place owners i page h) ∙ h

-- The elements after a list are those of the list that follows it.
pub at_right : {X : Type 0} (xs ys : List X) (i : ℕ) (d : X) → get_or (xs ++ ys) (length xs + i) d ≡ get_or ys i d
at_right xs ys i d = get_or-append_right xs ys (length xs) (length xs + i) d refl (omega arith) ∙ ap
    (λ k. get_or ys k d) (omega arith)

-- A page in the slots is in the frames and slots together.
pub hold_right : (owners slots : List (Option UserPage)) (i : ℕ) (page : UserPage) → Holds slots i page
    → Holds (owners ++ slots) (length owners + i) page
hold_right owners slots i page h = at_right owners slots i None ∙ h

-- each page is in one place at most
abbrev pub IsOnce : List (Option UserPage) → Type 0
IsOnce all = (place : ℕ) (page : UserPage) → Holds all place page → frame_of all page.user page.page.0 ≡ Some place

-- A page whose place is below the number of frames is in that frame.
pub in_frame : (owners slots : List (Option UserPage)) (user page k : ℕ) → IsOnce (owners ++ slots)
    → frame_of (owners ++ slots) user page ≡ Some k → k < length owners → frame_of owners user page ≡ Some k
in_frame owners slots user page k once e lt =
    stands_alone owners user page k
    (sym (get_or_append_left owners slots None k lt) ∙ page_is (owners ++ slots) user page k e)
    (λ i h. let at = once i (owned user page) (hold_left owners slots i (owned user page) h) in cc)

pub in_slot : (owners slots : List (Option UserPage)) (user page k : ℕ) → IsOnce (owners ++ slots)
    → frame_of (owners ++ slots) user page ≡ Some k → length owners ≤ k
    → frame_of slots user page ≡ Some (k - length owners)
in_slot owners slots user page k once e le =
    stands_alone slots user page (k - length owners)
    (sym (get_or-append_right owners slots (length owners) k None refl le) ∙ page_is (owners ++ slots) user page k
    e)
    (λ i h. let at = once (length owners + i) (owned user page) (hold_right owners slots i (owned user page) h) in let
    same : length owners + i ≡ k = cc in omega arith)

pub no_frame_of_none : (owners slots : List (Option UserPage)) (user page : ℕ) → IsOnce (owners ++ slots)
    → frame_of (owners ++ slots) user page ≡ None → frame_of owners user page ≡ None
no_frame_of_none owners slots user page once e =
    stands_nowhere owners user page
    (λ i h. let at = once i (owned user page) (hold_left owners slots i (owned user page) h) in cc)

pub no_slot_of_none : (owners slots : List (Option UserPage)) (user page : ℕ) → IsOnce (owners ++ slots)
    → frame_of (owners ++ slots) user page ≡ None → frame_of slots user page ≡ None
no_slot_of_none owners slots user page once e =
    stands_nowhere slots user page
    (λ i h. let at = once (length owners + i) (owned user page) (hold_right owners slots i (owned user page) h) in cc)

-- A page whose place is a slot is in no frame.
pub no_frame_of_slot : (owners slots : List (Option UserPage)) (user page k : ℕ) → IsOnce (owners ++ slots)
    → frame_of (owners ++ slots) user page ≡ Some k → length owners ≤ k → frame_of owners user page ≡ None
no_frame_of_slot owners slots user page k once e le = stands_nowhere owners user page
    (λ i h. let at = once i (owned user page) (hold_left owners slots i (owned user page) h) in let same : i
    ≡ k = cc in let lt = held_place owners i (owned user page) h in absurd (omega arith))

-- A page whose place is a frame is in no slot.
pub no_slot_of_frame : (owners slots : List (Option UserPage)) (user page k : ℕ) → IsOnce (owners ++ slots)
    → frame_of (owners ++ slots) user page ≡ Some k → k < length owners → frame_of slots user page ≡ None
no_slot_of_frame owners slots user page k once e lt = stands_nowhere slots user page
    (λ i h. let at = once (length owners + i) (owned user page) (hold_right owners slots i (owned user page) h) in let
    same : length owners + i ≡ k = cc in absurd (omega arith))

-- If no page has two places, none has two frames.
pub once_left : (owners slots : List (Option UserPage)) → IsOnce (owners ++ slots) → IsOnce owners
once_left owners slots once k p h =
    in_frame owners slots p.user p.page.0 k once (once k p (hold_left owners slots k p h)) (held_place owners k p h)

-- If no page has two places, none has two slots.
pub once_right : (owners slots : List (Option UserPage)) → IsOnce (owners ++ slots) → IsOnce slots
once_right owners slots once k p h =
    in_slot owners slots p.user p.page.0 (length owners + k) once
    (once (length owners + k) p (hold_right owners slots k p h)) (omega arith) ∙ ap Some (omega arith)

-- A page in a frame has that frame as its place.
pub from_frame : (owners slots : List (Option UserPage)) (user page k : ℕ) → IsOnce (owners ++ slots)
    → frame_of owners user page ≡ Some k → frame_of (owners ++ slots) user page ≡ Some k
from_frame owners slots user page k once e =
    once k (owned user page) (hold_left owners slots k (owned user page) (page_is owners user page k e))

-- A page in no frame and no slot has no place.
pub from_none : (owners slots : List (Option UserPage)) (user page : ℕ) → IsOnce (owners ++ slots)
    → frame_of owners user page ≡ None → frame_of slots user page ≡ None → frame_of (owners ++ slots) user page ≡ None
from_none owners slots user page once no_frame no_slot =
    let at : (o : Option ℕ) → frame_of (owners ++ slots) user page ≡ o → o ≡ None = elim [
      | None ↦ λ e. refl
      | Some k ↦ λ e. elim (dec_lt k (length owners)) [
        | yes lt ↦ let f = in_frame owners slots user page k once e lt in cc
        | no past ↦ let s = in_slot owners slots user page k once e (omega arith) in cc
      ]
    ] in
    at (frame_of (owners ++ slots) user page) refl

-- a page in a frame is in no slot, and a page in a slot in no frame
pub frame_apart : (owners slots : List (Option UserPage)) (user page k : ℕ) → IsOnce (owners ++ slots)
    → frame_of owners user page ≡ Some k → frame_of slots user page ≡ None
frame_apart owners slots user page k once e =
    no_slot_of_frame owners slots user page k once (from_frame owners slots user page k once e)
    (held_place owners k (owned user page) (page_is owners user page k e))

-- A page in a slot is in no frame.
pub slot_apart : (owners slots : List (Option UserPage)) (user page k : ℕ) → IsOnce (owners ++ slots)
    → frame_of slots user page ≡ Some k → frame_of owners user page ≡ None
slot_apart owners slots user page k once e =
    no_frame_of_slot owners slots user page (length owners + k) once
    (once (length owners + k) (owned user page)
    (hold_right owners slots k (owned user page) (page_is slots user page k e))) (omega arith)

-- two places that change places
cross_first : (f g k : ℕ) → k ≡ f → crossed f g k ≡ g
cross_first f g k e = let t : (k == f) ≡ true = grind (arith, nat_tests) in rw t refl

cross_second : (f g k : ℕ) → k ≢ f → k ≡ g → crossed f g k ≡ f
cross_second f g k ne e = let t : (k == f) ≡ false = grind (arith, nat_tests) in let u : (k == g) ≡ true =
    grind (arith, nat_tests) in rw (t, u) refl

cross_else : (f g k : ℕ) → k ≢ f → k ≢ g → crossed f g k ≡ k
cross_else f g k ne other = let t : (k == f) ≡ false = grind (arith, nat_tests) in let u : (k == g) ≡ false =
    grind (arith, nat_tests) in rw (t, u) refl

cross_back : (f g : ℕ) → f ≢ g → (k : ℕ) → crossed f g (crossed f g k) ≡ k
cross_back f g ne k = elim (dec_eq k f) [
  | yes e ↦ ap (crossed f g) (cross_first f g k e) ∙ cross_second f g g (λ h. ne (sym h)) refl ∙ sym e
  | no n ↦ elim (dec_eq k g) [
    | yes e ↦ ap (crossed f g) (cross_second f g k n e) ∙ cross_first f g f refl ∙ sym e
    | no m ↦ ap (crossed f g) (cross_else f g k n m) ∙ cross_else f g k n m
  ]
]

cross_is : {X : Type 0} (xs ys : List X) (f s : ℕ) (a b : X) → f < length xs
    → set xs f a ++ set ys s b ≡ set (set (xs ++ ys) (length xs + s) b) f a
cross_is xs ys f s a b lt =
    let right : set (xs ++ ys) (length xs + s) b ≡ xs
    ++ set ys s b = set-append_right xs ys (length xs) (length xs + s) b refl (omega arith) ∙ ap
    (λ k. xs ++ set ys k b) (omega arith) in
    sym (ap (λ zs. set zs f a) right ∙ set-append_left xs (set ys s b) f a lt)

cross_get : {X : Type 0} (xs ys : List X) (f s : ℕ) (d : X) → f < length xs → s < length ys → (k : ℕ) →
    get_or (set xs f (get_or ys s d) ++ set ys s (get_or xs f d)) k d
    ≡ get_or (xs ++ ys) (crossed f (length xs + s) k) d
cross_get {X} xs ys f s d lt less k =
    let all : List X = xs ++ ys in
    let g : ℕ = length xs + s in
    let long : length all ≡ length xs + length ys = length-append xs ys in
    let a : X = get_or ys s d in
    let b : X = get_or xs f d in
    let of_a : a ≡ get_or all g d = sym (at_right xs ys s d) in
    let of_b : b ≡ get_or all f d = sym (get_or_append_left xs ys d f lt) in
    let inner : List X = set all g b in
    let long_inner : length inner ≡ length all = length-set all g b in
    ap (λ zs. get_or zs k d) (cross_is xs ys f s a b lt) ∙ elim (dec_eq k f) [
      | yes e ↦ ap (λ j. get_or (set inner f a) j d) e ∙ get_or-set_same inner f a d (omega arith) ∙ of_a ∙ ap
          (λ j. get_or all j d) (sym (cross_first f g k e))
      | no n ↦ (let out : f ≢ k = (λ h. n (sym h)) in rw get_or-set_other (elim (dec_eq k g) [
        | yes e ↦ ap (λ j. get_or inner j d) e ∙ get_or-set_same all g b d (omega arith) ∙ of_b ∙ ap
            (λ j. get_or all j d) (sym (cross_second f g k n e))
        | no m ↦ (let off : g ≢ k = (λ h. m (sym h)) in rw get_or-set_other
            (ap (λ j. get_or all j d) (sym (cross_else f g k n m))))
      ]))
    ]

-- what is in a frame and what is in a slot change places, with their bytes
pub crossed-moved : (frames bytes : List (List ℕ)) (owners slots : List (Option UserPage)) (f s : ℕ)
    → length frames ≡ length owners → length bytes ≡ length slots → f < length owners → s < length slots →
    IsMoved (crossed f (length owners + s)) (frames ++ bytes)
    (set frames f (get_or bytes s []) ++ set bytes s (get_or frames f [])) (owners ++ slots)
    (set owners f (get_or slots s None) ++ set slots s (get_or owners f None))
crossed-moved frames bytes owners slots f s room slot_room lt less = record {
  back = cross_back f (length owners + s) (λ e. absurd (omega arith));
  bytes = λ k. cross_get frames bytes f s [] (omega arith) (omega arith) k ∙ ap
      (λ n. get_or (frames ++ bytes) (crossed f (n + s) k) []) room;
  pages = λ k. cross_get owners slots f s None lt less k;
  long = ap length (cross_is frames bytes f s (get_or bytes s []) (get_or frames f []) (omega arith)) ∙ length-set _ _ _
      ∙ length-set _ _ _;
  count = ap length (cross_is owners slots f s (get_or slots s None) (get_or owners f None) lt) ∙ length-set _ _ _ ∙
      length-set _ _ _;
}
