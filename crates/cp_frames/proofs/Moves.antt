-- What it does to each user's storage that the pages of two places change places.
use Rattle.std.proofs.Common.{◌≡◌, ℕ, zero, suc, ◌+◌, ◌*◌, ◌/◌, ◌%◌, ◌<◌, List, [], ◌∷◌, length, get_or, Bool, true}
use Rattle.std.proofs.Common.{false, cond, Option, Some, None, refl, sym, ◌∙◌, ap, arith}
use Rattle.std.specs.Prelude.{◌==◌}
use Rattle.std.specs.List.{position_from}
use Rattle.cp_frames.specs.declared.numbers.UserPage.{UserPage}
use Rattle.cp_frames.specs.Layout.{owned, is_page, frame_of, byte_in, byte_at, storage_of, storages_of, Holds, IsWhole}
use Rattle.cp_frames.proofs.Layouts.{map_range_same, is_this_page}
use Rattle.cp_frames.proofs.Tables.{page_is}

-- new has in each place what old has in the place that goes there, and a place goes there and back
pub record IsMoved (to : ℕ → ℕ) (old new : List (List ℕ)) (owners after : List (Option UserPage)) : Type 0 where
  pub back : (k : ℕ) → to (to k) ≡ k
  pub bytes : (k : ℕ) → get_or new k [] ≡ get_or old (to k) []
  pub pages : (k : ℕ) → get_or after k None ≡ get_or owners (to k) None
  pub long : length new ≡ length old
  pub count : length after ≡ length owners

-- a search that finds nothing
pub none_found : {X : Type 0} (p : X → Bool) (k : ℕ) (xs : List X) (i : ℕ) (d : X) → i < length xs
    → position_from p k xs ≡ None → p (get_or xs i d) ≡ false
none_found p k [] i d lt e = absurd (omega arith)
none_found p k (x ∷ xs) zero d lt e =
    elim (p x) as (λ b. cond b (Some k) (position_from p (k + 1) xs) ≡ None → b ≡ false)
    [ true ↦ λ h. cc | false ↦ λ h. refl ] e
none_found p k (x ∷ xs) (suc i) d lt e =
    elim (p x) as (λ b. cond b (Some k) (position_from p (k + 1) xs) ≡ None → p (get_or xs i d) ≡ false) [
      | true ↦ λ h. cc
      | false ↦ λ h. none_found p (k + 1) xs i d (omega arith) h
    ] e

-- a place with a page is one of the places
pub held_place : (owners : List (Option UserPage)) (frame : ℕ) (page : UserPage) → Holds owners frame page
    → frame < length owners
held_place [] zero page e = cc
held_place [] (suc frame) page e = cc
held_place (o ∷ owners) zero page e = omega arith
held_place (o ∷ owners) (suc frame) page e = let rest = held_place owners frame page e in omega arith

-- a page is where it is held, if it is held there alone
pub stands_alone : (owners : List (Option UserPage)) (user page j : ℕ) → Holds owners j (owned user page)
    → ((i : ℕ) → Holds owners i (owned user page) → i ≡ j) → frame_of owners user page ≡ Some j
stands_alone owners user page j holds alone =
    let at : (o : Option ℕ) → frame_of owners user page ≡ o → o ≡ Some j = elim [
      | None ↦ λ e. (let no = none_found {X = Option UserPage} (is_page user page) 0 owners j None
          (held_place owners j (owned user page) holds) e in
          let yes : is_page user page (get_or owners j None) ≡ true =
          ap (is_page user page) holds ∙ is_this_page user page in cc)
      | Some i ↦ λ e. ap Some (alone i (page_is owners user page i e))
    ] in
    at (frame_of owners user page) refl

-- A page that has no place is in no frame.
pub stands_nowhere : (owners : List (Option UserPage)) (user page : ℕ)
    → ((i : ℕ) → Holds owners i (owned user page) → ⊥) → frame_of owners user page ≡ None
stands_nowhere owners user page never =
    let at : (o : Option ℕ) → frame_of owners user page ≡ o → o ≡ None = elim [
      | None ↦ λ e. refl
      | Some i ↦ λ e. absurd (never i (page_is owners user page i e))
    ] in
    at (frame_of owners user page) refl

abbrev pub moved_to : (ℕ → ℕ) → Option ℕ → Option ℕ
moved_to to None = None
moved_to to (Some k) = Some (to k)

-- a page is where its place went
pub frame_of-moved : (to : ℕ → ℕ) (old new : List (List ℕ)) (owners after : List (Option UserPage)) (sizes : List ℕ)
    (user page : ℕ) → IsWhole old owners sizes → IsMoved to old new owners after →
    frame_of after user page ≡ moved_to to (frame_of owners user page)
frame_of-moved to old new owners after sizes user page whole moved =
    let before : (i : ℕ) → Holds after i (owned user page)
    → frame_of owners user page ≡ Some (to i) =
    λ i holds. whole.once (to i) (owned user page) (sym (moved.pages i) ∙ holds) in
    let at : (o : Option ℕ) → frame_of owners user page ≡ o → frame_of after user page ≡ moved_to to o = elim [
      | None ↦ λ e. stands_nowhere after user page (λ i holds. let b = before i holds in cc)
      | Some k ↦ λ e.
          let here : Holds after (to k) (owned user page) =
          moved.pages (to k) ∙ ap (λ j. get_or owners j None) (moved.back k) ∙ page_is owners user page k e in
          stands_alone after user page (to k) here
          (λ i holds. let b = before i holds in let same : to i ≡ k = cc in sym (moved.back i) ∙ ap to same)
    ] in
    at (frame_of owners user page) refl

byte_in-moved : (to : ℕ → ℕ) (old new : List (List ℕ)) (owners after : List (Option UserPage)) (o : Option ℕ)
    (offset : ℕ) → IsMoved to old new owners after → byte_in new (moved_to to o) offset ≡ byte_in old o offset
byte_in-moved to old new owners after None offset moved = refl
byte_in-moved to old new owners after (Some k) offset moved =
    ap (λ (b : List ℕ). get_or b offset 0) (moved.bytes (to k) ∙ ap (λ j. get_or old j []) (moved.back k))

-- Storages stay when all pages move with their bytes.
pub storages-moved : (to : ℕ → ℕ) (old new : List (List ℕ)) (owners after : List (Option UserPage)) (sizes : List ℕ)
    → IsWhole old owners sizes → IsMoved to old new owners after →
    storages_of new after sizes ≡ storages_of old owners sizes
storages-moved to old new owners after sizes whole moved =
    map_range_same (λ h. storage_of old owners h (get_or sizes h 0)) (λ h. storage_of new after h (get_or sizes h 0)) 0
    (length sizes)
    (λ h low high. map_range_same (byte_at old owners h) (byte_at new after h) 0 (get_or sizes h 0 * 4096)
    (λ k _ _. ap (λ o. byte_in new o (k % 4096)) (frame_of-moved to old new owners after sizes h (k / 4096) whole moved)
    ∙ byte_in-moved to old new owners after (frame_of owners h (k / 4096)) (k % 4096) moved))

-- Each page has a place still when all move with their bytes.
pub whole-moved : (to : ℕ → ℕ) (old new : List (List ℕ)) (owners after : List (Option UserPage)) (sizes : List ℕ)
    → IsWhole old owners sizes → IsMoved to old new owners after → IsWhole new after sizes
whole-moved to old new owners after sizes whole moved = record {
  room = moved.long ∙ whole.room ∙ sym moved.count;
  small = whole.small;
  once = λ f p holds. (let was = whole.once (to f) p (sym (moved.pages f) ∙ holds) in
      frame_of-moved to old new owners after sizes p.user p.page.0 whole moved ∙ ap (moved_to to) was ∙ ap Some
      (moved.back f));
  inside = λ f p holds. whole.inside (to f) p (sym (moved.pages f) ∙ holds);
}

-- two places that change places
abbrev pub crossed : ℕ → ℕ → ℕ → ℕ
crossed f g k = cond (k == f) g (cond (k == g) f k)
