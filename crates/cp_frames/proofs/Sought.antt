-- If a search for a free frame ends, and one for a free slot begins.
use Rattle.std.proofs.Common.{◌≡◌, ℕ, zero, suc, ◌+◌, ◌<◌, ◌≤◌, List, [], ◌∷◌, ◌++◌, length, get_or, take, drop, Option}
use Rattle.std.proofs.Common.{Some, None, get_or-set_other, get_or-set_same, refl, sym, ◌∙◌, ap, arith}
use Rattle.std.proofs.Math.ListN.{set}
use Rattle.std.specs.Prelude.{All, IsSome, is_some}
use Rattle.std.specs.List.{remove}
use Rattle.std.proofs.lemmas.List.{drop_all, get_or_default, take-set-le}
use Rattle.std.proofs.lemmas.List.Elements.{All-weaker, All-take}
use Rattle.std.proofs.lemmas.List.Sorted.{All-permutation, IsPermutation-sym, IsPermutation-trans, IsPermutation-remove}
use Rattle.std.proofs.lemmas.List.Sorted.{IsPermutation-to_front}
use Rattle.cp_frames.specs.declared.numbers.UserPage.{UserPage}
use Rattle.cp_frames.specs.Layout.{AreTaken}
use Rattle.cp_frames.proofs.Layouts.{dec_eq}
use Rattle.cp_frames.proofs.Orders.{all_from}

-- of no frames each is taken
pub none_taken : (owners : List (Option UserPage)) (order : List ℕ) (end : ℕ) → length order ≤ end
    → AreTaken owners (drop end order)
none_taken owners order end le = let none : drop end order ≡ [] =
    drop_all end order le in rw none (λ k d lt. absurd (omega (arith, lt)))

-- a frame stays taken where a page comes into one
stays_taken : (owners : List (Option UserPage)) (frame : ℕ) (page : UserPage) → frame < length owners → (k : ℕ)
    → IsSome (get_or owners k None) → IsSome (get_or (set owners frame (Some page)) k None)
stays_taken owners frame page lt k some = elim (dec_eq k frame) [
  | yes e ↦ (let now : get_or (set owners frame (Some page)) k None
      ≡ Some page = ap (λ j. get_or (set owners frame (Some page)) j None) e ∙ get_or-set_same owners frame (Some page)
      None lt in ap is_some now)
  | no n ↦ (let kept : get_or (set owners frame (Some page)) k None
      ≡ get_or owners k None = get_or-set_other owners frame k (Some page) None n in ap is_some kept ∙ some)
]

-- Frames that are taken stay taken when one more is.
pub taken-set : (owners : List (Option UserPage)) (frames : List ℕ) (frame : ℕ) (page : UserPage)
    → frame < length owners → AreTaken owners frames → AreTaken (set owners frame (Some page)) frames
taken-set owners frames frame page lt taken =
    All-weaker (λ k. IsSome (get_or owners k None)) (λ k. IsSome (get_or (set owners frame (Some page)) k None))
    (λ k some. stays_taken owners frame page lt k some) frames taken

-- once a page is in the frame of a turn, after which all frames are taken
pub taken_from : (owners : List (Option UserPage)) (order : List ℕ) (turn : ℕ) (page : UserPage) → turn < length order
    → get_or order turn 0 < length owners → AreTaken owners (drop (turn + 1) order) →
    AreTaken (set owners (get_or order turn 0) (Some page)) (drop turn order)
taken_from owners order turn page lt within later =
    let frame = get_or order turn 0 in
    let now : List (Option UserPage) = set owners frame (Some page) in
    let here : get_or now frame None ≡ Some page = get_or-set_same owners frame (Some page) None within in
    all_from (λ k. IsSome (get_or now k None)) order turn 0 lt (ap is_some here)
    (taken-set owners (drop (turn + 1) order) frame page within later)

-- where each frame has a page, those of the order have
pub all_taken : (owners : List (Option UserPage)) (order : List ℕ) → All (λ frame. frame < length owners) order
    → All IsSome owners → AreTaken owners order
all_taken owners order within all k d lt = all (get_or order k d) None (within k d lt)

-- If each frame of the order has an owner, all are taken.
pub taken_all : (owners : List (Option UserPage)) (order : List ℕ) (frame : ℕ) (page : UserPage) → frame < length owners
    → All (λ k. k < length owners) order → All IsSome owners → AreTaken (set owners frame (Some page)) order
taken_all owners order frame page lt within all =
    taken-set owners order frame page lt (all_taken owners order within all)

-- What is None is no value.
pub not_some : (o : Option UserPage) → o ≡ None → IsSome o → ⊥
not_some None e some = cc
not_some (Some page) e some = cc

-- the frame of a later turn is put last
pub all_last : (P : ℕ → Type 0) (order : List ℕ) (end turn : ℕ) → end ≤ turn → turn < length order
    → All P (drop end order) → All P (drop end (remove order turn ++ get_or order turn 0 ∷ []))
all_last P order zero turn le lt all =
    let x : ℕ = get_or order turn 0 in
    let front = IsPermutation-remove order turn x lt (sym (get_or_default order turn x 0 lt)) in
    All-permutation P order (remove order turn ++ x ∷ [])
    (IsPermutation-trans _ _ _ front (IsPermutation-sym _ _ (IsPermutation-to_front (remove order turn) x))) all
all_last P [] (suc end) turn le lt all = absurd (omega arith)
all_last P (y ∷ order) (suc end) zero le lt all = absurd (omega arith)
all_last P (y ∷ order) (suc end) (suc turn) le lt all = all_last P order end turn (omega arith) (omega arith) all

-- a slot that is taken, or that is not before where a search begins
pub low-set : (owners : List (Option UserPage)) (low slot : ℕ) (o : Option UserPage) → IsSome o
    → All IsSome (take low owners) → All IsSome (take low (set owners slot o))
low-set [] low slot o some all = all
low-set owners zero slot o some all = λ k d lt. absurd (omega (arith, lt))
low-set (x ∷ owners) (suc low) zero o some all =
    λ k d. (elim k as (λ n. n < length (o ∷ take low owners) → IsSome (get_or (o ∷ take low owners) n d))
    [ zero ↦ λ lt. some | suc n ↦ λ lt. all (suc n) d lt ])
low-set (x ∷ owners) (suc low) (suc slot) o some all =
    λ k d. (elim k as (λ n. n < length (x ∷ take low (set owners slot o))
    → IsSome (get_or (x ∷ take low (set owners slot o)) n d)) [
      | zero ↦ λ lt. all 0 d (omega arith)
      | suc n ↦ λ lt. low-set owners low slot o some (λ i e less. all (suc i) e (omega arith)) n d (omega arith)
    ])

-- The slots below the lowest free one stay taken when a higher one is set.
pub low_past : (owners : List (Option UserPage)) (low slot : ℕ) (o : Option UserPage) → low ≤ slot
    → All IsSome (take low owners) → All IsSome (take low (set owners slot o))
low_past owners low slot o le all = let same : take low (set owners slot o) ≡ take low owners =
    take-set-le low owners slot o le in rw same all

-- The slots below a freed one stay taken.
pub low_under : (owners : List (Option UserPage)) (low slot : ℕ) (o : Option UserPage) → slot ≤ low
    → All IsSome (take low owners) → All IsSome (take slot (set owners slot o))
low_under owners low slot o le all =
    let same : take slot (set owners slot o) ≡ take slot owners = take-set-le slot owners slot o (omega arith) in
    let part : take slot (take low owners) ≡ take slot owners = take_under owners slot low le in
    rw (same, ← part) (All-take IsSome slot (take low owners) all) where
      take_under : (xs : List (Option UserPage)) (n m : ℕ) → n ≤ m → take n (take m xs) ≡ take n xs
      take_under [] zero m le = refl
      take_under [] (suc n) zero le = refl
      take_under [] (suc n) (suc m) le = refl
      take_under xs zero m le = refl
      take_under (x ∷ xs) (suc n) zero le = absurd (omega arith)
      take_under (x ∷ xs) (suc n) (suc m) le = ap (λ ys. x ∷ ys) (take_under xs n m (omega arith))
