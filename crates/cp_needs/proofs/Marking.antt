-- Lemmas of specs/Marks.
use Rattle.std.specs.Prelude.{zero, suc, ℕ, ◌+◌, ◌-◌, ◌*◌, ◌/◌, ◌%◌, ◌<◌, ◌≤◌, ◌≡◌, ◌≢◌, ◌==◌, ◌⊎◌, List, [], ◌∷◌, ◌++◌}
use Rattle.std.specs.Prelude.{length, slice_index, slice_index_or, slice_set, refl, Bool, true, false, if◌then◌else◌}
use Rattle.std.specs.List.{sum_by}
use Rattle.std.proofs.Common.{sym, ◌∙◌, ap, arith, inl, inr, length-append}
use Rattle.std.proofs.Math.Seq.{get_or-append_seam}
use Rattle.std.proofs.lemmas.List.{get_or_append_left, get_or-set_same, get_or-set_other}
use Rattle.std.specs.Prelude.{replicate}
use Rattle.std.proofs.lemmas.List.Sums.{sum_by-set, sum_by-cons}
use Rattle.std.proofs.lemmas.Bool.Decides.{nat_tests}
use Rattle.s370_walk.specs.declared.places.CcwLocation.{CcwLocation}
use Rattle.s370_walk.specs.Copy.{past}
use Rattle.cp_needs.specs.Marks.{slot_of, is_free, unmarked, IsAtSlot, IsIndexed}

not_free : (v : ℕ) → v ≢ 0 → is_free v ≡ 0
not_free v some = by_test (v == 0) refl
  where
    by_test : (b : Bool) → (v == 0) ≡ b → ◌≡◌ {A = ℕ} (if b then 1 else 0) 0
    by_test true e = (let no : v ≡ 0 = grind (arith, nat_tests) in absurd (some no))
    by_test false e = refl

-- Marking a slot makes one fewer unmarked.
pub marked : (index : List ℕ) (i v : ℕ) → i < length index → slice_index index i ≡ 0 → v ≢ 0
    → unmarked (slice_set index i v) + 1 ≡ unmarked index
unfolding unmarked
marked index i v lt zero_is some =
    let e = sum_by-set is_free index i v 0 lt in
    let was : is_free (slice_index index i) ≡ 1 = rw zero_is refl in
    let is : is_free v ≡ 0 = not_free v some in
    omega (arith, e, was, is)

place_same : (p q : CcwLocation) → p.address ≡ q.address → p.continues ≡ q.continues → p ≡ q
place_same p q a c =
    let at : ℕ → CcwLocation = λ x. record { address = x; continues = p.continues } in
    let as_role : Bool → CcwLocation = λ y. record { address = q.address; continues = y } in
    ap at a ∙ ap as_role c

slot_even : (p q : CcwLocation) → p.address % 8 ≡ 0 → q.address % 8 ≡ 0 → slot_of p ≡ slot_of q → p ≡ q
slot_even p q x y e = by_roles p.continues q.continues refl refl e
  where
    by_roles : (b c : Bool) → p.continues ≡ b → q.continues ≡ c
        → p.address / 8 * 2 + (if b then 1 else 0) ≡ q.address / 8 * 2 + (if c then 1 else 0) → p ≡ q
    by_roles true true f g e = place_same p q (omega (arith, x, y, e)) (f ∙ sym g)
    by_roles false false f g e = place_same p q (omega (arith, x, y, e)) (f ∙ sym g)
    by_roles true false f g e = (let no : ⊥ = omega (arith, e) in absurd no)
    by_roles false true f g e = (let no : ⊥ = omega (arith, e) in absurd no)

-- a place that the index reports is the one
pub indexed_place : (places : List CcwLocation) (index : List ℕ) (place : CcwLocation) (number : ℕ)
    → IsIndexed places index → place.address % 8 ≡ 0 → slice_index index (slot_of place) ≢ 0
    → number ≡ slice_index index (slot_of place) - 1
    → (number < length places) × (slice_index_or places number (past number) ≡ place)
indexed_place places index place number known even some is =
    let x = known.all (slot_of place) some in
    rw is (x.within, slot_even _ place x.even even x.is)

-- one more place is reported of
pub indexed_push : (places : List CcwLocation) (index : List ℕ) (place : CcwLocation) (v : ℕ) → IsIndexed places index
    → slot_of place < length index → place.address % 8 ≡ 0 → v ≡ length places + 1
    → IsIndexed (places ++ place ∷ []) (slice_set index (slot_of place) v)
indexed_push places index place v known room even is = record {
  all = λ slot some. by_slot slot some
      (same_or_not slot (slot_of place));
  even = λ i lt. by_place i lt
      (at_or_before i (length places) (omega (arith, lt, longer)));
}
  where
    longer : length (places ++ place ∷ []) ≡ length places + 1
    longer = omega (arith, length-append places (place ∷ []))

    at_or_before : (i n : ℕ) → i < n + 1 → (i < n) ⊎ (i ≡ n)
    at_or_before i n h = grind arith

    by_place : (i : ℕ) → i < length (places ++ place ∷ []) → (i < length places) ⊎ (i ≡ length places)
        → (slice_index_or (places ++ place ∷ []) i (past i)).address % 8 ≡ 0
    by_place i lt (inl before) = rw (get_or_append_left places (place ∷ []) (past i) i before) (known.even i before)
    by_place i lt (inr at) = rw (at, get_or-append_seam places place [] (past (length places))) even

    same_or_not : (a b : ℕ) → (a ≡ b) ⊎ (a ≢ b)
    same_or_not a b = grind arith

    by_slot : (slot : ℕ) → slice_index (slice_set index (slot_of place) v) slot ≢ 0 → (slot ≡ slot_of place)
        ⊎ (slot ≢ slot_of place) → IsAtSlot (places ++ place ∷ []) slot
        (slice_index (slice_set index (slot_of place) v) slot - 1)
    by_slot slot some (inr other) =
        let same : slice_index (slice_set index (slot_of place) v) slot ≡ slice_index index slot = get_or-set_other
        index (slot_of place) slot v 0 other in
        let x = known.all slot (rw same at some) in
        let left = get_or_append_left places (place ∷ []) (past (slice_index index slot - 1))
        (slice_index index slot - 1) x.within in
        rw same (record {
          within = (let w = x.within in omega (arith, w, longer));
          even = rw left x.even;
          is = rw left x.is;
        })
    by_slot slot some (inl at) =
        let same : slice_index (slice_set index (slot_of place) v) slot ≡ v = ap
        (λ k. slice_index (slice_set index (slot_of place) v) k) at
        ∙ get_or-set_same index (slot_of place) v 0 room in
        let number : v - 1 ≡ length places = omega (arith, is) in
        let found : slice_index_or (places ++ place ∷ []) (length places)
        (past (length places)) ≡ place = get_or-append_seam places place [] (past (length places)) in
        rw (same, number) (record { within = omega (arith, longer); even = rw found even; is = rw found (sym at) })

-- an index of zeros reports no place
pub indexed_none : (n : ℕ) → IsIndexed [] (replicate n 0)
indexed_none n = record {
  all = λ slot some. absurd (some (get_or-replicate_same n slot));
  even = λ i lt. (let no : ⊥ = omega (arith, lt) in absurd no);
}
  where
    get_or-replicate_same : (n slot : ℕ) → slice_index (replicate n 0) slot ≡ 0
    get_or-replicate_same zero slot = refl
    get_or-replicate_same (suc n) zero = refl
    get_or-replicate_same (suc n) (suc slot) = get_or-replicate_same n slot

-- There are no more unmarked slots than slots.
pub unmarked_few : (index : List ℕ) → unmarked index ≤ length index
unfolding unmarked
unmarked_few [] = omega arith
unmarked_few (v ∷ index) = (let more : sum_by is_free index ≤ length index = unmarked_few index in
    let one = free_few v in let split : sum_by is_free (v ∷ index) ≡ is_free v + sum_by is_free index = sum_by-cons
    is_free v index in let long : length (v ∷ index) ≡ 1 + length index = omega arith in
    let sum : sum_by is_free (v ∷ index) ≤ length (v ∷ index) = omega (arith, more, one, split, long) in sum)
  where
    free_few : (v : ℕ) → is_free v ≤ 1
    free_few v = by_test (v == 0)
      where
        by_test : (b : Bool) → (if b then 1 else 0) ≤ 1
        by_test true = omega arith
        by_test false = omega arith
