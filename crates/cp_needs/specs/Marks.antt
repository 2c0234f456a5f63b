-- The index of a copied program: for each doubleword and role the number of its place, plus one;
-- zero where it has none.
use Rattle.std.specs.Prelude.{ℕ, ◌+◌, ◌-◌, ◌*◌, ◌/◌, ◌%◌, ◌<◌, ◌≡◌, ◌≢◌, ◌==◌, List, length}
use Rattle.std.specs.Prelude.{slice_index, slice_index_or, if◌then◌else◌}
use Rattle.std.specs.List.{sum_by}
use Rattle.s370_walk.specs.declared.places.CcwLocation.{CcwLocation}
use Rattle.s370_walk.specs.Copy.{past}

-- the number of a place's slot: two for each doubleword
abbrev pub slot_of : CcwLocation → ℕ
slot_of p = p.address / 8 * 2 + (if p.continues then 1 else 0)

-- a free slot counts one, a used one none
abbrev pub is_free : ℕ → ℕ
is_free v = if v == 0 then 1 else 0

-- how many places may still be added
unfoldable pub unmarked : List ℕ → ℕ
unmarked index = sum_by is_free index

-- the place of a slot
pub record IsAtSlot (places : List CcwLocation) (slot number : ℕ) : Type 0 where
  pub within : number < length places
  pub even : (slice_index_or places number (past number)).address % 8 ≡ 0
  pub is : slot_of (slice_index_or places number (past number)) ≡ slot

-- the index has exactly the numbers of these places, each in its slot
pub record IsIndexed (places : List CcwLocation) (index : List ℕ) : Type 0 where
  pub all : (slot : ℕ) → slice_index index slot ≢ 0
      → IsAtSlot places slot (slice_index index slot - 1)
  pub even : (i : ℕ) → i < length places → (slice_index_or places i (past i)).address % 8 ≡ 0
