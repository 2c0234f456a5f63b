-- The tests that are made of an access to storage: IBM System/370 Principles of Operation
-- (GA22-7000), "Protection", "Addressing Exception" and "Protection Exception".
use Rattle.std.specs.Prelude.{◌≡◌, ℕ, ◌+◌, ◌*◌, ◌/◌, ◌%◌, ◌<◌, ◌≤◌, Bool, true, false, ◌&&◌, ◌||◌}
use Rattle.std.specs.Prelude.{◌==◌, nat_le, List, [], ◌∷◌, length, slice_index, take, drop, ◌++◌}
use Rattle.std.specs.Prelude.{Option, Some, None, Result, Ok, Err, if◌then◌else◌, ◌⊎◌, zero, suc, ⊤}
use Rattle.s370_store.specs.declared.Access.{Access}
use Rattle.s370_store.specs.declared.Access.TheVariants.{Fetch, Store}
use Rattle.s370_store.specs.declared.Fault.{Fault}
use Rattle.s370_store.specs.declared.Fault.TheVariants.{Addressing, Protection, Absent}
use Rattle.s370_store.specs.declared.Range.{Range}

-- one access that is to be tested: its kind, the address of its first byte, and how many bytes it
-- has
pub record Test : Type 0 where
  pub access : Access
  pub start : ℕ
  pub count : ℕ

-- the access of this kind to this range
abbrev pub tested : Access → Range → Test
tested access range = record { access = access; start = range.start; count = range.count }

-- the access of this kind to so many bytes from an address on
abbrev pub test_of : Access → ℕ → ℕ → Test
test_of access start count = record { access = access; start = start; count = count }

-- whether an access with this protection key passes a block with this key in storage: the key in
-- storage has four bits of access control, and a last bit of fetch protection; a store passes where
-- the access control matches the protection key, a fetch also where the bit is zero, and the
-- protection key zero passes always
unfoldable pub is_passed : Access → ℕ → ℕ → Bool
is_passed Fetch key block = (key == 0) || ((key == block / 2) || (block % 2 == 0))
is_passed Store key block = (key == 0) || (key == block / 2)

-- each byte of the range lies in a storage of this size
unfoldable pub is_addressable : ℕ → Test → Bool
is_addressable size t = (t.count == 0) || nat_le (t.start + t.count) size

-- each of the n bytes from start may be accessed: the block of 2048 bytes in which it lies passes
-- it
abbrev pub is_permitted_from : List ℕ → ℕ → Access → ℕ → ℕ → Bool
is_permitted_from keys key access start zero = true
is_permitted_from keys key access start (suc n) =
    is_passed access key (slice_index keys ((start + n) / 2048)) && is_permitted_from keys key
    access start n

-- each byte of the range may be accessed
unfoldable pub is_permitted : List ℕ → ℕ → Test → Bool
is_permitted keys key t = is_permitted_from keys key t.access t.start t.count

-- each byte of each range lies in the storage
abbrev pub are_addressable : ℕ → List Test → Bool
are_addressable size [] = true
are_addressable size (t ∷ ts) = is_addressable size t && are_addressable size ts

-- each byte of each range may be accessed
abbrev pub are_permitted : List ℕ → ℕ → List Test → Bool
are_permitted keys key [] = true
are_permitted keys key (t ∷ ts) = is_permitted keys key t && are_permitted keys key ts

-- what the tests together fail with, if they do: addressing of each range comes before protection
-- of any
abbrev pub first_fault : ℕ → List ℕ → ℕ → List Test → Option Fault
first_fault size keys key ts =
    if are_addressable size ts then (if are_permitted keys key ts then None else Some Protection)
    else Some Addressing

-- a range that may be loaded and stored: it lies in the storage, and the page of 4096 bytes of each
-- byte is present
pub record IsGranted (size : ℕ) (present : ℕ → Bool) (start count : ℕ) : Type 0 where
  pub inside : start + count ≤ size
  pub here : (k : ℕ) → k < count → present ((start + k) / 4096) ≡ true

-- each range that has a byte may be loaded and stored
abbrev pub AreGranted : ℕ → (ℕ → Bool) → List Test → Type 0
AreGranted size present [] = Unit {0}
AreGranted size present (t ∷ ts) = (0 < t.count → IsGranted size present t.start t.count)
    × AreGranted size present ts

-- the page has a byte of one of the ranges
abbrev pub Touches : List Test → ℕ → Type 0
Touches [] page = ⊥
Touches (t ∷ ts) page = ((k : ℕ) × (k < t.count) × (page ≡ (t.start + k) / 4096)) ⊎ Touches ts page

-- a page of the storage that is not present
pub record IsAbsent (size : ℕ) (present : ℕ → Bool) (page : ℕ) : Type 0 where
  pub inside : page * 4096 < size
  pub away : present page ≡ false

-- what a check of the ranges may answer: what the tests fail with, or, only where they pass, a page
-- of them that is not present; or that all is granted
abbrev pub IsVerdict : ℕ → List ℕ → (ℕ → Bool) → ℕ → List Test → Result ⊤ Fault → Type 0
IsVerdict size keys present key ts (Ok _) = (first_fault size keys key ts ≡ None)
    × AreGranted size present ts
IsVerdict size keys present key ts (Err Addressing) = first_fault size keys key ts ≡ Some Addressing
IsVerdict size keys present key ts (Err Protection) = first_fault size keys key ts ≡ Some Protection
IsVerdict size keys present key ts (Err (Absent page)) =
    (first_fault size keys key ts ≡ None) × IsAbsent size present page.0 × Touches ts page.0

-- the bytes with those of xs from a place on
unfoldable pub put : List ℕ → ℕ → List ℕ → List ℕ
put bytes start xs = take start bytes ++ (xs ++ drop (length xs) (drop start bytes))

-- which of two checks' answers is that of both: addressing of either comes first, then protection,
-- then the first absent page
abbrev pub join_of : Result ⊤ Fault → Result ⊤ Fault → Result ⊤ Fault
join_of (Ok _) second = second
join_of (Err Addressing) second = Err Addressing
join_of (Err Protection) (Err Addressing) = Err Addressing
join_of (Err Protection) (Err Protection) = Err Protection
join_of (Err Protection) (Err (Absent page)) = Err Protection
join_of (Err Protection) (Ok _) = Err Protection
join_of (Err (Absent page)) (Err Addressing) = Err Addressing
join_of (Err (Absent page)) (Err Protection) = Err Protection
join_of (Err (Absent page)) (Err (Absent other)) = Err (Absent page)
join_of (Err (Absent page)) (Ok _) = Err (Absent page)
