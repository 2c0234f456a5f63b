-- The words of a program as they are found, one after the other.
use Rattle.std.specs.Prelude.{ℕ, ◌*◌, ◌/◌, ◌%◌, ◌<◌, ◌≡◌, ◌≢◌, ◌⊎◌, Bool, true, List, [], ◌∷◌, ◌++◌}
use Rattle.std.specs.Prelude.{length, slice_index, Some}
use Rattle.cp_needs.specs.Table.{leads_next, leads_skipped}
use Rattle.cp_needs.specs.Areas.{IsAreaByte, IsListByte}
use Rattle.cp_needs.specs.Kept.{IsKept}
use Rattle.cp_needs.specs.Needs.{IsDataByte, IsFixed, IsHeld, IsReached, IsTextByte}
use Rattle.s370_channel.specs.Guest.{guest_text}
use Rattle.s370_walk.specs.declared.parts.Ccw.{Ccw}
use Rattle.s370_store.specs.Memory.{Memory}

-- if the page is one of a storage of this size, it is present
abbrev pub IsPresent : ℕ → (ℕ → Bool) → ℕ → Type 0
IsPresent size present page = page * 4096 < size → present page ≡ true

-- a page with a byte of a word's list or area
abbrev pub IsAreaPage : Memory → Ccw → ℕ → Type 0
IsAreaPage m w page = (a : ℕ) × (IsListByte m w a ⊎ IsAreaByte m w a) × (page ≡ a / 4096)

-- a page with a byte of the word at an address, or of its list or area
abbrev pub IsPageAt : Memory → ℕ → ℕ → Type 0
IsPageAt m address page = (a : ℕ) × (IsTextByte m address a ⊎ IsDataByte m address a)
    × (page ≡ a / 4096)

-- a word may lead from one address to another
pub record IsStep (m : Memory) (from to : ℕ) : Type 0 where
  pub word : Ccw
  pub text : guest_text m from ≡ Some word
  pub leads : ((leads_next word ≡ true) × (to ≡ word.next))
      ⊎ ((leads_skipped word ≡ true) × (to ≡ word.skipped))

-- an address is among those that are found
abbrev pub IsAmong : List ℕ → ℕ → Type 0
IsAmong words a = (i : ℕ) × (i < length words) × (slice_index words i ≡ a)

-- an address is added, if at all, only where a word leads there
abbrev pub IsFollowed : Bool → ℕ → List ℕ → List ℕ → Type 0
IsFollowed leads address old new = (new ≡ old) ⊎ ((leads ≡ true) × (new ≡ old ++ address ∷ []))

-- The addresses that are found are those of doublewords, and those that are marked are among them.
pub record AreSeen (words : List ℕ) (seen : List ℕ) : Type 0 where
  pub even : (i : ℕ) → i < length words → slice_index words i % 8 ≡ 0
  pub marked : (slot : ℕ) → slice_index seen slot ≢ 0 → IsAmong words (slot * 8)

-- Addresses are added that the word at an address may lead to.
pub record AreSteps (m : Memory) (address : ℕ) (old new : List ℕ) : Type 0 where
  pub rest : List ℕ
  pub is : new ≡ old ++ rest
  pub steps : (i : ℕ) → i < length rest → IsStep m address (slice_index rest i)

-- The pages of the word at an address are present, and each doubleword below this number to which
-- it leads is found.
pub record IsVisited (m : Memory) (present : ℕ → Bool) (most : ℕ) (words : List ℕ)
    (address : ℕ) : Type 0 where
  pub held : (page : ℕ) → IsPageAt m address page → IsPresent (length m.bytes) present page
  pub closed : (to : ℕ) → IsStep m address to → to / 8 < most → IsAmong words to

-- The addresses of the words of a program that lie on pages of storage.
pub record AreWords (m : Memory) (start : ℕ) (words : List ℕ) : Type 0 where
  pub reached : (i : ℕ) → i < length words → IsReached m start (slice_index words i)
  pub all : (address : ℕ) → IsReached m start address → address / 4096 * 4096 < length m.bytes
      → IsAmong words address

-- the program was fixed with these words and lists, as which they are still, and the pages that it
-- needed are present
pub record IsFixedStill (m : Memory) (present : ℕ → Bool) (start : ℕ) : Type 0 where
  pub memory : Memory
  pub fixed : IsFixed memory start
  pub held : IsHeld memory start present
  pub kept : IsKept memory start m
