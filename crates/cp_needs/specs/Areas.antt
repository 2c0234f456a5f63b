-- Where the bytes of a word's area lie, and which words of its list say so (GA22-7000, "Channel
-- Indirect Data Addressing").
use Rattle.std.specs.Prelude.{ℕ, zero, suc, ◌+◌, ◌*◌, ◌<◌, ◌≡◌, true, Option, None, Some}
use Rattle.s370_walk.specs.Tracks.{has_area}
use Rattle.s370_channel.specs.Guest.{area_block, later}
use Rattle.s370_walk.specs.declared.parts.Ccw.{Ccw}
use Rattle.s370_walk.specs.Blocks.{begins_block, block_number, served}
use Rattle.s370_store.specs.Memory.{Memory}
use Rattle.s370_walk.specs.Walk.{is_indirect}

-- where byte k of an area lies, by where the byte before it lies
abbrev pub byte_after : (ℕ → Option ℕ) → ℕ → Option ℕ → Option ℕ
byte_after list k None = None
byte_after list k (Some before) = served list k (Some before)

-- where byte k of an area lies whose blocks begin where a list says: None from the first block on
-- of which it says nothing
abbrev pub byte_place : (ℕ → Option ℕ) → ℕ → Option ℕ
byte_place list zero = list 0
byte_place list (suc k) = byte_after list (suc k) (byte_place list k)

-- the byte before byte k lies there; before the first there is none
abbrev pub IsBefore : (ℕ → Option ℕ) → ℕ → Option ℕ → Type 0
IsBefore list k None = k ≡ 0
IsBefore list k (Some before) = (j : ℕ) × (k ≡ suc j) × (byte_place list j ≡ Some before)

-- Byte k begins a block: the list says where it lies.
pub record IsBegun (list : ℕ → Option ℕ) (k : ℕ) : Type 0 where
  pub before : Option ℕ
  pub is : IsBefore list k before
  pub begins : begins_block before ≡ true

-- A byte of the area of a word.
pub record IsAreaByte (m : Memory) (w : Ccw) (a : ℕ) : Type 0 where
  pub byte : ℕ
  pub has : has_area w ≡ true
  pub counted : byte < w.count
  pub at : byte_place (area_block m w) byte ≡ Some a

-- A byte of the words of its list, up to the first that says no address.
pub record IsListByte (m : Memory) (w : Ccw) (a : ℕ) : Type 0 where
  pub byte : ℕ
  pub has : has_area w ≡ true
  pub counted : byte < w.count
  pub begun : IsBegun (area_block m w) byte
  pub listed : is_indirect w ≡ true
  pub part : ℕ
  pub within : part < 4
  pub at : a ≡ later w.address (4 * block_number byte) + part
