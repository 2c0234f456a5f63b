-- The pages that a channel program needs, and programs that leave their own words as they are.
use Rattle.std.specs.Prelude.{ℕ, ◌+◌, ◌*◌, ◌/◌, ◌<◌, ◌≡◌, ◌⊎◌, Bool, true, false, length, Some}
use Rattle.cp_needs.specs.Closure.{InProgram}
use Rattle.cp_needs.specs.Areas.{IsAreaByte, IsListByte}
use Rattle.s370_channel.specs.Guest.{guest_text}
use Rattle.s370_walk.specs.declared.parts.Ccw.{Ccw}
use Rattle.s370_store.specs.Memory.{Memory}
use Rattle.s370_walk.specs.Walk.{skips}

-- the program that starts at an address can reach a word there, in some role
abbrev pub IsReached : Memory → ℕ → ℕ → Type 0
IsReached m start address = (continues : Bool) × InProgram (guest_text m) start address continues

-- a byte of the word at an address, or of the list of its area
abbrev pub IsTextByte : Memory → ℕ → ℕ → Type 0
IsTextByte m address a = ((k : ℕ) × (k < 8) × (a ≡ address + k))
    ⊎ ((w : Ccw) × (guest_text m address ≡ Some w) × IsListByte m w a)

-- a byte of the area of the word at an address
abbrev pub IsDataByte : Memory → ℕ → ℕ → Type 0
IsDataByte m address a = (w : Ccw) × (guest_text m address ≡ Some w) × IsAreaByte m w a

-- A page of storage with a byte of a word that the program can reach, or of that word's list or
-- area.
pub record IsProgramPage (m : Memory) (start page : ℕ) : Type 0 where
  pub address : ℕ
  pub reached : IsReached m start address
  pub byte : ℕ
  pub needed : IsTextByte m address byte ⊎ IsDataByte m address byte
  pub at : page ≡ byte / 4096
  pub inside : page * 4096 < length m.bytes

-- each page that the program needs is present
abbrev pub IsHeld : Memory → ℕ → (ℕ → Bool) → Type 0
IsHeld m start present = (page : ℕ) → IsProgramPage m start page → present page ≡ true

-- A byte of storage, of a word or of a list, that an input could store into: it lies in the area of
-- a word, which does not skip, too.
pub record IsClash (m : Memory) (start : ℕ) : Type 0 where
  pub address : ℕ
  pub reached : IsReached m start address
  pub word : Ccw
  pub text : guest_text m address ≡ Some word
  pub stores : skips word ≡ false
  pub byte : ℕ
  pub inside : byte < length m.bytes
  pub data_byte : IsAreaByte m word byte
  pub other : ℕ
  pub other_reached : IsReached m start other
  pub text_byte : IsTextByte m other byte

-- no input of the program can change one of its words or lists, whatever its device answers
abbrev pub IsFixed : Memory → ℕ → Type 0
IsFixed m start = IsClash m start → ⊥
