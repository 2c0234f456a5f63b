-- What a PSW loses and keeps between storage and the processor.
use Rattle.std.specs.Prelude.{◌≡◌, ℕ, ◌+◌, ◌*◌, ◌^◌, ◌<◌}
use Rattle.s370_psw.specs.Fields.{Fields, bits, fields_of, word_of, loaded, stored}

-- each field is no wider than its bits
pub record IsInRange (f : Fields) : Type 0 where
  pub system_mask : f.system_mask < 2 ^ 8
  pub key : f.key < 2 ^ 4
  pub condition : f.condition < 2 ^ 2
  pub program_mask : f.program_mask < 2 ^ 4
  pub address : f.address < 2 ^ 24

-- a PSW that is stored and loaded again is the PSW: of its 64 bits, and of its eight bytes
abbrev pub ReadsBack : Type 0
ReadsBack = (f : Fields) (code length_code : ℕ) → IsInRange f → code < 2 ^ 16 → length_code < 2 ^ 2
    → fields_of (word_of f code length_code) ≡ f

-- a PSW that is stored and then loaded is the same PSW
abbrev pub LoadsBack : Type 0
LoadsBack = (f : Fields) (code length_code : ℕ) → IsInRange f → code < 2 ^ 16 → length_code < 2 ^ 2
    → loaded (stored f code length_code) ≡ f

-- a stored PSW has its two codes in bits 16 to 31 and 32 to 33
abbrev pub HoldsCodes : Type 0
HoldsCodes = (f : Fields) (code length_code : ℕ) → IsInRange f → code < 2 ^ 16 → length_code < 2 ^ 2
    → (bits (word_of f code length_code) 16 31 ≡ code)
    × (bits (word_of f code length_code) 32 33 ≡ length_code)

-- a PSW that is loaded and stored again with codes of zero has its 64 bits, but zeros in 16 to 33
abbrev pub WritesBack : Type 0
WritesBack = (n : ℕ) → n < 2 ^ 64 → word_of (fields_of n) 0 0 ≡ bits n 0 15 * 2 ^ 48 + bits n 34 63

-- a PSW that is loaded and stored again with the codes that it had has all its 64 bits
abbrev pub WritesAllBack : Type 0
WritesAllBack = (n : ℕ) → n < 2 ^ 64 → word_of (fields_of n) (bits n 16 31) (bits n 32 33) ≡ n
