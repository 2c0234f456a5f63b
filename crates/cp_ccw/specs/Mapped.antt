-- That real storage holds a user's storage at the addresses of his frames.
use Rattle.std.specs.Prelude.{◌≡◌, ℕ, ◌/◌, ◌<◌, true, List, length, Option, Some}
use Rattle.s370_store.specs.declared.Access.{Access}
use Rattle.cp_frames.specs.declared.numbers.UserPage.{UserPage}
use Rattle.cp_frames.specs.Layout.{is_there}
use Rattle.cp_ccw.specs.Layout.{real_of, real_bytes, real_keys}
use Rattle.s370_store.specs.Memory.{memory_of}
use Rattle.s370_walk.specs.Hardware.{fault_of, area, byte_at}
use Rattle.s370_walk.specs.Mapped.{IsPaged, Named, Program}

-- a user's storage is in real storage
pub record IsLent (storage keys own : List ℕ) (owners : List (Option UserPage))
    (user : ℕ) : Type 0 where
  pub paged : IsPaged (real_of owners user (length storage))
  pub bytes : (a r : ℕ) → real_of owners user (length storage) a ≡ Some r
      → byte_at (memory_of storage keys) a
      ≡ byte_at (memory_of (real_bytes storage owners user own)
      (real_keys storage keys owners user (length own))) r
  pub tests : (access : Access) (key a r : ℕ) → real_of owners user (length storage) a ≡ Some r
      → fault_of (memory_of storage keys) key (area access a 1)
      ≡ fault_of (memory_of (real_bytes storage owners user own)
      (real_keys storage keys owners user (length own))) key (area access r 1)
  pub here : (a r : ℕ) → real_of owners user (length storage) a ≡ Some r → a < length storage
  pub there : (a r : ℕ) → real_of owners user (length storage) a ≡ Some r
      → r < length (real_bytes storage owners user own)
  pub apart : (a b r : ℕ) → real_of owners user (length storage) a ≡ Some r
      → real_of owners user (length storage) b ≡ Some r → a ≡ b

-- each address inside storage that a program names lies on a page that is in a frame
abbrev pub AreHeld : Program → List (Option UserPage) → ℕ → ℕ → Type 0
AreHeld c owners user size = (a : ℕ) → Named c a → a < size → is_there owners user (a / 4096) ≡ true
