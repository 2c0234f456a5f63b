-- Blocks of 2048 bytes that are accessed again and again.
use Rattle.std.specs.Prelude.{◌≡◌, ℕ, ◌+◌, ◌/◌, ◌%◌, ◌≤◌, Bool, true, List, slice_index}
use Rattle.s370_store.specs.Access.{is_passed}
use Rattle.s370_store.specs.declared.Access.{Access}
use Rattle.s370_store.specs.declared.Access.TheVariants.{Fetch}

-- each byte of the block that begins at this address lies in the storage and may be accessed so
-- with this protection key, and its page is present
pub record MayAccess (access : Access) (size : ℕ) (keys : List ℕ) (present : ℕ → Bool)
    (key first : ℕ) : Type 0 where
  pub aligned : first % 2048 ≡ 0
  pub inside : first + 2048 ≤ size
  pub passed : is_passed access key (slice_index keys (first / 2048)) ≡ true
  pub here : present (first / 4096) ≡ true

-- each byte of the block may be fetched
abbrev pub MayFetch : ℕ → List ℕ → (ℕ → Bool) → ℕ → ℕ → Type 0
MayFetch size keys present key first = MayAccess Fetch size keys present key first
