-- What a reader of a saved state owes to what was written.
use Rattle.std.specs.Prelude.{ℕ, ◌≡◌, List, Result, Ok}
use Rattle.saved_bytes.specs.declared.RestoreError.{RestoreError}

-- the value that was written is read, and what was written after it is left
abbrev pub IsRead : {A : Type 0} → Result A RestoreError → List ℕ → A → List ℕ → Type 0
IsRead result left a rest = (result ≡ Ok a) × (left ≡ rest)
