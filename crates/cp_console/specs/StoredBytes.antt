-- The bytes that a command stores.
use Rattle.std.specs.Prelude.{◌≡◌, ℕ, ◌-◌, ◌≤◌, ◌++◌, List, length, take, replicate}

-- at most sixteen bytes, in a field of sixteen that has zeros after them
pub record IsPadded (bytes : List ℕ) (count : ℕ) : Type 0 where
  pub room : count ≤ 16
  pub whole : length bytes ≡ 16
  pub padded : bytes ≡ take count bytes ++ replicate (16 - count) 0
