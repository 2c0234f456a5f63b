-- Numbers of slots, of which few have one.
use Rattle.std.specs.Prelude.{ℕ, zero, suc, ◌+◌, List, [], ◌∷◌, Option, None, Some}

-- the number that a slot holds, or zero
abbrev pub or_zero : Option ℕ → ℕ
or_zero None = 0
or_zero (Some number) = number

-- the numbers of so many slots, from one on, where these are held: any other has zero
abbrev pub numbers : ℕ → ℕ → (ℕ → Option ℕ) → List ℕ
numbers first zero held = []
numbers first (suc count) held = or_zero (held first) ∷ numbers (first + 1) count held
