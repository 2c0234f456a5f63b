-- Strings of bytes.
use Rattle.std.specs.Prelude.{ℕ, ◌+◌, ◌-◌, ◌*◌, ◌^◌, List, [], ◌∷◌, ◌++◌, length, replicate}

-- a string as a number, its leftmost byte first
abbrev pub number : List ℕ → ℕ
number [] = 0
number (x ∷ xs) = x * 256 ^ length xs + number xs

-- n bytes: those of the string, and then pads
abbrev pub padded : List ℕ → ℕ → ℕ → List ℕ
padded xs pad n = xs ++ replicate (n - length xs) pad
