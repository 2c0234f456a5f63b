-- The bytes of what a console has printed, in a saved state.
use Rattle.std.specs.Prelude.{ℕ, List}
use Rattle.saved_bytes.specs.Codes.{bytes, each}

-- the bytes of the lines that a console has printed
abbrev pub printed_bytes : List (List ℕ) → List ℕ
printed_bytes lines = each bytes lines
