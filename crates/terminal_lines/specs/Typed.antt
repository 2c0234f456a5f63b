-- What was typed at a terminal since the last end of a line.
use Rattle.std.specs.Prelude.{ℕ, Bool, List}
use Rattle.terminal_lines.specs.declared.decoder.Expects.{Expects}

-- what was typed of a line so far
pub record Typed : Type 0 where
  -- the characters of the line so far
  pub line : List ℕ
  -- what the next byte is
  pub expects : Expects
  -- a carriage return was the last byte, but for commands
  pub is_after_return : Bool
