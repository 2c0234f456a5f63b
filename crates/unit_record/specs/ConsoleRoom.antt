-- The room that a console keeps for the lines that a write may finish.
use Rattle.std.specs.Prelude.{ℕ, ◌+◌, ◌≤◌, ◌<◌, ◌≡◌, Bool, true}

-- of so many lines with room for so many, a line of so many characters, and so many that are still
-- wanted
pub record HasRoom (lines room characters wanted : ℕ) (ends_line : Bool) : Type 0 where
  pub whole : characters ≤ 132
  pub bounded : wanted ≤ 132
  -- a line that is ended
  pub ending : ends_line ≡ true → lines + 1 ≤ room
  -- a line that is filled
  pub filling : 132 < characters + wanted → lines + 1 ≤ room
  pub both : ends_line ≡ true → 132 < characters + wanted → lines + 2 ≤ room
