-- A text is judged line by line, from its first line on.
use Rattle.std.specs.Prelude.{◌≡◌, ℕ, ◌+◌, ◌==◌, Bool, false, if◌then◌else◌, List, [], ◌∷◌, ◌++◌}
use Rattle.std.specs.Prelude.{length, Option, MatchOption, Result, Ok, Err}
use Rattle.std.specs.List.{onto_first}
use Rattle.text_words.specs.declared.lines.NumberedLine.{NumberedLine}

-- the lines of a text, each ended by LF, which the last may lack
abbrev pub lines_of : List ℕ → List (List ℕ)
lines_of [] = []
lines_of (c ∷ cs) = if c == 10 then [] ∷ lines_of cs else onto_first c (lines_of cs)

-- a line that begins with `*`
abbrev pub is_comment : List ℕ → Bool
is_comment [] = false
is_comment (c ∷ cs) = c == 42

-- what follows a success; a fault stays
abbrev pub and_then : {A B F : Type 0} → Result A F → (A → Result B F) → Result B F
and_then (Ok a) f = f a
and_then (Err fault) f = Err fault

-- what is read from these lines, by what a line of this number adds to what was read before it; the
-- first fault is reported
abbrev pub read_lines : {S F : Type 0} → (ℕ → S → List ℕ → Result S F) → ℕ → S → List (List ℕ)
    → Result S F
read_lines step number so_far [] = Ok so_far
read_lines step number so_far (line ∷ lines) =
    and_then (step number so_far line) (λ next. read_lines step (number + 1) next lines)

-- the line of this number, counted from 1, and those before and after it
pub record LineAt (lines : List (List ℕ)) (number : ℕ) : Type 0 where
  pub before : List (List ℕ)
  pub line : List ℕ
  pub after : List (List ℕ)
  pub split : lines ≡ before ++ line ∷ after
  pub numbered : number ≡ length before + 1

-- the lines of a text that are left, and the number of the first of them
pub record LinesLeft : Type 0 where
  pub number : ℕ
  pub lines : List (List ℕ)

-- the first line that is left and its number, or none where none is left
abbrev pub YieldsLine : LinesLeft → Option NumberedLine → LinesLeft → Type 0
YieldsLine old next new =
    MatchOption next ((old.lines ≡ []) × (new ≡ old))
    (λ line. (old.lines ≡ line.text.now ∷ new.lines) × (line.number ≡ old.number)
    × (new.number ≡ old.number + 1))
