-- The words of a line.
use Rattle.std.specs.Prelude.{◌≡◌, ℕ, ◌==◌, false, not, if◌then◌else◌, List, [], ◌∷◌, length}
use Rattle.std.specs.Prelude.{Option, Some, None}
use Rattle.std.specs.List.{filter, slice_split}
use Rattle.std.specs.Option.{unwrap_or}

-- what is before the first blank
abbrev pub word_of : List ℕ → List ℕ
word_of [] = []
word_of (c ∷ cs) = if c == 32 then [] else c ∷ word_of cs

-- what is after the first blank, where there is one
abbrev pub after_word : List ℕ → Option (List ℕ)
after_word [] = None
after_word (c ∷ cs) = if c == 32 then Some cs else after_word cs

-- no blank is there
abbrev pub NoBlank : List ℕ → Type 0
NoBlank [] = Unit {0}
NoBlank (c ∷ cs) = (c == 32 ≡ false) × NoBlank cs

-- the words of a line, separated by any number of blanks
abbrev pub words_of : List ℕ → List (List ℕ)
words_of line = filter (λ word. not (length word == 0)) (slice_split (λ c. c == 32) line)

-- the line from its first character on that is no blank
abbrev pub unindented : List ℕ → List ℕ
unindented [] = []
unindented (c ∷ cs) = if c == 32 then unindented cs else c ∷ cs

-- what is after the first word and the blank that ends it
abbrev pub after_first_word : List ℕ → List ℕ
after_first_word line = unwrap_or (after_word (unindented line)) []
