-- A text of which no line lacks its end, and the line that does, as a loop finds it.
use Rattle.std.proofs.Common.{◌≡◌, ◌∙◌, ℕ, ◌+◌, Bool, true, false, inl, inr, List, [], ◌∷◌, ◌++◌, length, Option, Some}
use Rattle.std.proofs.Common.{None, refl, sym, ap, rules, tests, arith}
use Rattle.std.specs.Prelude.{◌==◌, if◌then◌else◌}
use Rattle.std.specs.List.{onto_first}
use Rattle.text_words.specs.Lines.{lines_of}
use Rattle.sessions.specs.Follow.{HasWholeLines, is_whole, unended_line}

-- ---- whole lines

lf : (c : ℕ) → (c == 10) ≡ true → c ≡ 10
lf c e = search (rules, tests, e)

further : (c d : ℕ) (cs : List ℕ) → HasWholeLines (d ∷ cs) → HasWholeLines (c ∷ d ∷ cs)
further c d cs (inl none) = cc none
further c d cs (inr whole) = inr (c ∷ whole.0, ap (λ (l : List ℕ). c ∷ l) whole.1)

whole_text : (text : List ℕ) → is_whole text ≡ true → HasWholeLines text
whole_text [] e = inl refl
whole_text (c ∷ []) e = inr ([], ap (λ (x : ℕ). x ∷ []) (lf c e))
whole_text (c ∷ d ∷ cs) e = further c d cs (whole_text (d ∷ cs) e)

none_unended : (is : Bool) (line : ℕ) → (if is then None else Some line) ≡ None → is ≡ true
none_unended true line e = refl
none_unended false line e = cc e

-- A text without an unended line has whole lines.
pub whole : (text : List ℕ) → unended_line text ≡ None → HasWholeLines text
whole text e = whole_text text (none_unended (is_whole text) (length (lines_of text)) e)

-- ---- a loop

-- what a loop finds in the rest of a text, where this line is before that, and may have begun
abbrev pub unended_from : ℕ → Bool → List ℕ → Option ℕ
unended_from line true [] = None
unended_from line false [] = Some line
unended_from line is_ended (c ∷ cs) = if c == 10 then unended_from (line + 1) true cs else unended_from line false cs

last_one : (c n m : ℕ) (is : Bool) → n + length (if is then [] ∷ [] else onto_first c []) ≡ m + 1
    → (if is then unended_from (n + 1) true [] else unended_from n false []) ≡ (if is then None else Some m)
last_one c n m true e = refl
last_one c n m false e = ap Some (omega (arith, e))

onto_some : (c d : ℕ) (is : Bool) (lines : List (List ℕ))
    → length (onto_first c (if is then [] ∷ lines else onto_first d lines))
    ≡ length (if is then [] ∷ lines else onto_first d lines)
onto_some c d true lines = refl
onto_some c d false [] = refl
onto_some c d false (line ∷ lines) = refl

more_than_one : (c d : ℕ) (ds : List ℕ) (n m : ℕ) (is : Bool)
    → ((k : ℕ) (b : Bool) → k + length (lines_of (d ∷ ds)) ≡ m + 1
    → unended_from k b (d ∷ ds) ≡ (if is_whole (d ∷ ds) then None else Some m))
    → n + length (if is then [] ∷ lines_of (d ∷ ds) else onto_first c (lines_of (d ∷ ds))) ≡ m + 1
    → (if is then unended_from (n + 1) true (d ∷ ds) else unended_from n false (d ∷ ds))
    ≡ (if is_whole (d ∷ ds) then None else Some m)
more_than_one c d ds n m true h e = h (n + 1) true (omega (arith, e))
more_than_one c d ds n m false h e = h n false (ap (λ (k : ℕ). n + k) (sym (onto_some c d (d == 10) (lines_of ds))) ∙ e)

from_lines : (cs : List ℕ) (c m n : ℕ) (b : Bool) → n + length (lines_of (c ∷ cs)) ≡ m + 1
    → unended_from n b (c ∷ cs) ≡ (if is_whole (c ∷ cs) then None else Some m)
from_lines [] c m n true e = last_one c n m (c == 10) e
from_lines [] c m n false e = last_one c n m (c == 10) e
from_lines (d ∷ ds) c m n true e = more_than_one c d ds n m (c == 10) (from_lines ds d m) e
from_lines (d ∷ ds) c m n false e = more_than_one c d ds n m (c == 10) (from_lines ds d m) e

-- The first unended line is counted from the first line on.
pub unended_at_first : (text : List ℕ) → unended_line text ≡ unended_from 1 true text
unended_at_first [] = refl
unended_at_first (c ∷ cs) = sym (from_lines cs c (length (lines_of (c ∷ cs))) 1 true (omega arith))
