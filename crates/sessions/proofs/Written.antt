-- The last lines of a console, one after another.
use Rattle.std.proofs.Common.{◌≡◌, ℕ, ◌+◌, ◌≤◌, List, [], ◌∷◌, ◌++◌, length, drop, map, Some}
use Rattle.std.specs.Prelude.{slice_get}
use Rattle.sessions.specs.Transcript.{ended, told_line}
use Rattle.sessions.proofs.Rest.{line_more, no_line}

-- a line more
pub one_more : (out after : List ℕ) (name : List ℕ) (output : List (List ℕ)) (i : ℕ) (text : List ℕ)
    → Some text ≡ slice_get output i → after ≡ out ++ ended (told_line name text ∷ [])
    → after ++ ended (map (told_line name) (drop (i + 1) output)) ≡ out ++ ended (map (told_line name) (drop i output))
one_more out after name output i text is e = line_more (told_line name) out after output i text is e

-- no line more
pub no_more : (out : List ℕ) (name : List ℕ) (output : List (List ℕ)) (i : ℕ) → length output ≤ i
    → out ++ ended (map (told_line name) (drop i output)) ≡ out
no_more out name output i past = no_line (told_line name) out output i past
