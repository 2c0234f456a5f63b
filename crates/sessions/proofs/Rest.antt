-- Lines that are added one by one, until none is left.
use Rattle.std.proofs.Common.{◌≡◌, ℕ, ◌+◌, ◌≤◌, zero, suc, List, [], ◌∷◌, ◌++◌, length, drop, map, sym, ap, ◌∙◌, arith}
use Rattle.std.proofs.Common.{append_assoc, append-nil, Option, None, Some}
use Rattle.std.proofs.lemmas.List.{drop_all}
use Rattle.std.specs.Prelude.{slice_get}
use Rattle.sessions.specs.Transcript.{ended}
use Rattle.sessions.proofs.Endings.{ended_append}

none_some : {X : Type 0} (x : X) → (let found : Option X = Some x in found ≡ None) → ⊥
none_some x e = cc

first_is : {X : Type 0} (x y : X) → (let found : Option X = Some x in found ≡ Some y) → y ≡ x
first_is x y e = cc

-- those from this one on
pub from_here : {X : Type 0} (xs : List X) (i : ℕ) (x : X) → Some x ≡ slice_get xs i → drop i xs ≡ x ∷ drop (i + 1) xs
from_here [] i x e = absurd (none_some x e)
from_here {X} (y ∷ xs) zero x e = ap (λ (z : X). z ∷ xs) (first_is x y e)
from_here (y ∷ xs) (suc i) x e =
    let more : suc i + 1 ≡ suc (i + 1) = omega arith in
    from_here xs i x e ∙ ap (λ (n : ℕ). x ∷ drop n (y ∷ xs)) (sym more)

-- lines more
pub lines_more : (out after : List ℕ) (now later all : List (List ℕ)) → all ≡ now ++ later → after ≡ out ++ ended now
    → after ++ ended later ≡ out ++ ended all
lines_more out after now later all split e =
    ap (λ (x : List ℕ). x ++ ended later) e
    ∙ (append_assoc out (ended now) (ended later)
    ∙ ap (λ (x : List ℕ). out ++ x) (sym (ended_append now later) ∙ ap ended (sym split)))

-- a line more
pub line_more : {X : Type 0} (f : X → List ℕ) (out after : List ℕ) (xs : List X) (i : ℕ) (x : X)
    → Some x ≡ slice_get xs i → after ≡ out ++ ended (f x ∷ [])
    → after ++ ended (map f (drop (i + 1) xs)) ≡ out ++ ended (map f (drop i xs))
line_more f out after xs i x is e =
    lines_more out after (f x ∷ []) (map f (drop (i + 1) xs)) (map f (drop i xs)) (ap (map f) (from_here xs i x is)) e

-- no line more
pub no_line : {X : Type 0} (f : X → List ℕ) (out : List ℕ) (xs : List X) (i : ℕ) → length xs ≤ i
    → out ++ ended (map f (drop i xs)) ≡ out
no_line {X} f out xs i past = ap (λ (ys : List X). out ++ ended (map f ys)) (drop_all i xs past) ∙ append-nil out
