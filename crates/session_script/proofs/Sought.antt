-- The first name that passes a test, sought from one place on.
use Rattle.std.proofs.Common.{◌≡◌, ◌<◌, ◌≤◌, ◌+◌, ◌∙◌, ℕ, Bool, true, false, cond, List, [], length, drop, ap}
use Rattle.std.specs.Prelude.{Option, Some, None}
use Rattle.std.specs.List.{position_from}
use Rattle.std.specs.Str.{bytes_eq}
use Rattle.std.proofs.lemmas.List.{at_drop_more, at_drop_all}
use Rattle.std.proofs.lemmas.Iterator.Adapters.{position_from-zero}
use Rattle.user_names.specs.Users.{name_of, user_of}

-- what is found by the name at a place, and from the next one on
abbrev found_at : (p : List ℕ → Bool) (names : List (List ℕ)) (k : ℕ) → Bool → Option ℕ
found_at p names k is = cond is (Some k) (position_from p (k + 1) (drop (k + 1) names))

-- a name that does not pass is passed over
pub not_here : (p : List ℕ → Bool) (names : List (List ℕ)) (k : ℕ) → k < length names → p (name_of names k) ≡ false
    → position_from p k (drop k names) ≡ position_from p (k + 1) (drop (k + 1) names)
not_here p names k h e =
    at_drop_more (position_from p k) names k [] h ∙ ap (found_at p names k) e

-- one that passes is the first
pub here : (p : List ℕ → Bool) (names : List (List ℕ)) (k : ℕ) → k < length names → p (name_of names k) ≡ true
    → position_from p k (drop k names) ≡ Some k
here p names k h e = at_drop_more (position_from p k) names k [] h ∙ ap (found_at p names k) e

-- past the last there is none
pub nowhere : (p : List ℕ → Bool) (names : List (List ℕ)) (k : ℕ) → length names ≤ k
    → position_from p k (drop k names) ≡ None
nowhere p names k h = at_drop_all (position_from p k) names k h

-- a user is sought by his name from the first place on
pub from_first : (names : List (List ℕ)) (name : List ℕ)
    → user_of names name ≡ position_from (bytes_eq name) 0 names
from_first names name = position_from-zero (bytes_eq name) names
