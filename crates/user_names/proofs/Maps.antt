-- A search among the images of elements.
use Rattle.std.proofs.Common.{◌≡◌, ◌+◌, Bool, cond, not, List, [], ◌∷◌, map, refl, ap}
use Rattle.std.proofs.lemmas.List.{length-map}
use Rattle.std.specs.List.{position, prefix_len}

prefix_len_map : {A B : Type 0} (p : B → Bool) (f : A → B) (xs : List A)
    → prefix_len p (map f xs) ≡ prefix_len (λ x. p (f x)) xs
prefix_len_map p f [] = refl
prefix_len_map p f (x ∷ xs) = ap (λ n. cond (p (f x)) (1 + n) 0) (prefix_len_map p f xs)

-- the place of the first that passes
pub position_map : {A B : Type 0} (p : B → Bool) (f : A → B) (xs : List A)
    → position (λ x. p (f x)) xs ≡ position p (map f xs)
position_map p f xs = rw (prefix_len_map (λ b. not (p b)) f xs, length-map xs f) refl
