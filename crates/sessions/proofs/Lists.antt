-- The images of a list's elements, around one of them.
use Rattle.std.proofs.Common.{◌≡◌, ℕ, ◌+◌, ◌<◌, zero, suc, List, [], ◌∷◌, ◌++◌, length, map, take, drop, get_or, refl}
use Rattle.std.proofs.Common.{ap, sym, ◌∙◌, add-one, arith}

more_suc : {A B : Type 0} (f : A → B) (xs : List A) (i : ℕ) (d : A) → i < length xs
    → map f (take (suc i) xs) ≡ map f (take i xs) ++ f (get_or xs i d) ∷ []
more_suc f [] i d h = absurd (omega arith)
more_suc f (x ∷ xs) zero d h = refl
more_suc f (x ∷ xs) (suc i) d h = ap (λ l. f x ∷ l) (more_suc f xs i d (omega arith))

-- one more, which is this one
pub map_take_more : {A B : Type 0} (f : A → B) (xs : List A) (i : ℕ) (x : A) → i < length xs → x ≡ get_or xs i x
    → map f (take (i + 1) xs) ≡ map f (take i xs) ++ f x ∷ []
map_take_more f xs i x h is = rw add-one (more_suc f xs i x h ∙ ap (λ y. map f (take i xs) ++ f y ∷ []) (sym is))

-- A list is its front and what follows it.
pub map_around : {A B : Type 0} (f : A → B) (xs : List A) (i : ℕ) → map f xs ≡ map f (take i xs) ++ map f (drop i xs)
map_around f [] zero = refl
map_around f [] (suc i) = refl
map_around f (x ∷ xs) zero = refl
map_around f (x ∷ xs) (suc i) = ap (λ l. f x ∷ l) (map_around f xs i)

abbrev get_first : {A : Type 0} → A → List A → A
get_first d [] = d
get_first d (x ∷ xs) = x

none_some : {A : Type 0} {x : A} {xs : List A} → (let none : List A = [] in none ≡ x ∷ xs) → ⊥
none_some e = cc

-- of two lists with the same images, those at one place have the same image
pub same_at : {A B C : Type 0} (f : A → C) (g : B → C) (xs : List A) (ys : List B) (k : ℕ) (x : A) (y : B)
    → map f xs ≡ map g ys → k < length ys → x ≡ get_or xs k x → y ≡ get_or ys k y → f x ≡ g y
same_at f g xs [] k x y e h p q = absurd (omega (arith, h))
same_at f g [] (y' ∷ ys) k x y e h p q = absurd (none_some e)
same_at f g (x' ∷ xs) (y' ∷ ys) zero x y e h p q = ap f p ∙ (ap (get_first (f x)) e ∙ ap g (sym q))
same_at f g (x' ∷ xs) (y' ∷ ys) (suc k) x y e h p q = same_at f g xs ys k x y (ap (drop 1) e) (omega (arith, h)) p q
