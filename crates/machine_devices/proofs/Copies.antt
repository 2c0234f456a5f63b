-- Cards that are copied.
use Rattle.std.proofs.Common.{◌≡◌, ℕ, List, [], ◌∷◌, refl, ap, ◌∙◌}
use Rattle.std.specs.List.{AllZip}

-- what is the same number by number is the same
pub same : (xs ys : List ℕ) → AllZip (λ (x y : ℕ). y ≡ x) xs ys → ys ≡ xs
same [] [] h = refl
same [] (y ∷ ys) h = absurd h
same (x ∷ xs) [] h = absurd h
same (x ∷ xs) (y ∷ ys) h = ap (λ (k : ℕ). k ∷ ys) h.0 ∙ ap (λ (ks : List ℕ). x ∷ ks) (same xs ys h.1)
