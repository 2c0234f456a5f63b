-- What one user has is changed twice.
use Rattle.std.proofs.Common.{◌≡◌, ℕ, zero, suc, ◌+◌, List, [], ◌∷◌, drop, get_or, set, refl, ◌∙◌, ap, arith}
use Rattle.cp_spool.specs.Queues.{UserFiles, no_files, files_of, with_files}

set_again : {X : Type 0} (xs : List X) (i : ℕ) (d : X) (x : X) (g : X → X)
    → set (set xs i x) i (g (get_or (set xs i x) i d)) ≡ set xs i (g x)
set_again [] zero d x g = refl
set_again [] (suc i) d x g = refl
set_again (y ∷ ys) zero d x g = refl
set_again (y ∷ ys) (suc i) d x g = ap (λ zs. y ∷ zs) (set_again ys i d x g)

-- Of two changes of a user's files the second is made on the first.
pub changed_again : (users : List UserFiles) (user : ℕ) (f : UserFiles) (g : UserFiles → UserFiles)
    → with_files user (g (files_of (with_files user f users) user)) (with_files user f users)
    ≡ with_files user (g f) users
changed_again users user f g = set_again users user no_files f g

drop_suc : {X : Type 0} (n : ℕ) (xs : List X) → drop 1 (drop n xs) ≡ drop (suc n) xs
drop_suc zero [] = refl
drop_suc (suc n) [] = refl
drop_suc zero (x ∷ xs) = refl
drop_suc (suc n) (x ∷ xs) = drop_suc n xs

-- One more is dropped after the first ones.
pub drop_one_more : {X : Type 0} (n : ℕ) (xs : List X) → drop 1 (drop n xs) ≡ drop (n + 1) xs
drop_one_more n xs = drop_suc n xs ∙ ap (λ (m : ℕ). drop m xs) (let e : suc n ≡ n + 1 = omega arith in e)
