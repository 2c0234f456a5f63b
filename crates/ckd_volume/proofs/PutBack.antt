-- Laws of cylinders that are put in the place of others.
use Rattle.std.specs.Prelude.{ℕ, suc, ◌+◌, ◌≡◌, ◌<◌, List, [], ◌∷◌, ◌++◌, length, take, drop, slice_set}
use Rattle.std.proofs.Common.{sym, ◌∙◌, ap, arith, append_assoc}
use Rattle.std.proofs.lemmas.List.{drop-drop, drop-set, take_more_set, take-append-drop}
use Rattle.ckd_volume.specs.Front.{Cylinder}
use Rattle.ckd_volume.specs.Volume.{put_back}

drop_past : (cylinders : List Cylinder) (at n : ℕ) (x : Cylinder) → at < length cylinders
    → drop (at + 1 + n) (slice_set cylinders at x) ≡ drop (at + suc n) cylinders
drop_past cylinders at n x lt =
    let long : at + 1 + n ≡ at + suc n = omega arith in
    ap (λ k. drop k (slice_set cylinders at x)) long
    ∙ sym (drop-drop (suc n) at (slice_set cylinders at x))
    ∙ ap (drop (suc n)) (drop-set cylinders at x lt)
    ∙ drop-drop n (at + 1) cylinders
    ∙ ap (λ k. drop k cylinders) long

-- one more cylinder
pub put_one : (cylinders others : List Cylinder) (at : ℕ) (x : Cylinder) → at < length cylinders
    → put_back (slice_set cylinders at x) (at + 1) others ≡ put_back cylinders at (x ∷ others)
put_one cylinders others at x lt =
    ap (λ l. l ++ (others ++ drop (at + 1 + length others) (slice_set cylinders at x)))
    (take_more_set cylinders at x lt)
    ∙ append_assoc (take at cylinders) (x ∷ []) (others ++ drop (at + 1 + length others) (slice_set cylinders at x))
    ∙ ap (λ l. take at cylinders ++ (x ∷ (others ++ l))) (drop_past cylinders at (length others) x lt)

-- and no more
pub put_none : (cylinders : List Cylinder) (at : ℕ) → put_back cylinders at [] ≡ cylinders
put_none cylinders at =
    let none : at + 0 ≡ at = omega arith in
    ap (λ k. take at cylinders ++ drop k cylinders) none ∙ take-append-drop at cylinders
