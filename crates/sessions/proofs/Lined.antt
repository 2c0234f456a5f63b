-- A device among others in the order of their starts, by its place.
use Rattle.std.proofs.Common.{◌≡◌, ℕ, ◌+◌, ◌<◌, zero, suc, Bool, true, false, cond, List, [], ◌∷◌, ◌++◌, length, take}
use Rattle.std.proofs.Common.{drop, get_or, Option, Some, None, refl, ap, sym, ◌∙◌, arith}
use Rattle.std.specs.Prelude.{if◌then◌else◌}
use Rattle.std.specs.List.{position, position_from}
use Rattle.std.proofs.lemmas.Iterator.Adapters.{position_from-zero}
use Rattle.std.proofs.lemmas.List.Quantifiers.{position-Some}
use Rattle.s370_subchannels.specs.declared.subchannel.Subchannel.{Subchannel}
use Rattle.sessions.specs.Schedule.{in_order, is_before}

-- it is before the first whose start was later
at_place : (d : Subchannel) (xs : List Subchannel) (k : ℕ) (e : Subchannel) → k < length xs
    → is_before d (get_or xs k e) ≡ true → ((i : ℕ) → i < k → is_before d (get_or xs i e) ≡ false)
    → in_order d xs ≡ take k xs ++ d ∷ drop k xs
at_place d [] k e h is misses = absurd (omega arith)
at_place d (x ∷ xs) zero e h is misses = rw is refl
at_place d (x ∷ xs) (suc k) e h is misses =
    rw (misses 0 (omega arith))
    (ap (λ (l : List Subchannel). x ∷ l)
    (at_place d xs k e (omega arith) is (λ i less. misses (suc i) (omega (arith, less)))))

-- A program joins the line before the first that started later.
pub placed : (d : Subchannel) (xs : List Subchannel) (k : ℕ) → position (is_before d) xs ≡ Some k
    → in_order d xs ≡ take k xs ++ d ∷ drop k xs
placed d xs k e = let found = position-Some (is_before d) xs k d e in at_place d xs k d found.0 found.1 found.2

none_here : (b : Bool) (i : ℕ) (r : Option ℕ) (x d : Subchannel) (xs ys : List Subchannel) → cond b (Some i) r ≡ None
    → (r ≡ None → ys ≡ xs ++ d ∷ []) → (if b then d ∷ x ∷ xs else x ∷ ys) ≡ x ∷ xs ++ d ∷ []
none_here true i r x d xs ys h f = cc
none_here false i r x d xs ys h f = ap (λ (l : List Subchannel). x ∷ l) (f h)

none_from : (d : Subchannel) (i : ℕ) (xs : List Subchannel) → position_from (is_before d) i xs ≡ None
    → in_order d xs ≡ xs ++ d ∷ []
none_from d i [] h = refl
none_from d i (x ∷ xs) h =
    none_here (is_before d x) i (position_from (is_before d) (i + 1) xs) x d xs (in_order d xs) h
    (none_from d (i + 1) xs)

-- it is after all where none was later
pub unplaced : (d : Subchannel) (xs : List Subchannel) → position (is_before d) xs ≡ None → in_order d xs ≡ xs ++ d ∷ []
unplaced d xs h = none_from d 0 xs (sym (position_from-zero (is_before d) xs) ∙ h)
