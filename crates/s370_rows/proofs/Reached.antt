-- With key 0 no access inside the storage is refused.
use Rattle.std.proofs.Common.{◌≡◌, ℕ, ◌+◌, ◌≤◌, List, [], ◌∷◌, None, Some}
use Rattle.s370_store.specs.Access.{first_fault}
use Rattle.s370_store.specs.declared.Access.{Access}
use Rattle.s370_store.specs.declared.Fault.{Fault}
use Rattle.s370_store.proofs.Verdicts.{one_fine, inside, permitted_is, key_zero_permits}

key_zero_is_fine : (size : ℕ) (keys : List ℕ) (access : Access) (start n : ℕ) → start + n ≤ size
    → first_fault size keys 0 (record { access = access; start = start; count = n } ∷ []) ≡ None
key_zero_is_fine size keys access start n h =
    one_fine size keys 0 _ (inside size access start n h)
    (permitted_is keys 0 access start n _ (key_zero_permits keys access start n))

-- Key zero is refused no range of storage.
pub never_refused : (size : ℕ) (keys : List ℕ) (access : Access) (start n : ℕ) (fault : Fault) → start + n ≤ size
    → first_fault size keys 0 (record { access = access; start = start; count = n } ∷ []) ≡ Some fault → ⊥
never_refused size keys access start n fault h e = let fine = key_zero_is_fine size keys access start n h in cc
