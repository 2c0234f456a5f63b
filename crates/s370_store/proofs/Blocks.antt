-- What lies in a block that may be accessed, passes.
use Rattle.std.proofs.Common.{◌≡◌, ℕ, ◌+◌, ◌*◌, ◌/◌, ◌%◌, ◌<◌, ◌≤◌, Bool, true, List, [], ◌∷◌, get_or, None, arith}
use Rattle.std.specs.Int.Bits.{bit_or}
use Rattle.std.proofs.lemmas.Nat.{le_or_l, le_or_r}
use Rattle.s370_store.specs.Access.{first_fault, is_passed, IsGranted}
use Rattle.s370_store.specs.declared.Access.{Access}
use Rattle.s370_store.specs.Blocks.{MayAccess}
use Rattle.s370_store.proofs.Verdicts.{inside, one_fine, permits, permitted_is}

-- A range in a block that may be accessed raises no exception.
pub block_passes : {access : Access} (size : ℕ) (keys : List ℕ) (present : ℕ → Bool) (key first start n : ℕ)
    → MayAccess access size keys present key first → first ≤ start → start + n ≤ first + 2048
    → first_fault size keys key (record { access = access; start = start; count = n } ∷ []) ≡ None
block_passes {access} size keys present key first start n m low high =
    let room : start + n ≤ size = omega (arith, low, high, m.inside) in
    let passed : (k : ℕ) → k < n → is_passed access key (get_or keys ((start + k) / 2048) 0) ≡ true =
    λ k h. (let at : (start + k) / 2048 ≡ first / 2048 = omega (arith, low, high, m.aligned) in rw at m.passed) in
    one_fine size keys key _ (inside size access start n room)
    (permitted_is keys key access start n true (permits keys key access start n passed))

-- A range in a block that may be accessed is granted.
pub block_granted : {access : Access} (size : ℕ) (keys : List ℕ) (present : ℕ → Bool) (key first start n : ℕ)
    → MayAccess access size keys present key first → first ≤ start → start + n ≤ first + 2048
    → IsGranted size present start n
block_granted size keys present key first start n m low high = record {
  inside = omega (arith, low, high, m.inside);
  here = λ k h. (let at : (start + k) / 4096 ≡ first / 4096 = omega (arith, low, high, m.aligned) in rw at m.here);
}

-- a number that is small when it is turned right by a bit is even, and twice as small
pub even_below : (n turned : ℕ) → turned ≡ bit_or (n / 2) (n * 2147483648 % 4294967296) → turned ≤ 1021 → (n ≤ 2042)
    × (n % 2 ≡ 0)
even_below n turned e h =
    let halved : n / 2 ≤ 1021 = omega (arith, e, h, le_or_l (n / 2) (n * 2147483648 % 4294967296)) in
    let last : n * 2147483648 % 4294967296 ≤ 1021 = omega (
      arith,
      e,
      h,
      le_or_r (n / 2) (n * 2147483648 % 4294967296),
    ) in
    (omega arith, omega arith)
