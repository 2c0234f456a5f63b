-- Bytes that a mask chooses.
use Rattle.std.proofs.Common.{◌≡◌, ⊎_elim, ℕ, zero, suc, ◌+◌, ◌<◌, ◌≤◌, true, List, [], ◌∷◌, length, get_or, refl, ap}
use Rattle.std.proofs.Common.{arith, take, Bool, false, ◌*◌, ◌/◌, ◌%◌, ◌^◌, ◌∙◌}
use Rattle.std.proofs.lemmas.Bool.{cases_eq}
use Rattle.std.proofs.lemmas.Bool.Decides.{nat_tests}
use Rattle.std.proofs.lemmas.List.{get_or-take}
use Rattle.s370_bytes.specs.Masks.{is_chosen, chosen_before, byte_inserted, inserted, chosen_count}

-- a list of four bytes, each of which is the one that is inserted
pub inserted_is : (mask : ℕ) (xs ys zs : List ℕ) → length zs ≡ 4
    → ((j : ℕ) → j < 4 → get_or zs j 0 ≡ byte_inserted mask xs ys j) → zs ≡ inserted mask xs ys
unfolding inserted
inserted_is mask xs ys [] l h = absurd (omega arith)
inserted_is mask xs ys (a ∷ []) l h = absurd (omega arith)
inserted_is mask xs ys (a ∷ b ∷ []) l h = absurd (omega arith)
inserted_is mask xs ys (a ∷ b ∷ c ∷ []) l h = absurd (omega arith)
inserted_is mask xs ys (a ∷ b ∷ c ∷ d ∷ []) l h =
    let p : a ≡ byte_inserted mask xs ys 0 = h 0 (omega arith) in
    let q : b ≡ byte_inserted mask xs ys 1 = h 1 (omega arith) in
    let r : c ≡ byte_inserted mask xs ys 2 = h 2 (omega arith) in
    let s : d ≡ byte_inserted mask xs ys 3 = h 3 (omega arith) in
    cc
inserted_is mask xs ys (a ∷ b ∷ c ∷ d ∷ e ∷ zs) l h = absurd (omega arith)

-- a byte that is chosen has its place among all that are
before_more : (mask k n : ℕ) → k ≤ n → chosen_before mask k ≤ chosen_before mask n
before_more mask k zero h = let e : k ≡ 0 = omega arith in omega (arith, ap (λ (i : ℕ). chosen_before mask i) e)
before_more mask k (suc n) h =
    ⊎_elim
    (λ (same : k ≡ suc n). omega (arith, ap (λ (i : ℕ). chosen_before mask i) same))
    (λ (other : k ≡ suc n → ⊥). omega (arith, before_more mask k n (omega (arith, other))))
    (cases_eq k (suc n))

-- A chosen byte is one of those that are chosen.
pub place_inside : (mask k : ℕ) → k < 4 → is_chosen mask k ≡ true → chosen_before mask k < chosen_count mask
unfolding chosen_count
place_inside mask k h e =
    let m : chosen_before mask (suc k) ≤ chosen_before mask 4 = before_more mask (suc k) 4 (omega arith) in
    let f : chosen_before mask (suc k) ≡ chosen_before mask k + 1 = rw e refl in
    omega (arith, m, f)

-- A byte that is inserted is one of the first, as many as the mask chooses.
byte_front : (mask : ℕ) (xs ys : List ℕ) (k : ℕ) → k < 4 → (b : Bool) → is_chosen mask k ≡ b
    → byte_inserted mask xs (take (chosen_count mask) ys) k ≡ byte_inserted mask xs ys k
byte_front mask xs ys k h true e =
    rw e (get_or-take (chosen_count mask) ys (chosen_before mask k) 0 (place_inside mask k h e))
byte_front mask xs ys k h false e = rw e refl

-- Only the first bytes are inserted, as many as the mask chooses.
pub inserted_front : (mask : ℕ) (xs ys : List ℕ)
    → inserted mask xs (take (chosen_count mask) ys) ≡ inserted mask xs ys
unfolding inserted
inserted_front mask xs ys =
    rw (
      byte_front mask xs ys 0 (omega arith) _ refl,
      byte_front mask xs ys 1 (omega arith) _ refl,
      byte_front mask xs ys 2 (omega arith) _ refl,
      byte_front mask xs ys 3 (omega arith) _ refl,
    ) refl

-- ---- how many bytes a mask chooses, in a table

-- four bits of the table for each mask
abbrev table_at : ℕ → ℕ
table_at m = 0x4332322132212110 / 2 ^ (4 * m) % 16

-- the table is right for each mask below n
Agree : ℕ → Type 0
Agree zero = Unit {0}
Agree (suc m) = (table_at m ≡ chosen_before m 4) × Agree m

agree_at : (n m : ℕ) → m < n → Agree n → table_at m ≡ chosen_before m 4
unfolding Agree
agree_at zero m h e = absurd (omega arith)
agree_at (suc n) m h e =
    ⊎_elim
    (λ (same : m ≡ n). rw same e.0)
    (λ (other : m ≡ n → ⊥). agree_at n m (omega (arith, other)) e.1)
    (cases_eq m n)

all_agree : Agree 16
unfolding Agree
all_agree = (
  refl,
  (
    refl,
    (
      refl,
      (
        refl,
        (
          refl,
          (
            refl,
            (
              refl,
              (
                refl,
                (
                  refl,
                  (
                    refl,
                    (
                      refl,
                      (
                        refl,
                        (
                          refl,
                          (
                            refl,
                            (
                              refl,
                              (refl, tt),
                            ),
                          ),
                        ),
                      ),
                    ),
                  ),
                ),
              ),
            ),
          ),
        ),
      ),
    ),
  ),
)

-- only the last four bits of a mask choose bytes
last_bits : (mask : ℕ) → chosen_before (mask % 16) 4 ≡ chosen_before mask 4
last_bits mask =
    let a : mask % 16 / 2 ^ 3 % 2 ≡ mask / 2 ^ 3 % 2 = omega arith in
    let b : mask % 16 / 2 ^ 2 % 2 ≡ mask / 2 ^ 2 % 2 = omega arith in
    let d : mask % 16 / 2 ^ 1 % 2 ≡ mask / 2 ^ 1 % 2 = omega arith in
    let e : mask % 16 / 2 ^ 0 % 2 ≡ mask / 2 ^ 0 % 2 = omega arith in
    rw (a, b, d, e) refl

-- The table holds how many bytes each mask chooses.
pub table_is : (mask : ℕ) → 0x4332322132212110 / 2 ^ (4 * (mask % 16)) % 16 ≡ chosen_count mask
unfolding chosen_count
table_is mask = agree_at 16 (mask % 16) (omega arith) all_agree ∙ last_bits mask

-- A mask chooses at most four bytes.
pub at_most_four : (mask : ℕ) → chosen_count mask ≤ 4
unfolding chosen_count
at_most_four mask = grind (arith, nat_tests)
