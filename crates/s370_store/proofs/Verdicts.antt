-- What the tests of ranges answer, from what a check looks at.
use Rattle.std.proofs.Common.{◌≡◌, ℕ, ◌+◌, ◌/◌, ◌%◌, add-zero, ◌<◌, ◌≤◌, ◌≢◌, Bool, true, false, List, [], ◌∷◌, get_or}
use Rattle.std.proofs.Common.{Some, None, refl, arith, zero, suc, ◌⊎◌, Result, Ok, Err, inl, inr, ◌-◌}
use Rattle.std.proofs.lemmas.Grind.{common_steps}
use Rattle.std.proofs.lemmas.Bool.{cases_eq, true_from_ne_false, both_ways}
use Rattle.std.proofs.lemmas.Bool.Decides.{nat_tests}
use Rattle.std.specs.Bool.{⊤}
use Rattle.std.proofs.Math.Bool.{and-false}
use Rattle.s370_store.specs.Access.{Test, is_passed, is_addressable, is_permitted_from, is_permitted, first_fault}
use Rattle.s370_store.specs.Access.{IsVerdict, Touches, join_of}
use Rattle.s370_store.specs.declared.Access.{Access}
use Rattle.s370_store.specs.declared.Access.TheVariants.{Fetch, Store}
use Rattle.s370_store.specs.declared.Fault.{Fault}
use Rattle.s370_store.specs.declared.Fault.TheVariants.{Addressing, Protection, Absent}

pub key_zero_passes : (access : Access) (block : ℕ) → is_passed access 0 block ≡ true
unfolding is_passed
key_zero_passes Fetch block = refl
key_zero_passes Store block = refl

-- Key zero is permitted everything.
pub key_zero_permits : (keys : List ℕ) (access : Access) (start n : ℕ) → is_permitted_from keys 0 access start n ≡ true
key_zero_permits keys access start zero = refl
key_zero_permits keys access start (suc n) =
    rw (key_zero_passes access (get_or keys ((start + n) / 2048) 0)) (key_zero_permits keys access start n)

-- A range is permitted if each of its bytes is.
pub permits : (keys : List ℕ) (key : ℕ) (access : Access) (start n : ℕ)
    → ((k : ℕ) → k < n → is_passed access key (get_or keys ((start + k) / 2048) 0) ≡ true)
    → is_permitted_from keys key access start n ≡ true
permits keys key access start zero each = refl
permits keys key access start (suc n) each =
    rw (each n (omega arith)) (permits keys key access start n (λ k h. each k (omega arith)))

-- A range is forbidden if one of its bytes is.
pub forbids : (keys : List ℕ) (key : ℕ) (access : Access) (start n k : ℕ) → k < n
    → is_passed access key (get_or keys ((start + k) / 2048) 0) ≡ false
    → is_permitted_from keys key access start n ≡ false
forbids keys key access start zero k h f = absurd (omega arith)
forbids keys key access start (suc n) k h f =
    elim (cases_eq k n) [
      | inl e ↦ (let g : is_passed access key (get_or keys ((start + n) / 2048) 0) ≡ false = rw (← e) f in rw g)
      | inr ne ↦ (let rest = forbids keys key access start n k (omega arith) f in rw rest (and-false _))
    ]

-- a byte of a short range lies in the block of the first byte or in that of the last
either_end : (start k n last : ℕ) → n ≤ 2048 → last + 1 ≡ start + n → k < n → ((start + k) / 2048 ≡ start / 2048)
    ⊎ ((start + k) / 2048 ≡ last / 2048)
either_end start k n last few e h = grind arith

-- a byte of a short range lies in the page of the first byte or in that of the last
pub either_page : (start k n last : ℕ) → n ≤ 256 → last + 1 ≡ start + n → k < n → ((start + k) / 4096 ≡ start / 4096)
    ⊎ ((start + k) / 4096 ≡ last / 4096)
either_page start k n last few e h = grind arith

-- the range is there if its first and last pages are
pub ends_here : (present : ℕ → Bool) (start n last : ℕ) → n ≤ 256 → last + 1 ≡ start + n → present (start / 4096) ≡ true
    → present (last / 4096) ≡ true → (k : ℕ) → k < n → present ((start + k) / 4096) ≡ true
ends_here present start n last few e first_here last_here k h =
    elim (either_page start k n last few e h) [ inl f ↦ rw f first_here | inr f ↦ rw f last_here ]

-- at most 2048 bytes lie in the block of the first and the block of the last
pub ends_permit : (keys : List ℕ) (key : ℕ) (access : Access) (start n last : ℕ) → n ≤ 2048 → last + 1 ≡ start + n
    → is_passed access key (get_or keys (start / 2048) 0) ≡ true
    → is_passed access key (get_or keys (last / 2048) 0) ≡ true → is_permitted_from keys key access start n ≡ true
ends_permit keys key access start n last few e first_passes last_passes =
    permits keys key access start n (λ k h.
    elim (either_end start k n last few e h) [ inl f ↦ rw f first_passes | inr f ↦ rw f last_passes ])

-- the bytes of a range in one block pass as the block does
pub block_permits : (keys : List ℕ) (key : ℕ) (access : Access) (start n : ℕ) (b : Bool) → 0 < n
    → start % 2048 + n ≤ 2048 → is_passed access key (get_or keys (start / 2048) 0) ≡ b
    → is_permitted_from keys key access start n ≡ b
block_permits keys key access start n true some room p =
    permits keys key access start n (λ k h. (let at : (start + k) / 2048 ≡ start / 2048 = omega (arith, room, h) in
    rw at p))
block_permits keys key access start n false some room p =
    let first : is_passed access key (get_or keys ((start + 0) / 2048) 0) ≡ false = rw add-zero p in
    forbids keys key access start n 0 some first

-- A test of an addressable and permitted range finds no exception.
pub one_fine : (size : ℕ) (keys : List ℕ) (key : ℕ) (t : Test) → is_addressable size t ≡ true
    → is_permitted keys key t ≡ true → first_fault size keys key (t ∷ []) ≡ None
one_fine size keys key t a p = rw (a, p)

-- A test of a range past the end of storage finds an addressing exception.
pub one_beyond : (size : ℕ) (keys : List ℕ) (key : ℕ) (t : Test) → is_addressable size t ≡ false
    → first_fault size keys key (t ∷ []) ≡ Some Addressing
one_beyond size keys key t a = rw a

-- A test of an addressable and forbidden range finds a protection exception.
pub one_forbidden : (size : ℕ) (keys : List ℕ) (key : ℕ) (t : Test) → is_addressable size t ≡ true
    → is_permitted keys key t ≡ false → first_fault size keys key (t ∷ []) ≡ Some Protection
one_forbidden size keys key t a p = rw (a, p)

-- A range that ends inside storage is addressable.
pub inside : (size : ℕ) (access : Access) (start n : ℕ) → start + n ≤ size
    → is_addressable size (record { access = access; start = start; count = n }) ≡ true
unfolding is_addressable
inside size access start n h = grind (arith, common_steps)

-- An empty range is addressable.
pub empty_inside : (size : ℕ) (access : Access) (start n : ℕ) → n ≡ 0
    → is_addressable size (record { access = access; start = start; count = n }) ≡ true
unfolding is_addressable
empty_inside size access start n h = rw h

-- A range that ends past storage is not addressable, unless it is empty.
pub beyond : (size : ℕ) (access : Access) (start n : ℕ) → n ≢ 0 → size < start + n
    → is_addressable size (record { access = access; start = start; count = n }) ≡ false
unfolding is_addressable
beyond size access start n ne h = grind (arith, common_steps)

-- A range is permitted by its test if it is from its first byte on.
pub permitted_is : (keys : List ℕ) (key : ℕ) (access : Access) (start n : ℕ) (b : Bool)
    → is_permitted_from keys key access start n ≡ b → is_permitted keys key
    (record { access = access; start = start; count = n }) ≡ b
unfolding is_permitted
permitted_is keys key access start n b h = h

-- what a fine range is: inside the storage
pub fits : (size : ℕ) (keys : List ℕ) (key : ℕ) (access : Access) (start n : ℕ)
    → first_fault size keys key (record { access = access; start = start; count = n } ∷ []) ≡ None → 0 < n
    → start + n ≤ size
unfolding is_addressable
fits size keys key access start n e h = grind (arith, common_steps)

more : (t u : Test) (page : ℕ) → Touches (t ∷ []) page → Touches (t ∷ u ∷ []) page
more t u page (inl x) = inl x
more t u page (inr x) = absurd x

-- two tests together
pub joined : (size : ℕ) (keys : List ℕ) (present : ℕ → Bool) (key : ℕ) (t u : Test) (r s : Result ⊤ Fault)
    → IsVerdict size keys present key (t ∷ []) r → IsVerdict size keys present key (u ∷ []) s
    → IsVerdict size keys present key (t ∷ u ∷ []) (join_of r s)
joined size keys present key t u (Ok _) (Ok _) v w = (grind (arith, common_steps), (v.1.0, (w.1.0, tt)))
joined size keys present key t u (Ok _) (Err Addressing) v w = grind (arith, common_steps)
joined size keys present key t u (Ok _) (Err Protection) v w = grind (arith, common_steps)
joined size keys present key t u (Ok _) (Err (Absent page)) v w = (grind (arith, common_steps), w.1, inr w.2)
joined size keys present key t u (Err Addressing) s v w = grind (arith, common_steps)
joined size keys present key t u (Err Protection) (Ok _) v w = grind (arith, common_steps)
joined size keys present key t u (Err Protection) (Err Addressing) v w = grind (arith, common_steps)
joined size keys present key t u (Err Protection) (Err Protection) v w = grind (arith, common_steps)
joined size keys present key t u (Err Protection) (Err (Absent page)) v w = grind (arith, common_steps)
joined size keys present key t u (Err (Absent page)) (Ok _) v w =
    (grind (arith, common_steps), v.1, more t u page.0 v.2)
joined size keys present key t u (Err (Absent page)) (Err Addressing) v w = grind (arith, common_steps)
joined size keys present key t u (Err (Absent page)) (Err Protection) v w = grind (arith, common_steps)
joined size keys present key t u (Err (Absent page)) (Err (Absent other)) v w =
    (grind (arith, common_steps), v.1, more t u page.0 v.2)

-- ---- each byte of ranges that pass

-- a byte of a range that lies in the storage
pub byte_inside : (size : ℕ) (t : Test) (a : ℕ) → is_addressable size t ≡ true → t.start ≤ a → a < t.start + t.count
    → a < size
unfolding is_addressable
byte_inside size t a e low high = grind (arith, common_steps)

-- a byte of a range that may be accessed
pub byte_passes : (keys : List ℕ) (key : ℕ) (t : Test) (a : ℕ) → is_permitted keys key t ≡ true → t.start ≤ a
    → a < t.start + t.count → is_passed t.access key (get_or keys (a / 2048) 0) ≡ true
unfolding is_permitted
byte_passes keys key t a e low high =
    let at : t.start + (a - t.start) ≡ a = omega arith in
    true_from_ne_false (is_passed t.access key (get_or keys (a / 2048) 0)) (λ f.
    let g : is_passed t.access key (get_or keys ((t.start + (a - t.start)) / 2048) 0) ≡ false = rw at f in
    both_ways _ (forbids keys key t.access t.start t.count (a - t.start) (omega arith) g) e)

-- what a range is that passes: permitted
pub permitted : (size : ℕ) (keys : List ℕ) (key : ℕ) (t : Test) → first_fault size keys key (t ∷ []) ≡ None
    → is_permitted keys key t ≡ true
permitted size keys key t e = grind (arith, common_steps)

-- a part of a range that passes
pub part_fine : (size : ℕ) (keys : List ℕ) (key : ℕ) (access : Access) (start n from m : ℕ)
    → first_fault size keys key (record { access = access; start = start; count = n } ∷ []) ≡ None → 0 < n
    → start ≤ from → from + m ≤ start + n → first_fault size keys key
    (record { access = access; start = from; count = m } ∷ []) ≡ None
part_fine size keys key access start n from m e some low high =
    let whole : Test = record { access = access; start = start; count = n } in
    let part : Test = record { access = access; start = from; count = m } in
    let room = fits size keys key access start n e some in
    let each : (k : ℕ) → k < m → is_passed access key (get_or keys ((from + k) / 2048) 0) ≡ true = λ k lt. byte_passes
    keys key whole (from + k) (permitted size keys key whole e) (omega arith) (omega arith) in
    one_fine size keys key part (inside size access from m (omega arith))
    (permitted_is keys key access from m true (permits keys key access from m each))

-- a store with a key other than zero passes only a block that has this key
pub store_matches : (key block : ℕ) → is_passed Store key block ≡ true → key ≢ 0 → block / 2 ≡ key
unfolding is_passed
store_matches key block e some = grind (arith, nat_tests, common_steps)
