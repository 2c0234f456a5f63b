-- The bytes of an area, block by block.
use Rattle.std.specs.Prelude.{ℕ, zero, suc, ◌+◌, ◌-◌, ◌*◌, ◌/◌, ◌%◌, ◌^◌, ◌<◌, ◌≤◌, ◌≡◌, ◌==◌, ◌⊎◌, Bool, true, false}
use Rattle.std.specs.Prelude.{◌&&◌, not, nat_lt, if◌then◌else◌, [], ◌∷◌, length, Option, None, Some, refl}
use Rattle.std.proofs.Common.{ap, ◌∙◌, sym, subst, inl, inr, arith}
use Rattle.std.proofs.lemmas.Bool.Decides.{nat_tests}
use Rattle.std.proofs.lemmas.Bool.{lt-ltb}
use Rattle.s370_store.specs.declared.Access.TheVariants.{Fetch}
use Rattle.s370_store.specs.Access.{Touches}
use Rattle.s370_channel.specs.Guest.{area_block, later}
use Rattle.s370_walk.specs.declared.parts.Ccw.{Ccw}
use Rattle.s370_walk.specs.Blocks.{after, begins_block, block_number}
use Rattle.s370_store.specs.Memory.{Memory}
use Rattle.s370_walk.specs.Hardware.{area}
use Rattle.s370_walk.specs.Walk.{is_indirect, is_jump}
use Rattle.cp_needs.specs.Closure.{IsEntryPage}
use Rattle.s370_walk.specs.Tracks.{has_area}
use Rattle.cp_needs.specs.Areas.{IsBefore, IsBegun, byte_place}
use Rattle.cp_needs.specs.Words.{IsAreaPage, IsPresent}
use Rattle.cp_needs.proofs.Walking.{place_first, place_next}

-- a byte that begins a block lies where the list says
pub begun_place : (list : ℕ → Option ℕ) (k : ℕ) → IsBegun list k → byte_place list k ≡ list (block_number k)
begun_place list k begun = by_before begun.before begun.is begun.begins
  where
    by_before : (before : Option ℕ) → IsBefore list k before → begins_block before ≡ true
        → byte_place list k ≡ list (block_number k)
    by_before None none e = sym (place_first list k none)
    by_before (Some b) (j, next, is) e = place_next list k j b next is ∙ at_end (b % 2048 == 2047) e
      where
        at_end : (ends : Bool) → ends ≡ true
            → (if ends then list (block_number k) else after (Some b)) ≡ list (block_number k)
        at_end true e = refl
        at_end false e = cc

-- the next byte of the same block
next_place : (list : ℕ → Option ℕ) (k a : ℕ) → byte_place list k ≡ Some a → a % 2048 + 1 < 2048 → a < 2 ^ 32
    → byte_place list (suc k) ≡ Some (a + 1)
next_place list k a at inside low =
    let on : (a % 2048 == 2047) ≡ false = grind (arith, nat_tests) in
    let fits : nat_lt (a + 1) (2 ^ 32) ≡ true = lt-ltb (a + 1) (2 ^ 32) (omega (arith, inside, low)) in
    rw (at, on, fits) refl

-- the bytes of one block
pub bytes_on : (list : ℕ → Option ℕ) (k a i : ℕ) → byte_place list k ≡ Some a → a % 2048 + i < 2048 → a < 2 ^ 32
    → byte_place list (k + i) ≡ Some (a + i)
bytes_on list k a zero at inside low =
    (let one : k + 0 ≡ k = omega arith in let two : a + 0 ≡ a = omega arith in rw (one, two) at)
bytes_on list k a (suc i) at inside low =
    let before = bytes_on list k a i at (omega (arith, inside)) low in
    let one : k + suc i ≡ suc (k + i) = omega arith in
    let two : a + suc i ≡ a + i + 1 = omega arith in
    rw (one, two) (next_place list (k + i) (a + i) before (omega (arith, inside)) (omega (arith, inside, low)))

-- past the first that lies nowhere none lies anywhere
pub none_on : (list : ℕ → Option ℕ) (k i : ℕ) → byte_place list k ≡ None → byte_place list (k + i) ≡ None
none_on list k zero at = (let one : k + 0 ≡ k = omega arith in rw one at)
none_on list k (suc i) at =
    let before = none_on list k i at in
    let one : k + suc i ≡ suc (k + i) = omega arith in
    rw (one, before) refl

-- The pages of the first n bytes of an area are present, and those of the words of its list that say where they lie.
pub record IsDone (m : Memory) (w : Ccw) (present : ℕ → Bool) (n : ℕ) : Type 0 where
  pub area : (k a : ℕ) → k < n → byte_place (area_block m w) k ≡ Some a → IsPresent (length m.bytes) present (a / 4096)
  pub listed : (k : ℕ) → k < n → IsBegun (area_block m w) k → is_indirect w ≡ true
      → IsPresent (length m.bytes) present (later w.address (4 * block_number k) / 4096)

pub done_first : (m : Memory) (w : Ccw) (present : ℕ → Bool) → IsDone m w present 0
done_first m w present =
    record {
      area = λ k a lt at. (let no : ⊥ = omega (arith, lt) in absurd no);
      listed = λ k lt begun e. (let no : ⊥ = omega (arith, lt) in absurd no);
    }

-- Before its first byte the list of an area has begun.
pub begun_first : (list : ℕ → Option ℕ) → IsBegun list 0
begun_first list = record { before = None; is = refl; begins = refl }

-- Equal values that are there are equal.
pub some_same : (r s : ℕ) → Some r ≡ Some s → r ≡ s
some_same r s e = cc

-- What is None is no value.
pub none_some : (r : ℕ) (o : Option ℕ) → o ≡ None → o ≡ Some r → ⊥
none_some r None e f = cc
none_some r (Some x) e f = cc

-- no byte within a block begins one
pub within_block : (list : ℕ → Option ℕ) (k a i : ℕ) → byte_place list k ≡ Some a → a % 2048 + suc i < 2048 → a < 2 ^ 32
    → IsBegun list (k + suc i) → ⊥
within_block list k a i at inside low begun = by_before begun.before begun.is begun.begins
  where
    by_before : (before : Option ℕ) → IsBefore list (k + suc i) before → begins_block before ≡ true → ⊥
    by_before None none e = omega (arith, none)
    by_before (Some b) (j, next, is) e =
        let same : j ≡ k + i = omega (arith, next) in
        let there : byte_place list (k + i) ≡ Some (a + i) = bytes_on list k a i at (omega (arith, inside)) low in
        let b_is : b ≡ a + i = some_same b (a + i) (sym is ∙ ap (byte_place list) same ∙ there) in
        let ends : b % 2048 ≡ 2047 = grind (arith, nat_tests) in
        omega (arith, b_is, ends, inside)

-- nor one past the end of the list
pub past_list : (list : ℕ → Option ℕ) (k i : ℕ) → byte_place list k ≡ None → IsBegun list (k + suc i) → ⊥
past_list list k i at begun = by_before begun.before begun.is begun.begins
  where
    by_before : (before : Option ℕ) → IsBefore list (k + suc i) before → begins_block before ≡ true → ⊥
    by_before None none e = omega (arith, none)
    by_before (Some b) (j, next, is) e =
        let same : j ≡ k + i = omega (arith, next) in
        none_some b (byte_place list (k + i)) (none_on list k i at) (ap (byte_place list) (sym same) ∙ is)

-- A number is below another one, or that one plus some more.
pub place_after : (k n : ℕ) → (k < n) ⊎ ((i : ℕ) × (k ≡ n + i))
place_after k n = elim (low_or k n) [ inl lt ↦ inl lt | inr le ↦ inr (k - n, omega (arith, le)) ]
  where
    low_or : (k n : ℕ) → (k < n) ⊎ (n ≤ k)
    low_or k n = grind arith

-- one block more
pub done_on : (m : Memory) (w : Ccw) (present : ℕ → Bool) (n start len : ℕ) → IsDone m w present n
    → IsBegun (area_block m w) n → area_block m w (block_number n) ≡ Some start → start < 2 ^ 32
    → start % 2048 + len ≤ 2048
    → (is_indirect w ≡ true → IsPresent (length m.bytes) present (later w.address (4 * block_number n) / 4096))
    → IsPresent (length m.bytes) present (start / 4096) → IsDone m w present (n + len)
done_on m w present n start len done begun said low short listed here =
    record {
      area = λ k a lt at. byte_here k a lt at (place_after k n);
      listed = λ k lt b e. list_word k lt b e (place_after k n);
    }
  where
    list : ℕ → Option ℕ
    list = area_block m w

    first : byte_place list n ≡ Some start
    first = begun_place list n begun ∙ said

    byte_here : (k a : ℕ) → k < n + len → byte_place list k ≡ Some a → (k < n) ⊎ ((i : ℕ) × (k ≡ n + i))
        → IsPresent (length m.bytes) present (a / 4096)
    byte_here k a lt at (inl before) = done.area k a before at
    byte_here k a lt at (inr (i, is)) =
        let there : byte_place list (n + i) ≡ Some (start + i) =
        bytes_on list n start i first (omega (arith, lt, is, short)) low in
        let same : a ≡ start + i = some_same a (start + i) (sym at ∙ ap (byte_place list) is ∙ there) in
        let page : a / 4096 ≡ start / 4096 = omega (arith, same, lt, is, short) in
        rw page here

    list_word : (k : ℕ) → k < n + len → IsBegun list k → is_indirect w ≡ true → (k < n) ⊎ ((i : ℕ) × (k ≡ n + i))
        → IsPresent (length m.bytes) present (later w.address (4 * block_number k) / 4096)
    list_word k lt b e (inl before) = done.listed k before b e
    list_word k lt b e (inr (zero, is)) = (let same : k ≡ n = omega (arith, is) in rw same (listed e))
    list_word k lt b e (inr (suc i, is)) =
        absurd (within_block list n start i first (omega (arith, lt, is, short)) low (subst (IsBegun list) is b))

-- the next block, if the count goes on
pub begun_on : (list : ℕ → Option ℕ) (n start len : ℕ) → IsBegun list n → list (block_number n) ≡ Some start
    → start < 2 ^ 32 → 0 < len → start % 2048 + len ≡ 2048 → IsBegun list (n + len)
begun_on list n start len begun said low some whole =
    let first : byte_place list n ≡ Some start = begun_place list n begun ∙ said in
    let last : byte_place list (n + (len - 1)) ≡ Some (start + (len - 1)) =
    bytes_on list n start (len - 1) first (omega (arith, whole, some)) low in
    let next : n + len ≡ suc (n + (len - 1)) = omega (arith, some) in
    let at_end : (start + (len - 1)) % 2048 ≡ 2047 = omega (arith, whole, some) in
    record { before = Some (start + (len - 1)); is = (n + (len - 1), next, last); begins = grind (arith, nat_tests) }

-- the list says nothing more
pub done_past : (m : Memory) (w : Ccw) (present : ℕ → Bool) (n most : ℕ) → IsDone m w present n
    → IsBegun (area_block m w) n → area_block m w (block_number n) ≡ None
    → (is_indirect w ≡ true → IsPresent (length m.bytes) present (later w.address (4 * block_number n) / 4096))
    → IsDone m w present most
done_past m w present n most done begun said listed =
    record {
      area = λ k a lt at. byte_here k a at (place_after k n);
      listed = λ k lt b e. list_word k b e (place_after k n);
    }
  where
    list : ℕ → Option ℕ
    list = area_block m w

    none : byte_place list n ≡ None
    none = begun_place list n begun ∙ said

    byte_here : (k a : ℕ) → byte_place list k ≡ Some a → (k < n) ⊎ ((i : ℕ) × (k ≡ n + i))
        → IsPresent (length m.bytes) present (a / 4096)
    byte_here k a at (inl before) = done.area k a before at
    byte_here k a at (inr (i, is)) =
        absurd (none_some a (byte_place list (n + i)) (none_on list n i none) (ap (byte_place list) (sym is) ∙ at))

    list_word : (k : ℕ) → IsBegun list k → is_indirect w ≡ true → (k < n) ⊎ ((i : ℕ) × (k ≡ n + i))
        → IsPresent (length m.bytes) present (later w.address (4 * block_number k) / 4096)
    list_word k b e (inl before) = done.listed k before b e
    list_word k b e (inr (zero, is)) = (let same : k ≡ n = omega (arith, is) in rw same (listed e))
    list_word k b e (inr (suc i, is)) = absurd (past_list list n i none (subst (IsBegun list) is b))

-- ---- Pages

-- A list of addresses begins at a fullword boundary.
pub on_word : (w : Ccw) → has_area w ≡ true → is_indirect w ≡ true → w.address % 4 ≡ 0
on_word w has listed = by_test (is_jump w) (w.address % 4 == 0) refl (rw listed at has)
  where
    by_test : (jumps even : Bool) → (w.address % 4 == 0) ≡ even → not jumps && not (true && not even) ≡ true
        → w.address % 4 ≡ 0
    by_test jumps true e h = grind (arith, nat_tests)
    by_test true false e h = cc
    by_test false false e h = cc

-- where all of its bytes are done, the pages of a word's list and area are present
pub pages_done : (m : Memory) (w : Ccw) (present : ℕ → Bool) (n : ℕ) → has_area w ≡ true → IsDone m w present n
    → w.count ≤ n → (page : ℕ) → IsAreaPage m w page → IsPresent (length m.bytes) present page
pages_done m w present n has done all page (a, inr byte, at) =
    let counted = byte.counted in
    rw at (done.area byte.byte a (omega (arith, counted, all)) byte.at)
pages_done m w present n has done all page (a, inl byte, at) =
    let counted = byte.counted in
    let is = byte.at in
    let within = byte.within in
    let even = on_word w has byte.listed in
    let same : page ≡ later w.address (4 * block_number byte.byte) / 4096 =
    at ∙ page_of w.address (4 * block_number byte.byte) byte.part a is within even (four byte.byte) in
    rw same (done.listed byte.byte (omega (arith, counted, all)) byte.begun byte.listed)
  where
    four : (k : ℕ) → 4 * block_number k % 4 ≡ 0
    four k = (let by : (x : ℕ) → 4 * x % 4 ≡ 0 = λ x. omega arith in by (block_number k))

    page_of : (address more part a : ℕ) → a ≡ later address more + part → part < 4 → address % 4 ≡ 0 → more % 4 ≡ 0
        → a / 4096 ≡ later address more / 4096
    page_of address more part a is within even whole = omega (arith, is, within, even, whole)

-- a page that the block of a byte needs
pub asked_of : (m : Memory) (w : Ccw) (k page : ℕ) → has_area w ≡ true → k < w.count → IsBegun (area_block m w) k
    → IsEntryPage m w (block_number k) page → IsAreaPage m w page
asked_of m w k page has counted begun (inr (a, said, at)) =
    (a, inr (record { byte = k; has = has; counted = counted; at = begun_place (area_block m w) k begun ∙ said }), at)
asked_of m w k page has counted begun (inl touches) = by_list (is_indirect w) refl touches
  where
    by_list : (b : Bool) → is_indirect w ≡ b
        → Touches (if b then area Fetch (later w.address (4 * block_number k)) 4 ∷ [] else []) page
        → IsAreaPage m w page
    by_list false e none = absurd none
    by_list true e (inr none) = absurd none
    by_list true e (inl (part, within, at)) = (
      later w.address (4 * block_number k) + part,
      inl (record {
        byte = k;
        has = has;
        counted = counted;
        begun = begun;
        listed = e;
        part = part;
        within = within;
        at = refl;
      }),
      at,
    )
