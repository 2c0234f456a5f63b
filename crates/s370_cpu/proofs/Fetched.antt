-- A fetch of six bytes at once: what passes for all of them passes for each part, and they hold the instruction.
use Rattle.std.proofs.Common.{◌≡◌, ℕ, ◌+◌, ◌-◌, ◌*◌, ◌/◌, ◌%◌, ◌<◌, ◌≤◌, true, false, length, get_or, drop, List, []}
use Rattle.std.proofs.Common.{◌∷◌, None, Ok, refl, sym, ◌∙◌, ap, arith, inl, inr}
use Rattle.std.specs.Prelude.{if◌then◌else◌, nat_lt}
use Rattle.std.specs.List.{slice_range}
use Rattle.std.specs.Int.{w16, from_be_bytes}
use Rattle.std.proofs.lemmas.List.{get_or-take, get_or-drop}
use Rattle.std.proofs.lemmas.Bool.{cases_lt}
use Rattle.std.proofs.lemmas.Bool.Decides.{nat_tests}
use Rattle.std.proofs.lemmas.Grind.{common_steps}
use Rattle.s370_store.specs.Access.{first_fault}
use Rattle.s370_store.specs.declared.Access.TheVariants.{Fetch}
use Rattle.s370_store.proofs.Verdicts.{part_fine}
use Rattle.s370_rows.specs.declared.instruction.Instruction.{Instruction}
use Rattle.s370_rows.specs.State.{State}
use Rattle.s370_rows.specs.Rows.{fetch_test, half_at, fault_of, code_of}
use Rattle.s370_cpu.specs.Fetch.{fetched, fetched_after, rest_fetched, rest_tests, halfwords_of, instruction_at}

-- the rest of an instruction passes where six bytes do
rest_fine : (m : State) (a n : ℕ) → n ≤ 3 → first_fault (length m.bytes) m.keys m.cpu.psw.key
    (fetch_test a 6 ∷ []) ≡ None → fault_of m (rest_tests a n) ≡ None
rest_fine m a n small e = elim (cases_lt 1 n) [
  | inl h ↦ (let more : nat_lt 1 n ≡ true = grind (arith, nat_tests) in
      let fine = part_fine (length m.bytes) m.keys m.cpu.psw.key Fetch a 6 (a + 2) (2 * (n - 1)) e (omega arith)
      (omega arith) (omega arith) in
      ap (λ b. fault_of m (if b then fetch_test (a + 2) (2 * (n - 1)) ∷ [] else [])) more ∙ ap code_of fine)
  | inr h ↦ (let more : nat_lt 1 n ≡ false = grind (arith, nat_tests) in
      ap (λ b. fault_of m (if b then fetch_test (a + 2) (2 * (n - 1)) ∷ [] else [])) more)
]

-- An instruction has at most three halfwords.
pub short : (opcode : ℕ) → halfwords_of opcode ≤ 3
short opcode = grind (arith, nat_tests, common_steps)

-- An instruction that may be fetched is the one in storage.
pub fetch_finds : (m : State) (a : ℕ) → a % 2 ≡ 0 → first_fault (length m.bytes) m.keys m.cpu.psw.key
    (fetch_test a 6 ∷ []) ≡ None → (fetched m a).result ≡ Ok (instruction_at m.bytes a)
fetch_finds m a even e =
    let first : fault_of m (fetch_test a 2 ∷ []) ≡ None = ap code_of
    (part_fine (length m.bytes) m.keys m.cpu.psw.key Fetch a 6 a 2 e (omega arith) (omega arith) (omega arith)) in
    let rest : fault_of m (rest_tests a (halfwords_of (half_at m.bytes a / 256))) ≡ None = rest_fine m a
    (halfwords_of (half_at m.bytes a / 256)) (short (half_at m.bytes a / 256)) e in
    rw even (ap (λ o. (fetched_after m a o).result) first ∙ ap (rest_fetched m a) rest)

-- what is fetched in two parts: the first halfword, which says how many there are, and then the others
pub parts_found : (m : State) (a n : ℕ) (i : Instruction) → a % 2 ≡ 0 → fault_of m (fetch_test a 2 ∷ []) ≡ None
    → n ≡ halfwords_of (half_at m.bytes a / 256) → 1 < n → fault_of m (fetch_test (a + 2) (2 * (n - 1)) ∷ []) ≡ None
    → i ≡ instruction_at m.bytes a → (fetched m a).result ≡ Ok i
parts_found m a n i even first is more rest same =
    let here : nat_lt 1 n ≡ true = grind (arith, nat_tests) in
    let fine : fault_of m (rest_tests a (halfwords_of (half_at m.bytes a / 256))) ≡ None = rw (← is)
    (ap (λ b. fault_of m (if b then fetch_test (a + 2) (2 * (n - 1)) ∷ [] else [])) here ∙ rest) in
    rw even (ap (λ o. (fetched_after m a o).result) first ∙ (ap (rest_fetched m a) fine ∙ ap Ok (sym same)))

-- ---- the bytes

read_in : (xs : List ℕ) (a b k j : ℕ) → k < b - a → a + k ≡ j → get_or (slice_range xs a b) k 0 ≡ get_or xs j 0
read_in xs a b k j lt e = get_or-take (b - a) (drop a xs) k 0 lt ∙ get_or-drop a xs k 0 ∙ ap (λ i. get_or xs i 0) e

half_in : (xs : List ℕ) (a k j : ℕ) → k + 2 ≤ 6 → a + k ≡ j → from_be_bytes w16
    (get_or (slice_range xs a (a + 6)) k 0 ∷ get_or (slice_range xs a (a + 6)) (k + 1) 0 ∷ []) ≡ half_at xs j
half_in xs a k j low e =
    let x0 = read_in xs j (j + 2) 0 j (omega arith) (omega arith) in
    let x1 = read_in xs j (j + 2) 1 (j + 1) (omega arith) (omega arith) in
    let y0 = read_in xs a (a + 6) k j (omega arith) (omega arith) in
    let y1 = read_in xs a (a + 6) (k + 1) (j + 1) (omega arith) (omega arith) in
    omega (arith, x0, x1, y0, y1)

-- the first of six bytes
pub first_of : (bytes six : List ℕ) (a : ℕ) → six ≡ slice_range bytes a (a + 6) → get_or six 0 0 ≡ get_or bytes a 0
first_of bytes six a is = rw is (read_in bytes a (a + 6) 0 a (omega arith) (omega arith))

abbrev pub made : ℕ → ℕ → ℕ → ℕ → Instruction
made opcode second h t = record {
  opcode = opcode;
  second_byte = second;
  second_half = if nat_lt opcode 0x40 then 0 else h;
  third_half = if nat_lt opcode 0xC0 then 0 else t;
}

made_same : (o o' s s' h h' t t' : ℕ) → o ≡ o' → s ≡ s' → h ≡ h' → t ≡ t' → made o s h t ≡ made o' s' h' t'
made_same o o' s s' h h' t t' a b c d = ap (λ x. made x s h t) a ∙ ap (λ x. made o' x h t) b
    ∙ ap (λ x. made o' s' x t) c ∙ ap (λ x. made o' s' h' x) d

-- Six bytes of storage are the parts of the instruction.
pub six_hold : (bytes six : List ℕ) (a : ℕ) → six ≡ slice_range bytes a (a + 6) → get_or six 1 0 < 256 →
    made (get_or six 0 0) (get_or six 1 0) (from_be_bytes w16 (get_or six 2 0 ∷ get_or six 3 0 ∷ []))
    (from_be_bytes w16 (get_or six 4 0 ∷ get_or six 5 0 ∷ [])) ≡ instruction_at bytes a
six_hold bytes six a is small =
    let first : from_be_bytes w16 (get_or six 0 0 ∷ get_or six 1 0 ∷ []) ≡ half_at bytes a = rw is
    (half_in bytes a 0 a (omega arith) (omega arith)) in
    let second : from_be_bytes w16 (get_or six 2 0 ∷ get_or six 3 0 ∷ []) ≡ half_at bytes (a + 2) = rw is
    (half_in bytes a 2 (a + 2) (omega arith) refl) in
    let third : from_be_bytes w16 (get_or six 4 0 ∷ get_or six 5 0 ∷ []) ≡ half_at bytes (a + 4) = rw is
    (half_in bytes a 4 (a + 4) (omega arith) refl) in
    made_same (get_or six 0 0) (half_at bytes a / 256) (get_or six 1 0) (half_at bytes a % 256) _ _ _ _
    (omega (arith, first)) (omega (arith, first)) second third

-- the instruction of three halfwords
pub three_hold : (bytes : List ℕ) (a first byte second third n : ℕ) → n ≡ halfwords_of (half_at bytes a / 256) → 2 < n
    → first ≡ half_at bytes a → byte ≡ first % 256 → second ≡ half_at bytes (a + 2) → third ≡ half_at bytes (a + 4) →
    record {
      opcode = first / 256;
      second_byte = byte;
      second_half = second;
      third_half = third;
    } ≡ instruction_at bytes a
three_hold bytes a first byte second third n is more x b y z =
    let long : nat_lt (half_at bytes a / 256) 0xC0 ≡ false = grind (arith, nat_tests, common_steps) in
    let longer : nat_lt (half_at bytes a / 256) 0x40 ≡ false = grind (arith, nat_tests, common_steps) in
    rw (b, x, y, z, long, longer) refl
