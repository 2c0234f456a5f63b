-- Parts of the long move, one after another, as one.
use Rattle.std.proofs.Common.{◌≡◌, ◌≢◌, ⊎_elim, ℕ, zero, suc, ◌+◌, ◌-◌, ◌*◌, ◌/◌, ◌%◌, ◌^◌, ◌<◌, ◌≤◌, ◌⊎◌, inl, inr}
use Rattle.std.proofs.Common.{arith, refl, sym, ◌∙◌, ap, subst, Bool, true, false, ◌&&◌, if◌then◌else◌, List, [], ◌∷◌}
use Rattle.std.proofs.Common.{get_or, set, length, min, eqb, Ok, None, Some, slice_index, slice_range}
use Rattle.std.proofs.lemmas.Grind.{common_steps, same_number_lists}
use Rattle.std.proofs.lemmas.List.{append-nil, get_or-set_same, get_or-set_other, length-set, set-set, set_comm}
use Rattle.std.proofs.Math.Nat.{min-eq_left}
use Rattle.std.proofs.lemmas.Bool.{cases_lt, eq-eqb, ne_eqb}
use Rattle.std.proofs.lemmas.Bool.Decides.{nat_tests}
use Rattle.s370_store.specs.Access.{Test, first_fault, is_addressable, is_permitted, put}
use Rattle.s370_store.specs.declared.Access.TheVariants.{Fetch, Store}
use Rattle.s370_store.specs.declared.Fault.TheVariants.{Addressing, Protection}
use Rattle.s370_store.proofs.Verdicts.{part_fine}
use Rattle.s370_store.specs.Memory.{memory_of}
use Rattle.s370_rows.specs.declared.cpu.Cpu.{Cpu}
use Rattle.s370_rows.specs.declared.instruction.Instruction.{Instruction}
use Rattle.s370_rows.specs.declared.ending.Completion.TheVariants.{Again}
use Rattle.s370_rows.specs.Formats.{r1_of, r2_of}
use Rattle.s370_rows.specs.State.{State, state_of}
use Rattle.s370_rows.specs.Rows.{code_of, fault_of, fetch_test, judged, outcome_of, store_test}
use Rattle.s370_bytes.specs.declared.long.Operand.{Operand}
use Rattle.s370_bytes.specs.Strings.{padded}
use Rattle.s370_bytes.specs.Long.{ArePairs, AreParts, IsPart, destroys, long_moved, operand_of, part_moved, past}
use Rattle.s370_bytes.specs.Long.{with_operand}
use Rattle.s370_bytes.proofs.Places.{length-put, length-range, put_above, put_below, put_inside, range_inside}

-- ---- bytes

-- a copy, and one more from where it ended, are one copy, where no byte is read that was written
pub put_on : (bytes : List ℕ) (to from a b : ℕ) → to + (a + b) ≤ length bytes → from + (a + b) ≤ length bytes
    → (from + (a + b) ≤ to) ⊎ (to ≤ from)
    → (let one = put bytes to (slice_range bytes from (from + a)) in
    put one (to + a) (slice_range one (from + a) (from + a + b)) ≡ put bytes to
    (slice_range bytes from (from + (a + b))))
put_on bytes to from a b target source apart =
    let first = slice_range bytes from (from + a) in
    let one = put bytes to first in
    let second = slice_range one (from + a) (from + a + b) in
    let all = slice_range bytes from (from + (a + b)) in
    let long_first : length first ≡ a = length-range bytes from a (omega arith) in
    let long_one : length one ≡ length bytes = length-put bytes first to (rw long_first (omega arith)) in
    let long_second : length second ≡ b = length-range one (from + a) b (rw long_one (omega arith)) in
    let long_all : length all ≡ a + b = length-range bytes from (a + b) source in
    let kept : (k : ℕ) → k < b → get_or one (from + a + k) 0 ≡ get_or bytes (from + a + k) 0 =
    λ k h. ⊎_elim
    (λ (low : from + (a + b) ≤ to). put_below bytes first to (from + a + k) (rw long_first (omega arith)) (omega arith))
    (λ (high : to ≤ from). put_above bytes first to (from + a + k) (rw long_first (omega arith))
    (rw long_first (omega arith)))
    apart in
    same_number_lists _ _ (length-put one second (to + a) (rw (long_second, long_one) (omega arith)) ∙ long_one
    ∙ sym (length-put bytes all to (rw long_all target)))
    (λ k (small : k < length (put one (to + a) second)). ⊎_elim
    (λ (below : k < to). put_below one second (to + a) k (rw (long_second, long_one) (omega arith)) (omega arith)
    ∙ put_below bytes first to k (rw long_first (omega arith)) below
    ∙ sym (put_below bytes all to k (rw long_all target) below))
    (λ (from_to : to ≤ k). ⊎_elim
    (λ (in_first : k < to + a).
    put_below one second (to + a) k (rw (long_second, long_one) (omega arith)) in_first
    ∙ put_inside bytes first to k (rw long_first (omega arith)) from_to (rw long_first in_first)
    ∙ range_inside bytes from a (k - to) (omega arith)
    ∙ sym (put_inside bytes all to k (rw long_all target) from_to (rw long_all (omega arith))
    ∙ range_inside bytes from (a + b) (k - to) (omega arith)))
    (λ (after_first : to + a ≤ k). ⊎_elim
    (λ (in_second : k < to + (a + b)).
    (let at : from + a + (k - (to + a)) ≡ from + (k - to) = omega arith in
    put_inside one second (to + a) k (rw (long_second, long_one) (omega arith)) after_first
    (rw long_second (omega arith))
    ∙ range_inside one (from + a) b (k - (to + a)) (omega arith)
    ∙ kept (k - (to + a)) (omega arith)
    ∙ ap (λ (x : ℕ). get_or bytes x 0) at
    ∙ sym (put_inside bytes all to k (rw long_all target) from_to (rw long_all in_second)
    ∙ range_inside bytes from (a + b) (k - to) (omega arith))))
    (λ (above : to + (a + b) ≤ k).
    put_above one second (to + a) k (rw (long_second, long_one) (omega arith)) (rw long_second (omega arith))
    ∙ put_above bytes first to k (rw long_first (omega arith)) (rw long_first (omega arith))
    ∙ sym (put_above bytes all to k (rw long_all target) (rw long_all above)))
    (cases_lt k (to + (a + b))))
    (cases_lt k (to + a)))
    (cases_lt k to))

-- the two bytes at an address, which are not among those that are moved
pub part_kept : (bytes bytes_2 : List ℕ) (to from n start k : ℕ) → to + n ≤ length bytes → from + n ≤ length bytes
    → bytes_2 ≡ put bytes to (slice_range bytes from (from + n))
    → (start + 1 < to) ⊎ (to + n ≤ start) → k ≤ 1 → slice_index bytes_2 (start + k) ≡ slice_index bytes (start + k)
part_kept bytes bytes_2 to from n start k target source b (inl below) l =
    let long : length (slice_range bytes from (from + n)) ≡ n = length-range bytes from n source in
    rw b (put_below bytes (slice_range bytes from (from + n)) to (start + k) (rw long target) (omega (arith, below, l)))
part_kept bytes bytes_2 to from n start k target source b (inr above) l =
    let long : length (slice_range bytes from (from + n)) ≡ n = length-range bytes from n source in
    rw b (put_above bytes (slice_range bytes from (from + n)) to (start + k) (rw long target)
    (rw long (omega (arith, above))))

-- ---- registers

abbrev four : List ℕ → ℕ → ℕ → ℕ → ℕ → ℕ → ℕ → List ℕ
four g r1 r2 a b c d = set (set (set (set g r1 a) (r1 + 1) b) r2 c) (r2 + 1) d

over_one : (g : List ℕ) (s t c d c' : ℕ) → t ≢ s → set (set (set g s c) t d) s c' ≡ set (set g s c') t d
over_one g s t c d c' ne = set_comm (set g s c) t s d c' ne ∙ ap (λ (x : List ℕ). set x t d) (set-set g s c c')

over_two : (g : List ℕ) (q s t b c d b' : ℕ) → s ≢ q → t ≢ q
    → set (set (set (set g q b) s c) t d) q b' ≡ set (set (set g q b') s c) t d
over_two g q s t b c d b' ne nf = set_comm (set (set g q b) s c) t q d b' nf
    ∙ ap (λ (x : List ℕ). set x t d) (over_one g q s b c b' ne)

over_three : (g : List ℕ) (p q s t a b c d a' : ℕ) → q ≢ p → s ≢ p → t ≢ p
    → set (set (set (set (set g p a) q b) s c) t d) p a' ≡ set (set (set (set g p a') q b) s c) t d
over_three g p q s t a b c d a' ne nf ng = set_comm (set (set (set g p a) q b) s c) t p d a' ng
    ∙ ap (λ (x : List ℕ). set x t d) (over_two g p q s a b c a' ne nf)

four_over : (g : List ℕ) (r1 r2 a b c d a' b' c' d' : ℕ) → ArePairs r1 r2
    → four (four g r1 r2 a b c d) r1 r2 a' b' c' d' ≡ four g r1 r2 a' b' c' d'
four_over g r1 r2 a b c d a' b' c' d' p =
    let ne : r2 ≢ r1 = λ e. p.apart (sym e) in
    let nf : r2 ≢ r1 + 1 = omega (arith, p.first, p.second) in
    let ng : r2 + 1 ≢ r1 = omega (arith, p.first, p.second) in
    let nh : r2 + 1 ≢ r1 + 1 = λ e. ne (omega arith) in
    ap (λ (x : List ℕ). set (set (set x (r1 + 1) b') r2 c') (r2 + 1) d')
    (over_three g r1 (r1 + 1) r2 (r2 + 1) a b c d a' (omega arith) ne ng)
    ∙ ap (λ (x : List ℕ). set (set x r2 c') (r2 + 1) d') (over_two (set g r1 a') (r1 + 1) r2 (r2 + 1) b c d b' nf nh)
    ∙ ap (λ (x : List ℕ). set x (r2 + 1) d') (over_one (set (set g r1 a') (r1 + 1) b') r2 (r2 + 1) c d c' (omega arith))
    ∙ set-set (set (set (set g r1 a') (r1 + 1) b') r2 c') (r2 + 1) d d'

four_first : (g : List ℕ) (r1 r2 a b c d : ℕ) → ArePairs r1 r2 → r1 < length g → get_or (four g r1 r2 a b c d) r1 0 ≡ a
four_first g r1 r2 a b c d p l =
    get_or-set_other _ (r2 + 1) r1 d 0 (omega (arith, p.first, p.second)) ∙ get_or-set_other _ r2 r1 c 0 p.apart
    ∙ get_or-set_other _ (r1 + 1) r1 b 0 (omega arith) ∙ get_or-set_same g r1 a 0 l

four_second : (g : List ℕ) (r1 r2 a b c d : ℕ) → ArePairs r1 r2 → r1 + 1 < length g
    → get_or (four g r1 r2 a b c d) (r1 + 1) 0 ≡ b
four_second g r1 r2 a b c d p l =
    let ne : r1 + 1 ≢ r2 + 1 = λ e. p.apart (omega arith) in
    get_or-set_other _ (r2 + 1) (r1 + 1) d 0 ne ∙ get_or-set_other _ r2 (r1 + 1) c 0 (omega (arith, p.first, p.second))
    ∙ get_or-set_same _ (r1 + 1) b 0 (omega (arith, l, length-set g r1 a))

four_third : (g : List ℕ) (r1 r2 a b c d : ℕ) → r2 < length g → get_or (four g r1 r2 a b c d) r2 0 ≡ c
four_third g r1 r2 a b c d l =
    get_or-set_other _ (r2 + 1) r2 d 0 (omega arith) ∙ get_or-set_same _ r2 c 0
    (omega (arith, l, length-set g r1 a, length-set (set g r1 a) (r1 + 1) b))

four_fourth : (g : List ℕ) (r1 r2 a b c d : ℕ) → r2 + 1 < length g → get_or (four g r1 r2 a b c d) (r2 + 1) 0 ≡ d
four_fourth g r1 r2 a b c d l = get_or-set_same _ (r2 + 1) d 0
    (omega (
      arith,
      l,
      length-set g r1 a,
      length-set (set g r1 a) (r1 + 1) b,
      length-set (set (set g r1 a) (r1 + 1) b) r2 c,
    ))

length-four : (g : List ℕ) (r1 r2 a b c d : ℕ) → length (four g r1 r2 a b c d) ≡ length g
length-four g r1 r2 a b c d =
    length-set (set (set (set g r1 a) (r1 + 1) b) r2 c) (r2 + 1) d ∙ length-set (set (set g r1 a) (r1 + 1) b) r2 c
    ∙ length-set (set g r1 a) (r1 + 1) b ∙ length-set g r1 a

operand_same : (a a' c c' p p' : ℕ) → a ≡ a' → c ≡ c' → p ≡ p'
    → (let o : Operand = record { address = a; count = c; pad = p } in
    o ≡ record { address = a'; count = c'; pad = p' })
operand_same a a' c c' p p' e f g = rw (e, f, g) refl

-- an operand that was written into a pair is read from it
operand_is : (x y : ℕ) (o : Operand) → x ≡ o.address → y ≡ o.pad * 2 ^ 24 + o.count → o.address < 2 ^ 24
    → o.count < 2 ^ 24 → (let r : Operand = record { address = x % 2 ^ 24; count = y % 2 ^ 24; pad = y / 2 ^ 24 } in
    r ≡ o)
operand_is x y o e f low small = operand_same (x % 2 ^ 24) o.address (y % 2 ^ 24) o.count (y / 2 ^ 24) o.pad
    (omega arith) (omega arith) (omega arith)

-- both pairs after so many bytes
abbrev pub left_of : Cpu → ℕ → ℕ → ℕ → Cpu
left_of cpu r1 r2 n = with_operand (with_operand cpu r1 (past (operand_of cpu r1) n)) r2 (past (operand_of cpu r2) n)

first_left : (cpu : Cpu) (r1 r2 n : ℕ) → ArePairs r1 r2 → r1 < 15 → length cpu.general ≡ 16
    → operand_of (left_of cpu r1 r2 n) r1 ≡ past (operand_of cpu r1) n
first_left cpu r1 r2 n p l full =
    operand_is _ _ (past (operand_of cpu r1) n) (four_first cpu.general r1 r2 _ _ _ _ p (omega (arith, full)))
    (four_second cpu.general r1 r2 _ _ _ _ p (omega (arith, full))) (omega arith) (omega arith)

second_left : (cpu : Cpu) (r1 r2 n : ℕ) → r2 < 15 → length cpu.general ≡ 16
    → operand_of (left_of cpu r1 r2 n) r2 ≡ past (operand_of cpu r2) n
second_left cpu r1 r2 n l full =
    operand_is _ _ (past (operand_of cpu r2) n) (four_third cpu.general r1 r2 _ _ _ _ (omega (arith, full)))
    (four_fourth cpu.general r1 r2 _ _ _ _ (omega (arith, full))) (omega arith) (omega arith)

past_past : (o : Operand) (a b : ℕ) → past (past o a) b ≡ past o (a + b)
past_past o a b = operand_same _ _ _ _ o.pad o.pad (omega arith) (omega arith) refl

with_general : (cpu : Cpu) (g h : List ℕ) → g ≡ h → record cpu { general = g } ≡ record cpu { general = h }
with_general cpu g h e = ap (λ (x : List ℕ). record cpu { general = x }) e

-- both pairs after some bytes, and after some more
left_left : (cpu : Cpu) (r1 r2 a b : ℕ) → ArePairs r1 r2 → r1 < 15 → r2 < 15 → length cpu.general ≡ 16
    → left_of (left_of cpu r1 r2 a) r1 r2 b ≡ left_of cpu r1 r2 (a + b)
left_left cpu r1 r2 a b p l l2 full =
    let one = left_of cpu r1 r2 a in
    let o1 = past (operand_of cpu r1) (a + b) in
    let o2 = past (operand_of cpu r2) (a + b) in
    let f1 : past (operand_of one r1) b ≡ o1 = ap (λ (o : Operand). past o b) (first_left cpu r1 r2 a p l full)
    ∙ past_past (operand_of cpu r1) a b in
    let f2 : past (operand_of one r2) b ≡ o2 = ap (λ (o : Operand). past o b) (second_left cpu r1 r2 a l2 full)
    ∙ past_past (operand_of cpu r2) a b in
    ap (λ (o : Operand). with_operand (with_operand one r1 o) r2 (past (operand_of one r2) b)) f1
    ∙ ap (λ (o : Operand). with_operand (with_operand one r1 o1) r2 o) f2
    ∙ with_general cpu _ _ (four_over cpu.general r1 r2 _ _ _ _ o1.address (o1.pad * 2 ^ 24 + o1.count) o2.address
    (o2.pad * 2 ^ 24 + o2.count) p)

-- ---- tests

both_pass : (a b c d : Bool) → code_of (if a && (b && true) then
    (if c && (d && true) then None else Some Protection) else Some Addressing) ≡ None → (a ≡ true) × (b ≡ true)
    × (c ≡ true) × (d ≡ true)
both_pass true true true true e = (refl, refl, refl, refl)
both_pass true true true false e = cc
both_pass true true false d e = cc
both_pass true false c d e = cc
both_pass false b c d e = cc

one_test : (size : ℕ) (keys : List ℕ) (key : ℕ) (t : Test) → is_addressable size t ≡ true
    → is_permitted keys key t ≡ true → first_fault size keys key (t ∷ []) ≡ None
one_test size keys key t a p = rw (a, p) refl

two_tests : (size : ℕ) (keys : List ℕ) (key : ℕ) (t u : Test) → first_fault size keys key (t ∷ []) ≡ None
    → first_fault size keys key (u ∷ []) ≡ None → code_of (first_fault size keys key (t ∷ u ∷ [])) ≡ None
two_tests size keys key t u e f = grind (arith, common_steps)

-- parts of two ranges that pass
fine_parts : (m m' : State) (to from n to_2 from_2 k : ℕ) → length m'.bytes ≡ length m.bytes → m'.keys ≡ m.keys
    → m'.cpu.psw ≡ m.cpu.psw → 0 < n → to ≤ to_2 → to_2 + k ≤ to + n → from ≤ from_2 → from_2 + k ≤ from + n
    → fault_of m (store_test to n ∷ fetch_test from n ∷ []) ≡ None
    → fault_of m' (store_test to_2 k ∷ fetch_test from_2 k ∷ []) ≡ None
fine_parts m m' to from n to_2 from_2 k size keys psw some a b c d e =
    let key = m.cpu.psw.key in
    let all = both_pass (is_addressable (length m.bytes) (store_test to n))
    (is_addressable (length m.bytes) (fetch_test from n)) (is_permitted m.keys key (store_test to n))
    (is_permitted m.keys key (fetch_test from n)) e in
    let first = part_fine (length m.bytes) m.keys key Store to n to_2 k
    (one_test _ _ _ (store_test to n) all.0 all.2) some a b in
    let second = part_fine (length m.bytes) m.keys key Fetch from n from_2 k
    (one_test _ _ _ (fetch_test from n) all.1 all.3) some c d in
    rw (size, keys, psw) (two_tests (length m.bytes) m.keys key (store_test to_2 k) (fetch_test from_2 k) first second)

-- ---- one part

-- no byte of the second operand is written before it is read
apart_of : (o1 o2 : Operand) (n : ℕ) → destroys o1 o2 ≡ false → o1.address < 2 ^ 24 → o2.address < 2 ^ 24 → n ≤ o1.count
    → n ≤ o2.count → (o2.address + n ≤ o1.address) ⊎ (o1.address ≤ o2.address)
apart_of o1 o2 n e low low2 h h2 = grind (arith, nat_tests)

still_intact : (o1 o2 : Operand) (n : ℕ) → destroys o1 o2 ≡ false → o1.address + n < 2 ^ 24 → o2.address + n < 2 ^ 24
    → destroys (past o1 n) (past o2 n) ≡ false
still_intact o1 o2 n e low low2 = grind (arith, nat_tests)

-- so many bytes can be moved as whole parts, none of which is the last
pub record AreWhole (start : ℕ) (m : State) (r1 r2 n : ℕ) : Type 0 where
  pub some : 0 < n
  pub more : n < (operand_of m.cpu r1).count
  pub whole : n ≤ (operand_of m.cpu r2).count
  pub target : (operand_of m.cpu r1).address + n ≤ length m.bytes
  pub source : (operand_of m.cpu r2).address + n ≤ length m.bytes
  pub fine : fault_of m (store_test (operand_of m.cpu r1).address n ∷ fetch_test (operand_of m.cpu r2).address n ∷ []) ≡
      None
  pub intact : destroys (operand_of m.cpu r1) (operand_of m.cpu r2) ≡ false
  pub apart : (start + 1 < (operand_of m.cpu r1).address) ⊎ ((operand_of m.cpu r1).address + n ≤ start)

-- what they leave
abbrev pub moved_by : State → ℕ → ℕ → ℕ → State
moved_by m r1 r2 n = record m {
  cpu = left_of m.cpu r1 r2 n;
  bytes = put m.bytes (operand_of m.cpu r1).address (slice_range m.bytes (operand_of m.cpu r2).address
      ((operand_of m.cpu r2).address + n));
}

fewer_apart : (start to n k : ℕ) → k ≤ n → (start + 1 < to) ⊎ (to + n ≤ start) → (start + 1 < to) ⊎ (to + k ≤ start)
fewer_apart start to n k l (inl h) = inl h
fewer_apart start to n k l (inr h) = inr (omega arith)

fewer : (start : ℕ) (m : State) (r1 r2 n k : ℕ) → 0 < k → k ≤ n → AreWhole start m r1 r2 n → AreWhole start m r1 r2 k
fewer start m r1 r2 n k some l w = record {
  some = some;
  more = omega (arith, w.more);
  whole = omega (arith, w.whole);
  target = omega (arith, w.target);
  source = omega (arith, w.source);
  fine = fine_parts m m _ _ n _ _ k refl refl refl w.some (omega arith) (omega arith) (omega arith)
      (omega arith) w.fine;
  intact = w.intact;
  apart = fewer_apart start _ n k l w.apart;
}

size_kept : (start : ℕ) (m : State) (r1 r2 n : ℕ) → AreWhole start m r1 r2 n
    → length (moved_by m r1 r2 n).bytes ≡ length m.bytes
size_kept start m r1 r2 n w =
    let long = length-range m.bytes (operand_of m.cpu r2).address n w.source in
    length-put m.bytes _ (operand_of m.cpu r1).address (rw long w.target)

-- a part of 256 bytes that is not the last
whole_part : (start : ℕ) (m : State) (r1 r2 : ℕ) → AreWhole start m r1 r2 256
    → outcome_of m (judged m (part_moved m r1 r2)) ≡ Ok (record { ending = Again; state = moved_by m r1 r2 256 })
whole_part start m r1 r2 w =
    let o1 = operand_of m.cpu r1 in
    let o2 = operand_of m.cpu r2 in
    let part : min 256 o1.count ≡ 256 = min-eq_left (omega (arith, w.more)) in
    let rest : min 256 o2.count ≡ 256 = min-eq_left w.whole in
    let left : eqb (o1.count - 256) 0 ≡ false = ne_eqb _ _ (λ e. omega (arith, w.more, e)) in
    let long : length (slice_range m.bytes o2.address (o2.address + 256)) ≡ 256 = length-range m.bytes o2.address 256
    w.source in
    let full : padded (slice_range m.bytes o2.address (o2.address + 256)) o2.pad 256 ≡ slice_range m.bytes o2.address
    (o2.address + 256) = rw long (append-nil _) in
    rw (part, rest, w.fine, left, full) refl

-- an MVCL that moves, by its registers
long_is : (m : State) (i : Instruction) (r1 r2 : ℕ) → r1_of i ≡ r1 → r2_of i ≡ r2 → ArePairs r1 r2
    → 0 < (operand_of m.cpu r1).count → destroys (operand_of m.cpu r1) (operand_of m.cpu r2) ≡ false
    → long_moved m i ≡ part_moved m r1 r2
long_is m i r1 r2 e f p some intact =
    let even : eqb (r1 % 2) 0 ≡ true = eq-eqb _ _ p.first in
    let even_2 : eqb (r2 % 2) 0 ≡ true = eq-eqb _ _ p.second in
    let more : eqb (operand_of m.cpu r1).count 0 ≡ false = ne_eqb _ _ (λ x. omega (arith, some, x)) in
    rw (e, f, even, even_2, more, intact) refl

first_part : (start : ℕ) (present : ℕ → Bool) (i : Instruction) (m : State) (r1 r2 : ℕ) → r1_of i ≡ r1 → r2_of i ≡ r2
    → ArePairs r1 r2 → AreWhole start m r1 r2 256 → IsPart start present i m (moved_by m r1 r2 256)
first_part start present i m r1 r2 e f p w = record {
  row = rw (long_is m i r1 r2 e f p (omega (arith, w.more)) w.intact) (whole_part start m r1 r2 w);
  kept = λ k l. part_kept m.bytes _ (operand_of m.cpu r1).address
      (operand_of m.cpu r2).address 256 start k w.target w.source refl w.apart l;
  psw = refl;
  size = size_kept start m r1 r2 256 w;
}

-- ---- several parts

next_apart : (start to n : ℕ) → (start + 1 < to) ⊎ (to + (256 + n) ≤ start) → (start + 1 < to + 256)
    ⊎ (to + 256 + n ≤ start)
next_apart start to n (inl h) = inl (omega arith)
next_apart start to n (inr h) = inr (omega arith)

-- what is left after the first of them
rest_whole : (start : ℕ) (m : State) (r1 r2 n : ℕ) → ArePairs r1 r2 → r1 < 15 → r2 < 15 → length m.cpu.general ≡ 16
    → 0 < n → (operand_of m.cpu r1).address + 256 < 2 ^ 24 → (operand_of m.cpu r2).address + 256 < 2 ^ 24
    → AreWhole start m r1 r2 (256 + n) → AreWhole start (moved_by m r1 r2 256) r1 r2 n
rest_whole start m r1 r2 n p l l2 full some low low2 w =
    let m1 = moved_by m r1 r2 256 in
    let o1 = operand_of m.cpu r1 in
    let o2 = operand_of m.cpu r2 in
    let e1 : operand_of m1.cpu r1 ≡ past o1 256 = first_left m.cpu r1 r2 256 p l full in
    let e2 : operand_of m1.cpu r2 ≡ past o2 256 = second_left m.cpu r1 r2 256 l2 full in
    let a1 : (operand_of m1.cpu r1).address ≡ o1.address + 256 = ap (λ (o : Operand). o.address) e1
    ∙ (omega (arith, low)) in
    let a2 : (operand_of m1.cpu r2).address ≡ o2.address + 256 = ap (λ (o : Operand). o.address) e2
    ∙ (omega (arith, low2)) in
    let c1 : (operand_of m1.cpu r1).count ≡ o1.count - 256 = ap (λ (o : Operand). o.count) e1 in
    let c2 : (operand_of m1.cpu r2).count ≡ o2.count - 256 = ap (λ (o : Operand). o.count) e2 in
    let size : length m1.bytes ≡ length m.bytes = size_kept start m r1 r2 256
    (fewer start m r1 r2 (256 + n) 256 (omega arith) (omega arith) w) in
    record {
      some = some;
      more = rw c1 (omega (arith, w.more));
      whole = rw c2 (omega (arith, w.whole));
      target = rw (a1, size) (omega (arith, w.target));
      source = rw (a2, size) (omega (arith, w.source));
      fine = rw (a1, a2) (fine_parts m m1 o1.address o2.address (256 + n) (o1.address + 256)
          (o2.address + 256) n size refl refl (omega arith) (omega arith) (omega arith) (omega arith)
          (omega arith) w.fine);
      intact = subst (λ (o : Operand). destroys o (operand_of m1.cpu r2) ≡ false) (sym e1)
          (subst (λ (o : Operand). destroys (past o1 256) o ≡ false) (sym e2)
          (still_intact o1 o2 256 w.intact low low2));
      apart = rw a1 (next_apart start o1.address n w.apart);
    }

-- one more after what was moved
moved_on : (start : ℕ) (m : State) (r1 r2 n : ℕ) → ArePairs r1 r2 → r1 < 15 → r2 < 15 → length m.cpu.general ≡ 16
    → (operand_of m.cpu r1).address + 256 < 2 ^ 24 → (operand_of m.cpu r2).address + 256 < 2 ^ 24
    → AreWhole start m r1 r2 (256 + n) → moved_by (moved_by m r1 r2 256) r1 r2 n ≡ moved_by m r1 r2 (256 + n)
moved_on start m r1 r2 n p l l2 full low low2 w =
    let m1 = moved_by m r1 r2 256 in
    let o1 = operand_of m.cpu r1 in
    let o2 = operand_of m.cpu r2 in
    let a1 : (operand_of m1.cpu r1).address ≡ o1.address + 256 = ap (λ (o : Operand). o.address)
    (first_left m.cpu r1 r2 256 p l full) ∙ (omega (arith, low)) in
    let a2 : (operand_of m1.cpu r2).address ≡ o2.address + 256 = ap (λ (o : Operand). o.address)
    (second_left m.cpu r1 r2 256 l2 full) ∙ (omega (arith, low2)) in
    let cpu : left_of m1.cpu r1 r2 n ≡ left_of m.cpu r1 r2 (256 + n) = left_left m.cpu r1 r2 256 n p l l2 full in
    let apart = apart_of o1 o2 (256 + n) w.intact (omega (arith, low)) (omega (arith, low2))
    (omega (arith, w.more)) w.whole in
    let bytes : put m1.bytes (operand_of m1.cpu r1).address (slice_range m1.bytes (operand_of m1.cpu r2).address
    ((operand_of m1.cpu r2).address + n)) ≡ put m.bytes o1.address
    (slice_range m.bytes o2.address (o2.address + (256 + n))) =
    rw (a1, a2) (put_on m.bytes o1.address o2.address 256 n w.target w.source apart) in
    ap (λ (x : Cpu). state_of x (memory_of (moved_by m1 r1 r2 n).bytes m.keys)) cpu
    ∙ ap (λ (x : List ℕ). state_of (left_of m.cpu r1 r2 (256 + n)) (memory_of x m.keys)) bytes

-- where there is more than one, they lie in one block at each place
abbrev pub InBlocks : ℕ → State → ℕ → ℕ → Type 0
InBlocks n m r1 r2 = ((operand_of m.cpu r1).address % 2048 + n ≤ 2048)
    × ((operand_of m.cpu r2).address % 2048 + n ≤ 2048)

-- Parts of a long move are done one after another.
pub parts_are : (n k start : ℕ) (present : ℕ → Bool) (i : Instruction) (m : State) (r1 r2 : ℕ) → k ≡ 256 * (n + 1)
    → r1_of i ≡ r1 → r2_of i ≡ r2 → ArePairs r1 r2 → r1 < 15 → r2 < 15 → length m.cpu.general ≡ 16
    → (0 < n → InBlocks k m r1 r2) → AreWhole start m r1 r2 k → AreParts (suc n) start present i m (moved_by m r1 r2 k)
parts_are zero k start present i m r1 r2 is e f p l l2 full blocks w =
    let one : k ≡ 256 = omega arith in
    subst (λ (x : ℕ). AreParts 1 start present i m (moved_by m r1 r2 x)) (sym one) (
      moved_by m r1 r2 256,
      first_part start present i m r1 r2 e f p
          (subst (λ (x : ℕ). AreWhole start m r1 r2 x) one w),
      refl,
    )
parts_are (suc n) k start present i m r1 r2 is e f p l l2 full blocks w =
    let left = 256 * (n + 1) in
    let sum : k ≡ 256 + left = omega arith in
    let b = blocks (omega arith) in
    let m1 = moved_by m r1 r2 256 in
    let low : (operand_of m.cpu r1).address + 256 < 2 ^ 24 = omega (arith, b.0) in
    let low2 : (operand_of m.cpu r2).address + 256 < 2 ^ 24 = omega (arith, b.1) in
    let a1 : (operand_of m1.cpu r1).address ≡ (operand_of m.cpu r1).address + 256 = ap (λ (o : Operand). o.address)
    (first_left m.cpu r1 r2 256 p l full) ∙ (omega (arith, low)) in
    let a2 : (operand_of m1.cpu r2).address ≡ (operand_of m.cpu r2).address + 256 = ap (λ (o : Operand). o.address)
    (second_left m.cpu r1 r2 256 l2 full) ∙ (omega (arith, low2)) in
    let whole : AreWhole start m r1 r2 (256 + left) = subst (λ (x : ℕ). AreWhole start m r1 r2 x) sum w in
    let rest = rest_whole start m r1 r2 left p l l2 full (omega arith) low low2 whole in
    let full1 : length m1.cpu.general ≡ 16 = length-four m.cpu.general r1 r2 _ _ _ _ ∙ full in
    let more = parts_are n left start present i m1 r1 r2 refl e f p l l2 full1
    (λ _. (rw a1 (omega (arith, b.0)), rw a2 (omega (arith, b.1)))) rest in (
      m1,
      first_part start present i m r1 r2 e f p (fewer start m r1 r2 k 256 (omega arith) (omega arith) w),
      subst (λ (x : State). AreParts (suc n) start present i m1 x)
          (moved_on start m r1 r2 left p l l2 full low low2 whole ∙ ap (λ (x : ℕ). moved_by m r1 r2 x) (sym sum)) more,
    )
