-- MVCL and CLCL, a part of at most 256 bytes at a time: GA22-7000, "Move Long" and "Compare Logical
-- Long".
use Rattle.std.specs.Prelude.{◌≡◌, ◌≢◌, ℕ, zero, suc, ◌+◌, ◌-◌, ◌*◌, ◌/◌, ◌%◌, ◌^◌, ◌≤◌, ◌==◌}
use Rattle.std.specs.Prelude.{nat_lt, if◌then◌else◌, ◌&&◌, Bool, List, [], ◌∷◌, length, slice_index}
use Rattle.std.specs.Prelude.{slice_range, min, max, None, Ok}
use Rattle.s370_psw.specs.declared.program.ProgramCode.TheVariants.{Specification}
use Rattle.s370_rows.specs.declared.cpu.Cpu.{Cpu}
use Rattle.s370_rows.specs.declared.instruction.Instruction.{Instruction}
use Rattle.s370_rows.specs.declared.ending.Completion.TheVariants.{Again}
use Rattle.s370_rows.specs.Arithmetic.{order_code}
use Rattle.s370_rows.specs.Formats.{r1_of, r2_of}
use Rattle.s370_rows.specs.Registers.{Ended, with_register, with_condition, done}
use Rattle.s370_rows.specs.State.{State}
use Rattle.s370_rows.specs.Rows.{Row, MeetsRow, checked, unchecked, suppressed, over, fetch_test}
use Rattle.s370_rows.specs.Rows.{store_test}
use Rattle.s370_bytes.specs.declared.long.Operand.{Operand}
use Rattle.s370_bytes.specs.Strings.{padded}
use Rattle.s370_bytes.specs.Compare.{equal_pairs}

-- the operand that a pair of registers names: its address, its length and the byte above the length
abbrev pub operand_of : Cpu → ℕ → Operand
operand_of cpu r = record {
  address = slice_index cpu.general r % 2 ^ 24;
  count = slice_index cpu.general (r + 1) % 2 ^ 24;
  pad = slice_index cpu.general (r + 1) / 2 ^ 24;
}

-- the registers with another operand in a pair
abbrev pub with_operand : Cpu → ℕ → Operand → Cpu
with_operand cpu r o = with_register (with_register cpu r o.address) (r + 1)
    (o.pad * 2 ^ 24 + o.count)

-- registers that begin two pairs, of which none is in both
pub record ArePairs (r1 r2 : ℕ) : Type 0 where
  pub first : r1 % 2 ≡ 0
  pub second : r2 % 2 ≡ 0
  pub apart : r1 ≢ r2

-- what is left of an operand after n bytes of it
abbrev pub past : Operand → ℕ → Operand
past o n = record { address = (o.address + n) % 2 ^ 24; count = o.count - n; pad = o.pad }

-- the condition code of two lengths: 0 equal, 1 the first is lower, 2 it is higher
abbrev pub counts_code : Operand → Operand → ℕ
counts_code o1 o2 = order_code o1.count o2.count

-- a byte of the second operand would be moved after it was changed
abbrev pub destroys : Operand → Operand → Bool
destroys o1 o2 =
    let distance = (o1.address + (2 ^ 24 - o2.address)) % 2 ^ 24 in
    nat_lt 0 distance && nat_lt distance (min o1.count o2.count)

-- ---- MVCL

-- the registers after a part of k bytes, j of them from the second operand, and whether it was the
-- last
abbrev pub part_ended : Cpu → ℕ → ℕ → ℕ → ℕ → Ended
part_ended cpu r1 r2 k j =
    let o1 = operand_of cpu r1 in
    let o2 = operand_of cpu r2 in
    let after = with_operand (with_operand cpu r1 (past o1 k)) r2 (past o2 j) in
    if o1.count - k == 0 then done (with_condition after (counts_code o1 o2))
    else record { ending = Again; cpu = after }

-- one part of the long move
abbrev pub part_moved : State → ℕ → ℕ → Row
part_moved m r1 r2 =
    let o1 = operand_of m.cpu r1 in
    let o2 = operand_of m.cpu r2 in
    let k = min 256 o1.count in
    let j = min k o2.count in
    let e = part_ended m.cpu r1 r2 k j in
    let made = padded (slice_range m.bytes o2.address (o2.address + j)) o2.pad k in
    checked (store_test o1.address k ∷ fetch_test o2.address j ∷ [])
    (record {
      ending = e.ending;
      cpu = e.cpu;
      stores = record { start = o1.address; written = made } ∷ [];
      keyed = None;
    })

-- MVCL
abbrev pub long_moved : State → Instruction → Row
long_moved m i =
    let r1 = r1_of i in
    let r2 = r2_of i in
    let o1 = operand_of m.cpu r1 in
    let o2 = operand_of m.cpu r2 in
    if (r1 % 2 == 0) && (r2 % 2 == 0)
    then (if o1.count == 0
    then unchecked (over (done (with_condition m.cpu (counts_code o1 o2))))
    else (if destroys o1 o2 then unchecked (over (done (with_condition m.cpu 3)))
    else part_moved m r1 r2))
    else suppressed Specification

-- a part of an MVCL after which another follows, and which leaves the PSW and the two bytes at an
-- address as they were
pub record IsPart (start : ℕ) (present : ℕ → Bool) (i : Instruction) (m m' : State) : Type 0 where
  pub row : MeetsRow (long_moved m i) present m (Ok Again) m'
  pub kept : (k : ℕ) → k ≤ 1 → slice_index m'.bytes (start + k) ≡ slice_index m.bytes (start + k)
  pub psw : m'.cpu.psw ≡ m.cpu.psw
  pub size : length m'.bytes ≡ length m.bytes

-- so many of them, one after another
abbrev pub AreParts : ℕ → ℕ → (ℕ → Bool) → Instruction → State → State → Type 0
AreParts zero start present i m m' = m' ≡ m
AreParts (suc n) start present i m m' = (part : State) × IsPart start present i m part
    × AreParts n start present i part m'

-- ---- CLCL

-- the registers after n pairs that are equal: past both operands by n, or by all bytes of one that
-- is shorter
abbrev pub compared_to : Cpu → ℕ → ℕ → ℕ → ℕ → ℕ → Cpu
compared_to cpu r1 r2 j1 j2 n =
    with_operand (with_operand cpu r1 (past (operand_of cpu r1) (min n j1))) r2
    (past (operand_of cpu r2) (min n j2))

-- what a part of k pairs leaves, with j1 and j2 bytes from the operands and then pads
abbrev pub part_ordered : Cpu → ℕ → ℕ → ℕ → ℕ → ℕ → List ℕ → List ℕ → Ended
part_ordered cpu r1 r2 k j1 j2 xs ys =
    let n = equal_pairs xs ys in
    let after = compared_to cpu r1 r2 j1 j2 n in
    let all = ((operand_of cpu r1).count - j1 == 0) && ((operand_of cpu r2).count - j2 == 0) in
    if nat_lt n k
    then done (with_condition after (order_code (slice_index xs n) (slice_index ys n)))
    else (if all then done (with_condition after 0) else record { ending = Again; cpu = after })

-- how many pairs a part has
abbrev pub longest : Operand → Operand → ℕ
longest o1 o2 = min 256 (max o1.count o2.count)

-- the first k pairs of both operands, with the pad of the second after each
abbrev pub pairs_ordered : List ℕ → Cpu → ℕ → ℕ → ℕ → Ended
pairs_ordered bytes cpu r1 r2 k =
    let o1 = operand_of cpu r1 in
    let o2 = operand_of cpu r2 in
    let j1 = min k o1.count in
    let j2 = min k o2.count in
    let xs = padded (slice_range bytes o1.address (o1.address + j1)) o2.pad k in
    let ys = padded (slice_range bytes o2.address (o2.address + j2)) o2.pad k in
    part_ordered cpu r1 r2 k j1 j2 xs ys

-- one part of the long comparison
abbrev pub part_compared : State → ℕ → ℕ → Row
part_compared m r1 r2 =
    let o1 = operand_of m.cpu r1 in
    let o2 = operand_of m.cpu r2 in
    let k = longest o1 o2 in
    let j1 = min k o1.count in
    let j2 = min k o2.count in
    checked (fetch_test o1.address j1 ∷ fetch_test o2.address j2 ∷ [])
    (over (pairs_ordered m.bytes m.cpu r1 r2 k))

-- CLCL
abbrev pub long_compared : State → Instruction → Row
long_compared m i =
    let r1 = r1_of i in
    let r2 = r2_of i in
    if (r1 % 2 == 0) && (r2 % 2 == 0)
    then (if ((operand_of m.cpu r1).count == 0) && ((operand_of m.cpu r2).count == 0)
    then unchecked (over (done (with_condition m.cpu 0)))
    else part_compared m r1 r2)
    else suppressed Specification
