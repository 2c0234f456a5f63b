-- What the ways to operands keep.
use Rattle.std.proofs.Common.{◌≡◌, ℕ, ◌+◌, ◌*◌, ◌/◌, ◌%◌, ◌<◌, ◌≤◌, ◌-◌, Bool, true, Err}
use Rattle.std.proofs.Common.{arith, rules}
use Rattle.s370_store.specs.Access.{IsGranted}
use Rattle.s370_store.specs.declared.block.Block.{Block}
use Rattle.s370_rows.specs.declared.ending.Refusal.{Refusal}
use Rattle.s370_rows.specs.declared.ending.Refusal.TheVariants.{Program, Absent}
use Rattle.s370_rows.specs.State.{State}
use Rattle.s370_rows.specs.Rows.{MeetsRow, Row}
use Rattle.s370_rows.specs.Reach.{LieIn}

-- A part of a range that is granted is granted.
pub granted_part : {size : ℕ} {present : ℕ → Bool} {start count at n : ℕ}
    → IsGranted size present start count → start ≤ at → at + n ≤ start + count
    → IsGranted size present at n
granted_part {size} {present} {start} {count} {at} {n} h low high = record {
  inside = omega (arith, low, high, h.inside);
  here = λ k less. (let same : start + (at - start + k) ≡ at + k = omega (arith, low) in
      rw (← same) (h.here (at - start + k) (omega (arith, low, high, less))));
}

-- What is granted stays so where size and pages stay.
pub granted_kept : {size size' : ℕ} {present present' : ℕ → Bool} {start count : ℕ} → size' ≡ size
    → present' ≡ present → IsGranted size present start count → IsGranted size' present' start count
granted_kept e p h = rw (e, p) h

-- A part of what lies in a block lies in it.
pub lie_part : {placed : Block → Type 0} {start count at n : ℕ} {block : Block}
    → LieIn placed start count block → start ≤ at → at + n ≤ start + count → LieIn placed at n block
lie_part h low high = record {
  placed = h.placed;
  begins = omega (arith, low, h.begins);
  ends = omega (arith, high, h.ends);
}

-- What lies in a block lies in it where the block is still where it says.
pub lie_kept : {placed placed' : Block → Type 0} {start count : ℕ} {block : Block}
    → (placed block → placed' block)
    → LieIn placed start count block → LieIn placed' start count block
lie_kept f h = record { placed = f h.placed; begins = h.begins; ends = h.ends }

-- A row that is refused changes nothing.
pub refused_still : (r : Row) (present : ℕ → Bool) (m : State) (why : Refusal) (n : State)
    → MeetsRow r present m (Err why) n → n ≡ m
refused_still r present m (Program code) n h = h.1
refused_still r present m (Absent page) n h = h.0
