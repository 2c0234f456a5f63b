-- Branches: GA22-7000, "Branching Instructions".
use Rattle.std.specs.Prelude.{ℕ, ◌+◌, ◌-◌, ◌*◌, ◌/◌, ◌%◌, ◌^◌, ◌==◌, nat_lt, if◌then◌else◌, Bool}
use Rattle.std.specs.Prelude.{◌&&◌, slice_index, int_le, int_lt}
use Rattle.s370_rows.specs.declared.cpu.Cpu.{Cpu}
use Rattle.s370_rows.specs.declared.ending.Completion.{Completion}
use Rattle.s370_rows.specs.declared.ending.Completion.TheVariants.{Done, Branch}
use Rattle.s370_rows.specs.declared.branches.IndexBranch.{IndexBranch}
use Rattle.s370_rows.specs.declared.branches.IndexBranch.TheVariants.{High, LowOrEqual}
use Rattle.s370_rows.specs.Arithmetic.{signed}
use Rattle.s370_rows.specs.Registers.{Ended, with_register, link_of}
use Rattle.s370_rows.specs.declared.place.Place.{Place}

-- a branch to an address, where it is taken
abbrev pub branches : Bool → ℕ → Completion
branches taken target = if taken then Branch target else Done

-- BCT, BCTR: one less in register r, and a branch where something is left
abbrev pub counted_branch : Cpu → ℕ → Bool → ℕ → Ended
counted_branch cpu r may target =
    let less = (slice_index cpu.general r + (2 ^ 32 - 1)) % 2 ^ 32 in
    record { ending = branches (may && nat_lt 0 less) target; cpu = with_register cpu r less }

-- BC, BCR: a branch where the bit of the mask that the condition code counts from the left is one
abbrev pub conditional_branch : Cpu → ℕ → Bool → ℕ → Ended
conditional_branch cpu mask may target =
    record {
      ending = branches (may && (mask / 2 ^ (3 - cpu.psw.condition) % 2 == 1)) target;
      cpu = cpu;
    }

-- BAL, BALR: register r takes the link information, whether there is a branch or not
abbrev pub linked_branch : Cpu → Place → ℕ → Bool → ℕ → Ended
linked_branch cpu place r may target =
    record { ending = branches may target; cpu = with_register cpu r (link_of cpu place) }

-- the odd register of r and r + 1
abbrev pub odd_of : ℕ → ℕ
odd_of r = r / 2 * 2 + 1

-- whether a sum is high, or is low or equal, to a comparand, as signed numbers
abbrev pub index_is : IndexBranch → ℕ → ℕ → Bool
index_is High sum comparand = int_lt (signed comparand) (signed sum)
index_is LowOrEqual sum comparand = int_le (signed sum) (signed comparand)

-- BXH, BXLE: register r1 takes its sum with r3, which is compared with the odd register of r3 and
-- r3 + 1 as that was before
abbrev pub index_branch : IndexBranch → Cpu → ℕ → ℕ → ℕ → Ended
index_branch kind cpu r1 r3 target =
    let sum = (slice_index cpu.general r1 + slice_index cpu.general r3) % 2 ^ 32 in
    let comparand = slice_index cpu.general (odd_of r3) in
    record {
      ending = branches (index_is kind sum comparand) target;
      cpu = with_register cpu r1 sum;
    }
