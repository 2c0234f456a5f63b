-- Compare and Swap: GA22-7000, "Compare and Swap" and "Compare Double and Swap".
use Rattle.std.specs.Prelude.{ℕ, ◌==◌, if◌then◌else◌, slice_index, Option, Some, None}
use Rattle.s370_rows.specs.declared.cpu.Cpu.{Cpu}
use Rattle.s370_rows.specs.Registers.{with_register, with_condition}
use Rattle.s370_rows.specs.Pair.{pair_of, with_pair}

-- the registers that are left, and what storage takes, if it takes anything
pub record Swapped : Type 0 where
  pub cpu : Cpu
  pub stored : Option ℕ

-- CS: where the operand is equal to register r1, storage takes register r3, CC 0; else r1 takes the
-- operand, CC 1
abbrev pub compared_swap : Cpu → ℕ → ℕ → ℕ → Swapped
compared_swap cpu r1 r3 operand =
    if slice_index cpu.general r1 == operand
    then record { cpu = with_condition cpu 0; stored = Some (slice_index cpu.general r3) }
    else record { cpu = with_condition (with_register cpu r1 operand) 1; stored = None }

-- CDS: the same with pairs
abbrev pub compared_swap_pair : Cpu → ℕ → ℕ → ℕ → Swapped
compared_swap_pair cpu r1 r3 operand =
    if pair_of cpu r1 == operand
    then record { cpu = with_condition cpu 0; stored = Some (pair_of cpu r3) }
    else record { cpu = with_condition (with_pair cpu r1 operand) 1; stored = None }
