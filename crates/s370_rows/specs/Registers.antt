-- What instructions do to the registers.
use Rattle.std.specs.Prelude.{ℕ, ◌+◌, ◌*◌, ◌^◌, nat_le, if◌then◌else◌, Bool, ◌&&◌, slice_index}
use Rattle.std.specs.Prelude.{slice_set}
use Rattle.s370_psw.specs.declared.program.ProgramCode.TheVariants.{FixedPointOverflow}
use Rattle.s370_rows.specs.declared.cpu.Cpu.{Cpu}
use Rattle.s370_rows.specs.declared.ending.Completion.{Completion}
use Rattle.s370_rows.specs.declared.ending.Completion.TheVariants.{Done, Interrupted}
use Rattle.s370_rows.specs.declared.arithmetic.Arithmetic.{Arithmetic}
use Rattle.s370_rows.specs.Arithmetic.{computed}
use Rattle.s370_rows.specs.declared.place.Place.{Place}

-- how an instruction over registers alone ends, and the registers that it leaves
pub record Ended : Type 0 where
  pub ending : Completion
  pub cpu : Cpu

-- the registers with another value in register r
abbrev pub with_register : Cpu → ℕ → ℕ → Cpu
with_register cpu r value = record cpu { general = slice_set cpu.general r value }

-- the registers with another condition code
abbrev pub with_condition : Cpu → ℕ → Cpu
with_condition cpu cc = record cpu { psw = record cpu.psw { condition = cc } }

-- the instruction ends normally, with these registers
abbrev pub done : Cpu → Ended
done cpu = record { ending = Done; cpu = cpu }

-- the link information: instruction length code, condition code, program mask and next address
abbrev pub link_of : Cpu → Place → ℕ
link_of cpu place = place.ilc * 2 ^ 30 + cpu.psw.condition * 2 ^ 28 + cpu.psw.program_mask * 2 ^ 24
    + place.next

-- an overflow interrupts after the instruction is done, where the leftmost program mask is one
abbrev pub overflow_ending : Cpu → Bool → Completion
overflow_ending cpu overflows = if overflows && nat_le 8 cpu.psw.program_mask
    then Interrupted FixedPointOverflow else Done

-- register r and the condition code take what the operation makes of r and the operand b
abbrev pub arithmetic : Arithmetic → Cpu → ℕ → ℕ → Ended
arithmetic op cpu r b =
    let x = computed op cpu.psw.condition (slice_index cpu.general r) b in
    record {
      ending = overflow_ending cpu x.overflows;
      cpu = with_condition (with_register cpu r x.value) x.condition;
    }
