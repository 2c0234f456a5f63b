-- Pairs of general registers, which hold 64 bits: GA22-7000, "General Instructions", "Data Format".
use Rattle.std.specs.Prelude.{ℕ, ◌+◌, ◌*◌, ◌/◌, ◌%◌, ◌^◌, slice_index, ℤ}
use Rattle.std.specs.Int.{w64, cast_signed}
use Rattle.s370_rows.specs.declared.cpu.Cpu.{Cpu}
use Rattle.s370_rows.specs.Registers.{with_register}

-- the registers r and r + 1 as one number of 64 bits
abbrev pub pair_of : Cpu → ℕ → ℕ
pair_of cpu r = slice_index cpu.general r * 2 ^ 32 + slice_index cpu.general (r + 1)

-- the registers with another number in the pair r and r + 1
abbrev pub with_pair : Cpu → ℕ → ℕ → Cpu
with_pair cpu r n = with_register (with_register cpu r (n / 2 ^ 32)) (r + 1) (n % 2 ^ 32)

-- a pair as a signed number
abbrev pub signed_pair : ℕ → ℤ
signed_pair a = cast_signed w64 a
