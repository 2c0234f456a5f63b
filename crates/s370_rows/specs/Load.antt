-- What registers and the PSW take of a value, an address or a byte: GA22-7000, "Set Program Mask",
-- "Load Address" and "Insert Character".
use Rattle.std.specs.Prelude.{ℕ, ◌+◌, ◌*◌, ◌/◌, ◌%◌, ◌^◌, slice_index}
use Rattle.s370_rows.specs.declared.cpu.Cpu.{Cpu}
use Rattle.s370_rows.specs.Registers.{Ended, with_register, done}

-- SPM: bits 2-3 of register r are the condition code and bits 4-7 the program mask
abbrev pub program_mask_set : Cpu → ℕ → Ended
program_mask_set cpu r =
    let a = slice_index cpu.general r in
    done (record cpu {
      psw = record
          cpu.psw { condition = a / 2 ^ 28 % 4; program_mask = a / 2 ^ 24 % 16 };
    })

-- LA: register r takes an address of 24 bits; the eight bits to the left of it become zero
abbrev pub address_loaded : Cpu → ℕ → ℕ → Ended
address_loaded cpu r address = done (with_register cpu r address)

-- IC: a byte takes the place of the rightmost of register r
abbrev pub byte_inserted : Cpu → ℕ → ℕ → Ended
byte_inserted cpu r byte = done (with_register cpu r (slice_index cpu.general r / 256 * 256 + byte))
