-- Operations on a byte of storage: GA22-7000, "Move", "And", "Or", "Exclusive Or" (immediate),
-- "Compare Logical" (immediate), "Test under Mask" and "Test and Set".
use Rattle.std.specs.Prelude.{ℕ, ◌/◌, ◌==◌, if◌then◌else◌, bit_and, bit_or, bit_xor}
use Rattle.s370_rows.specs.declared.immediate.ByteTest.{ByteTest}
use Rattle.s370_rows.specs.declared.immediate.ByteTest.TheVariants.{UnderMask, CompareLogical}
use Rattle.s370_rows.specs.declared.immediate.ByteChange.{ByteChange}
use Rattle.s370_rows.specs.declared.immediate.ByteChange.TheVariants.{Move, And, Or, ExclusiveOr}
use Rattle.s370_rows.specs.declared.immediate.ByteChange.TheVariants.{TestAndSet}
use Rattle.s370_rows.specs.declared.immediate.ChangedByte.{ChangedByte}
use Rattle.s370_rows.specs.Arithmetic.{order_code, zero_code}

-- TM: 0 where the bits of the byte that the mask selects are all zero or it selects none, 3 where
-- they are all one, else 1
abbrev pub selected_code : ℕ → ℕ → ℕ
selected_code byte mask =
    let selected = bit_and byte mask in
    if selected == 0 then 0 else (if selected == mask then 3 else 1)

-- the condition code of a test of a byte by the immediate one
abbrev pub byte_code : ByteTest → ℕ → ℕ → ℕ
byte_code UnderMask byte immediate = selected_code byte immediate
byte_code CompareLogical byte immediate = order_code byte immediate

-- a new byte, with the condition code that says whether it is zero
abbrev pub tested_byte : ℕ → ChangedByte
tested_byte byte = record { byte = byte; condition = zero_code byte }

-- what an operation makes of the condition code cc, a byte of storage and the immediate one
abbrev pub changed_byte : ByteChange → ℕ → ℕ → ℕ → ChangedByte
changed_byte Move cc byte immediate = record { byte = immediate; condition = cc }
changed_byte And cc byte immediate = tested_byte (bit_and byte immediate)
changed_byte Or cc byte immediate = tested_byte (bit_or byte immediate)
changed_byte ExclusiveOr cc byte immediate = tested_byte (bit_xor byte immediate)
changed_byte TestAndSet cc byte immediate = record { byte = 0xFF; condition = byte / 128 }
