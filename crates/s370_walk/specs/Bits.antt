-- Bits of a byte.
use Rattle.std.specs.Prelude.{ℕ, ◌==◌, Bool, not, bit_and, bit_or}
use Rattle.s370_walk.specs.declared.bits.UnitStatus.{UnitStatus}

-- one of the bits of a mask is one
abbrev pub has_bits : ℕ → ℕ → Bool
has_bits bits mask = not (bit_and bits mask == 0)

-- the bits of two statuses
abbrev pub both : UnitStatus → UnitStatus → UnitStatus
both one other = record { bits = bit_or one.bits other.bits }
