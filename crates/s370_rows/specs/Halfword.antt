-- Halfword operands: GA22-7000, "General Instructions", "Data Format".
use Rattle.std.specs.Prelude.{ℕ}
use Rattle.std.specs.Int.{w16, w32, cast_signed, cast_unsigned}

-- a halfword as a signed number, in a word
abbrev pub halfword_operand : ℕ → ℕ
halfword_operand half = cast_unsigned w32 (cast_signed w16 half)
