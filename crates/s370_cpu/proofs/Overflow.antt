-- Arithmetic and shifts are quiet, if none of their overflows interrupts: the processor goes on after them, and they
-- change no rights.
use Rattle.std.proofs.Common.{◌≡◌, ℕ, Bool, true, false, refl}
use Rattle.std.specs.Prelude.{nat_le}
use Rattle.s370_rows.specs.declared.arithmetic.Arithmetic.{Arithmetic}
use Rattle.s370_rows.specs.declared.arithmetic.Arithmetic.TheVariants.{Load, LoadAndTest, LoadPositive, LoadNegative}
use Rattle.s370_rows.specs.declared.arithmetic.Arithmetic.TheVariants.{LoadComplement, Compare, CompareLogical, Add}
use Rattle.s370_rows.specs.declared.arithmetic.Arithmetic.TheVariants.{Subtract, AddLogical, SubtractLogical, And, Or}
use Rattle.s370_rows.specs.declared.arithmetic.Arithmetic.TheVariants.{ExclusiveOr}
use Rattle.s370_rows.specs.declared.shift.Shift.{Shift}
use Rattle.s370_rows.specs.declared.shift.Shift.TheVariants.{Right, Left, RightLogical, LeftLogical}
use Rattle.s370_rows.specs.Registers.{arithmetic}
use Rattle.s370_rows.specs.Rows.{over}
use Rattle.s370_rows.specs.Shift.{pair_shifted, word_shifted}
use Rattle.s370_rows.specs.State.{State}
use Rattle.s370_cpu.specs.declared.opcodes.RegisterRow.TheVariants.{ShiftPair, ShiftWord}
use Rattle.s370_cpu.specs.declared.opcodes.Opcode.TheVariants.{Computes}
use Rattle.s370_cpu.specs.Table.{is_signed, may_overflow}
use Rattle.s370_cpu.proofs.Frequent.{IsQuiet, no_overflow}

-- no overflow of a row interrupts
abbrev pub NoOverflow : Bool → State → Type 0
NoOverflow overflows m = overflows ≡ true → nat_le 8 m.cpu.psw.program_mask ≡ false

-- Arithmetic that cannot interrupt on overflow is quiet.
pub arithmetic_quiet : (op : Arithmetic) (m : State) (r b : ℕ) → NoOverflow (is_signed op) m
    → IsQuiet m (over (arithmetic op m.cpu r b))
arithmetic_quiet Load m r b none = record { goes_on = tt; rights = refl }
arithmetic_quiet LoadAndTest m r b none = record { goes_on = tt; rights = refl }
arithmetic_quiet LoadPositive m r b none = record { goes_on = no_overflow _ _ _ (none refl); rights = refl }
arithmetic_quiet LoadNegative m r b none = record { goes_on = no_overflow _ _ _ (none refl); rights = refl }
arithmetic_quiet LoadComplement m r b none = record { goes_on = no_overflow _ _ _ (none refl); rights = refl }
arithmetic_quiet Compare m r b none = record { goes_on = tt; rights = refl }
arithmetic_quiet CompareLogical m r b none = record { goes_on = tt; rights = refl }
arithmetic_quiet Add m r b none = record { goes_on = no_overflow _ _ _ (none refl); rights = refl }
arithmetic_quiet Subtract m r b none = record { goes_on = no_overflow _ _ _ (none refl); rights = refl }
arithmetic_quiet AddLogical m r b none = record { goes_on = tt; rights = refl }
arithmetic_quiet SubtractLogical m r b none = record { goes_on = tt; rights = refl }
arithmetic_quiet And m r b none = record { goes_on = tt; rights = refl }
arithmetic_quiet Or m r b none = record { goes_on = tt; rights = refl }
arithmetic_quiet ExclusiveOr m r b none = record { goes_on = tt; rights = refl }

-- A shift of a word that cannot interrupt on overflow is quiet.
pub word_shift_quiet : (op : Shift) (m : State) (r n : ℕ) → NoOverflow (may_overflow (Computes (ShiftWord op))) m
    → IsQuiet m (over (word_shifted op m.cpu r n))
word_shift_quiet Right m r n none = record { goes_on = tt; rights = refl }
word_shift_quiet Left m r n none = record { goes_on = no_overflow _ _ _ (none refl); rights = refl }
word_shift_quiet RightLogical m r n none = record { goes_on = tt; rights = refl }
word_shift_quiet LeftLogical m r n none = record { goes_on = tt; rights = refl }

-- A shift of a pair that cannot interrupt on overflow is quiet.
pub pair_shift_quiet : (op : Shift) (m : State) (r n : ℕ) → NoOverflow (may_overflow (Computes (ShiftPair op))) m
    → IsQuiet m (over (pair_shifted op m.cpu r n))
pair_shift_quiet Right m r n none = record { goes_on = tt; rights = refl }
pair_shift_quiet Left m r n none = record { goes_on = no_overflow _ _ _ (none refl); rights = refl }
pair_shift_quiet RightLogical m r n none = record { goes_on = tt; rights = refl }
pair_shift_quiet LeftLogical m r n none = record { goes_on = tt; rights = refl }
