-- What the control units of console, reader, punch and printer have in common (profile).
use Rattle.std.specs.Prelude.{ℕ, ◌==◌, ◌&&◌, not, Bool}
use Rattle.s370_walk.specs.declared.bits.UnitStatus.{UnitStatus}
use Rattle.s370_walk.specs.declared.parts.Order.{Order}
use Rattle.s370_walk.specs.Bits.{has_bits}

-- Sense (04) is accepted only as the first command of its program, in a word that chains neither
-- data nor command.
abbrev pub is_sense : Order → Bool
is_sense order = order.command.code == 0x04 && order.first && not (has_bits order.flags.bits 0xC0)

-- Unit status (GA22-7000, "Unit Status").
abbrev pub nothing_to_say : UnitStatus
nothing_to_say = record { bits = 0x00 }

-- the unit status unit exception
abbrev pub unit_exception : UnitStatus
unit_exception = record { bits = 0x01 }

-- the unit status unit check
abbrev pub unit_check : UnitStatus
unit_check = record { bits = 0x02 }

-- The sense byte: command reject, and intervention required.
abbrev pub command_reject : ℕ
command_reject = 0x80

-- the sense byte intervention required
abbrev pub intervention_required : ℕ
intervention_required = 0x40
