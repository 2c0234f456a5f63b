use Rattle.std.proofs.Common.{◌≡◌, ◌++◌, drop}
use Rattle.saved_bytes.specs.Codes.{each, flag}
use Rattle.cp_frames.proofs.saved.put_pins.Given as goal

abbrev pub invariant-loop-frame : goal.invariant-loop-frame
invariant-loop-frame l = l.out.items ++ each flag (drop l.frame l.pins) ≡ l.fn.out.items ++ each flag l.pins
