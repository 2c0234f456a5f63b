use Rattle.std.proofs.Common.{◌≡◌, ◌++◌, drop}
use Rattle.saved_bytes.specs.Codes.{each, number}
use Rattle.cp_frames.proofs.saved.put_order.Given as goal

abbrev pub invariant-loop-turn : goal.invariant-loop-turn
invariant-loop-turn l = l.out.items ++ each number (drop l.turn l.order) ≡ l.fn.out.items ++ each number l.order
