use Rattle.std.proofs.Common.{◌≡◌, length}
use Rattle.cp_core.proofs.saved.restore_keys.Given as goal

abbrev pub invariant-loop-key : goal.invariant-loop-key
invariant-loop-key l = length l.keys ≡ length l.initial.keys
