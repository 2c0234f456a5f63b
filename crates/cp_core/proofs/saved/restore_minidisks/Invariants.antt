use Rattle.std.proofs.Common.{◌≡◌}
use Rattle.cp_volumes.specs.Shared.{placements_of}
use Rattle.cp_core.proofs.saved.restore_minidisks.Given as goal

abbrev pub invariant-loop-disk : goal.invariant-loop-disk
invariant-loop-disk l = placements_of l.minidisks ≡ placements_of l.initial.minidisks
