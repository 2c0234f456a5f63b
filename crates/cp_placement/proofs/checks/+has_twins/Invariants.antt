use Rattle.std.proofs.Common.{length}
use Rattle.cp_placement.proofs.checks.+has_twins.Given as goal

abbrev pub decreases-has_twins : goal.decreases-has_twins
decreases-has_twins l = length l.volumes.now
