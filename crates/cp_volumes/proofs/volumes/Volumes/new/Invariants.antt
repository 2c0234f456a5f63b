use Rattle.std.proofs.Common.{◌≡◌, map}
use Rattle.cp_volumes.specs.Shared.{AreThere, volume_in}
use Rattle.cp_volumes.proofs.volumes.Volumes.new.Given as goal

abbrev pub invariant-loop-volume : goal.invariant-loop-volume
invariant-loop-volume l = record {
  units : map volume_in l.units.items ≡ l.yielded;
  there : AreThere l.yielded;
}
