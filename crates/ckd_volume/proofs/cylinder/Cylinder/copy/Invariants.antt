use Rattle.std.proofs.Common.{◌≡◌, take}
use Rattle.ckd_volume.proofs.cylinder.Cylinder.copy.Given as goal

abbrev pub invariant-loop-track : goal.invariant-loop-track
invariant-loop-track l = l.tracks.items ≡ take l.track-index l.self
