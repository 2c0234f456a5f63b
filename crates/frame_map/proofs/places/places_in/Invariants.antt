use Rattle.std.proofs.Common.{◌≡◌, replicate}
use Rattle.std.specs.Prelude.{None}
use Rattle.frame_map.specs.Places.{put_users}
use Rattle.frame_map.proofs.places.places_in.Given as goal

abbrev pub invariant-loop-number : goal.invariant-loop-number
invariant-loop-number l = l.places.items ≡ put_users l.system l.kind l.number (replicate l.count None)
