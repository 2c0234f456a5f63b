use Rattle.std.proofs.Common.{◌≡◌, ◌+◌, ◌*◌, ◌≤◌, drop}
use Rattle.ckd_track.specs.Track.{cost}
use Rattle.ckd_text.proofs.map.fill_of.Given as goal

abbrev pub invariant-loop-i : goal.invariant-loop-i
invariant-loop-i l = (l.fill + cost (drop l.i l.track.records) ≡ cost l.track.records) × (l.fill ≤ 13221 * l.i)
