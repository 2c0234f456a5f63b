use Rattle.std.proofs.Common.{◌≡◌, ◌++◌, ◌-◌, length}
use Rattle.ckd_volume.specs.Volume.{blank_tracks}
use Rattle.ckd_volume.proofs.cylinder.Cylinder.blank.Given as goal

abbrev pub invariant-loop-head : goal.invariant-loop-head
invariant-loop-head l =
    (l.tracks.items ++ blank_tracks l.fn.number l.head (19 - l.head) ≡ blank_tracks l.fn.number 0 19)
    × (length l.tracks.items ≡ l.head)
