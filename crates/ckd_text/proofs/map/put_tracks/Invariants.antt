use Rattle.std.proofs.Common.{◌≡◌, ◌++◌, drop}
use Rattle.ckd_text.specs.Map.{volume_lines}
use Rattle.ckd_text.proofs.map.put_tracks.Given as goal

abbrev pub invariant-loop-number : goal.invariant-loop-number
invariant-loop-number l = l.out.items ++ volume_lines l.number
    (drop l.number l.volume.cylinders) ≡ l.fn.out.items ++ volume_lines 0 l.volume.cylinders
