use Rattle.std.proofs.Common.{◌≡◌, ◌++◌, ◌∷◌, [], drop, length}
use Rattle.ckd_image.specs.Image.{records_bytes}
use Rattle.ckd_image.proofs.writer.put_track.Given as goal

abbrev pub invariant-loop-i : goal.invariant-loop-i
invariant-loop-i l =
    l.out.items ++ records_bytes (drop l.i l.track.records) ≡
    ((l.fn.out.items ++ l.track.home) ++ length l.track.records ∷ []) ++ records_bytes l.track.records
