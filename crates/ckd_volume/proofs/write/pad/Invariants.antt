use Rattle.std.proofs.Common.{◌≡◌, ◌≤◌, ◌-◌, length}
use Rattle.std.specs.Vec.{vec_capacity}
use Rattle.ckd_volume.specs.End.{padded, zeros_to}
use Rattle.ckd_volume.proofs.write.pad.Given as goal

abbrev pub invariant-loop-bytes : goal.invariant-loop-bytes
invariant-loop-bytes l =
    (zeros_to l.count l.bytes.items ≡ padded l.count l.fn.bytes.items) × (length l.bytes.items ≤ l.count)
    × (vec_capacity l.fn.bytes ≤ vec_capacity l.bytes)

abbrev pub decreases-loop-bytes : goal.decreases-loop-bytes
decreases-loop-bytes l = l.count - length l.bytes.items
