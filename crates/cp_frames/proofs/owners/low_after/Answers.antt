use Rattle.std.proofs.Common.{arith}
use Rattle.cp_frames.proofs.Sought.{low-set, low_past, low_under}
use Rattle.cp_frames.proofs.owners.low_after.Goals.{else-is_none-via-then-is_none+else-slot-low}
use Rattle.cp_frames.proofs.owners.low_after.Goals.{else-is_none-via-else-is_none}
use Rattle.cp_frames.proofs.owners.low_after.Goals as goal

pub returns-then-slot-low : goal.returns-then-slot-low
returns-then-slot-low c =
    λ owners all. low_under owners c.args.low c.args.slot c.args.owner (omega (arith, c.if-slot-low.true)) all

pub returns-else-is_none : goal.returns-else-is_none
returns-else-is_none c = elim c.else-is_none.branch [
  | else-is_none-via-then-is_none+else-slot-low w ↦ λ owners all.
      low_past owners c.args.low c.args.slot c.args.owner (omega (arith, w.if-slot-low.false)) all
  | else-is_none-via-else-is_none w ↦ λ owners all.
      low-set owners c.args.low c.args.slot c.args.owner w.if-is_none.ensures all
]
