use Rattle.s370_rows.proofs.Reached.{never_refused}
use Rattle.s370_rows.proofs.access.reach.Goals as goal

pub unreachable-requires : goal.unreachable-requires
unreachable-requires g c =
    never_refused _ _ _ _ _ _ c.requires.inside (rw c.in-Err-Addressing.field-0-is at c.in-Err-Addressing.ensures)

pub unreachable-requires-in-Err-Protection : goal.unreachable-requires-in-Err-Protection
unreachable-requires-in-Err-Protection g c =
    never_refused _ _ _ _ _ _ c.requires.inside (rw c.in-Err-Protection.field-0-is at c.in-Err-Protection.ensures)
