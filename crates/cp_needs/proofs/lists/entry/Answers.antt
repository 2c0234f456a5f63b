use Rattle.cp_needs.proofs.Tables.{zero_passes, in_storage, fault_verdict}
use Rattle.cp_needs.proofs.lists.entry.Goals as goal

pub returns-in-Err-Addressing-clause-present : goal.returns-in-Err-Addressing-clause-present
returns-in-Err-Addressing-clause-present g c = λ lt.
    absurd (in_storage _ _ 0 c.in-Some.address (fault_verdict _ _ _ _ _ c.check.result c.in-Err-Addressing.field-0 _
    c.in-Err-Addressing.is c.in-Err-Addressing.field-0-is c.check.ensures) lt)

pub returns-in-Err-Protection-clause-present : goal.returns-in-Err-Protection-clause-present
returns-in-Err-Protection-clause-present g c = λ lt.
    absurd (zero_passes _ _ c.in-Some.address (fault_verdict _ _ _ _ _ c.check.result c.in-Err-Protection.field-0 _
    c.in-Err-Protection.is c.in-Err-Protection.field-0-is c.check.ensures))
