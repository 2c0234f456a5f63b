use Rattle.std.proofs.Common.{sym, ◌∙◌}
use Rattle.s370_store.specs.declared.Access.TheVariants.{Fetch}
use Rattle.s370_channel.proofs.Stuck.{lacks_taking_byte, absent_verdict}
use Rattle.s370_channel.proofs.moving.send_output_byte.Goals as goal

pub returns-in-Err-Absent-clause-lacks : goal.returns-in-Err-Absent-clause-lacks
returns-in-Err-Absent-clause-lacks g c =
    let absent = absent_verdict _ _ _ _ _ c.check.result c.in-Err-Absent.field-0 c.in-Err-Absent.page c.in-Err-Absent.is
    c.in-Err-Absent.field-0-is c.check.ensures in
    lacks_taking_byte c.in-Some.address Fetch c.requires.count c.requires.left c.requires.takes
    (sym c.in_ok-address.ensures ∙ c.in-Some.is) absent.0 absent.1
