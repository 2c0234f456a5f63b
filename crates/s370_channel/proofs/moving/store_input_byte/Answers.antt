use Rattle.std.proofs.Common.{sym, ◌∙◌}
use Rattle.s370_store.specs.declared.Access.TheVariants.{Store}
use Rattle.s370_channel.proofs.Stuck.{lacks_giving_byte, absent_verdict}
use Rattle.s370_channel.proofs.moving.store_input_byte.Goals as goal

pub returns-in-Err-Absent-clause-lacks : goal.returns-in-Err-Absent-clause-lacks
returns-in-Err-Absent-clause-lacks g c =
    let absent = absent_verdict _ _ _ _ _ c.check.result c.in-Err-Absent.field-0 c.in-Err-Absent.page c.in-Err-Absent.is
    c.in-Err-Absent.field-0-is c.check.ensures in
    lacks_giving_byte c.in-Some.address Store c.requires.count c.requires.left c.requires.gives (sym c.has.ensures
    ∙ c.if-has.false) (sym c.in_ok-address.ensures ∙ c.in-Some.is) absent.0 absent.1
