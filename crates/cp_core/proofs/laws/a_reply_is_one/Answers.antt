use Rattle.cp_core.proofs.OneReply.{histories_are_one, replies_are_one}
use Rattle.cp_core.proofs.laws.a_reply_is_one.Goals as goal

pub returns-clause-reply : goal.returns-clause-reply
returns-clause-reply c =
    let law = c.a_life_comes_to_one_end.ensures in replies_are_one law.life law.line law.reported

pub returns-clause-history : goal.returns-clause-history
returns-clause-history c =
    let law = c.a_life_comes_to_one_end.ensures in histories_are_one law.life law.line law.reported
