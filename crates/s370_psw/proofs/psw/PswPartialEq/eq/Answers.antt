use Rattle.std.proofs.Common.{rules}
use Rattle.s370_psw.proofs.Packing.{left_is}
use Rattle.s370_psw.proofs.psw.PswPartialEq.eq.Goals as goal

pub returns : goal.returns
returns c = search (rules, left_is)
