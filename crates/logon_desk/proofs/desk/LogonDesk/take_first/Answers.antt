use Rattle.std.proofs.Common.{subst}
use Rattle.std.specs.Result.{OnOk}
use Rattle.logon_desk.specs.Desk.{Does, Step}
use Rattle.logon_desk.proofs.Steps.{takes_first}
use Rattle.logon_desk.proofs.desk.LogonDesk.take_first.Goals as goal

-- the byte was taken of the bytes that waited
pub returns : goal.returns
returns c =
    let old = c.self.inside in
    let same = takes_first old.connections.items old.accounts.items old.guesses c.args.self.now c.args.connection
    c.index_mut-place.result.now c.in-Some.byte c.take.new.self c.take-2.new.self
    c.in_ok-decoded.decoded c.args.now c.self.view_is c.requires.within c.index_mut-place.ensures.value
    c.in-Some.ensures.some c.in_ok-decoded.ensures in
    subst (λ (s : Step). OnOk c.after_decoded.result (Does s c.args.out.now c.after_decoded.new.self
    c.after_decoded.new.out)) same c.after_decoded.ensures
