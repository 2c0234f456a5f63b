use Rattle.std.proofs.lemmas.Result.{on_ok_weaker}
use Rattle.logon_desk.proofs.Steps.{asks_host}
use Rattle.logon_desk.proofs.desk.LogonDesk.ask_host.Goals as goal

-- the guess is remembered, its connection comes to its stage, and the host is asked
pub returns : goal.returns
returns c =
    let old = c.self.inside in
    let asks = asks_host old.connections.items old.accounts.items old.guesses c.ask.new.self c.args.self.now
    c.args.connection c.index.result.now c.as_slice.result.now c.args.guess.now c.in_ok-judged.judged
    c.in_ok-asked.asked c.args.now c.come_to.new.self c.args.out.now c.push.new.self c.self.view_is c.requires.within
    c.index.ensures c.as_slice.ensures c.in_ok-ask.ensures c.in_ok-judged.ensures c.in_ok-asked.ensures
    c.come_to.ensures in
    on_ok_weaker c.push.result asks c.push.ensures
