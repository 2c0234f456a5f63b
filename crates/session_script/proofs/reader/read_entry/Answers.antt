use Rattle.std.proofs.Common.{◌≡◌, rules, [], ◌∷◌, ◌++◌, All, sym, subst}
use Rattle.std.proofs.lemmas.List.Elements.{All-push}
use Rattle.session_script.specs.Script.{IsOfDevice, IsOfUser, said}
use Rattle.session_script.specs.declared.event.ScriptEvent.{ScriptEvent}
use Rattle.session_script.proofs.reader.read_entry.Goals as goal

pub returns-clause-users : goal.returns-clause-users
returns-clause-users g c = λ so_far.
    let items : c.push.new.self.items ≡ c.args.events.now.items ++ c.in-Some.event ∷ [] = search rules in
    let fits = λ (e : ScriptEvent). IsOfUser (g.U.ScriptUsers.known c.args.users.now) (said e) in
    subst (All fits) (sym items)
    (All-push fits c.args.events.now.items c.in-Some.event so_far c.in-Some.ensures.users)

pub returns-clause-devices : goal.returns-clause-devices
returns-clause-devices g c = λ so_far.
    let items : c.push.new.self.items ≡ c.args.events.now.items ++ c.in-Some.event ∷ [] = search rules in
    let fits = λ (e : ScriptEvent). IsOfDevice (g.U.ScriptUsers.known c.args.users.now) (said e) in
    subst (All fits) (sym items)
    (All-push fits c.args.events.now.items c.in-Some.event so_far c.in-Some.ensures.devices)
