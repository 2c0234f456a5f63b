use Rattle.std.proofs.Common.{List, All, subst, sym}
use Rattle.session_script.specs.Script.{IsOfUser, said}
use Rattle.session_script.specs.declared.event.ScriptEvent.{ScriptEvent}
use Rattle.sessions.proofs.seek.read_seek.Goals as goal

pub returns-in-Ok-clause-user : goal.returns-in-Ok-clause-user
returns-in-Ok-clause-user g c =
    let users = (g.I.Installation.goes.seen c.args.installation.now).users in
    c.single_run.ensures.user users
    (subst (λ (es : List ScriptEvent). All (λ e. IsOfUser users (said e)) es) (sym c.deref.ensures.value)
    c.in-Ok.ensures.users)
