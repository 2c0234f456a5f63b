use Rattle.sessions.specs.Saved.{HasNoUserSaved}
use Rattle.programs.proofs.Told.{told_partly}
use Rattle.programs.proofs.parts.view.Goals as goal

pub returns-clause-err : goal.returns-clause-err
returns-clause-err g c =
    let i = g.I.Installation.goes in
    let old = c.args.follower.now in
    let left = g.W.HostWriter.contents in
    told_partly c.tell_state.result (i.IsUserSaved old.world c.args.user) (HasNoUserSaved i old.world c.args.user)
    c.in_ok-is_there.is_there
    c.new-state.result.items c.save_user.new.out.items c.deref.result.now (left c.args.writer.now)
    (left c.tell_state.new.writer) c.new-state.ensures.items c.deref.ensures.value c.in_ok-is_there.ensures
    c.tell_state.ensures.err
