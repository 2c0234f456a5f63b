use Rattle.std.proofs.Common.{◌≡◌, false}
use Rattle.sessions.specs.Runs.{IsSceneSaved}
use Rattle.programs.proofs.Told.{told_partly}
use Rattle.programs.proofs.parts.save.Goals as goal

pub returns-clause-err : goal.returns-clause-err
returns-clause-err g c =
    let i = g.I.Installation.goes in
    let old = c.args.follower.now in
    let left = g.W.HostWriter.contents in
    told_partly c.tell_state.result (IsSceneSaved i old) (i.has_states ≡ false) c.in_ok-is_there.is_there
    c.new-state.result.items c.save.new.out.items c.deref.result.now (left c.args.writer.now)
    (left c.tell_state.new.writer) c.new-state.ensures.items c.deref.ensures.value c.in_ok-is_there.ensures
    c.tell_state.ensures.err
