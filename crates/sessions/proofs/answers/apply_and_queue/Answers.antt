use Rattle.std.proofs.Common.{◌∙◌, inl, inr, refl, subst, arith}
use Rattle.std.specs.Io.KnownBytes.{Appends}
use Rattle.std.proofs.KnownBytes.{Appends-nil}
use Rattle.s370_num.specs.Host.{AppendsFront}
use Rattle.sessions.specs.Installed.{as_said}
use Rattle.sessions.proofs.Histories.{answered_partly, on_err}
use Rattle.sessions.proofs.Told.{told_alike, user_same}
use Rattle.sessions.proofs.answers.apply_and_queue.Goals as goal

pub returns-in_err-reply-clause-err : goal.returns-in_err-reply-clause-err
returns-in_err-reply-clause-err g c =
    on_err c.from_residual.result (inl (record { left = c.in_err-reply.ensures.err; same = refl }))

pub returns-in_err-lines-clause-err : goal.returns-in_err-lines-clause-err
returns-in_err-lines-clause-err g c =
    on_err c.from_residual-in_err-lines.result
    (inr (record {
      reply = c.in_ok-reply.reply;
      happened = c.in_ok-reply.ensures.ok;
      written = (0, omega arith, Appends-nil (g.W.HostWriter.contents c.args.writer.now));
    }))

pub returns-in_err-write_all-clause-err : goal.returns-in_err-write_all-clause-err
returns-in_err-write_all-clause-err g c =
    let i = g.I.Installation.goes in
    let old = g.W.HostWriter.contents c.args.writer.now in
    let new = g.W.HostWriter.contents c.write_all.new.writer in
    let lines = told_alike i c.args.detail (as_said c.args.event.now) c.args.installation.now c.apply_event.new.self
    c.in_ok-reply.reply c.user-user.result c.deref.result.now (c.user-user.ensures ∙ user_same c.args.event.now)
    c.apply_event.ensures.users
    (c.deref.ensures.value ∙ c.in_ok-lines.ensures) in
    on_err c.from_residual-in_err-write_all.result
    (inr (record {
      reply = c.in_ok-reply.reply;
      happened = c.in_ok-reply.ensures.ok;
      written = subst (AppendsFront old new) lines c.in_err-write_all.ensures.err;
    }))

pub returns-in_err-update_serve_queue-clause-err : goal.returns-in_err-update_serve_queue-clause-err
returns-in_err-update_serve_queue-clause-err g c =
    let i = g.I.Installation.goes in
    let old = g.W.HostWriter.contents c.args.writer.now in
    let new = g.W.HostWriter.contents c.write_all.new.writer in
    let lines = told_alike i c.args.detail (as_said c.args.event.now) c.args.installation.now c.apply_event.new.self
    c.in_ok-reply.reply c.user-user.result c.deref.result.now (c.user-user.ensures ∙ user_same c.args.event.now)
    c.apply_event.ensures.users
    (c.deref.ensures.value ∙ c.in_ok-lines.ensures) in
    on_err c.from_residual-in_err-update_serve_queue.result
    (inr (answered_partly i c.args.detail (as_said c.args.event.now) c.args.installation.now
    c.apply_event.new.self old new
    (record {
      reply = c.in_ok-reply.reply;
      happened = c.in_ok-reply.ensures.ok;
      written = subst (Appends old new) lines c.in_ok-write_all.ensures.ok;
    })))

pub returns-clause-ok : goal.returns-clause-ok
returns-clause-ok g c =
    let i = g.I.Installation.goes in
    let old = g.W.HostWriter.contents c.args.writer.now in
    let new = g.W.HostWriter.contents c.write_all.new.writer in
    let lines = told_alike i c.args.detail (as_said c.args.event.now) c.args.installation.now c.apply_event.new.self
    c.in_ok-reply.reply c.user-user.result c.deref.result.now (c.user-user.ensures ∙ user_same c.args.event.now)
    c.apply_event.ensures.users
    (c.deref.ensures.value ∙ c.in_ok-lines.ensures) in
    record {
      reply = c.in_ok-reply.reply;
      happened = c.in_ok-reply.ensures.ok;
      written = subst (Appends old new) lines c.in_ok-write_all.ensures.ok;
    }
