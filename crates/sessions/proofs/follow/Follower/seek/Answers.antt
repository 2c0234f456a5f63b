use Rattle.std.proofs.Common.{rules, ◌≡◌, Some, inr, subst}
use Rattle.sessions.specs.Schedule.{Scene, scene}
use Rattle.sessions.specs.Seek.{seek_of}
use Rattle.sessions.proofs.Histories.{on_err}
use Rattle.sessions.proofs.SingleUnits.{text_partly, text_sought}
use Rattle.sessions.proofs.follow.Follower.seek.Goals as goal

pub returns-in_err-found-clause-err : goal.returns-in_err-found-clause-err
returns-in_err-found-clause-err g c =
    let i = g.I.Installation.goes in
    let s = c.self.inside in
    let contents = g.W.HostWriter.contents in
    let asked : seek_of (i.seen s.installation).users c.args.text.now ≡ Some c.in-Some.seek = search rules in
    on_err c.from_residual-in_err-found.result
    (inr (text_partly i c.args.text.now c.in-Some.seek (scene s.installation s.policy s.detail) c.args.self
    c.seek_units.new.installation (contents c.args.writer.now) (contents c.seek_units.new.writer) c.self.view_is asked
    c.in_err-found.ensures.err))

pub returns-clause-ok : goal.returns-clause-ok
returns-clause-ok g c =
    let i = g.I.Installation.goes in
    let s = c.self.inside in
    let contents = g.W.HostWriter.contents in
    let asked : seek_of (i.seen s.installation).users c.args.text.now ≡ Some c.in-Some.seek = search rules in
    text_sought i c.args.text.now c.in-Some.seek c.in_ok-found.found (scene s.installation s.policy s.detail)
    c.args.self (scene c.seek_units.new.installation c.seek_units.new.policy s.detail) (contents c.args.writer.now)
    (contents c.seek_units.new.writer) c.self.view_is asked c.in_ok-found.ensures.ok

pub returns-in_err-found-clause-memory : goal.returns-in_err-found-clause-memory
returns-in_err-found-clause-memory g c = λ _.
    let i = g.I.Installation.goes in
    let s = c.self.inside in
    let asked : seek_of (i.seen s.installation).users c.args.text.now ≡ Some c.in-Some.seek = search rules in
    inr (
      c.in-Some.seek,
      subst (λ (old : Scene _). seek_of (i.seen old.world).users c.args.text.now
          ≡ Some c.in-Some.seek) c.self.view_is asked,
    )
