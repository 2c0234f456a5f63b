use Rattle.std.proofs.Common.{◌≡◌, List, Ok, inr, map, subst}
use Rattle.session_script.specs.Script.{said, script_of}
use Rattle.session_script.specs.declared.event.ScriptEvent.{ScriptEvent}
use Rattle.sessions.specs.Schedule.{Scene, acts, scene}
use Rattle.sessions.specs.Session.{IsPlayed}
use Rattle.sessions.proofs.Joined.{followed_on}
use Rattle.sessions.proofs.follow.Follower.part.Goals as goal

pub returns-clause-ok : goal.returns-clause-ok
returns-clause-ok g c =
    let i = g.I.Installation.goes in
    let s = c.self.inside in
    let script = map said c.in-Ok.events.items in
    let end = scene c.play.new.installation c.play.new.policy s.detail in
    let before = g.W.HostWriter.contents c.args.writer.now in
    let after = g.W.HostWriter.contents c.play.new.writer in
    let all = subst (λ (es : List ScriptEvent). IsPlayed i (acts (map said es))
    (scene s.installation s.policy s.detail) end before after) c.deref.ensures.value c.in_ok-play.ensures.ok in
    let played = subst (λ (old : Scene _). IsPlayed i (acts script) old end before after) c.self.view_is all in
    let accepted = subst (λ (old : Scene _). script_of
    (i.seen old.world).users c.args.text.now ≡ Ok script) c.self.view_is c.in-Ok.ensures.ok in
    let followed = followed_on i c.args.text.now script c.args.self c.play.new.installation c.forget_printed.new.self
    c.play.new.policy s.detail before after accepted played c.forget_printed.ensures.on
    c.forget_printed.ensures.seen in
    (c.in-Ok.ensures.whole, followed.0, followed.1)

pub returns-in_err-play-clause-memory : goal.returns-in_err-play-clause-memory
returns-in_err-play-clause-memory g c = λ _.
    let i = g.I.Installation.goes in
    let script = map said c.in-Ok.events.items in
    let accepted = subst (λ (old : Scene _). script_of
    (i.seen old.world).users c.args.text.now ≡ Ok script) c.self.view_is c.in-Ok.ensures.ok in
    inr (script, accepted, c.in-Ok.ensures.whole)
