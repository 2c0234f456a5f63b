use Rattle.std.proofs.Common.{◌≡◌, ◌∙◌, ap, arith, subst, sym, List, [], ◌∷◌}
use Rattle.cp_dispatch.specs.Policy.{Lines}
use Rattle.session_script.specs.Script.{EventValue, IsOfDevice, IsOfUser, said}
use Rattle.session_script.specs.Users.{KnownUser}
use Rattle.sessions.specs.Installed.{as_said}
use Rattle.sessions.specs.Schedule.{Act, Applies, acts_of, line_after, lines_after, queue_after, scene, user_said}
use Rattle.sessions.specs.Session.{IsPartly, IsPlayed}
use Rattle.sessions.proofs.Stated.{after_event}
use Rattle.sessions.proofs.Told.{acts_same, user_same}
use Rattle.sessions.proofs.Histories.{applied, applied_partly, on_err, partly_start}
use Rattle.sessions.proofs.Played.{partly_within, played_within}
use Rattle.sessions.proofs.acts.play.Goals.{in-Event+in_ok-apply_and_queue-in-Event, in-Turns+in_ok-deal-in-Turns}
use Rattle.sessions.proofs.acts.play.Goals as goal

pub returns-in_err-cards-clause-err : goal.returns-in_err-cards-clause-err
returns-in_err-cards-clause-err g c =
    let i = g.I.Installation.goes in
    let contents = g.W.HostWriter.contents in
    let event = c.event-item.result in
    let old = scene c.args.installation.now c.args.policy.now c.args.detail in
    let mid = scene c.loop-event.installation c.loop-event.policy c.args.detail in
    let at = contents c.loop-event.writer in
    on_err c.from_residual.result
    (partly_within i c.args.events.now c.loop-event.event-index event old mid c.loop-event.installation
    (contents c.args.writer.now) at at (omega arith) c.event-item.is c.loop-event.invariant.so_far
    (partly_start i (acts_of (said event)) mid at))

pub apply_and_queue-requires : goal.apply_and_queue-requires
apply_and_queue-requires g c =
    let k = c.loop-event.event-index in
    let event = c.event-item.result in
    let seen = g.I.Installation.goes.seen in
    let first = (seen c.args.installation.now).users in
    let users = (seen c.loop-event.installation).users in
    let same : users ≡ first = c.loop-event.invariant.so_far.users in
    let told : as_said c.in-Event.event ≡ said event = c.in-Event.ensures in
    let user : IsOfUser first (said event) = rw c.event-item.is (c.requires.users k event (omega arith)) in
    let device : IsOfDevice first (said event) = rw c.event-item.is (c.requires.devices k event (omega arith)) in
    record {
      user = subst (λ (us : List KnownUser). IsOfUser us (as_said c.in-Event.event)) (sym same)
          (subst (λ (e : EventValue). IsOfUser first e) (sym told) user);
      device = subst (λ (us : List KnownUser). IsOfDevice us (as_said c.in-Event.event)) (sym same)
          (subst (λ (e : EventValue). IsOfDevice first e) (sym told) device);
    }

pub returns-in_err-apply_and_queue-in-Event-clause-err : goal.returns-in_err-apply_and_queue-in-Event-clause-err
returns-in_err-apply_and_queue-in-Event-clause-err g c =
    let i = g.I.Installation.goes in
    let contents = g.W.HostWriter.contents in
    let k = c.loop-event.event-index in
    let event = c.event-item.result in
    let happens = c.in-Event.event in
    let old = scene c.args.installation.now c.args.policy.now c.args.detail in
    let mid = scene c.loop-event.installation c.loop-event.policy c.args.detail in
    let at = contents c.loop-event.writer in
    let new = contents c.apply_and_queue.new.writer in
    let told : as_said happens ≡ said event = c.in-Event.ensures in
    let all : Applies (as_said happens) ∷ [] ≡ acts_of (said event) = sym (acts_same happens) ∙ ap acts_of told in
    on_err c.from_residual-in_err-apply_and_queue-in-Event.result
    (partly_within i c.args.events.now k event old mid c.apply_and_queue.new.installation
    (contents c.args.writer.now) at new (omega arith) c.event-item.is c.loop-event.invariant.so_far
    (subst (λ (acts : List Act). IsPartly i acts mid c.apply_and_queue.new.installation at new) all
    (applied_partly i c.args.detail (as_said happens) c.loop-event.installation c.apply_and_queue.new.installation
    c.loop-event.policy at new c.in_err-apply_and_queue-in-Event.ensures.err)))

pub returns-in_err-deal-in-Turns-clause-err : goal.returns-in_err-deal-in-Turns-clause-err
returns-in_err-deal-in-Turns-clause-err g c =
    let i = g.I.Installation.goes in
    let contents = g.W.HostWriter.contents in
    let k = c.loop-event.event-index in
    let event = c.event-item.result in
    let old = scene c.args.installation.now c.args.policy.now c.args.detail in
    let mid = scene c.loop-event.installation c.loop-event.policy c.args.detail in
    let at = contents c.loop-event.writer in
    let new = contents c.deal.new.writer in
    on_err c.from_residual-in_err-deal-in-Turns.result
    (partly_within i c.args.events.now k event old mid c.deal.new.installation
    (contents c.args.writer.now) at new (omega arith) c.event-item.is c.loop-event.invariant.so_far
    (subst (λ (e : EventValue). IsPartly i (acts_of e) mid c.deal.new.installation at new) c.in-Turns.ensures
    c.in_err-deal-in-Turns.ensures.err))

pub loop-event-preserved : goal.loop-event-preserved
loop-event-preserved g c =
    let i = g.I.Installation.goes in
    let contents = g.W.HostWriter.contents in
    let k = c.loop-event.event-index in
    let event = c.event-item.result in
    let lines = c.loop-event.policy in
    let old = scene c.args.installation.now c.args.policy.now c.args.detail in
    let mid = scene c.loop-event.installation lines c.args.detail in
    let at = contents c.loop-event.writer in
    let so_far = c.loop-event.invariant.so_far in
    elim c.match-asked_by.branch [
      | in-Event+in_ok-apply_and_queue-in-Event w ↦ (
          let happens = w.in-Event.event in
          let what = as_said happens in
          let who = user_said what in
          let before = i.seen c.loop-event.installation in
          let after = i.seen w.apply_and_queue.new.installation in
          let new = contents w.apply_and_queue.new.writer in
          let noted : w.update_ready_queue.new.policy
          ≡ record w.apply_and_queue.new.policy {
            users = queue_after before after who w.apply_and_queue.new.policy.users;
          } = rw (w.is_on-was_on.ensures, w.is_on-is_on.ensures, w.user-user.ensures, user_same happens) at
          w.update_ready_queue.ensures in
          let left : w.update_ready_queue.new.policy ≡ lines_after before after who lines =
          noted ∙ ap (λ (p : Lines). record p { users = queue_after before after who p.users })
          w.in_ok-apply_and_queue-in-Event.ensures.lined in
          let line : w.update_ready_queue.new.policy.programs ≡ line_after before after who lines.programs =
          ap (λ (p : Lines). p.programs) left in
          let most : w.update_ready_queue.new.policy.most_users ≡ lines.most_users =
          ap (λ (p : Lines). p.most_users) left in
          let dealing = after_event before after who lines lines.programs w.update_ready_queue.new.policy
          w.apply_and_queue.ensures.users so_far.dealing.stated so_far.dealing.seats most line in
          let end = scene w.apply_and_queue.new.installation w.update_ready_queue.new.policy c.args.detail in
          let told : what ≡ said event = w.in-Event.ensures in
          let all : Applies what ∷ [] ≡ acts_of (said event) = sym (acts_same happens) ∙ ap acts_of told in
          rw (w.installation-is, w.policy-is, w.writer-is)
          (record {
            so_far = played_within i c.args.events.now k event old mid end (contents c.args.writer.now) at new
                (omega arith) c.event-item.is so_far
                (subst (λ (acts : List Act). IsPlayed i acts mid end at new) all
                (applied i c.args.detail what c.loop-event.installation w.apply_and_queue.new.installation lines
                w.update_ready_queue.new.policy at new
                w.in_ok-apply_and_queue-in-Event.ensures.ok left w.apply_and_queue.ensures.users dealing));
            spent = λ e. c.loop-event.invariant.spent (w.in_ok-apply_and_queue-in-Event.ensures.why.1 e);
            same = w.in_ok-apply_and_queue-in-Event.ensures.why.0 ∙ c.loop-event.invariant.same;
          }))
      | in-Turns+in_ok-deal-in-Turns w ↦ (
          let new = contents w.deal.new.writer in
          let end = scene w.deal.new.installation w.deal.new.policy c.args.detail in
          rw (w.installation-is, w.policy-is, w.writer-is)
          (record {
            so_far = played_within i c.args.events.now k event old mid end (contents c.args.writer.now) at new
                (omega arith) c.event-item.is so_far
                (subst (λ (e : EventValue). IsPlayed i (acts_of e) mid end at new) w.in-Turns.ensures
                w.in_ok-deal-in-Turns.ensures.ok);
            spent = λ e. c.loop-event.invariant.spent (w.in_ok-deal-in-Turns.ensures.why.1 e);
            same = w.in_ok-deal-in-Turns.ensures.why.0 ∙ c.loop-event.invariant.same;
          }))
    ]
