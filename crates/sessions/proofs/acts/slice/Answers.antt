use Rattle.std.proofs.Common.{◌≡◌, ◌∙◌, Some, None, ap, refl, sym}
use Rattle.std.specs.List.{position}
use Rattle.cp_dispatch.specs.Policy.{Lines}
use Rattle.cp_dispatch.specs.Turns.{IsDealt}
use Rattle.cp_dispatch.proofs.Places.{none_placed}
use Rattle.sessions.specs.Schedule.{line_after, ready_in}
use Rattle.sessions.proofs.Histories.{not_sliced, on_err, sliced, sliced_partly}
use Rattle.sessions.proofs.Stated.{after_event}
use Rattle.sessions.proofs.acts.slice.Goals as goal

pub apply_and_queue-requires : goal.apply_and_queue-requires
apply_and_queue-requires g c =
    let before = g.I.Installation.goes.seen c.args.installation.now in
    let place : position (ready_in before) c.args.policy.now.users ≡ Some c.in-Some.place =
    ap (position (ready_in before)) (sym c.users.ensures) ∙ (sym c.first_ready.ensures.place ∙ c.in-Some.is) in
    let dealt : IsDealt (ready_in before) c.args.policy.now.users (Some c.slice-user.result)
    c.slice-user.new.self.users =
    c.slice-user.ensures.dealt (ready_in before) place in
    record { user = c.first_ready.ensures.known c.slice-user.result dealt.is_ready; device = tt }

pub returns-in_default-clause-ok : goal.returns-in_default-clause-ok
returns-in_default-clause-ok g c =
    let i = g.I.Installation.goes in
    let before = i.seen c.args.installation.now in
    let lines = c.args.policy.now in
    let nobody : position (ready_in before) lines.users ≡ None =
    ap (position (ready_in before)) (sym c.users.ensures) ∙ (sym c.first_ready.ensures.place ∙ c.in_default.is) in
    not_sliced i c.args.detail c.args.installation.now lines lines (g.W.HostWriter.contents c.args.writer.now)
    (none_placed (ready_in before) lines.users nobody, refl) refl c.requires.dealing

pub returns-in_err-apply_and_queue-clause-err : goal.returns-in_err-apply_and_queue-clause-err
returns-in_err-apply_and_queue-clause-err g c =
    let i = g.I.Installation.goes in
    let old = g.W.HostWriter.contents c.args.writer.now in
    let new = g.W.HostWriter.contents c.apply_and_queue.new.writer in
    let before = i.seen c.args.installation.now in
    let place : position (ready_in before) c.args.policy.now.users ≡ Some c.in-Some.place =
    ap (position (ready_in before)) (sym c.users.ensures) ∙ (sym c.first_ready.ensures.place ∙ c.in-Some.is) in
    on_err c.from_residual.result
    (sliced_partly i c.args.detail c.slice-user.result c.slice-user.new.self.users c.args.installation.now
    c.apply_and_queue.new.installation c.args.policy.now old new (c.slice-user.ensures.dealt (ready_in before) place)
    c.in_err-apply_and_queue.ensures.err)

pub returns-clause-ok : goal.returns-clause-ok
returns-clause-ok g c =
    let i = g.I.Installation.goes in
    let old = g.W.HostWriter.contents c.args.writer.now in
    let new = g.W.HostWriter.contents c.apply_and_queue.new.writer in
    let before = i.seen c.args.installation.now in
    let after = i.seen c.apply_and_queue.new.installation in
    let lines = c.args.policy.now in
    let user = c.slice-user.result in
    let next = c.slice-user.new.self.users in
    let place : position (ready_in before) lines.users ≡ Some c.in-Some.place =
    ap (position (ready_in before)) (sym c.users.ensures) ∙ (sym c.first_ready.ensures.place ∙ c.in-Some.is) in
    let turned : c.slice-user.new.self ≡ record lines { users = next } = c.slice-user.ensures.rest in
    let all : c.apply_and_queue.new.policy
    ≡ record lines { users = next; programs = line_after before after user lines.programs } =
    c.in_ok-apply_and_queue.ensures.lined ∙ ap (λ (p : Lines). record p {
      programs = line_after before after user
          p.programs;
    })
    turned in
    let dealing = after_event before after user lines lines.programs c.apply_and_queue.new.policy
    c.apply_and_queue.ensures.users
    c.requires.dealing.stated c.requires.dealing.seats (ap (λ (p : Lines). p.most_users) all)
    (ap (λ (p : Lines). p.programs) all) in
    sliced i c.args.detail user next c.args.installation.now c.apply_and_queue.new.installation lines
    c.apply_and_queue.new.policy old new
    (c.slice-user.ensures.dealt (ready_in before) place) c.in_ok-apply_and_queue.ensures.ok all
    c.apply_and_queue.ensures.users dealing
