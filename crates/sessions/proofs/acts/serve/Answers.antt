use Rattle.std.proofs.Common.{◌≡◌, ◌∙◌, None, ap, refl}
use Rattle.cp_dispatch.specs.Policy.{Lines, always}
use Rattle.cp_dispatch.specs.Turns.{IsDealt}
use Rattle.sessions.specs.Schedule.{line_after}
use Rattle.sessions.proofs.Histories.{both_ok, err_then, not_served, not_served_partly, ok_then, same_lines, served}
use Rattle.sessions.proofs.Histories.{served_partly}
use Rattle.sessions.proofs.Stated.{after_event, taken_stated, turned_stated, user_stated}
use Rattle.sessions.proofs.acts.serve.Goals as goal

pub apply_and_queue-requires : goal.apply_and_queue-requires
apply_and_queue-requires g c =
    let users = (g.I.Installation.goes.seen c.args.installation.now).users in
    let program = c.in-Some.program in
    let given = taken_stated users c.args.policy.now.programs c.serve.new.self.programs program c.in-Some.ensures.dealt
    c.requires.dealing.stated in
    record { user = user_stated users program given; device = given }

pub returns-in-Some-clause-ok : goal.returns-in-Some-clause-ok
returns-in-Some-clause-ok g c =
    let i = g.I.Installation.goes in
    let old = g.W.HostWriter.contents c.args.writer.now in
    let new = g.W.HostWriter.contents c.apply_and_queue.new.writer in
    let before = i.seen c.args.installation.now in
    let after = i.seen c.apply_and_queue.new.installation in
    let program = c.in-Some.program in
    let turned = c.serve.new.self.programs in
    let lines = c.args.policy.now in
    let stated = turned_stated before.users lines.programs turned program c.in-Some.ensures.dealt
    c.requires.dealing.stated in
    ok_then c.apply_and_queue.result (λ h.
    let all : c.apply_and_queue.new.policy ≡ record lines { programs = line_after before after program.user turned } =
    h.1 ∙ ap (λ (p : Lines). record p { programs = line_after before after program.user turned }) c.serve.ensures.rest
    in
    let dealing = after_event before after program.user lines turned c.apply_and_queue.new.policy
    c.apply_and_queue.ensures.users stated
    c.requires.dealing.seats (ap (λ (p : Lines). p.most_users) all) (ap (λ (p : Lines). p.programs) all) in
    served i c.args.detail c.args.had_slice program turned c.args.installation.now c.apply_and_queue.new.installation
    lines
    c.apply_and_queue.new.policy old new c.in-Some.ensures.dealt h.0 all c.apply_and_queue.ensures.users dealing)
    (both_ok _ _ c.apply_and_queue.result c.apply_and_queue.ensures.ok c.apply_and_queue.ensures.lined)

pub returns-in-Some-clause-err : goal.returns-in-Some-clause-err
returns-in-Some-clause-err g c =
    let old = g.W.HostWriter.contents c.args.writer.now in
    let new = g.W.HostWriter.contents c.apply_and_queue.new.writer in
    err_then c.apply_and_queue.result
    (λ h. served_partly g.I.Installation.goes c.args.detail c.args.had_slice c.in-Some.program
    c.serve.new.self.programs c.args.installation.now c.apply_and_queue.new.installation c.args.policy.now old new
    c.in-Some.ensures.dealt h) c.apply_and_queue.ensures.err

pub returns-in-None-clause-ok : goal.returns-in-None-clause-ok
returns-in-None-clause-ok g c =
    let old = g.W.HostWriter.contents c.args.writer.now in
    let new = g.W.HostWriter.contents c.pass.new.writer in
    let stays = same_lines c.args.policy.now c.serve.new.self c.serve.ensures.rest c.in-None.ensures.dealt.1 in
    let dealt : IsDealt always c.args.policy.now.programs None c.args.policy.now.programs =
    (c.in-None.ensures.dealt.0, refl) in
    ok_then c.pass.result (λ w.
    not_served g.I.Installation.goes c.args.detail c.args.had_slice c.args.installation.now c.args.policy.now
    c.serve.new.self old new dealt stays w c.requires.dealing) c.pass.ensures.ok

pub returns-in-None-clause-err : goal.returns-in-None-clause-err
returns-in-None-clause-err g c =
    let old = g.W.HostWriter.contents c.args.writer.now in
    let new = g.W.HostWriter.contents c.pass.new.writer in
    let dealt : IsDealt always c.args.policy.now.programs None c.args.policy.now.programs =
    (c.in-None.ensures.dealt.0, refl) in
    err_then c.pass.result (λ w.
    not_served_partly g.I.Installation.goes c.args.detail c.args.had_slice c.args.installation.now c.args.policy.now
    old new dealt w) c.pass.ensures.err
