use Rattle.std.proofs.Common.{[], ◌∷◌}
use Rattle.sessions.specs.Schedule.{Serves, Slices, scene, within}
use Rattle.sessions.proofs.Histories.{err_then, ok_then, on_err, partly_more, partly_rest, played_more}
use Rattle.sessions.proofs.acts.turn.Goals as goal

pub serve-requires : goal.serve-requires
serve-requires g c = record { dealing = c.in_ok-had_slice.ensures.ok.dealing }

pub returns-in_err-had_slice-clause-err : goal.returns-in_err-had_slice-clause-err
returns-in_err-had_slice-clause-err g c =
    let contents = g.W.HostWriter.contents in
    on_err c.from_residual.result
    (partly_rest g.I.Installation.goes (Slices ∷ []) (Serves ∷ [])
    (scene c.args.installation.now c.args.policy.now c.args.detail) c.slice.new.installation
    (contents c.args.writer.now) (contents c.slice.new.writer) c.in_err-had_slice.ensures.err)

pub returns-clause-ok : goal.returns-clause-ok
returns-clause-ok g c =
    let contents = g.W.HostWriter.contents in
    let old = scene c.args.installation.now c.args.policy.now c.args.detail in
    let mid = within c.in_ok-had_slice.had_slice c.slice.new.installation c.slice.new.policy c.args.detail in
    let new = scene c.serve.new.installation c.serve.new.policy c.args.detail in
    ok_then c.serve.result (λ p.
    played_more g.I.Installation.goes (Slices ∷ []) (Serves ∷ []) old mid new (contents c.args.writer.now)
    (contents c.slice.new.writer) (contents c.serve.new.writer) c.in_ok-had_slice.ensures.ok p) c.serve.ensures.ok

pub returns-clause-err : goal.returns-clause-err
returns-clause-err g c =
    let contents = g.W.HostWriter.contents in
    let old = scene c.args.installation.now c.args.policy.now c.args.detail in
    let mid = within c.in_ok-had_slice.had_slice c.slice.new.installation c.slice.new.policy c.args.detail in
    err_then c.serve.result (λ p.
    partly_more g.I.Installation.goes (Slices ∷ []) (Serves ∷ []) old mid c.serve.new.installation
    (contents c.args.writer.now) (contents c.slice.new.writer) (contents c.serve.new.writer)
    c.in_ok-had_slice.ensures.ok p) c.serve.ensures.err
