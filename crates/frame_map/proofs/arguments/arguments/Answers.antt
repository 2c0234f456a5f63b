use Rattle.std.proofs.Common.{◌≡◌, ◌∙◌, true, List, ap, codes, map, subst, sym}
use Rattle.std.proofs.lemmas.Result.{err_from_is_err_and}
use Rattle.clap.specs.Words.{App, Row, first_of, is_simple}
use Rattle.program_host.specs.Words.{rows_named}
use Rattle.vm370.specs.Options.{IsSized, gives_paths}
use Rattle.frame_map.proofs.arguments.arguments.Goals as goal

pub returns-in_err-run-clause-err : goal.returns-in_err-run-clause-err
returns-in_err-run-clause-err g c sizes taken given sized =
    let named = c.in_ok-matches.ensures.ok (ap is_simple c.in_ok-command.ensures)
    ∙ ap (λ (a : App). rows_named a (map g.S.AsStr.text c.args.words.now)) c.in_ok-command.ensures in
    let memory = c.in_err-run.ensures.err sizes (subst (λ (rows : List Row). gives_paths rows ≡ true) (sym named) given)
    (subst (λ (rows : List Row). IsSized rows sizes) (sym named) sized) in
    let p = err_from_is_err_and c.from_residual-in_err-run.result c.from_residual-in_err-run.ensures.1 in
    rw (p.1, p.2) memory

pub returns-clause-state : goal.returns-clause-state
returns-clause-state g c =
    let named = c.in_ok-matches.ensures.ok (ap is_simple c.in_ok-command.ensures)
    ∙ ap (λ (a : App). rows_named a (map g.S.AsStr.text c.args.words.now)) c.in_ok-command.ensures in
    c.text_of.ensures ∙ ap (λ (rows : List Row). first_of (codes "state") rows) named
