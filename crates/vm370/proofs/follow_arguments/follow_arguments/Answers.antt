use Rattle.std.proofs.Common.{◌≡◌, ◌∙◌, true, List, ap, map, subst, sym}
use Rattle.std.proofs.lemmas.Result.{IfOk-weaker}
use Rattle.clap.specs.Words.{App, Row, is_simple}
use Rattle.program_host.specs.Words.{rows_named}
use Rattle.vm370.specs.FollowOptions.{IsNamed, gives_directory}
use Rattle.vm370.specs.Options.{IsSized}
use Rattle.vm370.proofs.follow_arguments.follow_arguments.Goals as goal

pub returns-clause-ok : goal.returns-clause-ok
returns-clause-ok g c =
    let named = c.in_ok-matches.ensures.ok (ap is_simple c.in_ok-command.ensures)
    ∙ ap (λ (a : App). rows_named a (map g.S.AsStr.text c.args.words.now)) c.in_ok-command.ensures in
    IfOk-weaker c.options_in.result _ _ (λ options is. subst (λ (rows : List Row). IsNamed rows options) named is)
    c.options_in.ensures.ok

pub returns-clause-err : goal.returns-clause-err
returns-clause-err g c sizes taken given sized =
    let named = c.in_ok-matches.ensures.ok (ap is_simple c.in_ok-command.ensures)
    ∙ ap (λ (a : App). rows_named a (map g.S.AsStr.text c.args.words.now)) c.in_ok-command.ensures in
    c.options_in.ensures.err sizes (subst (λ (rows : List Row). gives_directory rows ≡ true) (sym named) given)
    (subst (λ (rows : List Row). IsSized rows sizes) (sym named) sized)
