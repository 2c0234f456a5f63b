use Rattle.std.proofs.Common.{◌∙◌, inl, inr, sym, [], ◌∷◌}
use Rattle.std.proofs.lemmas.Result.{IfErr-at_err, IfErr-weaker, IfOk-at_ok, err_from_is_err_and, on_ok_weaker}
use Rattle.program_host.specs.Deeds.{Prints}
use Rattle.program_host.proofs.Deeds.{on_ok_both}
use Rattle.programs.proofs.Asked.{asked, no_first, unbegun}
use Rattle.bare370.proofs.program.obey.Goals as goal

pub returns-then-asks_to_follow-clause-ok : goal.returns-then-asks_to_follow-clause-ok
returns-then-asks_to_follow-clause-ok g c =
    on_ok_weaker c.follow.result
    (λ done. inr (sym (asked c.args.words.now) ∙ (sym c.asks_to_follow.ensures ∙ c.if-asks_to_follow.true), done))
    c.follow.ensures.ok

pub returns-then-asks_to_follow-clause-err : goal.returns-then-asks_to_follow-clause-err
returns-then-asks_to_follow-clause-err g c =
    IfErr-weaker c.follow.result _ _ (λ failure failed. inr (
      sym (asked c.args.words.now) ∙ (sym c.asks_to_follow.ensures ∙ c.if-asks_to_follow.true),
      failed,
    )) c.follow.ensures.err

pub returns-in-Err-clause-err : goal.returns-in-Err-clause-err
returns-in-Err-clause-err g c =
    let old = g.H.ProgramHost.deeds c.args.host.now in
    let new = g.H.ProgramHost.deeds c.wrong_use.new.host in
    let stream = Prints c.args.is_watched in
    inl (
      sym (asked c.args.words.now) ∙ (sym c.asks_to_follow.ensures ∙ c.if-asks_to_follow.false),
      inl (unbegun (stream ∷ []) old new c.in-Err.error _ c.wrong_use.result c.wrong_use.ensures.failure
          (λ other pages taken given named few. other (IfErr-at_err _ c.in-Err.is
          (c.bare_arguments.ensures.err pages taken given named few))) c.wrong_use.ensures.told),
    )

pub returns-in_err-output-clause-err : goal.returns-in_err-output-clause-err
returns-in_err-output-clause-err g c =
    let old = g.H.ProgramHost.deeds c.args.host.now in
    let new = g.H.ProgramHost.deeds c.output.new.self in
    let p = err_from_is_err_and c.from_residual.result c.from_residual.ensures.1 in
    rw (p.1, p.2) (inl (
      sym (asked c.args.words.now) ∙ (sym c.asks_to_follow.ensures ∙ c.if-asks_to_follow.false),
      inl (no_first (Prints c.args.is_watched) [] old new c.output.ensures.deeds),
    ))

pub returns-clause-ok : goal.returns-clause-ok
returns-clause-ok g c =
    on_ok_both c.run_files.result (λ ran flushed. inl (
      sym (asked c.args.words.now) ∙ (sym c.asks_to_follow.ensures ∙ c.if-asks_to_follow.false),
      record {
        options = c.in-Ok.options;
        output = c.in_ok-output.output;
        left = c.run_files.new.writer;
        between = g.H.ProgramHost.deeds c.output.new.self;
        named = IfOk-at_ok _ c.in-Ok.is c.bare_arguments.ensures.ok;
        printed = c.in_ok-output.ensures.ok;
        asked = c.output.ensures.deeds;
        ran = ran;
        flushed = flushed;
      },
    )) c.run_files.ensures.ok c.run_files.ensures.flushed

pub returns-clause-err : goal.returns-clause-err
returns-clause-err g c =
    IfErr-weaker c.run_files.result _ _ (λ failure failed. inl (
      sym (asked c.args.words.now) ∙ (sym c.asks_to_follow.ensures ∙ c.if-asks_to_follow.false),
      inr (record {
        options = c.in-Ok.options;
        output = c.in_ok-output.output;
        left = c.run_files.new.writer;
        between = g.H.ProgramHost.deeds c.output.new.self;
        named = IfOk-at_ok _ c.in-Ok.is c.bare_arguments.ensures.ok;
        printed = c.in_ok-output.ensures.ok;
        asked = c.output.ensures.deeds;
        failed = failed;
      }),
    )) c.run_files.ensures.err
