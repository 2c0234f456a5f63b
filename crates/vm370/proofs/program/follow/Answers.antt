use Rattle.std.proofs.Common.{inl, inr, false, [], ◌∷◌}
use Rattle.std.proofs.lemmas.Result.{IfErr-at_err, IfErr-weaker, IfOk-at_ok, err_from_is_err_and}
use Rattle.program_host.specs.Deeds.{Listens, Prints}
use Rattle.program_host.proofs.Deeds.{adds_more, on_ok_both}
use Rattle.programs.proofs.Asked.{no_first, no_second, unbegun}
use Rattle.vm370.proofs.program.follow.Goals as goal

pub returns-in-Err-clause-err : goal.returns-in-Err-clause-err
returns-in-Err-clause-err g c =
    let old = g.H.ProgramHost.deeds c.args.host.now in
    let new = g.H.ProgramHost.deeds c.wrong_use.new.host in
    let both = Listens ∷ Prints false ∷ [] in
    inl (unbegun both old new c.in-Err.error _ c.wrong_use.result c.wrong_use.ensures.failure
    (λ other sizes taken given sized. other (IfErr-at_err _ c.in-Err.is
    (c.follow_arguments.ensures.err sizes taken given sized))) c.wrong_use.ensures.told)

pub returns-in_err-input-clause-err : goal.returns-in_err-input-clause-err
returns-in_err-input-clause-err g c =
    let old = g.H.ProgramHost.deeds c.args.host.now in
    let new = g.H.ProgramHost.deeds c.input.new.self in
    let p = err_from_is_err_and c.from_residual.result c.from_residual.ensures.1 in
    rw (p.1, p.2) (inl (no_first Listens (Prints false ∷ []) old new c.input.ensures.deeds))

pub returns-in_err-output-clause-err : goal.returns-in_err-output-clause-err
returns-in_err-output-clause-err g c =
    let deeds = g.H.ProgramHost.deeds in
    let p = err_from_is_err_and c.from_residual-in_err-output.result c.from_residual-in_err-output.ensures.1 in
    rw (p.1, p.2) (inl (no_second Listens (Prints false) (deeds c.args.host.now) (deeds c.input.new.self)
    (deeds c.output.new.self) c.input.ensures.deeds c.output.ensures.deeds))

pub returns-clause-ok : goal.returns-clause-ok
returns-clause-ok g c =
    let deeds = g.H.ProgramHost.deeds in
    let asked = adds_more (deeds c.args.host.now) (deeds c.input.new.self) (deeds c.output.new.self) (Listens ∷ [])
    (Prints false ∷ []) c.input.ensures.deeds c.output.ensures.deeds in
    on_ok_both c.follow_system.result (λ followed flushed. record {
      options = c.in-Ok.options;
      input = c.in_ok-input.input;
      heard = c.follow_system.new.reader;
      output = c.in_ok-output.output;
      left = c.follow_system.new.writer;
      between = g.H.ProgramHost.deeds c.output.new.self;
      named = IfOk-at_ok _ c.in-Ok.is c.follow_arguments.ensures.ok;
      listened = c.in_ok-input.ensures.ok;
      printed = c.in_ok-output.ensures.ok;
      asked = asked;
      followed = followed;
      flushed = flushed;
    }) c.follow_system.ensures.ok c.follow_system.ensures.flushed

pub returns-clause-err : goal.returns-clause-err
returns-clause-err g c =
    let deeds = g.H.ProgramHost.deeds in
    let asked = adds_more (deeds c.args.host.now) (deeds c.input.new.self) (deeds c.output.new.self) (Listens ∷ [])
    (Prints false ∷ []) c.input.ensures.deeds c.output.ensures.deeds in
    IfErr-weaker c.follow_system.result _ _ (λ failure failed. inr (record {
      options = c.in-Ok.options;
      input = c.in_ok-input.input;
      heard = c.follow_system.new.reader;
      output = c.in_ok-output.output;
      left = c.follow_system.new.writer;
      between = g.H.ProgramHost.deeds c.output.new.self;
      named = IfOk-at_ok _ c.in-Ok.is c.follow_arguments.ensures.ok;
      listened = c.in_ok-input.ensures.ok;
      printed = c.in_ok-output.ensures.ok;
      asked = asked;
      failed = failed;
    })) c.follow_system.ensures.err
