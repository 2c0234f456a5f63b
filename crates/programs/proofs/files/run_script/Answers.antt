use Rattle.std.proofs.Common.{Err, ap, inl, inr, refl}
use Rattle.std.proofs.lemmas.Result.{err_from_is_err_and}
use Rattle.programs.specs.Faults.{file_failure, session_failure}
use Rattle.programs.specs.Parts.{FailureCounts}
use Rattle.programs.specs.Runs.{IsFailedRun}
use Rattle.programs.proofs.Causes.{refused_for}
use Rattle.program_host.proofs.Deeds.{if_err}
use Rattle.programs.proofs.files.run_script.Goals as goal

pub returns-in_err-script-clause-err : goal.returns-in_err-script-clause-err
returns-in_err-script-clause-err g c =
    let p = err_from_is_err_and c.from_residual.result c.from_residual.ensures.1 in
    rw (p.1, p.2) (inl (record {
      reported = ap file_failure c.in_err-script.ensures.err;
      same = refl;
      unwritten = refl;
      deeds = c.in_err-script.ensures.missed;
    }))

pub returns-in_err-session-clause-err : goal.returns-in_err-session-clause-err
returns-in_err-session-clause-err g c =
    let i = g.I.Installation.goes in
    let count = g.H.File.HostFile.failures in
    let left = g.H.File.HostReader.remaining in
    let contents = g.W.HostWriter.contents in
    let deeds = g.H.ProgramHost.deeds in
    let file = c.in_ok-script.script in
    let after = c.session.new.reader in
    let error = c.in_err-session.field-0.0 in
    let counts : FailureCounts = record {
      reader_old = count file;
      reader_new = count after;
      writer_old = g.W.HostFile.failures c.args.writer.now;
      writer_new = g.W.HostFile.failures c.session.new.writer;
    } in
    if_err (IsFailedRun i g.I.HasVolumes.volumes g.H.ProgramHost.gives left count c.args.script.now _
    c.args.machines.now c.session.new.installation (deeds c.args.host.now) (deeds c.open.new.self) (contents
    c.args.writer.now)
    (contents c.session.new.writer) counts.writer_old counts.writer_new) c.from_residual-in_err-session.result
    (session_failure error) c.from_residual-in_err-session.ensures.1
    (inr (inl (record {
      file = file;
      left = after;
      opened = c.in_ok-script.ensures.ok;
      error = error;
      reported = refl;
      refused = refused_for i error c.args.machines.now (left file) (left after) counts
          (λ n e. c.in_err-session.ensures.line n (ap Err e)) c.in_err-session.ensures.why;
      done = elim c.in_err-session.ensures.err [ inl same ↦ inl (same.0, ap contents same.1) | inr cut ↦ inr cut ];
      deeds = c.in_ok-script.ensures.opened;
    })))
