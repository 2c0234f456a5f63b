use Rattle.std.proofs.Common.{ℕ, List, ap, inl, inr, refl, subst}
use Rattle.std.proofs.lemmas.Result.{err_from_is_err_and}
use Rattle.cp_directory.specs.Directories.{IsRefusal, directory_of}
use Rattle.programs.specs.Faults.{file_failure}
use Rattle.programs.specs.declared.faults.Failure.TheVariants as failures
use Rattle.program_host.proofs.Deeds.{if_err}
use Rattle.vm370.specs.Runs.{IsUnstated}
use Rattle.vm370.proofs.Unstated.{broken}
use Rattle.vm370.proofs.runs.read_users.Goals as goal

pub returns-in_err-file-clause-err : goal.returns-in_err-file-clause-err
returns-in_err-file-clause-err g c =
    let p = err_from_is_err_and c.from_residual.result c.from_residual.ensures.1 in
    rw (p.1, p.2) (inl (c.in_err-file.ensures.missed, ap file_failure c.in_err-file.ensures.err))

pub returns-in_err-text-clause-err : goal.returns-in_err-text-clause-err
returns-in_err-text-clause-err g c =
    let deeds = g.H.ProgramHost.deeds in
    let fault = c.in_err-text.field-0.0 in
    if_err (IsUnstated g.H.ProgramHost.gives g.H.File.HostReader.remaining g.H.File.HostFile.failures c.args.path.now
    (deeds c.args.host.now) (deeds c.open.new.self)) c.from_residual-in_err-text.result (file_failure fault)
    c.from_residual-in_err-text.ensures.1 (inr (
      c.in_ok-file.ensures.opened,
      broken g.H.ProgramHost.gives g.H.File.HostReader.remaining g.H.File.HostFile.failures c.args.path.now
          c.in_ok-file.file c.read_all.new.reader c.in_ok-file.ensures.ok fault c.in_err-text.ensures.counts,
    ))

pub returns-in_err-directory-clause-err : goal.returns-in_err-directory-clause-err
returns-in_err-directory-clause-err g c =
    let deeds = g.H.ProgramHost.deeds in
    let error = c.in_err-directory.field-0.0 in
    if_err (IsUnstated g.H.ProgramHost.gives g.H.File.HostReader.remaining g.H.File.HostFile.failures c.args.path.now
    (deeds c.args.host.now) (deeds c.open.new.self)) c.from_residual-in_err-directory.result (failures.Directory error)
    c.from_residual-in_err-directory.ensures.1 (inr (
      c.in_ok-file.ensures.opened,
      inr (inr (record {
        file = c.in_ok-file.file;
        left = c.read_all.new.reader;
        text = c.in_ok-text.text.items;
        opened = c.in_ok-file.ensures.ok;
        read = record { given = c.in_ok-text.ensures.ok; end = c.in_ok-text.ensures.end };
        error = error;
        refused = subst (λ (text : List ℕ). IsRefusal (directory_of text) error) c.deref.ensures.value
            c.in_err-directory.ensures.err;
        reported = refl;
      })),
    ))
