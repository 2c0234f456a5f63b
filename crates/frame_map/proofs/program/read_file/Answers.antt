use Rattle.std.proofs.Common.{ap, inl, inr}
use Rattle.std.proofs.lemmas.Result.{err_from_is_err_and}
use Rattle.program_host.proofs.Deeds.{if_err}
use Rattle.programs.specs.Faults.{file_failure}
use Rattle.frame_map.specs.Maps.{ComesToNothing, Never}
use Rattle.frame_map.proofs.Unmapped.{broken}
use Rattle.frame_map.proofs.program.read_file.Goals as goal

pub returns-in_err-file-clause-err : goal.returns-in_err-file-clause-err
returns-in_err-file-clause-err g c =
    let p = err_from_is_err_and c.from_residual.result c.from_residual.ensures.1 in
    rw (p.1, p.2) (inl (c.in_err-file.ensures.missed, ap file_failure c.in_err-file.ensures.err))

pub returns-in_err-bytes-clause-err : goal.returns-in_err-bytes-clause-err
returns-in_err-bytes-clause-err g c =
    let deeds = g.H.ProgramHost.deeds in
    let fault = c.in_err-bytes.field-0.0 in
    if_err (ComesToNothing g.H.ProgramHost.gives g.H.File.HostFile.failures c.args.path.now Never
    (deeds c.args.host.now) (deeds c.open.new.self)) c.from_residual-in_err-bytes.result (file_failure fault)
    c.from_residual-in_err-bytes.ensures.1 (inr (
      c.in_ok-file.ensures.opened,
      broken g.H.ProgramHost.gives g.H.File.HostFile.failures c.args.path.now Never c.in_ok-file.file
          c.read_all.new.reader c.in_ok-file.ensures.ok fault c.in_err-bytes.ensures.counts,
    ))
