use Rattle.std.proofs.Common.{inr}
use Rattle.program_host.proofs.Deeds.{if_err}
use Rattle.programs.specs.Faults.{restore_failure}
use Rattle.frame_map.specs.Maps.{ComesToNothing, IsNoState}
use Rattle.frame_map.proofs.Unmapped.{unread, unrestored}
use Rattle.frame_map.proofs.program.restored.Goals as goal

pub returns-in_err-bytes-clause-err : goal.returns-in_err-bytes-clause-err
returns-in_err-bytes-clause-err g c =
    let deeds = g.H.ProgramHost.deeds in
    let path = c.args.state.now in
    let failure = c.in_err-bytes.field-0.0 in
    let refused = IsNoState g.H.ProgramHost.gives g.H.File.HostReader.remaining path in
    if_err (ComesToNothing g.H.ProgramHost.gives g.H.File.HostFile.failures path refused (deeds c.args.host.now)
    (deeds c.read_file.new.host)) c.from_residual.result failure c.from_residual.ensures.1
    (unread g.H.ProgramHost.gives g.H.File.HostFile.failures path refused (deeds c.args.host.now)
    (deeds c.read_file.new.host) failure c.in_err-bytes.ensures.err)

pub returns-in_err-restored-clause-err : goal.returns-in_err-restored-clause-err
returns-in_err-restored-clause-err g c =
    let deeds = g.H.ProgramHost.deeds in
    let path = c.args.state.now in
    let error = c.in_err-restored.field-0.0 in
    let refused = IsNoState g.H.ProgramHost.gives g.H.File.HostReader.remaining path in
    if_err (ComesToNothing g.H.ProgramHost.gives g.H.File.HostFile.failures path refused (deeds c.args.host.now)
    (deeds c.read_file.new.host)) c.from_residual-in_err-restored.result (restore_failure error)
    c.from_residual-in_err-restored.ensures.1 (inr (
      c.in_ok-bytes.ensures.deeds,
      unrestored g.H.ProgramHost.gives g.H.File.HostReader.remaining g.H.File.HostFile.failures path
          c.in_ok-bytes.bytes.items c.in_ok-bytes.ensures.ok error,
    ))
