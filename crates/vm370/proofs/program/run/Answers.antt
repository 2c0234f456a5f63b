use Rattle.std.proofs.Common.{ap, inl, inr, map, string_bytes, subst, Global, List, ℕ}
use Rattle.std.proofs.lemmas.Result.{IfErr-at_err, IfErr-weaker, IfOk-at_ok, on_ok_weaker}
use Rattle.programs.specs.Whole.{streams_of}
use Rattle.programs.proofs.Asked.{unread}
use Rattle.vm370.specs.Runs.{IsFailedProgram, IsWholeProgram}
use Rattle.vm370.proofs.program.run.Goals as goal

pub returns-in-Err-clause-err : goal.returns-in-Err-clause-err
returns-in-Err-clause-err g c =
    inl (unread (g.H.ProgramHost.deeds c.args.host.now) (g.H.ProgramHost.deeds c.wrong_use.new.host) c.in-Err.error _
    c.wrong_use.result c.wrong_use.ensures.failure (IfErr-at_err _ c.in-Err.is c.words.ensures.err)
    c.wrong_use.ensures.told)

pub returns-clause-ok : goal.returns-clause-ok
returns-clause-ok g c =
    let streams = streams_of g.H.ProgramHost.gives g.H.File.HostReader.remaining g.H.File.HostFile.failures
    g.H.ProgramHost.listens g.H.Input.HostReader.remaining g.H.Input.HostFile.failures g.H.ProgramHost.prints
    g.H.Output.HostWriter.contents g.H.Output.HostWriter.held g.H.Output.HostFile.failures in
    let deeds = g.H.ProgramHost.deeds in
    let typed = map (string_bytes {Z = Global}) c.in-Ok.words.items in
    let named = ap (λ l. map (string_bytes {Z = Global}) l) c.as_slice.ensures.value in
    on_ok_weaker c.obey.result (λ done. (
      typed,
      IfOk-at_ok _ c.in-Ok.is c.words.ensures.ok,
      subst (λ (words : List (List ℕ)). IsWholeProgram streams words c.args.is_watched (deeds c.args.host.now)
          (deeds c.obey.new.host)) named done,
    )) c.obey.ensures.ok

pub returns-clause-err : goal.returns-clause-err
returns-clause-err g c =
    let streams = streams_of g.H.ProgramHost.gives g.H.File.HostReader.remaining g.H.File.HostFile.failures
    g.H.ProgramHost.listens g.H.Input.HostReader.remaining g.H.Input.HostFile.failures g.H.ProgramHost.prints
    g.H.Output.HostWriter.contents g.H.Output.HostWriter.held g.H.Output.HostFile.failures in
    let deeds = g.H.ProgramHost.deeds in
    let typed = map (string_bytes {Z = Global}) c.in-Ok.words.items in
    let named = ap (λ l. map (string_bytes {Z = Global}) l) c.as_slice.ensures.value in
    IfErr-weaker c.obey.result _ _ (λ failure failed. inr (
      typed,
      IfOk-at_ok _ c.in-Ok.is c.words.ensures.ok,
      subst (λ (words : List (List ℕ)). IsFailedProgram streams words c.args.is_watched (deeds c.args.host.now)
          (deeds c.obey.new.host) failure) named failed,
    )) c.obey.ensures.err
