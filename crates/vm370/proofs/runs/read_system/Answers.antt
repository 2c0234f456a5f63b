use Rattle.std.proofs.Common.{List, ℕ, [], ◌∷◌, inl, inr, map}
use Rattle.program_host.specs.Deeds.{Opens, opens}
use Rattle.std.proofs.lemmas.Result.{IfErr-weaker, IfOk-weaker}
use Rattle.program_host.proofs.Deeds.{adds_more, if_err}
use Rattle.vm370.specs.Runs.{IsNoSystem}
use Rattle.vm370.proofs.runs.read_system.Goals as goal

pub returns-in_err-directory-clause-err : goal.returns-in_err-directory-clause-err
returns-in_err-directory-clause-err g c =
    let deeds = g.H.ProgramHost.deeds in
    if_err (IsNoSystem g.H.ProgramHost.gives g.H.File.HostReader.remaining g.H.File.HostFile.failures
    c.args.directory.now (map (λ p. p.now) c.args.volumes.now) c.args.sizes (deeds c.args.host.now)
    (deeds c.read_users.new.host)) c.from_residual.result c.in_err-directory.field-0.0
    c.from_residual.ensures.1 (inl c.in_err-directory.ensures.err)

pub returns-in_err-volumes-clause-err : goal.returns-in_err-volumes-clause-err
returns-in_err-volumes-clause-err g c =
    let deeds = g.H.ProgramHost.deeds in
    if_err (IsNoSystem g.H.ProgramHost.gives g.H.File.HostReader.remaining g.H.File.HostFile.failures
    c.args.directory.now (map (λ p. p.now) c.args.volumes.now) c.args.sizes (deeds c.args.host.now)
    (deeds c.read_images.new.host)) c.from_residual-in_err-volumes.result c.in_err-volumes.field-0.0
    c.from_residual-in_err-volumes.ensures.1
    (inr (inl (record {
      users = c.in_ok-directory.directory;
      between = deeds c.read_users.new.host;
      stated = c.in_ok-directory.ensures.ok;
      opened = c.in_ok-directory.ensures.deeds;
      unread = c.in_err-volumes.ensures.err;
    })))

pub returns-clause-ok : goal.returns-clause-ok
returns-clause-ok g c =
    let deeds = g.H.ProgramHost.deeds in
    let paths = map (λ p. p.now) c.args.volumes.now in
    IfOk-weaker c.boot.result _ _ (λ system booted. record {
      users = c.in_ok-directory.directory;
      volumes = c.in_ok-volumes.volumes.items;
      stated = c.in_ok-directory.ensures.ok;
      images = c.in_ok-volumes.ensures.ok;
      booted = booted;
      deeds = adds_more (deeds c.args.host.now) (deeds c.read_users.new.host) (deeds c.read_images.new.host)
          (Opens c.args.directory.now ∷ []) (opens paths) c.in_ok-directory.ensures.deeds
          c.in_ok-volumes.ensures.deeds;
    }) c.boot.ensures.ok

pub returns-clause-err : goal.returns-clause-err
returns-clause-err g c =
    let deeds = g.H.ProgramHost.deeds in
    let paths = map (λ p. p.now) c.args.volumes.now in
    IfErr-weaker c.boot.result _ _ (λ failure unbooted. inr (inr (record {
      users = c.in_ok-directory.directory;
      volumes = c.in_ok-volumes.volumes.items;
      stated = c.in_ok-directory.ensures.ok;
      images = c.in_ok-volumes.ensures.ok;
      deeds = adds_more (deeds c.args.host.now) (deeds c.read_users.new.host) (deeds c.read_images.new.host)
          (Opens c.args.directory.now ∷ []) (opens paths) c.in_ok-directory.ensures.deeds
          c.in_ok-volumes.ensures.deeds;
      unbooted = unbooted;
    }))) c.boot.ensures.err
