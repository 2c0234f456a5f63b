use Rattle.std.proofs.Common.{◌≡◌, ℕ, inl, inr, map, subst}
use Rattle.std.proofs.lemmas.Result.{IfErr-weaker, IfOk-weaker}
use Rattle.program_host.proofs.Deeds.{if_err}
use Rattle.bare370.specs.Runs.{IsMade, IsNoMachine}
use Rattle.bare370.proofs.runs.read_machine.Goals as goal

pub returns-clause-ok : goal.returns-clause-ok
returns-clause-ok g c =
    let volumes = c.in_ok-volumes.volumes.items in
    IfOk-weaker c.made.result _ _ (λ a made. record {
      volumes = volumes;
      images = c.in_ok-volumes.ensures.ok;
      made = subst (λ (n : ℕ). IsMade n volumes a) c.blocks-2.ensures made;
      deeds = c.in_ok-volumes.ensures.deeds;
    }) c.made.ensures.ok

pub returns-in_err-volumes-clause-err : goal.returns-in_err-volumes-clause-err
returns-in_err-volumes-clause-err g c =
    let deeds = g.H.ProgramHost.deeds in
    if_err (IsNoMachine g.H.ProgramHost.gives g.H.File.HostReader.remaining g.H.File.HostFile.failures
    (map (λ p. p.now) c.args.volumes.now) (deeds c.args.host.now) (deeds c.read_images.new.host))
    c.from_residual.result c.in_err-volumes.field-0.0 c.from_residual.ensures.1 (inl c.in_err-volumes.ensures.err)

pub returns-clause-err : goal.returns-clause-err
returns-clause-err g c =
    IfErr-weaker c.made.result _ _ (λ failure unmade. inr (record {
      volumes = c.in_ok-volumes.volumes.items;
      images = c.in_ok-volumes.ensures.ok;
      deeds = c.in_ok-volumes.ensures.deeds;
      unmade = unmade;
    })) c.made.ensures.err
