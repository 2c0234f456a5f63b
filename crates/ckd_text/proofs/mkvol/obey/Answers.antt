use Rattle.std.proofs.Common.{inl, inr}
use Rattle.std.proofs.lemmas.Result.{IfErr-at_err, IfErr-weaker, on_ok_weaker}
use Rattle.program_host.proofs.Named.{named_by}
use Rattle.ckd_text.proofs.Hosts.{unbegun}
use Rattle.ckd_text.proofs.mkvol.obey.Goals as goal

pub returns-in-Err-clause-err : goal.returns-in-Err-clause-err
returns-in-Err-clause-err g c =
    let deeds = g.H.ProgramHost.deeds in
    inl (unbegun (deeds c.args.host.now) (deeds c.wrong_use.new.host) c.in-Err.error _ c.wrong_use.result
    c.wrong_use.ensures.failure
    (λ other taken out text. other (IfErr-at_err _ c.in-Err.is (c.volume_paths.ensures.err taken out text)))
    c.wrong_use.ensures.told)

pub returns-clause-ok : goal.returns-clause-ok
returns-clause-ok g c =
    let named = named_by _ _ c.in-Ok.is c.volume_paths.ensures.ok c.volume_paths.ensures.taken in
    on_ok_weaker c.make_image.result (λ done. (c.in-Ok.paths, named, done)) c.make_image.ensures.ok

pub returns-clause-err : goal.returns-clause-err
returns-clause-err g c =
    let named = named_by _ _ c.in-Ok.is c.volume_paths.ensures.ok c.volume_paths.ensures.taken in
    IfErr-weaker c.make_image.result _ _ (λ failure failed. inr (c.in-Ok.paths, named, failed)) c.make_image.ensures.err
