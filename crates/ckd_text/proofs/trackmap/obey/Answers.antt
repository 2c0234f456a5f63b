use Rattle.std.proofs.Common.{inl, inr}
use Rattle.std.proofs.lemmas.Result.{IfErr-at_err, IfErr-weaker, on_ok_weaker}
use Rattle.program_host.proofs.Named.{named_by}
use Rattle.ckd_text.proofs.Hosts.{unbegun}
use Rattle.ckd_text.proofs.trackmap.obey.Goals as goal

pub returns-in-Err-clause-err : goal.returns-in-Err-clause-err
returns-in-Err-clause-err g c =
    let deeds = g.H.ProgramHost.deeds in
    inl (unbegun (deeds c.args.host.now) (deeds c.wrong_use.new.host) c.in-Err.error _ c.wrong_use.result
    c.wrong_use.ensures.failure
    (λ other taken image. other (IfErr-at_err _ c.in-Err.is (c.image_path.ensures.err taken image)))
    c.wrong_use.ensures.told)

pub returns-clause-ok : goal.returns-clause-ok
returns-clause-ok g c =
    let path = c.in-Ok.path.now in
    let named = named_by _ _ c.in-Ok.is c.image_path.ensures.ok c.image_path.ensures.taken in
    on_ok_weaker c.print_map.result (λ done. (path, named, done)) c.print_map.ensures.ok

pub returns-clause-err : goal.returns-clause-err
returns-clause-err g c =
    let path = c.in-Ok.path.now in
    let named = named_by _ _ c.in-Ok.is c.image_path.ensures.ok c.image_path.ensures.taken in
    IfErr-weaker c.print_map.result _ _ (λ failure failed. inr (path, named, failed)) c.print_map.ensures.err
