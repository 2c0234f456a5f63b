use Rattle.std.proofs.Common.{ap, inl, inr, map, string_bytes, Global}
use Rattle.std.proofs.lemmas.Result.{IfErr-at_err, IfErr-weaker, IfOk-at_ok, on_ok_weaker}
use Rattle.ckd_text.proofs.Hosts.{unread}
use Rattle.ckd_text.proofs.mkvol.run.Goals as goal

pub returns-in-Err-clause-err : goal.returns-in-Err-clause-err
returns-in-Err-clause-err g c =
    let deeds = g.H.ProgramHost.deeds in
    inl (unread (deeds c.args.host.now) (deeds c.wrong_use.new.host) c.in-Err.error _ c.wrong_use.result
    c.wrong_use.ensures.failure (IfErr-at_err _ c.in-Err.is c.words.ensures.err) c.wrong_use.ensures.told)

pub returns-clause-ok : goal.returns-clause-ok
returns-clause-ok g c =
    let same = ap (λ l. map (string_bytes {Z = Global}) l) c.as_slice.ensures.value in
    on_ok_weaker c.obey.result (λ done. (
      map (string_bytes {Z = Global}) c.in-Ok.words.items,
      IfOk-at_ok _ c.in-Ok.is c.words.ensures.ok,
      rw same at done,
    )) c.obey.ensures.ok

pub returns-clause-err : goal.returns-clause-err
returns-clause-err g c =
    let same = ap (λ l. map (string_bytes {Z = Global}) l) c.as_slice.ensures.value in
    IfErr-weaker c.obey.result _ _ (λ failure failed. inr (
      map (string_bytes {Z = Global}) c.in-Ok.words.items,
      IfOk-at_ok _ c.in-Ok.is c.words.ensures.ok,
      rw same at failed,
    )) c.obey.ensures.err
