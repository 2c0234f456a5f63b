use Rattle.std.proofs.Common.{inr}
use Rattle.std.proofs.lemmas.Result.{IfErr-weaker, on_ok_weaker}
use Rattle.vm370.proofs.runs.follow_system.Goals as goal

pub returns-clause-ok : goal.returns-clause-ok
returns-clause-ok g c =
    on_ok_weaker c.follow_files.result (λ followed. record {
      first = _;
      between = _;
      made = rw c.as_slice-volumes.ensures.value at c.in_ok-machines.ensures.ok;
      followed = rw (c.detail_of.ensures, c.saved_paths-saved.ensures, c.as_slice-volumes.ensures.value) at followed;
    }) c.follow_files.ensures.ok

pub returns-clause-err : goal.returns-clause-err
returns-clause-err g c =
    IfErr-weaker c.follow_files.result _ _ (λ failure failed. inr (record {
      first = _;
      between = _;
      made = rw c.as_slice-volumes.ensures.value at c.in_ok-machines.ensures.ok;
      failed = rw (c.detail_of.ensures, c.saved_paths-saved.ensures, c.as_slice-volumes.ensures.value) at failed;
    })) c.follow_files.ensures.err
