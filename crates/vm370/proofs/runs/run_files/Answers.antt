use Rattle.std.proofs.Common.{inr}
use Rattle.std.proofs.lemmas.Result.{IfErr-weaker, on_ok_weaker}
use Rattle.vm370.proofs.runs.run_files.Goals as goal

pub returns-clause-ok : goal.returns-clause-ok
returns-clause-ok g c =
    on_ok_weaker c.run_script.result (λ run. record {
      first = _;
      last = _;
      between = _;
      made = rw c.as_slice-volumes.ensures.value at c.in_ok-machines.ensures.ok;
      run = rw (c.saved_paths-saved.ensures, c.as_slice-volumes.ensures.value) at run;
    }) c.run_script.ensures.ok

pub returns-clause-err : goal.returns-clause-err
returns-clause-err g c =
    IfErr-weaker c.run_script.result _ _ (λ failure failed. inr (record {
      first = _;
      last = _;
      between = _;
      made = rw c.as_slice-volumes.ensures.value at c.in_ok-machines.ensures.ok;
      failed = rw (c.saved_paths-saved.ensures, c.as_slice-volumes.ensures.value) at failed;
    })) c.run_script.ensures.err
