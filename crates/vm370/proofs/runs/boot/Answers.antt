use Rattle.std.proofs.Common.{◌≡◌, ◌∙◌, ℕ, List, ap, map, refl, subst}
use Rattle.std.specs.Str.Lossy.{utf8_lossy}
use Rattle.cp_directory.specs.Users.{DirectoryUser}
use Rattle.programs.specs.Faults.{fault_text}
use Rattle.vm370.specs.BootFaults.{refusal_text}
use Rattle.cp_core.specs.declared.events.BootError.TheVariants as errors
use Rattle.cp_core.proofs.Unbooted.{cause_of}
use Rattle.programs.specs.declared.faults.Failure.TheVariants as failures
use Rattle.program_host.proofs.Deeds.{if_err}
use Rattle.vm370.specs.Runs.{IsNotBooted}
use Rattle.vm370.proofs.runs.boot.Goals as goal

pub returns-in_err-names-clause-err : goal.returns-in_err-names-clause-err
returns-in_err-names-clause-err c =
    if_err (IsNotBooted c.args.directory c.args.volumes.items c.args.sizes.frames) c.from_residual.result
    failures.Memory
    c.from_residual.ensures.1 (record { error = errors.Memory; cause = tt; line = refl; status = refl })

pub returns-in-Err-clause-err : goal.returns-in-Err-clause-err
returns-in-Err-clause-err c =
    let b = c.boot.ensures in
    record {
      error = c.in-Err.error;
      cause = cause_of c.args.directory c.args.volumes.items c.args.sizes.frames c.boot.result b.too_few b.duplicate
          b.no_volume b.past b.device c.in-Err.error c.in-Err.is;
      line = subst (λ (names : List (List ℕ)). fault_text c.boot_failure.result ≡ refusal_text names c.in-Err.error)
          (c.in_ok-names.ensures ∙ ap (λ (us : List DirectoryUser). map (λ user. utf8_lossy user.name) us)
          c.users.ensures.users) c.boot_failure.ensures.line;
      status = c.boot_failure.ensures.status;
    }
