use Rattle.std.proofs.Common.{Bool, List, inr, subst, sym}
use Rattle.cp_dat.specs.Copies.{is_wanted}
use Rattle.cp_trial.proofs.held.lock_pages.Goals as goal

pub returns-in-Ok-Some-clause-roomy : goal.returns-in-Ok-Some-clause-roomy
returns-in-Ok-Some-clause-roomy c = λ refused. inr (
    let all = rw c.in-Ok-Some.field-0-is at c.in-Ok-Some.ensures.all in
    let fixed = rw c.in-Ok-Some.field-0-is at c.in-Ok-Some.ensures.fixed in
    record {
      fixed = fixed;
      held = λ page needed. c.lock_wanted.ensures.roomy refused page
          (subst (λ (flags : List Bool). is_wanted flags page) (sym c.deref.ensures.value) (all page needed));
    })
