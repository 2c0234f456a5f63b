use Rattle.std.proofs.Common.{◌∙◌, ap, subst, sym}
use Rattle.cp_core.proofs.Forgotten.{steps_go_on}
use Rattle.cp_core.specs.Forgotten.{GoesOnAs, forgotten}
use Rattle.cp_core.specs.System.{SystemView}
use Rattle.vm370.specs.Goes.{seen_in}
use Rattle.vm370.proofs.installation.SharedMachinesInstallation.forget_printed.Goals as goal

pub returns-clause-on : goal.returns-clause-on
returns-clause-on c =
    let old = c.args.self.now in
    let left = c.forget_printed.ensures ∙ ap forgotten c.self.view_is in
    subst (λ (s : SystemView). GoesOnAs old s) (sym left) (steps_go_on.forgets old)

pub returns-clause-seen : goal.returns-clause-seen
returns-clause-seen c = ap seen_in (c.forget_printed.ensures ∙ ap forgotten c.self.view_is)
