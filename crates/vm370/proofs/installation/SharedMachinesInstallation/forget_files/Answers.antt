use Rattle.std.proofs.Common.{◌≡◌, ap, subst, sym}
use Rattle.machine_devices.specs.Dropped.{outputs_of}
use Rattle.cp_core.specs.Forgotten.{GoesOnAs}
use Rattle.cp_core.specs.System.{SystemView}
use Rattle.vm370.specs.Goes.{known_users}
use Rattle.vm370.proofs.installation.SharedMachinesInstallation.forget_files.Goals as goal

pub returns-clause-on : goal.returns-clause-on
returns-clause-on c =
    subst (λ (s : SystemView). GoesOnAs s c.forget_files.new.self) c.self.view_is c.forget_files.ensures.on

pub returns-clause-users : goal.returns-clause-users
returns-clause-users c =
    let on = subst (λ (s : SystemView). GoesOnAs s c.forget_files.new.self) c.self.view_is c.forget_files.ensures.on in
    sym (ap (λ (s : SystemView). known_users s.directory) on.same)

pub returns-clause-lines : goal.returns-clause-lines
returns-clause-lines c =
    subst (λ (s : SystemView). outputs_of c.forget_files.new.self.users ≡ outputs_of s.users) c.self.view_is
    c.forget_files.ensures.lines
