use Rattle.std.proofs.Common.{◌≡◌, ℕ, List, [], ◌∷◌, ap, refl, subst}
use Rattle.machine_devices.specs.Dropped.{outputs_of}
use Rattle.bare370.specs.Goes.{Alone, GoesOnAs, seen_in}
use Rattle.bare370.proofs.installation.OneMachineInstallation.forget_files.Goals as goal

pub returns-clause-on : goal.returns-clause-on
returns-clause-on c =
    let s = c.self.inside in
    let viewed : Alone = record { machine = s.machine; addresses = s.addresses.items } in
    let left : Alone = record viewed { machine = c.forget_files.new.self } in
    let on : GoesOnAs viewed left = record { machine = c.forget_files.ensures.on; addresses = refl } in
    subst (λ (a : Alone). GoesOnAs a left) c.self.view_is on

pub returns-clause-users : goal.returns-clause-users
returns-clause-users c = ap (λ (a : Alone). (seen_in a).users) c.self.view_is

pub returns-clause-lines : goal.returns-clause-lines
returns-clause-lines c =
    let s = c.self.inside in
    let viewed : Alone = record { machine = s.machine; addresses = s.addresses.items } in
    let left : Alone = record viewed { machine = c.forget_files.new.self } in
    let lines : outputs_of (seen_in left).machines ≡ outputs_of (seen_in viewed).machines =
    ap (λ (output : List (List ℕ)). output ∷ []) c.forget_files.ensures.lines in
    subst (λ (a : Alone). outputs_of (seen_in left).machines ≡ outputs_of (seen_in a).machines) c.self.view_is lines
