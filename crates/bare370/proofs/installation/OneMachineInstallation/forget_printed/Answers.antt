use Rattle.std.proofs.Common.{◌∙◌, ap, subst, sym}
use Rattle.bare_installation.specs.Bare.{Bare}
use Rattle.sessions.specs.Continuing.{but_printed}
use Rattle.bare370.specs.Goes.{Alone, GoesOnAs, seen_in}
use Rattle.bare370.proofs.Forgotten.{forgets}
use Rattle.bare370.proofs.installation.OneMachineInstallation.forget_printed.Goals as goal

pub returns-clause-on : goal.returns-clause-on
returns-clause-on c =
    let s = c.self.inside in
    let viewed : Alone = record { machine = s.machine; addresses = s.addresses.items } in
    let left = subst (λ (m : Bare). GoesOnAs viewed (record viewed { machine = m })) (sym c.forget_printed.ensures)
    (forgets viewed) in
    subst (λ (a : Alone). GoesOnAs a (record viewed { machine = c.forget_printed.new.self })) c.self.view_is left

pub returns-clause-seen : goal.returns-clause-seen
returns-clause-seen c =
    let s = c.self.inside in
    let viewed : Alone = record { machine = s.machine; addresses = s.addresses.items } in
    ap (λ (m : Bare). seen_in (record viewed { machine = m })) c.forget_printed.ensures
    ∙ ap (λ (a : Alone). but_printed (seen_in a)) c.self.view_is
