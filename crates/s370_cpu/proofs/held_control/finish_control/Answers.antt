use Rattle.std.proofs.Common.{ℕ, Option, refl, subst, sym, ◌∙◌}
use Rattle.s370_rows.specs.State.{state_of}
use Rattle.s370_cpu.specs.Held.{SupervisesOrStays}
use Rattle.s370_cpu.proofs.Keyless.{supervised_unit}
use Rattle.s370_cpu.proofs.held_control.finish_control.Goals as goal

pub returns-in-Some-clause-step : goal.returns-in-Some-clause-step
returns-in-Some-clause-step g c =
    let m = state_of c.args.cpu.now (g.S.Storage.memory c.args.storage.now) in
    let m' = state_of c.perform_supervised.new.cpu (g.S.Storage.memory c.perform_supervised.new.storage) in
    let present = g.S.Storage.present c.args.storage.now in
    subst (λ (o : Option ℕ). SupervisesOrStays present m o (record m' { cpu = c.go_on.new.cpu }))
    (sym (c.next.ensures ∙ c.go_on.ensures.next))
    (supervised_unit m c.args.place c.args.i c.in-Some.ending c.go_on.new.cpu present m' c.go_on.new.cpu.psw.address
    c.requires.carried c.requires.next c.in-Some.ensures.row
    (g.met.S.Storage.keeps_keys _ _ c.perform_supervised.ensures.rest) c.go_on.ensures.stop refl)
