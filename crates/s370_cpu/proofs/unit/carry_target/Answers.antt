use Rattle.std.proofs.Common.{◌≡◌, Err, subst}
use Rattle.s370_rows.specs.declared.place.Place.{Place}
use Rattle.s370_rows.specs.State.{state_of}
use Rattle.s370_cpu.specs.Unit.{stopped}
use Rattle.s370_cpu.proofs.Units.{target_steps}
use Rattle.s370_cpu.proofs.unit.carry_target.Goals as goal

pub returns-in-Err-clause-unit : goal.returns-in-Err-clause-unit
returns-in-Err-clause-unit g c =
    let m = state_of c.args.cpu.now (g.S.Storage.memory c.args.storage.now) in
    target_steps m c.args.first c.args.place.ilc c.conclude.result c.conclude.new.cpu
    (g.S.Storage.present c.args.storage.now) c.in-Err.refusal
    c.requires.found c.requires.length_code c.in-Err.ensures
    (subst (λ (p : Place). stopped (Err c.in-Err.refusal) p m.cpu ≡ record {
      stop = c.conclude.result;
      cpu = c.conclude.new.cpu;
    }) c.requires.next c.conclude.ensures)
