use Rattle.std.proofs.Common.{◌≡◌, sym, ◌∙◌, subst, false}
use Rattle.s370_rows.specs.declared.place.Place.{Place}
use Rattle.s370_rows.specs.State.{state_of}
use Rattle.s370_rows.specs.Rows.{MeetsRow}
use Rattle.s370_cpu.specs.Opcodes.{opcode_at}
use Rattle.s370_cpu.specs.Table.{row_of, is_supervised}
use Rattle.s370_cpu.specs.Unit.{stopped}
use Rattle.s370_cpu.proofs.Units.{row_steps}
use Rattle.s370_cpu.proofs.unit.finish.Goals as goal

pub returns-clause-unit : goal.returns-clause-unit
returns-clause-unit g c =
    let m = state_of c.args.cpu.now (g.S.Storage.memory c.args.storage.now) in
    let m' = state_of c.perform_tested-outcome.new.cpu (g.S.Storage.memory c.perform_tested-outcome.new.storage) in
    let i = c.args.i in
    let plain : is_supervised (opcode_at i.opcode) ≡ false = rw c.requires.same (sym c.is_supervised.ensures
    ∙ c.if-is_supervised.false) in
    row_steps m c.args.place.ilc i c.conclude.result c.conclude.new.cpu
    (g.S.Storage.present c.args.storage.now) c.perform_tested-outcome.result m' plain c.requires.carried
    (subst (λ (p : Place). MeetsRow (row_of m p i) (g.S.Storage.present c.args.storage.now) m
    c.perform_tested-outcome.result m') c.requires.next c.perform_tested-outcome.ensures.row)
    (subst (λ (p : Place). stopped c.perform_tested-outcome.result p m'.cpu ≡ record {
      stop = c.conclude.result;
      cpu = c.conclude.new.cpu;
    }) c.requires.next c.conclude.ensures)
