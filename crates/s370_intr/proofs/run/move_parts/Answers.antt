use Rattle.std.proofs.Common.{arith}
use Rattle.s370_rows.specs.State.{state_of}
use Rattle.s370_intr.specs.Units.{core_of}
use Rattle.s370_intr.proofs.Runs.{does_many, units_done}
use Rattle.s370_intr.proofs.run.move_parts.Goals as goal

pub loop-units-preserved : goal.loop-units-preserved
loop-units-preserved g c =
    let m0 = state_of c.args.cpu.now (g.S.Storage.memory c.args.storage.now) in
    let m = state_of c.loop-units.cpu (g.S.Storage.memory c.loop-units.storage) in
    let m' = state_of c.move_granted_parts-parts.new.cpu (g.S.Storage.memory c.move_granted_parts-parts.new.storage) in
    record {
      within = omega (arith, c.move_granted_parts-parts.ensures.within);
      here = c.move_granted_parts-parts.ensures.same_start;
      stands = c.move_granted_parts-parts.ensures.stands;
      done = λ pending list e.
          (let before = c.loop-units.invariant.done pending list e in
          let parts = units_done c.move_granted_parts-parts.result
          (g.S.Storage.present c.loop-units.storage) m m' pending list c.move_granted_parts-parts.ensures.done
          before.1 in (
            does_many c.loop-units.units c.move_granted_parts-parts.result (core_of m0 pending list)
                (core_of m pending list) (core_of m' pending list) before.0 parts.0,
            parts.1,
          ));
      rest = g.met.S.Storage.keeps_on _ _ _ c.loop-units.invariant.rest c.move_granted_parts-parts.ensures.rest;
    }
