use Rattle.std.proofs.Common.{[], ◌∷◌, arith, subst}
use Rattle.s370_rows.specs.State.{state_of}
use Rattle.s370_intr.specs.Units.{Core, NeedsAt, core_of}
use Rattle.s370_intr.specs.Run.{AllNeeded, SuppliesUnit}
use Rattle.s370_intr.proofs.run.do_unit.Goals as goal

pub returns-in-Ok-clause-supply : goal.returns-in-Ok-clause-supply
returns-in-Ok-clause-supply g c = (
  [],
  g.met.S.UnitSupply.came_none _ _ 1 c.requires.between c.try_unit.ensures.rest,
  tt,
  omega arith,
)

pub returns-in-Ok-clause-between : goal.returns-in-Ok-clause-between
returns-in-Ok-clause-between g c = g.met.S.UnitSupply.between_kept _ _ c.try_unit.ensures.rest c.requires.between

pub bring_and_do_unit-requires : goal.bring_and_do_unit-requires
bring_and_do_unit-requires g c = record {
  large = rw (g.met.S.Keyed.rest_size _ _ c.try_unit.ensures.rest) c.requires.large;
  between = g.met.S.UnitSupply.between_kept _ _ c.try_unit.ensures.rest c.requires.between;
}

pub returns-in-Err-clause-unit : goal.returns-in-Err-clause-unit
returns-in-Err-clause-unit g c =
    let after = core_of (state_of c.bring_and_do_unit.new.cpu (g.S.Storage.memory c.bring_and_do_unit.new.storage))
    c.bring_and_do_unit.new.pending c.bring_and_do_unit.new.subchannels in
    subst (λ (x : Core). SuppliesUnit c.args.said x c.bring_and_do_unit.result after
    (g.S.UnitSupply.IsOut c.bring_and_do_unit.new.storage)) c.in-Err.ensures.unit.0 c.bring_and_do_unit.ensures.unit

pub returns-in-Err-clause-supply : goal.returns-in-Err-clause-supply
returns-in-Err-clause-supply g c =
    let s = c.bring_and_do_unit.ensures.supply in
    let paged_in = g.met.S.UnitSupply.came_on _ _ _ [] (s.0 ∷ [])
    (g.met.S.UnitSupply.came_none _ _ 0 c.requires.between c.try_unit.ensures.rest) s.1 in
    (s.0, paged_in, subst (λ (x : Core). AllNeeded (NeedsAt c.args.said x) s.0) c.in-Err.ensures.unit.0 s.2, s.3)
