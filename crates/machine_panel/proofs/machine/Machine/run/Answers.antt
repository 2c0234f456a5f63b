use Rattle.std.proofs.Common.{[], arith}
use Rattle.machine_panel.proofs.machine.Machine.run.Goals as goal

pub returns-in-Off-clause-supply : goal.returns-in-Off-clause-supply
returns-in-Off-clause-supply g c = (
  [],
  g.met.S.UnitSupply.came_none _ _ 0 c.requires.between
      (g.met.S.Keyed.rest_kept _ _ (g.met.S.Storage.keeps_same _)),
  tt,
  omega arith,
)
