use Rattle.std.proofs.Common.{◌≡◌, [], arith, rules}
use Rattle.s370_intr.proofs.Runs.{more_needs}
use Rattle.machine_panel.proofs.machine.Machine.tick.Goals as goal

pub returns-in-Running-clause-supply : goal.returns-in-Running-clause-supply
returns-in-Running-clause-supply g c =
    let s = c.tick_supplied.ensures.supply in
    (s.0, s.1, more_needs (λ page. page ≡ 0) _ s.0 (λ page zero. (search rules, zero)) s.2, s.3)

pub returns-in-Off-clause-supply : goal.returns-in-Off-clause-supply
returns-in-Off-clause-supply g c = (
  [],
  g.met.S.UnitSupply.came_none _ _ 1 c.requires.between
      (g.met.S.Keyed.rest_kept _ _ (g.met.S.Storage.keeps_same _)),
  tt,
  omega arith,
)
