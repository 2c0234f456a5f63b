use Rattle.s370_intr.proofs.Brings.{supplied_for}
use Rattle.s370_intr.proofs.run.bring_and_do_unit.Goals as goal

pub returns-clause-unit : goal.returns-clause-unit
returns-clause-unit g c =
    let s = c.bring_until_done-done.ensures.supply in
    rw c.let_go.ensures.memory
    (supplied_for c.args.said _ _ c.bring_until_done-done.result (g.S.Supply.IsShort
    c.bring_until_done-done.new.storage)
    (g.S.UnitSupply.IsOut c.let_go.new.self)
    (λ page short. g.met.S.UnitSupply.let_go_out _ _ _ s.0 page c.requires.between s.1 s.3 short
    c.let_go.ensures.let_go)
    c.bring_until_done-done.ensures.unit)

pub returns-clause-supply : goal.returns-clause-supply
returns-clause-supply g c =
    let s = c.bring_until_done-done.ensures.supply in
    (s.0, g.met.S.UnitSupply.let_go_came _ _ _ s.0 s.1 c.let_go.ensures.let_go, s.2, s.3)

pub returns-clause-between : goal.returns-clause-between
returns-clause-between g c =
    let s = c.bring_until_done-done.ensures.supply in
    g.met.S.UnitSupply.let_go_between _ _ _ s.0 c.requires.between s.1 c.let_go.ensures.let_go
