use Rattle.std.proofs.Common.{◌≡◌, arith}
use Rattle.s370_intr.proofs.Brings.{lacking_on_error}
use Rattle.machine_panel.proofs.tick.tick_supplied.Goals as goal

pub returns-clause-frames : goal.returns-clause-frames
returns-clause-frames g c =
    let s = c.bring_and_tick-ticked.ensures.supply in
    lacking_on_error c.bring_and_tick-ticked.result (λ page. page ≡ 0) _
    (g.S.Supply.IsShort c.bring_and_tick-ticked.new.storage) (g.S.UnitSupply.IsOut c.let_go.new.self)
    (λ page short. g.met.S.UnitSupply.let_go_out _ _ _ s.0 page c.requires.between s.1 (omega (arith, s.3)) short
    c.let_go.ensures.let_go)
    c.bring_and_tick-ticked.ensures.frames

pub returns-clause-supply : goal.returns-clause-supply
returns-clause-supply g c =
    let s = c.bring_and_tick-ticked.ensures.supply in
    (s.0, g.met.S.UnitSupply.let_go_came _ _ _ s.0 s.1 c.let_go.ensures.let_go, s.2, s.3)

pub returns-clause-between : goal.returns-clause-between
returns-clause-between g c =
    let s = c.bring_and_tick-ticked.ensures.supply in
    g.met.S.UnitSupply.let_go_between _ _ _ s.0 c.requires.between s.1 c.let_go.ensures.let_go
