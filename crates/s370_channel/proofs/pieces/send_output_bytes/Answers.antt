use Rattle.std.proofs.Common.{arith, sym, ◌<◌, ◌+◌, ◌-◌, ◌≡◌, subst}
use Rattle.s370_walk.specs.Walk.{Moving, Reaches, live}
use Rattle.s370_walk.specs.declared.parts.Position.{Position}
use Rattle.s370_channel.specs.Progress.{setting}
use Rattle.s370_channel.proofs.Slices.{takes_piece}
use Rattle.s370_channel.proofs.pieces.send_output_bytes.Goals as goal

pub returns-clause-reaches : goal.returns-clause-reaches
returns-clause-reaches g c w at =
    let h = setting g.D.Device.machine c.args.limits.now in
    let m = g.S.Storage.memory c.args.storage.now in
    let n = c.piece-n.result in
    let some : 0 < n = omega (arith, c.if-n-lt2.false) in
    let last : (c.in_ok-end.end - 1) + 1 ≡ c.args.address + n = omega (arith, c.in_ok-end.ensures.1, some) in
    let there = takes_piece w h some c.piece-n.ensures.count c.piece-n.ensures.left c.requires.takes
    c.piece-n.ensures.taking at c.piece-n.ensures.block c.in_ok-end.ensures.0
    (c.in-Ok.ensures.1.0 some) c.in-Ok.ensures.0 last c.send_output_piece.ensures in
    subst (λ (x : Position). Reaches (live w) h (Moving c.args.p.now m c.args.device.now)
    (Moving x m c.send_output_piece.new.device)) (sym c.many_on.ensures) there
