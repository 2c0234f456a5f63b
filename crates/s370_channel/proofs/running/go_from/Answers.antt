use Rattle.s370_walk.specs.Walk.{live}
use Rattle.s370_channel.specs.Progress.{setting}
use Rattle.s370_channel.proofs.Ends.{reach_word, then_ends}
use Rattle.s370_channel.proofs.Halts.{then_halts}
use Rattle.s370_channel.proofs.running.go_from.Goals as goal

pub returns-in-Ok-At-clause-reaches : goal.returns-in-Ok-At-clause-reaches
returns-in-Ok-At-clause-reaches g c =
    let form = live (g.F.WordForm.written c.args.program.now) in
    let h = setting g.D.Device.machine c.args.limits.now in
    rw (c.in-Within.is) (then_ends form h _ _ c.go_on-in-Ok-At.result
    (reach_word c.in-Ok-At.field-0-is c.in-Ok-At.ensures.reaches) c.go_on-in-Ok-At.ensures.reaches)

pub returns-in-Ok-At-clause-halts : goal.returns-in-Ok-At-clause-halts
returns-in-Ok-At-clause-halts g c =
    let w = g.F.WordForm.written c.args.program.now in
    let h = setting g.D.Device.machine c.args.limits.now in
    rw (c.in-Within.is) (then_halts w h g.D.Device.needs_memory _ _ c.go_on-in-Ok-At.result
    (reach_word c.in-Ok-At.field-0-is c.in-Ok-At.ensures.reaches)
    (g.met.S.Storage.keeps_present _ _ c.in-Ok-At.ensures.rest) c.go_on-in-Ok-At.ensures.halts)
