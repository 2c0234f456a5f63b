use Rattle.s370_rows.specs.State.{state_of}
use Rattle.s370_cpu.proofs.Frequent.{quick_step}
use Rattle.s370_cpu.specs.Held.{next_after}
use Rattle.s370_cpu.proofs.held.finish_held.Goals as goal

pub returns-in-Some-clause-step : goal.returns-in-Some-clause-step
returns-in-Some-clause-step g c =
    let m = state_of c.args.cpu.now (g.S.Storage.memory c.args.storage.now) in
    let m' = state_of c.perform_steady.new.cpu (g.S.Storage.memory c.perform_steady.new.storage) in
    quick_step m c.args.place c.args.i c.in-Some.ending c.go_on.new.cpu (g.S.Storage.present c.args.storage.now) m'
    (next_after c.go_on.result) c.requires.carried c.requires.next c.in-Some.ensures.row c.go_on.ensures.stop
    c.go_on.ensures.next
