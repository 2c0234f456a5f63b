use Rattle.s370_rows.specs.State.{state_of}
use Rattle.s370_rows.proofs.Holds.{grants_in}
use Rattle.s370_rows.proofs.held.is_in_held.Goals as goal

pub returns-clause-placed : goal.returns-clause-placed
returns-clause-placed g c lies = c.requires.operands.placed (c.holds.ensures.low lies)

pub returns-clause-granted : goal.returns-clause-granted
returns-clause-granted g c lies =
    let m = state_of c.args.cpu.now (g.S.Storage.memory c.args.storage.now) in
    grants_in m (g.S.Storage.present c.args.storage.now) c.args.held.first c.args.start c.args.count
    (c.requires.operands.may_access (c.holds.ensures.low lies)) (c.holds.ensures.begins lies)
    (c.holds.ensures.ends lies)
