use Rattle.std.proofs.Common.{refl}
use Rattle.s370_rows.specs.State.{state_of}
use Rattle.s370_rows.proofs.Holds.{grants_in}
use Rattle.s370_rows.proofs.held.found_block.Goals as goal

pub returns-then-holds-clause-granted : goal.returns-then-holds-clause-granted
returns-then-holds-clause-granted g c =
    let m = state_of c.args.cpu.now (g.S.Storage.memory c.args.storage.now) in
    grants_in m (g.S.Storage.present c.args.storage.now) c.in-Some.found.first c.args.start c.args.count
    (rw c.key.ensures at c.in-Some.ensures.may_access) (c.if-holds.ensures.begins refl)
    (c.if-holds.ensures.ends refl)
