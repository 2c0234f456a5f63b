use Rattle.std.proofs.Common.{[], ◌∷◌}
use Rattle.s370_store.specs.Access.{tested}
use Rattle.s370_rows.specs.State.{state_of}
use Rattle.s370_rows.proofs.access.grant.Goals as goal

pub returns : goal.returns
returns g c =
    let s = c.args.storage.now in
    let m = state_of c.args.cpu.now (g.S.Storage.memory s) in
    let ts = tested c.args.access c.args.range ∷ [] in
    c.refusal_of.ensures m (g.S.Storage.present s) ts (rw (← c.key.ensures) c.check.ensures)
