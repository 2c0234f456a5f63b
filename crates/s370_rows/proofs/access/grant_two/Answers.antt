use Rattle.std.proofs.Common.{[], ◌∷◌}
use Rattle.s370_store.specs.Access.{tested}
use Rattle.s370_rows.specs.State.{state_of}
use Rattle.s370_rows.proofs.access.grant_two.Goals as goal

pub returns : goal.returns
returns g c =
    let s = c.args.storage.now in
    let m = state_of c.args.cpu.now (g.S.Storage.memory s) in
    let ts = tested c.args.first_access c.args.first ∷ tested c.args.second_access c.args.second ∷ [] in
    c.refusal_of.ensures m (g.S.Storage.present s) ts (rw (← c.key.ensures) c.check_two-answer.ensures)
