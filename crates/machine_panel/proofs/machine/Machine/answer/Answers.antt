use Rattle.machine_panel.proofs.machine.Machine.answer.Goals as goal

pub returns-in-Err-clause-err : goal.returns-in-Err-clause-err
returns-in-Err-clause-err g c = c.in-Err.ensures.err (g.S.Storage.memory c.args.storage.now)

pub returns-in-External-clause-ok : goal.returns-in-External-clause-ok
returns-in-External-clause-ok g c =
    rw c.in-External.is (c.external.ensures (g.S.Storage.memory c.args.storage.now))
