use Rattle.std.proofs.Common.{arith, ap, length}
use Rattle.s370_rows.specs.State.{state_of}
use Rattle.machine_panel.proofs.Nothing.{nothing_changes}
use Rattle.machine_panel.proofs.display_store.change_storage.Goals as goal

pub returns-then-count-eq0-clause-change : goal.returns-then-count-eq0-clause-change
returns-then-count-eq0-clause-change g c =
    nothing_changes (state_of c.args.cpu.now (g.S.Storage.memory c.args.storage.now)) c.args.address c.args.stored
    (omega (arith, ap length c.as_slice-bytes.ensures.value))
    (omega (arith, ap length c.as_slice-bytes.ensures.value))
