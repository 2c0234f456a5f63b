use Rattle.std.proofs.Common.{◌≡◌, ℕ, ◌+◌, ◌*◌, ◌%◌, ◌^◌, subst, sym}
use Rattle.s370_rows.specs.State.{state_of}
use Rattle.s370_rows.proofs.Told.{tested_meets}
use Rattle.s370_cpu.specs.Control.{control_row}
use Rattle.s370_cpu.specs.Unit.{stopped}
use Rattle.s370_cpu.proofs.Units.{supervised_meets}
use Rattle.s370_cpu.proofs.control.supervise.Goals as goal

pub returns-clause-unit : goal.returns-clause-unit
returns-clause-unit g c =
    let m = state_of c.args.cpu.now (g.S.Storage.memory c.args.storage.now) in
    let m' = state_of c.perform_control-outcome.new.cpu (g.S.Storage.memory c.perform_control-outcome.new.storage) in
    let ilc = c.args.ilc in
    let e : c.wrapping_add-next.result ≡ (m.cpu.psw.address + 2 * ilc) % 2 ^ 24 = rw
    (c.wrapping_add-next.ensures, c.get.ensures.value, c.address.ensures) in
    supervised_meets m ilc c.args.i c.in-Supervised.control c.conclude.result c.conclude.new.cpu
    (g.S.Storage.present c.args.storage.now) c.perform_control-outcome.result m'
    (sym c.in-Supervised.ensures)
    (tested_meets (control_row c.in-Supervised.control m c.args.i) (g.S.Storage.present c.args.storage.now) m
    c.perform_control-outcome.result m' c.perform_control-outcome.ensures.row)
    (subst (λ (n : ℕ). stopped c.perform_control-outcome.result
    (record { next = n; ilc = ilc }) m'.cpu ≡ record { stop = c.conclude.result; cpu = c.conclude.new.cpu }) e
    c.conclude.ensures)
