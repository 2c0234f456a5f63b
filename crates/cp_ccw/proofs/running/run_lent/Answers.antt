use Rattle.std.proofs.Common.{rules, subst, sym}
use Rattle.std.specs.Prelude.{IfOk}
use Rattle.s370_store.specs.Memory.{Memory}
use Rattle.s370_channel.specs.Guest.{guest_text}
use Rattle.s370_walk.specs.Copy.{guest_of, IsPlace}
use Rattle.cp_dat.specs.declared.dat.Dat.{Dat}
use Rattle.cp_dat.specs.Lent.{KeepsStored}
use Rattle.cp_ccw.specs.Runs.{IsGuestsRun}
use Rattle.cp_ccw.specs.Translated.{IsTranslatedFor}
use Rattle.cp_ccw.proofs.running.run_lent.Goals as goal

pub returns-clause-runs : goal.returns-clause-runs
returns-clause-runs g c =
    let t = c.args.table.now in
    let is = c.storage-1.given.1 (sym c.run_translated.ensures.rest.same_dat) in
    subst (λ (d : Dat). IfOk c.run_translated.result
    (λ end. (m0 : Memory) → IsTranslatedFor c.args.storage.now t.places.items t.nodes.items m0
    → IsPlace t.places.items (guest_text m0) t.start
    → IsGuestsRun g.D.Device.machine c.args.limits.now m0 (guest_of t.places.items t.start) c.args.storage.now
    c.args.device.now end d c.run_translated.new.device))
    (sym is) c.run_translated.ensures.runs

pub returns-clause-rest : goal.returns-clause-rest
returns-clause-rest g c =
    let kept : KeepsStored c.args.storage.now c.run_translated.new.real.dat.now = c.run_translated.ensures.rest.lent in
    search rules
