use Rattle.std.proofs.Common.{◌≡◌, ◌∙◌, Option, Some, ap, subst, sym, ℕ}
use Rattle.std.specs.Prelude.{IfOk}
use Rattle.machine_devices.specs.declared.files.ClosedFiles.{ClosedFiles}
use Rattle.machine_devices.specs.declared.places.AttachedDevice.{AttachedDevice}
use Rattle.machine_devices.specs.declared.places.AttachedDevice.TheVariants as kinds
use Rattle.machine_devices.specs.Devices.{part_at, place_at}
use Rattle.machine_devices.specs.Equipped.{Equipped}
use Rattle.machine_devices.specs.Lent.{devices_on}
use Rattle.machine_devices.specs.Lines.{closed_at, outcome, punch_answered}
use Rattle.machine_devices.proofs.devices.Devices.answer_close.Goals as goal

pub returns-in-Some-Punch-clause-ok : goal.returns-in-Some-Punch-clause-ok
returns-in-Some-Punch-clause-ok c = λ m disks. (
    let before : Equipped = record {
      machine = m;
      devices = devices_on c.args.self.now c.args.queues.now;
      disks = disks;
    } in
    let after : Equipped = record {
      machine = m;
      devices = devices_on c.close_punched.new.self c.close_punched.new.queues;
      disks = disks;
    } in
    let kind : part_at before.devices c.args.device ≡ Some kinds.Punch =
    ap (place_at c.args.self.now.places) (sym c.get.ensures) ∙
    (sym c.part_at.ensures ∙ (c.in-Some-Punch.is ∙ ap Some c.in-Some-Punch.field-0-is)) in
    subst (λ (k : Option AttachedDevice). IfOk c.close_punched.result
    (λ reported. outcome after reported ≡ closed_at k before))
    (sym kind)
    (subst (λ (place : Option ℕ).
    IfOk c.close_punched.result (λ reported. outcome after reported ≡ punch_answered place before))
    (ap (λ (files : ClosedFiles). files.punched) c.open_files-open.ensures) (c.close_punched.ensures.ok m disks)))
