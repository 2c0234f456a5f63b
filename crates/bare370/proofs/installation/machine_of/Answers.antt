use Rattle.std.proofs.Common.{◌≡◌, ◌∙◌, ap, refl, subst, List, Some}
use Rattle.s370_store.specs.Memory.{Memory}
use Rattle.machine_channels.specs.Disks.{DiskAt}
use Rattle.machine_devices.specs.Devices.{AreAttached, devices_new}
use Rattle.machine_devices.specs.declared.places.Places.{Places}
use Rattle.machine_panel.specs.Machine.{unused}
use Rattle.bare_installation.specs.Bare.{Bare}
use Rattle.bare370.specs.Goes.{usual_places}
use Rattle.bare370.proofs.installation.machine_of.Goals as goal

pub returns-in-Ok-new-clause-devices : goal.returns-in-Ok-new-clause-devices
returns-in-Ok-new-clause-devices c =
    let devices = rw (c.new.ensures, c.new-2.ensures, c.new-3.ensures, c.new-4.ensures) at
    c.in_ok-machine.ensures.devices in
    ap (λ (b : Bare). b.equipped.devices) c.in-Ok-new.ensures.machine ∙ devices

pub returns-in-Ok-new-clause-machine : goal.returns-in-Ok-new-clause-machine
returns-in-Ok-new-clause-machine c =
    let made = c.in_ok-machine.ensures.machine in
    let list = made.0 in
    let at : Places = record {
      console = Some c.new.result;
      reader = Some c.new-2.result;
      punch = Some c.new-3.result;
      printer = Some c.new-4.result;
    } in
    let places : at ≡ usual_places = rw (c.new.ensures, c.new-2.ensures, c.new-3.ensures, c.new-4.ensures) refl in
    let first : AreAttached (devices_new usual_places) c.in-Ok.disks.items list =
    subst (λ (p : Places). AreAttached (devices_new p) c.in-Ok.disks.items list) places made.1 in (
      list,
      subst (λ (ds : List DiskAt). AreAttached (devices_new usual_places) ds list) c.in-Ok.ensures.disks first,
      ap (λ (b : Bare). b.equipped.machine) c.in-Ok-new.ensures.machine ∙ made.2 ∙ ap (λ (m : Memory). unused m list)
          c.in-Ok.ensures.storage,
    )
