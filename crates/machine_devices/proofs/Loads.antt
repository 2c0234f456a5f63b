-- What a loading from a disk leaves.
use Rattle.std.specs.Prelude.{Some, None}
use Rattle.std.proofs.Common.{◌≡◌, ◌∙◌, ℕ, Bool, List, Option, ap, map, set, subst}
use Rattle.s370_store.specs.Memory.{Memory, memory_of}
use Rattle.s370_walk.specs.declared.parts.Ending.{Ending}
use Rattle.ckd_volume.specs.Unit.{disk_machine}
use Rattle.machine_panel.specs.Machine.{reset}
use Rattle.machine_channels.specs.Channels.{LoadsAt, WalksLoading}
use Rattle.machine_channels.specs.Disks.{DiskAt, reset_disk}
use Rattle.machine_devices.specs.declared.line.LineOutcome.{LineOutcome}
use Rattle.machine_devices.specs.Equipped.{Equipped, storage_in}
use Rattle.machine_devices.specs.Lines.{LoadsDisk, ipl_told}
use Rattle.machine_devices.specs.Loading.{is_good, left_by}
use Rattle.machine_devices.specs.Resets.{devices_reset}

-- A loading from a disk leaves what the machine says.
pub disk_loads : (index device : ℕ) (old new : Equipped) (reported : LineOutcome) (well : Bool) (ending : Ending)
    (read : Memory) (o : Option DiskAt)
    → LoadsAt (storage_in old.machine) (map reset_disk old.disks) index o ending read new.disks
    → read.keys ≡ old.machine.core.processor.keys
    → well ≡ is_good ending → new.machine ≡ left_by (is_good ending) device (reset old.machine) read.bytes
    → new.devices ≡ devices_reset old.devices → reported ≡ ipl_told well
    → LoadsDisk index o device old reported new
disk_loads index device old new reported well ending read None h keys w l d s = absurd h
disk_loads index device old new reported well ending read (Some disk) h keys w l d s = record {
  well = well;
  unit = h.one.unit;
  loaded = record {
    ending = ending;
    bytes = read.bytes;
    walk = subst (λ (ks : List ℕ).
        WalksLoading disk_machine (storage_in old.machine) disk.unit ending (memory_of read.bytes ks) h.one.unit) keys
        h.one.walk;
    reported = w;
    left = l;
  };
  rest = d;
  disks = h.rest ∙ ap (set (map reset_disk old.disks) index) h.one.rest;
  says = s;
}
