use Rattle.std.proofs.Common.{◌≡◌, ◌∙◌, ℕ, List, ap, map, sym, subst}
use Rattle.ckd_volume.specs.Volume.{VolumeFormat}
use Rattle.machine_channels.specs.Disks.{DiskAt}
use Rattle.cp_spool.specs.Queues.{no_files}
use Rattle.machine_devices.specs.Devices.{AreAttached, DevicesValue}
use Rattle.machine_devices.specs.Lent.{DevicesParts, devices_with}
use Rattle.cp_volumes.specs.Shared.{SharedMinidisk, disks_on}
use Rattle.cp_core.proofs.Boots.{disk_addresses}
use Rattle.cp_core.proofs.user_machine.UserMachine.new.Goals as goal

pub returns-in-Ok-subchannels_at-clause-parts : goal.returns-in-Ok-subchannels_at-clause-parts
returns-in-Ok-subchannels_at-clause-parts c = λ volumes.
    let minidisks = c.args.minidisks.items in
    let addresses : c.deref-2.result.now ≡ map (λ (d : DiskAt). d.address) (disks_on volumes minidisks) =
    c.deref-2.ensures.value ∙ c.in-Ok-addresses_of.ensures ∙ ap
    (λ (ds : List SharedMinidisk). map (λ (d : SharedMinidisk). d.address) ds) c.deref.ensures.value ∙
    disk_addresses volumes minidisks in
    record {
      subchannels = c.in-Ok-subchannels_at.subchannels;
      attached = subst (λ (d : DevicesValue).
          AreAttached d (disks_on volumes minidisks) c.in-Ok-subchannels_at.subchannels)
          (ap (λ (d : DevicesParts). devices_with d no_files) c.new-devices.ensures)
          (c.in-Ok-subchannels_at.ensures.ok no_files (disks_on volumes minidisks) addresses);
      off = c.new.ensures.machine;
    }
