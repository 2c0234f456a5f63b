use Rattle.std.proofs.Common.{◌≡◌, List, subst, sym, ap, ◌∙◌, ◌++◌, map, Err, Result, true, false}
use Rattle.std.proofs.lemmas.Result.{err_from_is_err_and}
use Rattle.machine_channels.specs.Disks.{DiskAt}
use Rattle.cp_spool.specs.Queues.{no_files}
use Rattle.machine_devices.specs.Devices.{AreAttached, can_attach, places_of}
use Rattle.machine_devices.specs.Lent.{DevicesParts, devices_with, parts_new}
use Rattle.machine_devices.specs.declared.attaching.AttachError.TheVariants as errors
use Rattle.bare_installation.proofs.bare.Bare.new.Goals as goal

err_same : {A E : Type 0} (x y : E) → (let reported : Result A E = Err x in reported ≡ Err y) → x ≡ y
err_same x y e = cc

pub returns-in-Ok-clause-machine : goal.returns-in-Ok-clause-machine
returns-in-Ok-clause-machine c =
    let there = subst (λ (d : DevicesParts).
    AreAttached (devices_with d no_files) c.deref.result.now c.in_ok-subchannels.subchannels) c.new-devices.ensures
    (c.in_ok-subchannels.ensures.ok no_files) in (
      c.in_ok-subchannels.subchannels,
      subst (λ (disks : List DiskAt).
          AreAttached (devices_with (parts_new c.args.places c.new.result) no_files) disks
          c.in_ok-subchannels.subchannels) c.deref.ensures.value there,
      c.with_subchannels.ensures.machine,
    )

pub returns-in-Ok-clause-apart : goal.returns-in-Ok-clause-apart
returns-in-Ok-clause-apart c = λ ok. (
    subst (λ (d : DevicesParts).
    can_attach (places_of d.places ++ map (λ (disk : DiskAt). disk.address) c.args.disks.items) ≡ true)
    c.new-devices.ensures
    (subst (λ (ds : List DiskAt).
    can_attach (places_of c.new-devices.result.places ++ map (λ (disk : DiskAt). disk.address) ds) ≡ true)
    c.deref.ensures.value (c.in_ok-subchannels.ensures.apart ok)))

pub returns-in_err-subchannels-clause-address : goal.returns-in_err-subchannels-clause-address
returns-in_err-subchannels-clause-address c = λ failed. (
    let p = err_from_is_err_and c.from_residual.result c.from_residual.ensures.1 in
    let reported = err_same c.in_err-subchannels.field-0.0 errors.Address (sym (p.1 ∙ ap Err p.2) ∙ failed) in
    subst (λ (d : DevicesParts).
    can_attach (places_of d.places ++ map (λ (disk : DiskAt). disk.address) c.args.disks.items) ≡ false)
    c.new-devices.ensures
    (subst (λ (ds : List DiskAt).
    can_attach (places_of c.new-devices.result.places ++ map (λ (disk : DiskAt). disk.address) ds) ≡ false)
    c.deref.ensures.value (c.in_err-subchannels.ensures.address (ap Err reported))))
