use Rattle.std.proofs.Common.{◌≡◌, ◌∙◌, List, Result, Err, ap, inl, inr}
use Rattle.ckd_volume.specs.Volume.{VolumeFormat}
use Rattle.machine_devices.specs.declared.attaching.AttachError.{AttachError}
use Rattle.machine_devices.specs.declared.attaching.AttachError.TheVariants as attaching
use Rattle.programs.specs.declared.faults.Failure.{Failure}
use Rattle.bare370.specs.Runs.{AreUnattached, IsUnmade, attach_failure}
use Rattle.bare370.proofs.runs.made.Goals as goal

unmade : {A : Type 0} (volumes : List VolumeFormat) (r : Result A AttachError)
    → (r ≡ Err attaching.Address → AreUnattached volumes) → (error : AttachError) → r ≡ Err error
    → (failure : Failure) → failure ≡ attach_failure error → IsUnmade volumes failure
unmade volumes r refused attaching.Memory is failure reported = inl reported
unmade volumes r refused attaching.Address is failure reported = inr (reported, refused is)

pub returns-in-Err-clause-err : goal.returns-in-Err-clause-err
returns-in-Err-clause-err c =
    unmade c.args.volumes.items c.machine_of.result c.machine_of.ensures.address c.in-Err.error c.in-Err.is
    c.unattached.result c.unattached.ensures
