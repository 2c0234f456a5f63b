-- The cause of the error of a boot, as the boot says it.
use Rattle.std.proofs.Common.{◌≡◌, ℕ, ◌<◌, ◌≤◌, true, None, Some, List, Result, Err, ap}
use Rattle.std.specs.Prelude.{◌↔◌, All}
use Rattle.std.specs.List.{find}
use Rattle.ckd_volume.specs.Volume.{VolumeFormat}
use Rattle.cp_directory.specs.Grammar.{HasLawfulDevices}
use Rattle.cp_directory.specs.Users.{DirectoryUser}
use Rattle.cp_placement.specs.Seating.{IsFirstPast, first_missing, has_twins, user_lacks}
use Rattle.cp_core.specs.declared.events.BootError.{BootError}
use Rattle.cp_core.specs.declared.events.BootError.TheVariants as errors
use Rattle.cp_core.specs.Unbooted.{IsUnbooted}

-- Each error of a boot that is as a boot says has its cause.
pub cause_of : {A : Type 0} (directory : List DirectoryUser) (volumes : List VolumeFormat) (frames : ℕ)
    (r : Result A BootError) → ((r ≡ Err errors.TooFewFrames) ↔ (frames < 16))
    → ((r ≡ Err errors.DuplicateVolume) ↔ ((16 ≤ frames) × (has_twins volumes ≡ true)))
    → ((volser : List ℕ) → r ≡ Err (errors.NoVolume volser)
    → first_missing volumes (find (user_lacks volumes) directory) ≡ Some volser)
    → ((user address : ℕ) → r ≡ Err (errors.ExtentPastEnd user address)
    → IsFirstPast volumes directory user address × (find (user_lacks volumes) directory ≡ None))
    → (r ≡ Err errors.DuplicateDevice → All HasLawfulDevices directory → ⊥) → (error : BootError) → r ≡ Err error
    → IsUnbooted directory volumes frames error
cause_of directory volumes frames r few twins missing past device errors.Memory is = tt
cause_of directory volumes frames r few twins missing past device errors.TooFewFrames is = few.0 is
cause_of directory volumes frames r few twins missing past device errors.DuplicateVolume is = (twins.0 is).1
cause_of directory volumes frames r few twins missing past device (errors.NoVolume volser) is = missing volser is
cause_of directory volumes frames r few twins missing past device (errors.ExtentPastEnd user address) is =
    (past user address is).0
cause_of directory volumes frames r few twins missing past device errors.DuplicateDevice is = device is
