-- Why a system is not booted.
use Rattle.std.specs.Prelude.{◌≡◌, ℕ, ◌<◌, true, All, List, Some}
use Rattle.std.specs.List.{find}
use Rattle.ckd_volume.specs.Volume.{VolumeFormat}
use Rattle.cp_directory.specs.Grammar.{HasLawfulDevices}
use Rattle.cp_directory.specs.Users.{DirectoryUser}
use Rattle.cp_placement.specs.Seating.{IsFirstPast, first_missing, has_twins, user_lacks}
use Rattle.cp_core.specs.declared.events.BootError.{BootError}
use Rattle.cp_core.specs.declared.events.BootError.TheVariants as errors

-- the cause of each error of a boot from this directory and these volumes with so many frames
abbrev pub IsUnbooted : List DirectoryUser → List VolumeFormat → ℕ → BootError → Type 0
IsUnbooted directory volumes frames errors.Memory = Unit {0}
IsUnbooted directory volumes frames errors.TooFewFrames = frames < 16
IsUnbooted directory volumes frames errors.DuplicateVolume = has_twins volumes ≡ true
IsUnbooted directory volumes frames (errors.NoVolume volser) =
    first_missing volumes (find (user_lacks volumes) directory) ≡ Some volser
IsUnbooted directory volumes frames (errors.ExtentPastEnd user address) =
    IsFirstPast volumes directory user address
IsUnbooted directory volumes frames errors.DuplicateDevice = All HasLawfulDevices directory → ⊥
