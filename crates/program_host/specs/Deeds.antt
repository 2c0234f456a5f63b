-- What a program asks of its host: files by their paths, images that it saves, and streams.
use Rattle.std.specs.Prelude.{◌≡◌, ◌⊎◌, ℕ, Bool, List, [], ◌∷◌, ◌++◌, map, take, Option, Some, None}
use Rattle.ckd_volume.specs.Volume.{VolumeFormat}
use Rattle.ckd_image.specs.declared.faults.ImageError.{ImageError}
use Rattle.s370_num.specs.declared.host.HostFault.{HostFault}
use Rattle.s370_num.specs.declared.host.HostFault.TheVariants as hosts

-- what a program asks of its host, and whether it is done
pub data Deed : Type 0 where
  -- the file at this path is opened for reading
  Opens : List ℕ → Deed
  -- the file at this path cannot be opened or created
  Misses : List ℕ → Deed
  -- the file at this path is created, or emptied
  Creates : List ℕ → Deed
  -- the image of this volume is written to this path
  Saves : List ℕ → VolumeFormat → Deed
  -- the image of this volume is not written to this path, for this cause
  Loses : List ℕ → VolumeFormat → ImageError → Deed
  -- standard input is asked for
  Listens : Deed
  -- standard output is asked for: one that holds nothing back if this is true
  Prints : Bool → Deed
  -- this text is printed on standard error
  Complains : List ℕ → Deed

-- these files, in their order
abbrev pub opens : List (List ℕ) → List Deed
opens paths = map Opens paths

-- the image of each volume is written to the path in its place
abbrev pub saves : List (List ℕ) → List VolumeFormat → List Deed
saves [] volumes = []
saves (path ∷ paths) [] = []
saves (path ∷ paths) (volume ∷ volumes) = Saves path volume ∷ saves paths volumes

-- what was asked for, where that is known, grows by these deeds
abbrev pub Adds : Option (List Deed) → Option (List Deed) → List Deed → Type 0
Adds None new more = Unit {0}
Adds (Some deeds) None more = ⊥
Adds (Some deeds) (Some all) more = all ≡ deeds ++ more

-- it grows by the first so many of them
abbrev pub AddsFirst : ℕ → Option (List Deed) → Option (List Deed) → List Deed → Type 0
AddsFirst count old new more = Adds old new (take count more)

-- it grows by a beginning of them
abbrev pub AddsFront : Option (List Deed) → Option (List Deed) → List Deed → Type 0
AddsFront old new more = (count : ℕ) × AddsFirst count old new more

-- why a file was not created: it could not be, or it was, and there is no memory for its buffer
abbrev pub IsUncreated : List ℕ → Option (List Deed) → Option (List Deed) → HostFault → Type 0
IsUncreated path old new fault = ((fault ≡ hosts.Device 1) × Adds old new (Misses path ∷ []))
    ⊎ ((fault ≡ hosts.Memory) × Adds old new (Creates path ∷ []))
