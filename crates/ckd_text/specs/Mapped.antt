-- The map that trackmap prints of an image.
use Rattle.std.specs.Prelude.{◌≡◌, ◌⊎◌, ℕ, List, Option, Result, Ok, Err}
use Rattle.ckd_volume.specs.Volume.{VolumeFormat}
use Rattle.ckd_image.specs.Faults.{CountsImage}
use Rattle.ckd_image.specs.Reading.{ReadsImage}
use Rattle.ckd_image.specs.declared.faults.ImageError.{ImageError}
use Rattle.program_host.specs.Deeds.{Deed}
use Rattle.ckd_text.specs.Faults.{image_failure}
use Rattle.ckd_text.specs.Hosts.{Giving, IsCutAs, IsUsed, IsWithheld, IsWrittenAs}
use Rattle.ckd_text.specs.Map.{map_of}
use Rattle.ckd_text.specs.declared.faults.ToolFailure.{ToolFailure}
use Rattle.ckd_text.specs.declared.faults.ToolFailure.TheVariants as failures

-- a stream was read to its end, and is the image of this volume
abbrev pub IsImageIn : {F : Type 0} → (F → Option (List ℕ)) → VolumeFormat → F → F → Type 0
IsImageIn remaining volume first last = ReadsImage (remaining first) (remaining last) (Ok volume)

-- it is no image for this fault, or it failed, as its count says
pub record IsNoImageIn {F : Type 0} (remaining : F → Option (List ℕ)) (count : F → ℕ)
    (failure : ToolFailure) (first last : F) : Type 0 where
  pub error : ImageError
  pub read : (let answer : Result VolumeFormat ImageError = Err error in
      ReadsImage (remaining first) (remaining last) answer)
  pub counted : (let answer : Result VolumeFormat ImageError = Err error in
      CountsImage (count first) (count last) answer)
  pub reported : failure ≡ image_failure error

-- the image at the path was read, and the map of its volume was printed
pub record IsMapped {F P : Type 0} (Opens : List ℕ → Giving F)
    (Prints : Giving P) (remaining : F → Option (List ℕ))
    (contents : P → Option (List ℕ)) (held : P → List ℕ) (path : List ℕ)
    (old new : Option (List Deed)) : Type 0 where
  pub volume : VolumeFormat
  pub between : Option (List Deed)
  pub read : IsUsed (Opens path) (IsImageIn remaining volume) old between
  pub printed : IsUsed Prints (IsWrittenAs contents held (map_of volume)) between new

-- the image was not opened, or not read
abbrev pub IsUnread : {F : Type 0} → (List ℕ → Giving F)
    → (F → Option (List ℕ)) → (F → ℕ) → List ℕ → Option (List Deed) → Option (List Deed)
    → ToolFailure → Type 0
IsUnread Opens remaining count path old new failure =
    IsWithheld (Opens path) old new failure
    ⊎ IsUsed (Opens path) (IsNoImageIn remaining count failure) old new

-- it was read, and there was no memory for the map, no standard output, or that failed before the
-- map was printed to its end
pub record IsUnprinted {F P : Type 0} (Opens : List ℕ → Giving F)
    (Prints : Giving P) (remaining : F → Option (List ℕ))
    (contents : P → Option (List ℕ)) (count : P → ℕ) (path : List ℕ) (old new : Option (List Deed))
    (failure : ToolFailure) : Type 0 where
  pub volume : VolumeFormat
  pub between : Option (List Deed)
  pub read : IsUsed (Opens path) (IsImageIn remaining volume) old between
  pub failed : ((failure ≡ failures.Memory) × (new ≡ between))
      ⊎ IsWithheld Prints between new failure
      ⊎ IsUsed Prints (IsCutAs contents count (map_of volume) failure) between new

-- which of the two failed
abbrev pub IsUnmapped : {F P : Type 0} → (List ℕ → Giving F)
    → (Giving P) → (F → Option (List ℕ)) → (F → ℕ)
    → (P → Option (List ℕ)) → (P → ℕ) → List ℕ → Option (List Deed) → Option (List Deed)
    → ToolFailure → Type 0
IsUnmapped Opens Prints remaining read_failures contents failures path old new failure =
    IsUnread Opens remaining read_failures path old new failure
    ⊎ IsUnprinted Opens Prints remaining contents failures path old new failure
