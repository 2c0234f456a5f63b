-- The image that mkvol makes of a text.
use Rattle.std.specs.Prelude.{◌≡◌, ◌⊎◌, ℕ, List, Option, Ok}
use Rattle.ckd_volume.specs.Volume.{VolumeFormat}
use Rattle.ckd_image.specs.Image.{image_of}
use Rattle.program_host.specs.Deeds.{Deed}
use Rattle.ckd_text.specs.Faults.{text_failure}
use Rattle.ckd_text.specs.Hosts.{Giving, HasFailed, IsCutAs, IsReadAs, IsUsed, IsWithheld}
use Rattle.ckd_text.specs.Hosts.{IsWrittenAs}
use Rattle.ckd_text.specs.Text.{IsRefusal, volume_of}
use Rattle.ckd_text.specs.declared.arguments.VolumePaths.{VolumePaths}
use Rattle.ckd_text.specs.declared.faults.ToolFailure.{ToolFailure}
use Rattle.ckd_text.specs.declared.reader.TextError.{TextError}

-- the file at the path of the text was opened, and its text states this volume
pub record IsStated {F : Type 0} (Opens : List ℕ → Giving F)
    (remaining : F → Option (List ℕ)) (path : List ℕ) (volume : VolumeFormat)
    (old new : Option (List Deed)) : Type 0 where
  pub text : List ℕ
  pub read : IsUsed (Opens path) (IsReadAs remaining text) old new
  pub stated : volume_of text ≡ Ok volume

-- the text at its path states a volume, and the volume's image was written to the file that was
-- created at the path of the image
pub record IsMade {F W : Type 0} (Opens : List ℕ → Giving F)
    (Creates : List ℕ → Giving W) (remaining : F → Option (List ℕ))
    (contents : W → Option (List ℕ)) (held : W → List ℕ) (paths : VolumePaths)
    (old new : Option (List Deed)) : Type 0 where
  pub volume : VolumeFormat
  pub between : Option (List Deed)
  pub stated : IsStated Opens remaining paths.text.now volume old between
  pub written : IsUsed (Creates paths.out.now) (IsWrittenAs contents held (image_of volume))
      between new

-- the text was read, and is refused
pub record IsRefusedText {F : Type 0} (Opens : List ℕ → Giving F)
    (remaining : F → Option (List ℕ)) (path : List ℕ) (old new : Option (List Deed))
    (failure : ToolFailure) : Type 0 where
  pub text : List ℕ
  pub read : IsUsed (Opens path) (IsReadAs remaining text) old new
  pub error : TextError
  pub refused : IsRefusal (volume_of text) error
  pub reported : failure ≡ text_failure error

-- why there is no volume, and no file was created: the text was not opened, or not read, or is
-- refused
abbrev pub IsUnstated : {F : Type 0} → (List ℕ → Giving F)
    → (F → Option (List ℕ)) → (F → ℕ) → List ℕ → Option (List Deed) → Option (List Deed)
    → ToolFailure → Type 0
IsUnstated Opens remaining count path old new failure =
    IsWithheld (Opens path) old new failure
    ⊎ IsUsed (Opens path) (HasFailed count failure) old new
    ⊎ IsRefusedText Opens remaining path old new failure

-- there was a volume, and the file for its image was not created, or not written to its end
pub record IsUnwritten {F W : Type 0} (Opens : List ℕ → Giving F)
    (Creates : List ℕ → Giving W) (remaining : F → Option (List ℕ))
    (contents : W → Option (List ℕ)) (count : W → ℕ) (paths : VolumePaths)
    (old new : Option (List Deed))
    (failure : ToolFailure) : Type 0 where
  pub volume : VolumeFormat
  pub between : Option (List Deed)
  pub stated : IsStated Opens remaining paths.text.now volume old between
  pub failed : IsWithheld (Creates paths.out.now) between new failure
      ⊎ IsUsed (Creates paths.out.now) (IsCutAs contents count (image_of volume) failure) between
      new

-- which of the two failed
abbrev pub IsUnmade : {F W : Type 0} → (List ℕ → Giving F)
    → (List ℕ → Giving W) → (F → Option (List ℕ)) → (F → ℕ)
    → (W → Option (List ℕ)) → (W → ℕ) → VolumePaths → Option (List Deed) → Option (List Deed)
    → ToolFailure → Type 0
IsUnmade Opens Creates remaining read_failures contents failures paths old new failure =
    IsUnstated Opens remaining read_failures paths.text.now old new failure
    ⊎ IsUnwritten Opens Creates remaining contents failures paths old new failure
