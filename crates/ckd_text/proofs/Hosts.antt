-- What a program reports if its words, its host or a stream fail.
use Rattle.std.proofs.Common.{◌≡◌, ◌∙◌, ◌⊎◌, ℕ, List, [], Option, Ok, ap, inl, inr, refl, string_bytes, subst, sym}
use Rattle.std.proofs.Common.{Global}
use Rattle.std.specs.Io.KnownBytes.{Appends, Keeps}
use Rattle.s370_num.specs.Host.{IsCounted}
use Rattle.s370_num.specs.declared.host.HostFault.{HostFault}
use Rattle.s370_num.specs.declared.host.HostFault.TheVariants as hosts
use Rattle.ckd_volume.specs.Volume.{VolumeFormat}
use Rattle.ckd_image.specs.Faults.{IsCountedWriting}
use Rattle.ckd_image.specs.declared.faults.ImageError.{ImageError}
use Rattle.ckd_image.specs.declared.faults.ImageError.TheVariants as images
use Rattle.ckd_image.proofs.Parts.{appended_kept, whole_front}
use Rattle.program_host.specs.Deeds.{Adds, Deed}
use Rattle.program_host.specs.Ends.{IsUseFailure, use_complaints}
use Rattle.program_host.specs.declared.words.UsageError.{UsageError}
use Rattle.program_host.specs.declared.words.UsageError.TheVariants as uses
use Rattle.ckd_text.specs.Faults.{file_failure, image_failure}
use Rattle.ckd_text.specs.Hosts.{Giving, HasFailed, IsCutAs, IsReadAs}
use Rattle.ckd_text.specs.Made.{IsStated}
use Rattle.ckd_text.specs.Runs.{IsUnbegun}
use Rattle.ckd_text.specs.Text.{volume_of}
use Rattle.ckd_text.specs.declared.faults.ToolFailure.{ToolFailure}
use Rattle.ckd_text.specs.declared.faults.ToolFailure.TheVariants as failures

-- An error that is lack of memory if the words are right begins nothing.
pub unbegun : {Misuse : Type 0} (old new : Option (List Deed)) (error : UsageError) (note : List ℕ)
    (failure : ToolFailure) → IsUseFailure (λ f. f ≡ failures.Memory) (λ f. f ≡ failures.Usage) error failure
    → ((error ≡ uses.Memory → ⊥) → Misuse) → Adds old new (use_complaints error note)
    → IsUnbegun Misuse old new failure
unbegun old new uses.Memory note failure is h told = inl (is, told)
unbegun old new (uses.Usage text) note failure is h told =
    inr (is, h (λ m. cc m), record { text = string_bytes {Z = Global} text; note = note; told = told })

-- Words that were not read begin nothing: memory was refused, or this holds, one of them is no text.
pub unread : {NoText : Type 0} (old new : Option (List Deed)) (error : UsageError) (note : List ℕ)
    (failure : ToolFailure) → IsUseFailure (λ f. f ≡ failures.Memory) (λ f. f ≡ failures.Usage) error failure
    → (error ≡ uses.Memory) ⊎ NoText → Adds old new (use_complaints error note) → IsUnbegun NoText old new failure
unread old new error note failure is h told =
    unbegun old new error note failure is
    (λ other. elim h [ inl memory ↦ absurd (other memory) | inr none ↦ none ]) told

-- An image that is not written to its end has a file that failed, or no memory.
pub unwritten : {W : Type 0} (count : W → ℕ) (first last : W) (error : ImageError)
    → IsCountedWriting (count first) (count last) error → HasFailed count (image_failure error) first last
unwritten count first last images.Memory h = (hosts.Memory, h, refl)
unwritten count first last (images.Device number) h = (hosts.Device number, h, refl)
unwritten count first last images.BadMagic h = absurd h
unwritten count first last images.Truncated h = absurd h
unwritten count first last (images.BadTrack cylinder head) h = absurd h
unwritten count first last images.Trailing h = absurd h
unwritten count first last images.BadTotal h = absurd h

-- What was written whole is a beginning of itself, also if it is then not passed on.
pub unflushed : {P : Type 0} (contents : P → Option (List ℕ)) (count : P → ℕ) (first between last : P)
    (bytes : List ℕ) (fault : HostFault) → Appends (contents first) (contents between) bytes
    → count between ≡ count first → Keeps (contents between) (contents last)
    → IsCounted (count between) (count last) fault → IsCutAs contents count bytes (file_failure fault) first last
unflushed contents count first between last bytes fault written same kept counted = (
  whole_front (contents first) (contents last) bytes
      (appended_kept (contents first) (contents between) (contents last) bytes written kept),
  (fault, subst (λ (n : ℕ). IsCounted n (count last) fault) same counted, refl),
)

-- A text that was read to its end, and states a volume.
pub stated : {F : Type 0} (Opens : List ℕ → Giving F) (remaining : F → Option (List ℕ)) (path : List ℕ)
    (volume : VolumeFormat) (old new : Option (List Deed)) (file left : F) (text slice : List ℕ)
    → Opens path old (Ok file) new
    → IsReadAs remaining text file left → slice ≡ text → volume_of slice ≡ Ok volume
    → IsStated Opens remaining path volume old new
stated Opens remaining path volume old new file left text slice opened read same states = record {
  text = text;
  read = record { first = file; last = left; given = opened; used = read };
  stated = ap volume_of (sym same) ∙ states;
}
