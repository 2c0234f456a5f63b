-- What a program says of an image that is not read or written, and its exit status.
use Rattle.std.specs.Prelude.{◌≡◌, ◌⊎◌, ℕ, List, ◌++◌, codes, Result, Ok, Err}
use Rattle.std.specs.Fmt.{decimal}
use Rattle.ckd_image.specs.declared.faults.ImageError.{ImageError}
use Rattle.ckd_image.specs.declared.faults.ImageError.TheVariants as images

-- the line of an image's fault
abbrev pub image_text : ImageError → List ℕ
image_text images.Memory = codes "fault: memory Memory"
image_text (images.Device count) = codes "fault: file Device " ++ decimal count
image_text images.BadMagic = codes "fault: image BadMagic"
image_text images.Truncated = codes "fault: image Truncated"
image_text (images.BadTrack cylinder head) = codes "fault: image BadTrack " ++ (decimal cylinder ++ (codes " " ++ decimal head))
image_text images.Trailing = codes "fault: image Trailing"
image_text images.BadTotal = codes "fault: image BadTotal"

-- an image that is refused is refused input, unless its file or memory failed
abbrev pub image_status : ImageError → ℕ
image_status images.Memory = 4
image_status (images.Device count) = 3
image_status _ = 1

-- what is reported of how a program has ended, whose failures have these among them: its failure,
-- or that there is no memory to say it. A wrong use has been reported before
abbrev pub IsReported : {F : Type 0} → F → F → Result (Unit {0}) F → Result (Unit {0}) F → Type 0
IsReported memory usage (Ok done) reported = reported ≡ Ok done
IsReported memory usage (Err failure) reported = (reported ≡ Err failure)
    ⊎ ((reported ≡ Err memory) × (failure ≡ usage → ⊥))
