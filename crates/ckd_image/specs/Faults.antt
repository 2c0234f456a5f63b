-- The count of a file's failures after an image was read or written.
use Rattle.std.specs.Prelude.{◌≡◌, ℕ, Result, Ok, Err}
use Rattle.s370_num.specs.Host.{one_more}
use Rattle.ckd_image.specs.declared.faults.ImageError.{ImageError}
use Rattle.ckd_image.specs.declared.faults.ImageError.TheVariants.{Memory, BadMagic, Truncated}
use Rattle.ckd_image.specs.declared.faults.ImageError.TheVariants.{BadTrack, Trailing, Device}
use Rattle.ckd_image.specs.declared.faults.ImageError.TheVariants.{BadTotal}

-- a failure of the file is counted, and reports the count; no other error is
abbrev pub IsCountedImage : ℕ → ℕ → ImageError → Type 0
IsCountedImage old new (Device k) = (new ≡ one_more old) × (k ≡ new)
IsCountedImage old new Memory = new ≡ old
IsCountedImage old new BadMagic = new ≡ old
IsCountedImage old new Truncated = new ≡ old
IsCountedImage old new (BadTrack c h) = new ≡ old
IsCountedImage old new Trailing = new ≡ old
IsCountedImage old new BadTotal = new ≡ old

-- an image is written: no other error than these two is reported
abbrev pub IsCountedWriting : ℕ → ℕ → ImageError → Type 0
IsCountedWriting old new (Device k) = (new ≡ one_more old) × (k ≡ new)
IsCountedWriting old new Memory = new ≡ old
IsCountedWriting old new BadMagic = ⊥
IsCountedWriting old new Truncated = ⊥
IsCountedWriting old new (BadTrack c h) = ⊥
IsCountedWriting old new Trailing = ⊥
IsCountedWriting old new BadTotal = ⊥

-- what the count of failures is after an image was written, or was not
abbrev pub CountsWriting : {A : Type 0} → ℕ → ℕ → Result A ImageError → Type 0
CountsWriting old new (Ok a) = new ≡ old
CountsWriting old new (Err fault) = IsCountedWriting old new fault

-- an image is read
abbrev pub CountsImage : {A : Type 0} → ℕ → ℕ → Result A ImageError → Type 0
CountsImage old new (Ok a) = new ≡ old
CountsImage old new (Err fault) = IsCountedImage old new fault
