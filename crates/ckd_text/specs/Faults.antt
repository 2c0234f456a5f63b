-- What mkvol and trackmap say of a failure, and their exit status.
use Rattle.std.specs.Prelude.{ℕ, List, ◌++◌, codes}
use Rattle.std.specs.Fmt.{decimal}
use Rattle.ckd_image.specs.declared.faults.ImageError.{ImageError}
use Rattle.ckd_image.specs.declared.faults.ImageError.TheVariants as images
use Rattle.ckd_image.specs.Told.{image_status, image_text}
use Rattle.s370_num.specs.declared.host.HostFault.{HostFault}
use Rattle.s370_num.specs.declared.host.HostFault.TheVariants as hosts
use Rattle.ckd_text.specs.declared.reader.TextError.{TextError}
use Rattle.ckd_text.specs.declared.reader.TextError.TheVariants as texts
use Rattle.ckd_text.specs.declared.faults.ToolFailure.{ToolFailure}
use Rattle.ckd_text.specs.declared.faults.ToolFailure.TheVariants as failures

-- a program fails as the reading of its text fails
abbrev pub text_failure : TextError → ToolFailure
text_failure texts.Memory = failures.Memory
text_failure (texts.Line line) = failures.Text line

-- as a file of the host fails
abbrev pub file_failure : HostFault → ToolFailure
file_failure hosts.Memory = failures.Memory
file_failure (hosts.Device count) = failures.File count

-- and as the reading or the writing of its image fails
abbrev pub image_failure : ImageError → ToolFailure
image_failure images.Memory = failures.Memory
image_failure (images.Device count) = failures.File count
image_failure images.BadMagic = failures.Image images.BadMagic
image_failure images.Truncated = failures.Image images.Truncated
image_failure (images.BadTrack cylinder head) = failures.Image (images.BadTrack cylinder head)
image_failure images.Trailing = failures.Image images.Trailing
image_failure images.BadTotal = failures.Image images.BadTotal

-- the line of a failure
abbrev pub fault_text : ToolFailure → List ℕ
fault_text (failures.Text line) = codes "fault: text Line " ++ decimal line
fault_text (failures.Image error) = image_text error
fault_text (failures.File count) = codes "fault: file Device " ++ decimal count
fault_text failures.Memory = codes "fault: memory Memory"
fault_text failures.Usage = codes "wrong words"

-- refused input is 1, a wrong use 2, a file that failed 3, memory 4
abbrev pub status_of : ToolFailure → ℕ
status_of (failures.Text line) = 1
status_of (failures.Image error) = image_status error
status_of (failures.File count) = 3
status_of failures.Memory = 4
status_of failures.Usage = 2
