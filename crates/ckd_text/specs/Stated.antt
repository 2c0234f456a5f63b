-- What the reader's values say.
use Rattle.ckd_track.specs.Track.{Record}
use Rattle.ckd_volume.specs.Volume.{VolumeFormat, blank_cylinders}
use Rattle.ckd_text.specs.Text as said
use Rattle.ckd_text.specs.Text.{Stated, Placed}
use Rattle.ckd_text.specs.declared.statement.StatedVolume.{StatedVolume}
use Rattle.ckd_text.specs.declared.statement.TrackOperands.{TrackOperands}
use Rattle.ckd_text.specs.declared.statement.StatedRecord.{StatedRecord}
use Rattle.ckd_text.specs.declared.statement.VolumeStatement.{VolumeStatement}
use Rattle.ckd_text.specs.declared.statement.VolumeStatement.TheVariants.{Home, Add}

-- a volume without records
abbrev pub blank_of : StatedVolume → VolumeFormat
blank_of header = record { volser = header.serial; cylinders = blank_cylinders 0 header.cylinders }

-- the place of the code, as the definitions have it
abbrev pub placed : TrackOperands → Placed
placed place = record { cylinder = place.cylinder; head = place.head; rest = place.rest.now }

-- a stated record, as the definitions have it
abbrev pub record_in : StatedRecord → Record
record_in r = record { id = r.id; key = r.key.items; content = r.content.items }

-- a statement of the code, as the definitions have it
abbrev pub stated : VolumeStatement → Stated
stated (Home cylinder head home) = said.Home cylinder head home
stated (Add cylinder head r) = said.Add cylinder head (record_in r)
