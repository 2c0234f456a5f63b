-- Lent cylinders and tracks of a volume: what was written through the reference is there, and all
-- else stays.
use Rattle.std.specs.Prelude.{ℕ, [], Option, slice_set, slice_index_or}
use Rattle.std.specs.Borrow.{Lends, LendsIf, MutBor, Fml}
use Rattle.ckd_track.specs.Track.{TrackFormat}
use Rattle.ckd_track.specs.contracts.track.Track.{the_row as track_row}
use Rattle.ckd_volume.specs.contracts.cylinder.Cylinder.{the_row as cylinder_row}
use Rattle.ckd_volume.specs.contracts.volume.Volume.{the_row}
use Rattle.ckd_volume.specs.Front.{Cylinder}
use Rattle.ckd_volume.specs.Volume.{VolumeFormat}

-- the volume with another cylinder
abbrev pub with_cylinder : VolumeFormat → ℕ → Cylinder → VolumeFormat
with_cylinder v c written =
    record { volser = v.volser; cylinders = slice_set v.cylinders c written }

-- the volume with another track
abbrev pub with_track : VolumeFormat → ℕ → ℕ → TrackFormat → VolumeFormat
with_track v c h written = with_cylinder v c (slice_set (slice_index_or v.cylinders c []) h written)

-- a cylinder of a volume is borrowed, and the volume has what was written to it
abbrev pub LendsCylinder : MutBor VolumeFormat → ℕ → MutBor Cylinder → Fml
LendsCylinder volume c lent = Lends the_row cylinder_row volume lent (with_cylinder volume.now c)

-- a track of a volume is borrowed, if there is one
abbrev pub LendsTrackOf : MutBor VolumeFormat → ℕ → ℕ → Option (MutBor TrackFormat) → Fml
LendsTrackOf volume c h lent =
    LendsIf the_row track_row volume lent (with_track volume.now c h) volume.now
