-- The bytes of a volume in a saved state: its serial number, how many cylinders it has, and what
-- is on each track.
use Rattle.std.specs.Prelude.{◌≡◌, ℕ, List, ◌++◌, length}
use Rattle.saved_bytes.specs.Codes.{bytes, each, number}
use Rattle.ckd_track.specs.Track.{Record, TrackFormat}
use Rattle.ckd_volume.specs.Front.{Cylinder}
use Rattle.ckd_volume.specs.Volume.{VolumeFormat}

-- the bytes of a record
abbrev pub record_bytes : Record → List ℕ
record_bytes r = bytes r.id ++ (bytes r.key ++ bytes r.content)

-- the bytes of a track
abbrev pub track_bytes : TrackFormat → List ℕ
track_bytes t = bytes t.home ++ each record_bytes t.records

-- the bytes of a cylinder
abbrev pub cylinder_bytes : Cylinder → List ℕ
cylinder_bytes c = each track_bytes c

-- the bytes of a volume
abbrev pub volume_bytes : VolumeFormat → List ℕ
volume_bytes v = bytes v.volser ++ (number (length v.cylinders) ++ each cylinder_bytes v.cylinders)

-- bytes are those of one volume
abbrev pub IsOneBySaved : Type 0
IsOneBySaved = (one other : VolumeFormat) → volume_bytes one ≡ volume_bytes other → one ≡ other
