-- The image of a volume, version 2 (docs/FORMATS.md, "Volume images"). There is one for each
-- volume.
use Rattle.std.specs.Prelude.{ℕ, ◌+◌, ◌/◌, ◌%◌, List, [], ◌∷◌, ◌++◌, length, codes}
use Rattle.ckd_track.specs.Track.{Record, TrackFormat, count_bytes}
use Rattle.ckd_volume.specs.Front.{Cylinder}
use Rattle.ckd_volume.specs.Volume.{VolumeFormat}

-- a record: its count, its key and its data
abbrev pub record_bytes : Record → List ℕ
record_bytes r = count_bytes r ++ (r.key ++ r.content)

-- the bytes of records
abbrev pub records_bytes : List Record → List ℕ
records_bytes [] = []
records_bytes (r ∷ rs) = record_bytes r ++ records_bytes rs

-- a track: its home address, the number of its records, and each of them
abbrev pub track_bytes : TrackFormat → List ℕ
track_bytes t = t.home ++ (length t.records ∷ records_bytes t.records)

-- the bytes of the tracks of a cylinder
abbrev pub tracks_bytes : Cylinder → List ℕ
tracks_bytes [] = []
tracks_bytes (t ∷ ts) = track_bytes t ++ tracks_bytes ts

-- the bytes of cylinders
abbrev pub cylinders_bytes : List Cylinder → List ℕ
cylinders_bytes [] = []
cylinders_bytes (c ∷ cs) = tracks_bytes c ++ cylinders_bytes cs

-- how many records there are
abbrev pub tracks_total : Cylinder → ℕ
tracks_total [] = 0
tracks_total (t ∷ ts) = length t.records + tracks_total ts

-- how many records cylinders have
abbrev pub cylinders_total : List Cylinder → ℕ
cylinders_total [] = 0
cylinders_total (c ∷ cs) = tracks_total c + cylinders_total cs

-- numbers of two and of four bytes
abbrev pub two_bytes : ℕ → List ℕ
two_bytes n = n / 256 ∷ n % 256 ∷ []

-- a number in four bytes, the greatest first
abbrev pub four_bytes : ℕ → List ℕ
four_bytes n = n / 16777216 ∷ n / 65536 % 256 ∷ n / 256 % 256 ∷ n % 256 ∷ []

-- `CKD2`, the serial number, the number of cylinders, their tracks, and the number of all records
abbrev pub head_of : VolumeFormat → List ℕ
head_of v = codes "CKD2" ++ (v.volser ++ two_bytes (length v.cylinders))

-- the image of a volume
abbrev pub image_of : VolumeFormat → List ℕ
image_of v = head_of v ++ (cylinders_bytes v.cylinders ++ four_bytes (cylinders_total v.cylinders))
