-- What bytes are an image, of version 1 or 2, and what is wrong with those that are none
-- (docs/FORMATS.md, "Volume images"). An image is judged from its beginning: the header when its 12
-- bytes are there, a track when it is whole, the number of all records, and last what is after. The
-- first fault is reported.
use Rattle.std.specs.Prelude.{◌≡◌, ℕ, ◌+◌, ◌*◌, ◌<◌, ◌≤◌, ◌^◌, ◌==◌, ◌⊎◌, Bool, true, false, ◌&&◌}
use Rattle.std.specs.Prelude.{◌||◌, nat_le, if◌then◌else◌, List, [], ◌∷◌, ◌++◌, length, take, codes}
use Rattle.std.specs.Prelude.{All, Result, Ok, Err, Option}
use Rattle.std.specs.List.{list_all}
use Rattle.std.specs.Io.KnownBytes.{Consumes, IsAtEnd}
use Rattle.s370_num.specs.Host.{ReadsFront}
use Rattle.ckd_track.specs.Track.{Record, TrackFormat, cost, capacity}
use Rattle.ckd_volume.specs.Front.{Cylinder}
use Rattle.ckd_volume.specs.Volume.{VolumeFormat}
use Rattle.ckd_image.specs.Image.{track_bytes, tracks_bytes, tracks_total, cylinders_total}
use Rattle.ckd_image.specs.Image.{two_bytes, four_bytes, image_of}
use Rattle.ckd_image.specs.declared.header.Version.{Version}
use Rattle.ckd_image.specs.declared.header.Version.TheVariants.{One, Two}
use Rattle.ckd_image.specs.declared.faults.ImageError.{ImageError}
use Rattle.ckd_image.specs.declared.faults.ImageError.TheVariants.{Memory, BadMagic, Truncated}
use Rattle.ckd_image.specs.declared.faults.ImageError.TheVariants.{BadTrack, Trailing, Device}
use Rattle.ckd_image.specs.declared.faults.ImageError.TheVariants.{BadTotal}

-- What the versions differ in: the first four bytes, how many cylinders there may be, and what is
-- after the tracks.
abbrev pub magic : Version → List ℕ
magic One = codes "CKD1"
magic Two = codes "CKD2"

-- the most cylinders of an image of this version
abbrev pub most_cylinders : Version → ℕ
most_cylinders One = 404
most_cylinders Two = 808

-- what is after the tracks in an image of this version
abbrev pub end_of : Version → ℕ → List ℕ
end_of One total = []
end_of Two total = four_bytes total

-- A to Z and 0 to 9
abbrev pub is_serial_character : ℕ → Bool
is_serial_character c = (nat_le 65 c && nat_le c 90) || (nat_le 48 c && nat_le c 57)

-- such characters, and then blanks
abbrev pub is_padded : List ℕ → Bool
is_padded [] = true
is_padded (c ∷ cs) = if c == 32 then list_all (λ b. b == 32) cs
    else is_serial_character c && is_padded cs

-- a serial number has one such character at least
abbrev pub is_volser : List ℕ → Bool
is_volser [] = false
is_volser (c ∷ cs) = is_serial_character c && is_padded cs

-- these bytes are a header: version, serial number and number of cylinders
pub record IsHeader (bytes : List ℕ) (version : Version) (volser : List ℕ)
    (count : ℕ) : Type 0 where
  pub spelled : bytes ≡ magic version ++ (volser ++ two_bytes count)
  pub long : length volser ≡ 6
  pub serial : is_volser volser ≡ true
  pub some : 0 < count
  pub few : count ≤ most_cylinders version

-- a record, and a track, as bytes can spell them, whether they fit or not
pub record IsSpelledRecord (r : Record) : Type 0 where
  pub id : length r.id ≡ 5
  pub key : length r.key < 256
  pub content : length r.content < 65536

-- a track as bytes can spell it, whether its records fit or not
pub record IsSpelled (t : TrackFormat) : Type 0 where
  pub home : length t.home ≡ 5
  pub few : length t.records < 256
  pub records : All IsSpelledRecord t.records

-- a track whose records fit
pub record IsGood (t : TrackFormat) : Type 0 where
  pub spelled : IsSpelled t
  pub fits : cost t.records ≤ capacity

-- the tracks of all cylinders, one after another
abbrev pub all_tracks : List Cylinder → List TrackFormat
all_tracks [] = []
all_tracks (c ∷ cs) = c ++ all_tracks cs

-- the bytes are a header and good tracks, and then a rest
pub record Begins (bytes : List ℕ) (version : Version) (volser : List ℕ) (count : ℕ)
    (tracks : List TrackFormat) (rest : List ℕ) : Type 0 where
  pub header : List ℕ
  pub headed : IsHeader header version volser count
  pub good : All IsGood tracks
  pub whole : bytes ≡ header ++ (tracks_bytes tracks ++ rest)

-- The bytes are an image of this volume.
pub record IsImage (bytes : List ℕ) (volume : VolumeFormat) : Type 0 where
  pub version : Version
  pub heads : All (λ cylinder. length cylinder ≡ 19) volume.cylinders
  pub begins : Begins bytes version volume.volser (length volume.cylinders)
      (all_tracks volume.cylinders) (end_of version (cylinders_total volume.cylinders))

-- 12 bytes are there, and are no header
pub record HasNoHeader (bytes : List ℕ) : Type 0 where
  pub there : 12 ≤ length bytes
  pub none : (version : Version) (volser : List ℕ) (count : ℕ)
      → IsHeader (take 12 bytes) version volser count → ⊥

-- more bytes would make these a track
pub record IsCutTrack (rest : List ℕ) : Type 0 where
  pub track : TrackFormat
  pub more : List ℕ
  pub spelled : IsSpelled track
  pub some : 0 < length more
  pub whole : rest ++ more ≡ track_bytes track

-- in the place of the next track the bytes end before it is whole
pub record EndsInTrack (bytes : List ℕ) : Type 0 where
  pub version : Version
  pub volser : List ℕ
  pub count : ℕ
  pub tracks : List TrackFormat
  pub rest : List ℕ
  pub begins : Begins bytes version volser count tracks rest
  pub next : length tracks < 19 * count
  pub cut : IsCutTrack rest

-- after all tracks the bytes end before the four of the number are there
pub record EndsInTotal (bytes : List ℕ) : Type 0 where
  pub volser : List ℕ
  pub count : ℕ
  pub tracks : List TrackFormat
  pub rest : List ℕ
  pub begins : Begins bytes Two volser count tracks rest
  pub all : length tracks ≡ 19 * count
  pub cut : length rest < 4

-- the next track is whole, and has more records than fit
pub record HasBadTrack (bytes : List ℕ) (cylinder head : ℕ) : Type 0 where
  pub version : Version
  pub volser : List ℕ
  pub count : ℕ
  pub tracks : List TrackFormat
  pub track : TrackFormat
  pub rest : List ℕ
  pub begins : Begins bytes version volser count tracks (track_bytes track ++ rest)
  pub cylinders : cylinder < count
  pub heads : head < 19
  pub next : length tracks ≡ 19 * cylinder + head
  pub spelled : IsSpelled track
  pub full : capacity < cost track.records

-- after all tracks is another number
pub record HasBadTotal (bytes : List ℕ) : Type 0 where
  pub volser : List ℕ
  pub count : ℕ
  pub tracks : List TrackFormat
  pub total : ℕ
  pub rest : List ℕ
  pub begins : Begins bytes Two volser count tracks (four_bytes total ++ rest)
  pub all : length tracks ≡ 19 * count
  pub small : total < 2 ^ 32
  pub other : total ≡ tracks_total tracks → ⊥

-- bytes are after an image
pub record HasMore (bytes : List ℕ) : Type 0 where
  pub version : Version
  pub volser : List ℕ
  pub count : ℕ
  pub tracks : List TrackFormat
  pub rest : List ℕ
  pub begins : Begins bytes version volser count tracks
      (end_of version (tracks_total tracks) ++ rest)
  pub all : length tracks ≡ 19 * count
  pub some : 0 < length rest

-- What is wrong with the bytes. Want of memory and failures of the file are no faults of bytes.
abbrev pub IsFault : List ℕ → ImageError → Type 0
IsFault bytes BadMagic = HasNoHeader bytes
IsFault bytes Truncated = (length bytes < 12) ⊎ (EndsInTrack bytes ⊎ EndsInTotal bytes)
IsFault bytes (BadTrack cylinder head) = HasBadTrack bytes cylinder head
IsFault bytes BadTotal = HasBadTotal bytes
IsFault bytes Trailing = HasMore bytes
IsFault bytes Memory = ⊥
IsFault bytes (Device k) = ⊥

-- the volume, or the fault, that the bytes are read as; there is one (`one_reading`)
abbrev pub IsReading : List ℕ → Result VolumeFormat ImageError → Type 0
IsReading bytes (Ok volume) = IsImage bytes volume
IsReading bytes (Err fault) = IsFault bytes fault

-- the bytes begin with a header
pub record HasHeader (bytes : List ℕ) : Type 0 where
  pub version : Version
  pub volser : List ℕ
  pub count : ℕ
  pub headed : IsHeader (take 12 bytes) version volser count

-- the same, unless memory runs out, which only a volume needs whose header is good
abbrev pub IsReadingOrMemory : List ℕ → Result VolumeFormat ImageError → Type 0
IsReadingOrMemory bytes (Err Memory) = HasHeader bytes
IsReadingOrMemory bytes answer = IsReading bytes answer

-- What is answered of a file that is read to its end: the reading of its bytes, unless memory runs
-- out or the file fails.
abbrev pub ReadsImage : Option (List ℕ) → Option (List ℕ) → Result VolumeFormat ImageError → Type 0
ReadsImage old new (Err Memory) = ReadsFront old new
ReadsImage old new (Err (Device k)) = ReadsFront old new
ReadsImage old new answer = (bytes : List ℕ) × Consumes old new bytes × IsAtEnd new
    × IsReading bytes answer

-- Bytes are read as one volume, or have one first fault: no two answers fit them.
abbrev pub OneReading : Type 0
OneReading = (bytes : List ℕ) (one other : Result VolumeFormat ImageError) → IsReading bytes one
    → IsReading bytes other → one ≡ other

-- A volume with a serial number that can be read, 1 to 808 cylinders of 19 tracks, and good tracks.
pub record IsReadable (volume : VolumeFormat) : Type 0 where
  pub long : length volume.volser ≡ 6
  pub serial : is_volser volume.volser ≡ true
  pub some : 0 < length volume.cylinders
  pub few : length volume.cylinders ≤ 808
  pub heads : All (λ cylinder. length cylinder ≡ 19) volume.cylinders
  pub good : All IsGood (all_tracks volume.cylinders)

-- What is written is read back as the same volume, and what is read can be written and read again.
abbrev pub ReadsBack : Type 0
ReadsBack =
    ((volume : VolumeFormat) → IsReadable volume → IsImage (image_of volume) volume)
    × ((bytes : List ℕ) (volume : VolumeFormat) → IsImage bytes volume → IsReadable volume)
