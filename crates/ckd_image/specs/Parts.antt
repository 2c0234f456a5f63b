-- What the parts of reading find and leave, a record, the records of a track, a track.
use Rattle.std.specs.Prelude.{◌≡◌, ℕ, ◌+◌, ◌*◌, ◌<◌, ◌≤◌, ◌^◌, Bool, true, false, List, [], ◌++◌}
use Rattle.std.specs.Prelude.{length, take, All, slice_index_or}
use Rattle.ckd_track.specs.Track.{Record, TrackFormat, cost, capacity}
use Rattle.ckd_volume.specs.Front.{no_track}
use Rattle.ckd_volume.specs.Volume.{VolumeFormat}
use Rattle.ckd_volume.specs.LendingVolume.{with_track}
use Rattle.ckd_image.specs.Image.{record_bytes, records_bytes, track_bytes, tracks_bytes}
use Rattle.ckd_image.specs.Image.{four_bytes}
use Rattle.ckd_image.specs.Reading.{IsSpelledRecord, IsSpelled, IsGood, IsCutTrack, HasNoHeader}
use Rattle.ckd_image.specs.Reading.{all_tracks, end_of}
use Rattle.ckd_image.specs.declared.header.Version.{Version}
use Rattle.ckd_image.specs.declared.header.Version.TheVariants.{One, Two}
use Rattle.ckd_image.specs.declared.faults.ImageError.{ImageError}
use Rattle.ckd_image.specs.declared.faults.ImageError.TheVariants.{BadMagic, Truncated, BadTrack}
use Rattle.ckd_image.specs.declared.faults.ImageError.TheVariants.{Trailing, BadTotal}
use Rattle.ckd_image.specs.declared.reader.TrackFault.{TrackFault}
use Rattle.ckd_image.specs.declared.reader.TrackFault.TheVariants.{Cut, Full}

-- what is wrong with a header
abbrev pub IsHeaderFault : List ℕ → ImageError → Type 0
IsHeaderFault bytes Truncated = length bytes < 12
IsHeaderFault bytes BadMagic = HasNoHeader bytes
IsHeaderFault bytes fault = ⊥

-- the bytes are a record, and then a rest
pub record BeginsRecord (bytes : List ℕ) (r : Record) (rest : List ℕ) : Type 0 where
  pub spelled : IsSpelledRecord r
  pub whole : bytes ≡ record_bytes r ++ rest

-- more bytes would make these a record
pub record IsCutRecord (bytes : List ℕ) : Type 0 where
  pub there : Record
  pub more : List ℕ
  pub spelled : IsSpelledRecord there
  pub some : 0 < length more
  pub whole : bytes ++ more ≡ record_bytes there

-- So many records were read, and put on a track that had none as long as they fit.
pub record ReadRecords (old new : TrackFormat) (count : ℕ) (bytes : List ℕ) (fits : Bool)
    (rest : List ℕ) : Type 0 where
  pub records : List Record
  pub count_is : length records ≡ count
  pub spelled : All IsSpelledRecord records
  pub whole : bytes ≡ records_bytes records ++ rest
  pub home : new.home ≡ old.home
  pub held : fits ≡ true → (new.records ≡ records) × (cost records ≤ capacity)
  pub full : fits ≡ false → capacity < cost records

-- the bytes end before so many records are whole
pub record EndsInRecord (count : ℕ) (bytes : List ℕ) : Type 0 where
  pub records : List Record
  pub rest : List ℕ
  pub fewer : length records < count
  pub spelled : All IsSpelledRecord records
  pub whole : bytes ≡ records_bytes records ++ rest
  pub cut : IsCutRecord rest

-- the bytes are a track whose records do not fit, and then a rest
pub record IsFullTrack (bytes : List ℕ) : Type 0 where
  pub track : TrackFormat
  pub rest : List ℕ
  pub spelled : IsSpelled track
  pub full : capacity < cost track.records
  pub whole : bytes ≡ track_bytes track ++ rest

-- why the bytes begin with no track
abbrev pub IsTrackFault : List ℕ → TrackFault → Type 0
IsTrackFault bytes Cut = IsCutTrack bytes
IsTrackFault bytes Full = IsFullTrack bytes

-- a track was read into its place
pub record ReadTrack (old new : VolumeFormat) (cylinder head : ℕ)
    (bytes rest : List ℕ) : Type 0 where
  pub track : TrackFormat
  pub good : IsGood track
  pub whole : bytes ≡ track_bytes track ++ rest
  pub placed : new ≡ with_track old cylinder head track

-- So many tracks were read into their places; the others have no records yet.
pub record ReadTracks (old new : VolumeFormat) (count : ℕ) (bytes rest : List ℕ) : Type 0 where
  pub whole : bytes ≡ tracks_bytes (take count (all_tracks new.cylinders)) ++ rest
  pub good : All IsGood (take count (all_tracks new.cylinders))
  pub blank : (i : ℕ) → count ≤ i
      → (slice_index_or (all_tracks new.cylinders) i no_track).records ≡ []
  pub heads : All (λ cylinder. length cylinder ≡ 19) new.cylinders
  pub cylinders : length new.cylinders ≡ length old.cylinders
  pub volser : new.volser ≡ old.volser

-- what is wrong with the track of this number
abbrev pub IsNextFault : ℕ → List ℕ → ImageError → Type 0
IsNextFault number rest Truncated = IsCutTrack rest
IsNextFault number rest (BadTrack cylinder head) = (number ≡ 19 * cylinder + head) × (head < 19)
    × IsFullTrack rest
IsNextFault number rest fault = ⊥

-- what is wrong with the tracks: those before are good, and the next one is cut, or full
pub record IsTracksFault (count : ℕ) (bytes : List ℕ) (fault : ImageError) : Type 0 where
  pub tracks : List TrackFormat
  pub rest : List ℕ
  pub good : All IsGood tracks
  pub whole : bytes ≡ tracks_bytes tracks ++ rest
  pub next : length tracks < 19 * count
  pub fault_is : IsNextFault (length tracks) rest fault

-- what is wrong in the place of the number of all records, which are so many
abbrev pub IsTotalFault : ℕ → List ℕ → ImageError → Type 0
IsTotalFault total bytes Truncated = length bytes < 4
IsTotalFault total bytes BadTotal = (other : ℕ) × (rest : List ℕ) × (other < 2 ^ 32)
    × (other ≡ total → ⊥) × (bytes ≡ four_bytes other ++ rest)
IsTotalFault total bytes fault = ⊥

-- what is wrong after the tracks
abbrev pub IsEndFault : Version → ℕ → List ℕ → ImageError → Type 0
IsEndFault version total bytes Trailing = (rest : List ℕ) × (0 < length rest)
    × (bytes ≡ end_of version total ++ rest)
IsEndFault One total bytes fault = ⊥
IsEndFault Two total bytes fault = IsTotalFault total bytes fault

-- a record of these parts
abbrev pub record_with : List ℕ → List ℕ → List ℕ → Record
record_with id key content = record { id = id; key = key; content = content }
