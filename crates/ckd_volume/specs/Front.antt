-- What a control unit for disks keeps next to the volume and the cylinder of its arm, and what is
-- at a place of a track. All rules of the unit are the project's own, in the terms of GA26-3599
-- (docs/MACHINE.md, "Disks").
use Rattle.std.specs.Prelude.{ℕ, ◌+◌, ◌<◌, ◌==◌, Bool, nat_lt, true, List, [], length, slice_index}
use Rattle.std.specs.Prelude.{slice_index_or}
use Rattle.ckd_track.specs.Track.{Record, TrackFormat, no_record}
use Rattle.ckd_volume.specs.declared.parts.Orientation.{Orientation}
use Rattle.ckd_volume.specs.declared.parts.Orientation.TheVariants.{Index, Gap, Count, Key}
use Rattle.ckd_volume.specs.declared.parts.WriteAccess.{WriteAccess}
use Rattle.ckd_volume.specs.declared.parts.PendingCommand.{PendingCommand}
use Rattle.ckd_volume.specs.declared.parts.Sense.{Sense}
use Rattle.ckd_volume.specs.declared.parts.Found.{Found}
use Rattle.ckd_volume.specs.declared.parts.Found.TheVariants.{There, Lost}
use Rattle.ckd_volume.specs.declared.parts.Wanted.{Wanted}
use Rattle.ckd_volume.specs.declared.parts.Wanted.TheVariants as wanted

-- All that a unit keeps but the volume and the cylinder of its arm.
pub record Front : Type 0 where
  -- whether the disk may be written
  pub writable : Bool
  -- the head of the arm, and where it is on the track
  pub head : ℕ
  pub place : Orientation
  pub mask : ℕ
  -- the index points that were passed since the last seek, head switch, read or write
  pub points : ℕ
  -- what the command that was started last gives the right to write
  pub right : WriteAccess
  pub sense : Sense
  -- what is still to do when the bytes of the command are there
  pub job : PendingCommand
  -- the bytes that are given, or those that were taken so far
  pub bytes : List ℕ
  -- how many bytes were given
  pub given : ℕ

-- the tracks of one cylinder, by head
abbrev pub Cylinder : Type 0
Cylinder = List TrackFormat

-- what stands in for a track that is not there
abbrev pub no_track : TrackFormat
no_track = record { home = []; records = [] }

-- the track under a head
abbrev pub track_at : Cylinder → ℕ → TrackFormat
track_at cylinder head = slice_index_or cylinder head no_track

-- the records of the track under a head
abbrev pub records_at : Cylinder → ℕ → List Record
records_at cylinder head = (track_at cylinder head).records

-- a record of the track under a head
abbrev pub record_at : Cylinder → ℕ → ℕ → Record
record_at cylinder head i = slice_index_or (records_at cylinder head) i no_record

-- the record that is next at a place, if the track has it
abbrev pub next_at : Orientation → ℕ
next_at Index = 0
next_at (Gap i) = i
next_at (Count i) = i + 1
next_at (Key i) = i + 1

-- the record whose count or key was just passed, else the next
abbrev pub here_at : Orientation → ℕ
here_at Index = 0
here_at (Gap i) = i
here_at (Count i) = i
here_at (Key i) = i

-- the record whose count was just passed, else the next
abbrev pub counted_at : Orientation → ℕ
counted_at Index = 0
counted_at (Gap i) = i
counted_at (Count i) = i
counted_at (Key i) = i + 1

-- Which records a command looks for: any, those with a key, those with the number 1.
abbrev pub wants : Wanted → Record → Bool
wants wanted.Any r = true
wants wanted.Keyed r = nat_lt 0 (length r.key)
wants wanted.First r = slice_index r.id 4 == 1

-- What was found is there: a head of the cylinder, and a record of its track.
abbrev pub IsIn : Cylinder → Found → Type 0
IsIn cylinder (Lost head second) = head < 19
IsIn cylinder (There head i points) = (head < 19) × (i < length (records_at cylinder head))

-- the head that a look came to
abbrev pub head_of : Found → ℕ
head_of (Lost head second) = head
head_of (There head i points) = head
