-- A disk unit: a volume, the cylinder of its arm, and the front of the unit.
use Rattle.std.specs.Prelude.{ℕ, ◌+◌, ◌==◌, Bool, true, false, nat_lt, nat_le, ◌&&◌, if◌then◌else◌}
use Rattle.std.specs.Prelude.{List, [], ◌∷◌, ◌++◌, length, slice_index, slice_index_or, slice_set}
use Rattle.std.specs.Prelude.{Option, None, Some}
use Rattle.s370_walk.specs.declared.bits.UnitStatus.{UnitStatus}
use Rattle.s370_walk.specs.declared.parts.Order.{Order}
use Rattle.s370_walk.specs.Hardware.{Machine}
use Rattle.ckd_track.specs.Track.{TrackFormat}
use Rattle.ckd_volume.specs.declared.parts.Orientation.TheVariants.{Index}
use Rattle.ckd_volume.specs.declared.parts.PendingCommand.{PendingCommand}
use Rattle.ckd_volume.specs.declared.parts.PendingCommand.TheVariants as jobs
use Rattle.ckd_volume.specs.declared.parts.WriteAccess.TheVariants as rights
use Rattle.ckd_volume.specs.declared.unit.Arm.{Arm}
use Rattle.ckd_volume.specs.Front.{Front, Cylinder}
use Rattle.ckd_volume.specs.Volume.{VolumeFormat}
use Rattle.ckd_volume.specs.Begin.{Begun, starting, right_found, no_status, sense_of, unit_check}
use Rattle.ckd_volume.specs.End.{Ended, resting, fails, stands}
use Rattle.ckd_volume.specs.declared.control.Seek.{Seek}
use Rattle.ckd_volume.specs.Control.{sought}
use Rattle.ckd_volume.specs.Write.{is_whole, longest}
use Rattle.ckd_volume.specs.Table.{begun, ended}

-- a disk unit with its volume
pub record Disk : Type 0 where
  pub volser : List ℕ
  -- each cylinder has 19 tracks
  pub cylinders : List Cylinder
  -- where the arm is
  pub cylinder : ℕ
  -- where it goes for Read IPL
  pub home : ℕ
  pub front : Front

-- The cylinder under the arm.
abbrev pub under : Disk → Cylinder
under d = slice_index_or d.cylinders d.cylinder []

-- Read IPL moves the arm to the first track before all else.
abbrev pub is_ipl : Order → Bool
is_ipl order = order.first && (order.command.code == 0x02)

-- the disk with its arm at the first track, if the command is Read IPL
abbrev pub aimed : Disk → Bool → Disk
aimed d true = record {
  volser = d.volser;
  cylinders = d.cylinders;
  cylinder = d.home;
  home = d.home;
  front = record (d.front) { head = 0 };
}
aimed d false = d

-- A command begins over the cylinder under the arm.
abbrev pub begins : Disk → Order → Begun
begins d order = begun (starting d.front order.first) (right_found d.front order.first) (under d)
    order

-- the disk with another front
abbrev pub keeps : Disk → Front → Disk
keeps d front = record {
  volser = d.volser;
  cylinders = d.cylinders;
  cylinder = d.cylinder;
  home = d.home;
  front = front;
}

-- How the command ends, over the cylinder under the arm.
abbrev pub ending : Disk → Ended
ending d = ended d.front (under d) d.front.job

-- What it wrote is on the track under the arm.
abbrev pub put : List Cylinder → ℕ → Cylinder → ℕ → Option TrackFormat → List Cylinder
put cylinders at cylinder head written = slice_set cylinders at (stands cylinder head written)

-- the disk after a command that ended so
abbrev pub after : Disk → Ended → Disk
after d e =
    record {
      volser = d.volser;
      cylinders = put d.cylinders d.cylinder (under d) d.front.head e.written;
      cylinder = d.cylinder;
      home = d.home;
      front = e.front;
    }

-- A seek moves the arm to the index of the track that it names; a bad one is command reject, and
-- the arm stays.
abbrev pub moved : Disk → Option Seek → Disk
moved d None = keeps d (fails d.front 0x80 0).front
moved d (Some s) =
    record {
      volser = d.volser;
      cylinders = d.cylinders;
      cylinder = s.cylinder;
      home = d.home;
      front = resting (record (d.front) { head = s.head; place = Index; points = 0 });
    }

-- the track that the bytes of a seek name
abbrev pub seek_of : Disk → Option Seek
seek_of d = sought (length d.cylinders) d.front.bytes

-- unit check if a seek names no track
abbrev pub seek_status : Option Seek → UnitStatus
seek_status None = unit_check
seek_status (Some s) = no_status

-- whether the pending command is a seek
abbrev pub is_seeking : PendingCommand → Bool
is_seeking jobs.Seek = true
is_seeking jobs.Nothing = false
is_seeking (jobs.Give status) = false
is_seeking jobs.SetMask = false
is_seeking jobs.SearchHome = false
is_seeking (jobs.SearchId comparison i) = false
is_seeking (jobs.SearchKey i) = false
is_seeking (jobs.WriteData i) = false
is_seeking (jobs.WriteBoth i) = false
is_seeking (jobs.WriteRecord i) = false

-- The six bytes of a seek's argument, when they are there.
abbrev pub six_of : List ℕ → List ℕ
six_of bytes =
    slice_index bytes 0
    ∷ slice_index bytes 1
    ∷ slice_index bytes 2
    ∷ slice_index bytes 3
    ∷ slice_index bytes 4
    ∷ slice_index bytes 5
    ∷ []

-- the argument of a seek, if all of it has come
abbrev pub argument_held : Front → Option (List ℕ)
argument_held f = if is_seeking f.job && nat_le 6 (length f.bytes) then Some (six_of f.bytes)
    else None

-- A byte further, given or taken.
abbrev pub gave : Front → Front
gave f = if nat_lt f.given (length f.bytes) then record f { given = f.given + 1 } else f

-- the front after it has taken a byte
abbrev pub took : Front → ℕ → Front
took f byte = if nat_lt (length f.bytes) longest then record f { bytes = f.bytes ++ byte ∷ [] }
    else f

-- A Write CKD wants as many bytes as its first eight say.
abbrev pub is_done : Front → PendingCommand → Bool
is_done f (jobs.WriteRecord i) = is_whole f.bytes
is_done f jobs.Nothing = false
is_done f (jobs.Give status) = false
is_done f jobs.SetMask = false
is_done f jobs.Seek = false
is_done f jobs.SearchHome = false
is_done f (jobs.SearchId comparison i) = false
is_done f (jobs.SearchKey i) = false
is_done f (jobs.WriteData i) = false
is_done f (jobs.WriteBoth i) = false

-- the disk after its command has moved all its bytes
abbrev pub finished : Disk → Disk
finished d = if is_seeking d.front.job then moved d (seek_of d) else after d (ending d)

-- the status with which the command ends
abbrev pub status : Disk → UnitStatus
status d = if is_seeking d.front.job then seek_status (seek_of d) else (ending d).status

-- the disk after a command has begun
abbrev pub started : Disk → Order → Disk
started d order = keeps (aimed d (is_ipl order)) (begins (aimed d (is_ipl order)) order).front

-- The unit as a device.
abbrev pub disk_machine : Machine Disk
disk_machine =
    record {
      answer = λ d order. (begins (aimed d (is_ipl order)) order).answer;
      started = started;
      done = λ d. is_done d.front d.front.job;
      gives = λ d. slice_index d.front.bytes d.front.given;
      gave = λ d. keeps d (gave d.front);
      took = λ d byte. keeps d (took d.front byte);
      status = status;
      finished = finished;
    }

-- A unit at the start: its arm is at the index of a track, and no command is being carried out.
abbrev pub idle : VolumeFormat → Arm → Disk
idle v arm =
    record {
      volser = v.volser;
      cylinders = v.cylinders;
      cylinder = arm.cylinder;
      home = arm.home;
      front = record {
        writable = arm.writable;
        head = arm.head;
        place = Index;
        mask = 0;
        points = 0;
        right = rights.Nothing;
        sense = arm.sense;
        job = jobs.Nothing;
        bytes = [];
        given = 0;
      };
    }

-- From outside: a reset. The unit is as at the start and has no sense; its arm stays.
abbrev pub volume_of : Disk → VolumeFormat
volume_of d = record { volser = d.volser; cylinders = d.cylinders }

-- an arm at a place, without sense
abbrev pub without_sense : Disk → ℕ → ℕ → Arm
without_sense d cylinder head =
    record {
      cylinder = cylinder;
      head = head;
      home = d.home;
      writable = d.front.writable;
      sense = sense_of 0 0;
    }

-- the disk after a reset
abbrev pub disk_reset : Disk → Disk
disk_reset d = idle (volume_of d) (without_sense d d.cylinder d.front.head)

-- LOGON finds the arm at the first track.
abbrev pub disk_cleared : Disk → Disk
disk_cleared d = idle (volume_of d) (without_sense d 0 0)

-- After a program: its arm and its sense are all that outlasts one.
abbrev pub arm_of : Disk → Arm
arm_of d =
    record {
      cylinder = d.cylinder;
      head = d.front.head;
      home = d.home;
      writable = d.front.writable;
      sense = d.front.sense;
    }

-- the disk after a program
abbrev pub rested : Disk → Disk
rested d = idle (volume_of d) (arm_of d)
