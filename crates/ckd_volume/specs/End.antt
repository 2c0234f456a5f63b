-- How a command ends: its status, what the unit keeps then, and what is on the track under the
-- arm, where it wrote.
use Rattle.std.specs.Prelude.{ℕ, ◌-◌, ◌++◌, length, List, [], take, replicate, slice_set, Option}
use Rattle.std.specs.Prelude.{None, Some}
use Rattle.s370_walk.specs.declared.bits.UnitStatus.{UnitStatus}
use Rattle.ckd_track.specs.Track.{TrackFormat}
use Rattle.ckd_volume.specs.declared.parts.PendingCommand.TheVariants as jobs
use Rattle.ckd_volume.specs.Front.{Front, Cylinder}
use Rattle.ckd_volume.specs.Begin.{sense_of, unit_check}

-- how a command ends
pub record Ended : Type 0 where
  pub status : UnitStatus
  pub front : Front
  pub written : Option TrackFormat

-- no command is being carried out
abbrev pub resting : Front → Front
resting f = record f { job = jobs.Nothing; bytes = []; given = 0 }

-- the command ends with this status and writes nothing
abbrev pub ends : Front → UnitStatus → Ended
ends f status = record { status = status; front = resting f; written = None }

-- unit check, with this sense
abbrev pub fails : Front → ℕ → ℕ → Ended
fails f first second = ends (record f { sense = sense_of first second }) unit_check

-- the command ends with this status and leaves this track
abbrev pub writes : Front → UnitStatus → TrackFormat → Ended
writes f status format = record { status = status; front = resting f; written = Some format }

-- Missing bytes of a write are zero.
abbrev pub zeros_to : ℕ → List ℕ → List ℕ
zeros_to count bytes = bytes ++ replicate (count - length bytes) 0

-- bytes cut or filled with zeros to a count
abbrev pub padded : ℕ → List ℕ → List ℕ
padded count bytes = zeros_to count (take count bytes)

-- What was written is on the track under the head.
abbrev pub stands : Cylinder → ℕ → Option TrackFormat → Cylinder
stands cylinder head None = cylinder
stands cylinder head (Some format) = slice_set cylinder head format
