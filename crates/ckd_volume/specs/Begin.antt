-- How a command begins: what the unit answers, and what it keeps then.
use Rattle.std.specs.Prelude.{ℕ, ◌==◌, Bool, true, false, if◌then◌else◌, List, [], length}
use Rattle.s370_walk.specs.declared.bits.UnitStatus.{UnitStatus}
use Rattle.s370_walk.specs.declared.parts.Answer.{Answer}
use Rattle.s370_walk.specs.declared.parts.Answer.TheVariants.{Refused, Input, Output}
use Rattle.ckd_track.specs.Track.{Record}
use Rattle.ckd_volume.specs.declared.parts.Orientation.{Orientation}
use Rattle.ckd_volume.specs.declared.parts.Orientation.TheVariants.{Index}
use Rattle.ckd_volume.specs.declared.parts.WriteAccess.{WriteAccess}
use Rattle.ckd_volume.specs.declared.parts.WriteAccess.TheVariants as rights
use Rattle.ckd_volume.specs.declared.parts.PendingCommand.{PendingCommand}
use Rattle.ckd_volume.specs.declared.parts.PendingCommand.TheVariants as jobs
use Rattle.ckd_volume.specs.declared.parts.Sense.{Sense}
use Rattle.ckd_volume.specs.Front.{Front}

-- how a command begins: what the unit answers, and its front after that
pub record Begun : Type 0 where
  pub answer : Answer
  pub front : Front

-- Unit status: unit check, unit exception, status modifier.
abbrev pub no_status : UnitStatus
no_status = record { bits = 0x00 }

-- the unit status unit check
abbrev pub unit_check : UnitStatus
unit_check = record { bits = 0x02 }

-- the unit status unit exception
abbrev pub unit_exception : UnitStatus
unit_exception = record { bits = 0x01 }

-- the unit status status modifier
abbrev pub status_modifier : UnitStatus
status_modifier = record { bits = 0x40 }

-- A program starts at the index, with file mask 00 and no index points; a command starts without
-- the right to write.
abbrev pub starting : Front → Bool → Front
starting f true = record
    f {
      place = Index;
      mask = 0;
      points = 0;
      right = rights.Nothing;
      job = jobs.Nothing;
      bytes = [];
      given = 0;
    }
starting f false = record f { right = rights.Nothing; job = jobs.Nothing; bytes = []; given = 0 }

-- The right to write that a command finds, given that it is the first of its program or not: what
-- the command before gave, if that is one of the same program.
abbrev pub right_found : Front → Bool → WriteAccess
right_found f true = rights.Nothing
right_found f false = f.right

-- Sense bytes 0 and 1.
abbrev pub sense_of : ℕ → ℕ → Sense
sense_of first second = record { first = first; second = second }

-- A refusal is unit check, and its sense replaces the old one.
abbrev pub refused : Front → ℕ → ℕ → Begun
refused f first second =
    record { answer = Refused unit_check; front = record f { sense = sense_of first second } }

-- command reject
abbrev pub rejected : Front → Begun
rejected f = refused f 0x80 0

-- the record was not found; the arm keeps the head that it came to
abbrev pub lost : Front → ℕ → ℕ → Begun
lost f head second = refused (record f { head = head }) 0 second

-- these bytes are given, and this status ends them
abbrev pub gives : Front → UnitStatus → List ℕ → Begun
gives f status bytes = record {
  answer = Input (length bytes);
  front = record f { job = jobs.Give status; bytes = bytes };
}

-- so many bytes are taken
abbrev pub takes : Front → ℕ → PendingCommand → Begun
takes f count job = record { answer = Output count; front = record f { job = job } }

-- the arm has this head, and is at this place after so many index points
abbrev pub at : Front → ℕ → ℕ → Orientation → Front
at f head points place = record f { head = head; place = place; points = points }

-- A record without data is a unit exception: after the bytes before its data, or at the start where
-- there are none.
abbrev pub exception_of : List ℕ → UnitStatus
exception_of content = if length content == 0 then unit_exception else no_status

-- the unit exception of a record without data, which marks an end of file
abbrev pub exception : Record → UnitStatus
exception r = exception_of r.content

-- the command gives data; if there are none it ends with this status
abbrev pub gives_data : Front → UnitStatus → List ℕ → Begun
gives_data f status bytes = if length bytes == 0 then record { answer = Refused status; front = f }
    else gives f status bytes
