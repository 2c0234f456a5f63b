-- Writes: who may write, and what is on the track then.
use Rattle.std.specs.Prelude.{ℕ, ◌+◌, ◌*◌, ◌==◌, Bool, true, false, nat_lt, nat_le, not, ◌&&◌, ◌||◌}
use Rattle.std.specs.Prelude.{if◌then◌else◌, List, length, take, drop, slice_index, bit_and}
use Rattle.s370_walk.specs.declared.parts.Answer.TheVariants.{Refused}
use Rattle.ckd_track.specs.Track.{Record, TrackFormat, with_record, with_last, has_room}
use Rattle.ckd_volume.specs.declared.parts.Orientation.TheVariants.{Gap}
use Rattle.ckd_volume.specs.declared.parts.WriteAccess.{WriteAccess}
use Rattle.ckd_volume.specs.declared.parts.WriteAccess.TheVariants as rights
use Rattle.ckd_volume.specs.declared.parts.PendingCommand.{PendingCommand}
use Rattle.ckd_volume.specs.declared.parts.PendingCommand.TheVariants as jobs
use Rattle.ckd_volume.specs.Front.{Front, Cylinder, records_at, record_at}
use Rattle.ckd_volume.specs.Begin.{Begun, refused, rejected, takes, at, exception, unit_exception}
use Rattle.ckd_volume.specs.Begin.{no_status}
use Rattle.ckd_volume.specs.End.{Ended, fails, writes, padded}

-- File mask bits 0-1 of 01 forbid all writes, 10 forbids 1D.
abbrev pub mask_bars : ℕ → ℕ → Bool
mask_bars mask code = (bit_and mask 0xC0 == 0x40) || ((bit_and mask 0xC0 == 0x80) && (code == 0x1D))

-- What the command before gives the right to.
abbrev pub grants : WriteAccess → ℕ → Bool
grants rights.Nothing code = false
grants rights.Home code = code == 0x1D
grants rights.Id code = true
grants rights.Key code = not (code == 0x0D)
grants rights.Record code = code == 0x1D

-- In this order: a disk that is only read is write inhibited; the mask, and a wrong command before,
-- are command reject.
abbrev pub if_writes : Front → WriteAccess → ℕ → Begun → Begun
if_writes f right code begun =
    if not f.writable then refused f 0 0x02
    else if mask_bars f.mask code || not (grants right code) then rejected f else begun

-- the command takes data; a record without data is a unit exception
abbrev pub takes_data : Front → ℕ → PendingCommand → Begun
takes_data f count job = if count == 0 then record { answer = Refused unit_exception; front = f }
    else takes f count job

-- The record that a search found is there: nothing else gives the right to write over one.
abbrev pub if_there : Front → Cylinder → ℕ → Begun → Begun
if_there f cylinder i begun = if nat_lt i (length (records_at cylinder f.head)) then begun
    else rejected f

-- 05 Write Data
abbrev pub data_written : Front → Cylinder → ℕ → Begun
data_written f cylinder i =
    if_there f cylinder i (takes_data (at f f.head 0 (Gap (i + 1)))
    (length (record_at cylinder f.head i).content) (jobs.WriteData i))

-- 0D Write Key and Data
abbrev pub both_length : Record → ℕ
both_length r = length r.key + length r.content

-- 0D Write Key and Data takes them of the record after a search
abbrev pub both_written : Front → Cylinder → ℕ → Begun
both_written f cylinder i =
    if_there f cylinder i (takes_data (at f f.head 0 (Gap (i + 1)))
    (both_length (record_at cylinder f.head i)) (jobs.WriteBoth i))

-- 1D Write Count, Key and Data: at most 8 bytes, 255 and 65,535
abbrev pub longest : ℕ
longest = 65798

-- 1D Write Count, Key and Data takes a record of any length
abbrev pub whole_written : Front → ℕ → Begun
whole_written f i = takes f longest (jobs.WriteRecord i)

-- what is on the track then
abbrev pub with_data : Record → List ℕ → Record
with_data r bytes = record { id = r.id; key = r.key; content = padded (length r.content) bytes }

-- the record with other key and data
abbrev pub with_both : Record → List ℕ → Record
with_both r bytes =
    record {
      id = r.id;
      key = take (length r.key) (padded (both_length r) bytes);
      content = drop (length r.key) (padded (both_length r) bytes);
    }

-- a write to a record that the track does not have fails
abbrev pub if_on : Front → TrackFormat → ℕ → Ended → Ended
if_on f t i ended = if nat_lt i (length t.records) then ended else fails f 0x80 0

-- 05 Write Data leaves the record with other data
abbrev pub data_ended : Front → TrackFormat → ℕ → Record → Ended
data_ended f t i r = if_on f t i (writes f no_status (with_record t i (with_data r f.bytes)))

-- 0D Write Key and Data leaves the record with other key and data
abbrev pub both_ended : Front → TrackFormat → ℕ → Record → Ended
both_ended f t i r = if_on f t i (writes f (exception r) (with_record t i (with_both r f.bytes)))

-- the count that a Write CKD takes first: id, length of the key, length of the data
abbrev pub key_length : List ℕ → ℕ
key_length bytes = slice_index bytes 5

-- the length of the data, in the count that a Write CKD takes first
abbrev pub data_length : List ℕ → ℕ
data_length bytes = 256 * slice_index bytes 6 + slice_index bytes 7

-- how many bytes a Write CKD takes in all
abbrev pub whole_length : List ℕ → ℕ
whole_length bytes = 8 + key_length bytes + data_length bytes

-- the record that the bytes of a Write CKD are
abbrev pub record_of : ℕ → List ℕ → Record
record_of key whole = record {
  id = take 5 whole;
  key = take key (drop 8 whole);
  content = drop (8 + key) whole;
}

-- it wants no more bytes than those
abbrev pub is_whole : List ℕ → Bool
is_whole bytes = nat_le 8 (length bytes) && nat_le (whole_length bytes) (length bytes)

-- The record follows the place, and all later ones are erased; one that the track has no room for
-- is invalid track format.
abbrev pub record_written : Front → TrackFormat → ℕ → Record → Ended
record_written f t i r =
    if nat_le i (length t.records) && has_room t i (length r.key) (length r.content)
    then writes (record f { place = Gap (i + 1); points = 0; right = rights.Record }) no_status
    (with_last t i r)
    else fails f 0 0x40

-- 1D Write Count, Key and Data leaves a record, after which all others are erased
abbrev pub whole_ended : Front → TrackFormat → ℕ → Ended
whole_ended f t i =
    if nat_lt (length f.bytes) 8 then fails f 0x80 0
    else record_written f t i
    (record_of (key_length f.bytes) (padded (whole_length f.bytes) f.bytes))
