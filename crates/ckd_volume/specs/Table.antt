-- The table of commands: how each begins, and what it does at its end with the bytes that it took.
use Rattle.std.specs.Prelude.{ℕ, ◌==◌, ◌||◌, if◌then◌else◌, drop}
use Rattle.s370_walk.specs.declared.parts.Order.{Order}
use Rattle.s370_walk.specs.declared.parts.Answer.TheVariants.{Immediate}
use Rattle.ckd_volume.specs.declared.parts.WriteAccess.{WriteAccess}
use Rattle.ckd_volume.specs.declared.parts.WriteAccess.TheVariants as rights
use Rattle.ckd_volume.specs.declared.parts.Comparison.TheVariants as comparisons
use Rattle.ckd_volume.specs.declared.parts.Wanted.TheVariants as wanted
use Rattle.ckd_volume.specs.declared.parts.PendingCommand.{PendingCommand}
use Rattle.ckd_volume.specs.declared.parts.PendingCommand.TheVariants as jobs
use Rattle.ckd_volume.specs.Front.{Front, Cylinder, track_at, records_at, record_at, next_at}
use Rattle.ckd_volume.specs.Front.{here_at, counted_at, wants}
use Rattle.ckd_volume.specs.Orientation.{found, first_from, once_round, to_index}
use Rattle.ckd_volume.specs.Begin.{Begun, takes, rejected, no_status}
use Rattle.ckd_volume.specs.End.{Ended, ends, fails}
use Rattle.ckd_volume.specs.Control.{begin_sense, begin_seek, mask_set}
use Rattle.ckd_volume.specs.Search.{home_searched, id_searched, key_searched, satisfied, fits}
use Rattle.ckd_volume.specs.Search.{id_right}
use Rattle.ckd_volume.specs.Read.{home_read, count_read, data_read, read_key_data}
use Rattle.ckd_volume.specs.Read.{read_count_key_data, ipl_read}
use Rattle.ckd_volume.specs.Write.{if_writes, data_written, both_written, whole_written, data_ended}
use Rattle.ckd_volume.specs.Write.{both_ended, whole_ended}

-- The right is what the command finds. The order is that of docs/MACHINE.md, "Disks".
abbrev pub begun : Front → WriteAccess → Cylinder → Order → Begun
begun f right c order =
    let code : ℕ = order.command.code in
    if code == 0x03 then record { answer = Immediate; front = f }
    else if code == 0x04 then begin_sense f order
    else if code == 0x07 then begin_seek f
    else if code == 0x1F then takes f 1 jobs.SetMask
    else if code == 0x1A then home_read f c (to_index 0x1A f f.place)
    else if code == 0x39 || code == 0xB9 then home_searched f (to_index code f f.place)
    else if code == 0x31 || code == 0xB1
    then id_searched f comparisons.Equal (found code (wants wanted.Any) c f (next_at f.place))
    else if code == 0x51 || code == 0xD1
    then id_searched f comparisons.High (found code (wants wanted.Any) c f (next_at f.place))
    else if code == 0x71 || code == 0xF1
    then id_searched f comparisons.EqualOrHigh (found code (wants wanted.Any) c f (next_at f.place))
    else if code == 0x29 || code == 0xA9
    then key_searched f c (found code (wants wanted.Keyed) c f (counted_at f.place))
    else if code == 0x12 then count_read f c (found 0x12 (wants wanted.Any) c f (next_at f.place))
    else if code == 0x06 then data_read f c (found 0x06 (wants wanted.Any) c f (here_at f.place))
    else if code == 0x0E then read_key_data f c
    (found 0x0E (wants wanted.Any) c f (counted_at f.place))
    else if code == 0x1E then read_count_key_data f c
    (found 0x1E (wants wanted.Any) c f (next_at f.place))
    else if code == 0x02
    then ipl_read f c order (once_round f.head 0
    (first_from (wants wanted.First) (records_at c f.head) 0))
    else if code == 0x05 then if_writes f right 0x05 (data_written f c (here_at f.place))
    else if code == 0x0D then if_writes f right 0x0D (both_written f c (here_at f.place))
    else if code == 0x1D then if_writes f right 0x1D (whole_written f (next_at f.place))
    else rejected f

-- What a command does with its bytes. A seek is the arm's (Unit).
abbrev pub ended : Front → Cylinder → PendingCommand → Ended
ended f c jobs.Nothing = ends f no_status
ended f c (jobs.Give status) = ends f status
ended f c jobs.SetMask = mask_set f f.bytes
ended f c jobs.Seek = fails f 0x80 0
ended f c jobs.SearchHome =
    satisfied f rights.Home (fits comparisons.Equal f.bytes (drop 1 (track_at c f.head).home))
ended f c (jobs.SearchId comparison i) =
    satisfied f (id_right comparison) (fits comparison f.bytes (record_at c f.head i).id)
ended f c (jobs.SearchKey i) =
    satisfied f rights.Key (fits comparisons.Equal f.bytes (record_at c f.head i).key)
ended f c (jobs.WriteData i) = data_ended f (track_at c f.head) i (record_at c f.head i)
ended f c (jobs.WriteBoth i) = both_ended f (track_at c f.head) i (record_at c f.head i)
ended f c (jobs.WriteRecord i) = whole_ended f (track_at c f.head) i
