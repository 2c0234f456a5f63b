-- No command changes the home of a disk, or whether it may be written.
use Rattle.std.specs.Prelude.{ℕ, ◌+◌, ◌==◌, ◌≡◌, refl, ◌||◌, ◌&&◌, Bool, true, false, not, nat_lt, nat_le}
use Rattle.std.specs.Prelude.{if◌then◌else◌, List, [], ◌∷◌, ◌++◌, length, drop, bit_and, Option, None, Some}
use Rattle.std.proofs.Common.{◌∙◌}
use Rattle.s370_walk.specs.declared.bits.UnitStatus.{UnitStatus}
use Rattle.s370_walk.specs.declared.parts.Order.{Order}
use Rattle.s370_walk.specs.declared.parts.Answer.TheVariants.{Refused}
use Rattle.ckd_track.specs.Track.{TrackFormat, Record, has_room, with_record, with_last}
use Rattle.ckd_volume.specs.declared.parts.Orientation.TheVariants.{Gap}
use Rattle.ckd_volume.specs.declared.parts.WriteAccess.{WriteAccess}
use Rattle.ckd_volume.specs.declared.parts.WriteAccess.TheVariants as rights
use Rattle.ckd_volume.specs.declared.parts.Comparison.{Comparison}
use Rattle.ckd_volume.specs.declared.parts.Comparison.TheVariants as comparisons
use Rattle.ckd_volume.specs.declared.parts.Wanted.TheVariants as wanted
use Rattle.ckd_volume.specs.declared.parts.Found.{Found}
use Rattle.ckd_volume.specs.declared.parts.Found.TheVariants.{There, Lost}
use Rattle.ckd_volume.specs.declared.parts.PendingCommand.{PendingCommand}
use Rattle.ckd_volume.specs.declared.parts.PendingCommand.TheVariants as jobs
use Rattle.ckd_volume.specs.declared.control.Seek.{Seek}
use Rattle.ckd_volume.specs.Front.{Front, Cylinder, track_at, records_at, record_at, next_at, here_at, counted_at}
use Rattle.ckd_volume.specs.Front.{wants}
use Rattle.ckd_volume.specs.Orientation.{found, first_from, once_round, to_index}
use Rattle.ckd_volume.specs.Begin.{Begun, starting, right_found, refused, rejected, takes, gives, gives_data, at}
use Rattle.ckd_volume.specs.Begin.{exception, no_status, unit_exception}
use Rattle.ckd_volume.specs.End.{Ended, ends, fails, writes, padded}
use Rattle.ckd_volume.specs.Control.{mask_set, sense_bytes}
use Rattle.ckd_volume.specs.Search.{home_searched, id_searched, key_searched, satisfied, fits, id_right}
use Rattle.ckd_volume.specs.Read.{home_read, count_read, data_read, read_key_data, read_count_key_data, both_of}
use Rattle.ckd_volume.specs.Write.{if_writes, if_there, takes_data, both_length, data_written, both_written}
use Rattle.ckd_volume.specs.Write.{whole_written, longest, mask_bars, grants, if_on, with_data, with_both, key_length}
use Rattle.ckd_volume.specs.Write.{whole_length, record_of, record_written, whole_ended}
use Rattle.ckd_volume.specs.Table.{begun, ended}
use Rattle.ckd_volume.specs.Unit.{Disk, under, aimed, is_ipl, begins, keeps, ending, after, moved, seek_of, is_seeking}
use Rattle.ckd_volume.specs.Unit.{disk_machine}
use Rattle.cp_minidisk.specs.Kept.{Keeps}
use Rattle.cp_minidisk.specs.Placed.{IsOwn}

-- ---- How a command begins.

abbrev HasMode : Bool → Begun → Type 0
HasMode w b = b.front.writable ≡ w

module _ (w : Bool) where
  choose : (b : Bool) (x y : Begun) → HasMode w x → HasMode w y → HasMode w (if b then x else y)
  choose true x y s t = s
  choose false x y s t = t

  data_mode : (f : Front) (status : UnitStatus) (bytes : List ℕ) → f.writable ≡ w
      → HasMode w (gives_data f status bytes)
  data_mode f status bytes e = choose (length bytes == 0) (record { answer = Refused status; front = f })
      (gives f status bytes) e e

  home_mode : (f : Front) (c : Cylinder) (x : Found) → f.writable ≡ w → HasMode w (home_read f c x)
  home_mode f c (Lost head second) e = e
  home_mode f c (There head i points) e = e

  count_mode : (f : Front) (c : Cylinder) (x : Found) → f.writable ≡ w → HasMode w (count_read f c x)
  count_mode f c (Lost head second) e = e
  count_mode f c (There head i points) e = e

  read_mode : (f : Front) (c : Cylinder) (x : Found) → f.writable ≡ w → HasMode w (data_read f c x)
  read_mode f c (Lost head second) e = e
  read_mode f c (There head i points) e = data_mode (at f head 0 (Gap (i + 1))) (exception (record_at c head i))
      (record_at c head i).content e

  both_mode : (f : Front) (c : Cylinder) (x : Found) → f.writable ≡ w → HasMode w (read_key_data f c x)
  both_mode f c (Lost head second) e = e
  both_mode f c (There head i points) e = data_mode (at f head 0 (Gap (i + 1))) (exception (record_at c head i))
      (both_of (record_at c head i)) e

  whole_mode : (f : Front) (c : Cylinder) (x : Found) → f.writable ≡ w → HasMode w (read_count_key_data f c x)
  whole_mode f c (Lost head second) e = e
  whole_mode f c (There head i points) e = e

  search_home_mode : (f : Front) (x : Found) → f.writable ≡ w → HasMode w (home_searched f x)
  search_home_mode f (Lost head second) e = e
  search_home_mode f (There head i points) e = e

  search_id_mode : (f : Front) (k : Comparison) (x : Found) → f.writable ≡ w → HasMode w (id_searched f k x)
  search_id_mode f k (Lost head second) e = e
  search_id_mode f k (There head i points) e = e

  search_key_mode : (f : Front) (c : Cylinder) (x : Found) → f.writable ≡ w → HasMode w (key_searched f c x)
  search_key_mode f c (Lost head second) e = e
  search_key_mode f c (There head i points) e = e

  write_mode : (f : Front) (right : WriteAccess) (code : ℕ) (b : Begun) → f.writable ≡ w → HasMode w b
      → HasMode w (if_writes f right code b)
  write_mode f right code b e t =
      choose (not f.writable) (refused f 0 2) (if mask_bars f.mask code || not
      (grants right code) then rejected f else b) e
      (choose (mask_bars f.mask code || not (grants right code)) (rejected f) b e t)

  takes_mode : (f : Front) (count : ℕ) (job : PendingCommand) → f.writable ≡ w → HasMode w (takes_data f count job)
  takes_mode f count job e = choose (count == 0) (record { answer = Refused unit_exception; front = f })
      (takes f count job) e e

  there_mode : (f : Front) (c : Cylinder) (i : ℕ) (b : Begun) → f.writable ≡ w → HasMode w b
      → HasMode w (if_there f c i b)
  there_mode f c i b e t = choose (nat_lt i (length (records_at c f.head))) b (rejected f) t e

  data_written_mode : (f : Front) (c : Cylinder) (i : ℕ) → f.writable ≡ w → HasMode w (data_written f c i)
  data_written_mode f c i e = there_mode f c i (takes_data (at f f.head 0 (Gap (i + 1)))
      (length (record_at c f.head i).content) (jobs.WriteData i)) e
      (takes_mode (at f f.head 0 (Gap (i + 1))) (length (record_at c f.head i).content) (jobs.WriteData i) e)

  both_written_mode : (f : Front) (c : Cylinder) (i : ℕ) → f.writable ≡ w → HasMode w (both_written f c i)
  both_written_mode f c i e = there_mode f c i (takes_data (at f f.head 0 (Gap (i + 1)))
      (both_length (record_at c f.head i)) (jobs.WriteBoth i)) e
      (takes_mode (at f f.head 0 (Gap (i + 1))) (both_length (record_at c f.head i)) (jobs.WriteBoth i) e)

  begun_mode : (f : Front) (right : WriteAccess) (c : Cylinder) (order : Order) → f.writable ≡ w
      → HasMode w (begun f right c order)
  begun_mode f right c order e =
      let code : ℕ = order.command.code in
      choose (code == 0x03) _ _ e (
      choose (code == 0x04) _ _ (choose (order.first && (bit_and order.flags.bits 192 == 0))
      (gives f no_status (sense_bytes f.sense)) (rejected f) e e) (
      choose (code == 0x07) _ _ (choose (bit_and f.mask 24 == 0) (takes f 6 jobs.Seek) (refused f 0 4) e e) (
      choose (code == 0x1F) _ _ e (
      choose (code == 0x1A) _ _ (home_mode f c (to_index 0x1A f f.place) e) (
      choose (code == 0x39 || code == 0xB9) _ _ (search_home_mode f (to_index code f f.place) e) (
      choose (code == 0x31 || code == 0xB1) _ _ (search_id_mode f comparisons.Equal
      (found code (wants wanted.Any) c f (next_at f.place)) e) (
      choose (code == 0x51 || code == 0xD1) _ _ (search_id_mode f comparisons.High
      (found code (wants wanted.Any) c f (next_at f.place)) e) (
      choose (code == 0x71 || code == 0xF1) _ _ (search_id_mode f comparisons.EqualOrHigh
      (found code (wants wanted.Any) c f (next_at f.place)) e) (
      choose (code == 0x29 || code == 0xA9) _ _ (search_key_mode f c
      (found code (wants wanted.Keyed) c f (counted_at f.place)) e) (
      choose (code == 0x12) _ _ (count_mode f c (found 0x12 (wants wanted.Any) c f (next_at f.place)) e) (
      choose (code == 0x06) _ _ (read_mode f c (found 0x06 (wants wanted.Any) c f (here_at f.place)) e) (
      choose (code == 0x0E) _ _ (both_mode f c (found 0x0E (wants wanted.Any) c f (counted_at f.place)) e) (
      choose (code == 0x1E) _ _ (whole_mode f c (found 0x1E (wants wanted.Any) c f (next_at f.place)) e) (
      choose (code == 0x02) _ _ (choose order.first (data_read f c
      (once_round f.head 0 (first_from (wants wanted.First) (records_at c f.head) 0))) (rejected f)
      (read_mode f c (once_round f.head 0 (first_from (wants wanted.First) (records_at c f.head) 0)) e) e) (
      choose (code == 0x05) _ _ (write_mode f right 0x05 (data_written f c (here_at f.place)) e
      (data_written_mode f c (here_at f.place) e)) (
      choose (code == 0x0D) _ _ (write_mode f right 0x0D (both_written f c (here_at f.place)) e
      (both_written_mode f c (here_at f.place) e)) (
      choose (code == 0x1D) _ _ (write_mode f right 0x1D (whole_written f (next_at f.place)) e e)
      e)))))))))))))))))

  starting_mode : (f : Front) (first : Bool) → f.writable ≡ w → (starting f first).writable ≡ w
  starting_mode f true e = e
  starting_mode f false e = e

  -- ---- How it ends.

  choose_end : (b : Bool) (x y : Ended) → x.front.writable ≡ w → y.front.writable ≡ w
      → (if b then x else y).front.writable ≡ w
  choose_end true x y s t = s
  choose_end false x y s t = t

  mask_mode : (f : Front) (bytes : List ℕ) → f.writable ≡ w → (mask_set f bytes).front.writable ≡ w
  mask_mode f [] e = e
  mask_mode f (b ∷ bs) e = choose_end (bit_and b 39 == 0) (ends (record f { mask = b }) no_status) (fails f 0x80 0) e e

  satisfied_mode : (f : Front) (right : WriteAccess) (b : Bool) → f.writable ≡ w
      → (satisfied f right b).front.writable ≡ w
  satisfied_mode f right true e = e
  satisfied_mode f right false e = e

  on_mode : (f : Front) (t : TrackFormat) (i : ℕ) (x : Ended) → f.writable ≡ w → x.front.writable ≡ w
      → (if_on f t i x).front.writable ≡ w
  on_mode f t i x e s = choose_end (nat_lt i (length t.records)) x (fails f 0x80 0) s e

  record_mode : (f : Front) (t : TrackFormat) (i : ℕ) (r : Record) → f.writable ≡ w
      → (record_written f t i r).front.writable ≡ w
  record_mode f t i r e = choose_end (nat_le i (length t.records) && has_room t i (length r.key) (length r.content))
      (writes (record f { place = Gap (i + 1); points = 0; right = rights.Record }) no_status (with_last t i r))
      (fails f 0 0x40) e e

  written_mode : (f : Front) (t : TrackFormat) (i : ℕ) → f.writable ≡ w → (whole_ended f t i).front.writable ≡ w
  written_mode f t i e =
      let r : Record = record_of (key_length f.bytes) (padded (whole_length f.bytes) f.bytes) in
      choose_end (nat_lt (length f.bytes) 8) (fails f 0x80 0) (record_written f t i r) e (record_mode f t i r e)

  ended_mode : (f : Front) (c : Cylinder) (job : PendingCommand) → f.writable ≡ w → (ended f c job).front.writable ≡ w
  ended_mode f c jobs.Nothing e = e
  ended_mode f c (jobs.Give status) e = e
  ended_mode f c jobs.SetMask e = mask_mode f f.bytes e
  ended_mode f c jobs.Seek e = e
  ended_mode f c jobs.SearchHome e = satisfied_mode f rights.Home
      (fits comparisons.Equal f.bytes (drop 1 (track_at c f.head).home)) e
  ended_mode f c (jobs.SearchId k i) e = satisfied_mode f (id_right k) (fits k f.bytes (record_at c f.head i).id) e
  ended_mode f c (jobs.SearchKey i) e = satisfied_mode f rights.Key
      (fits comparisons.Equal f.bytes (record_at c f.head i).key) e
  ended_mode f c (jobs.WriteData i) e = on_mode f (track_at c f.head) i
      (writes f no_status (with_record (track_at c f.head) i (with_data (record_at c f.head i) f.bytes))) e e
  ended_mode f c (jobs.WriteBoth i) e = on_mode f (track_at c f.head) i
      (writes f (exception (record_at c f.head i)) (with_record (track_at c f.head) i
      (with_both (record_at c f.head i) f.bytes))) e e
  ended_mode f c (jobs.WriteRecord i) e = written_mode f (track_at c f.head) i e

  -- ---- Each step of the disk.

  aimed_mode : (d : Disk) (ipl : Bool) → d.front.writable ≡ w → (aimed d ipl).front.writable ≡ w
  aimed_mode d true e = e
  aimed_mode d false e = e

  begins_mode : (d : Disk) (order : Order) → d.front.writable ≡ w → (begins d order).front.writable ≡ w
  begins_mode d order e = begun_mode (starting d.front order.first) (right_found d.front order.first) (under d) order
      (starting_mode d.front order.first e)

  gave_mode : (d : Disk) → d.front.writable ≡ w → (disk_machine.gave d).front.writable ≡ w
  gave_mode d e = by_place (nat_lt d.front.given (length d.front.bytes))
    where
      by_place : (b : Bool) → (if b then record (d.front) { given = d.front.given + 1 } else d.front).writable ≡ w
      by_place true = e
      by_place false = e

  took_mode : (d : Disk) (byte : ℕ) → d.front.writable ≡ w → (disk_machine.took d byte).front.writable ≡ w
  took_mode d byte e = by_room (nat_lt (length d.front.bytes) longest)
    where
      by_room : (b : Bool) → (if b then record (d.front) { bytes = d.front.bytes ++ byte ∷ [] } else d.front).writable ≡
          w
      by_room true = e
      by_room false = e

  moved_mode : (d : Disk) (s : Option Seek) → d.front.writable ≡ w → (moved d s).front.writable ≡ w
  moved_mode d None e = e
  moved_mode d (Some s) e = e

  finished_mode : (d : Disk) → d.front.writable ≡ w → (disk_machine.finished d).front.writable ≡ w
  finished_mode d e = by_job (is_seeking d.front.job)
    where
      by_job : (b : Bool) → (if b then moved d (seek_of d) else after d (ending d)).front.writable ≡ w
      by_job true = moved_mode d (seek_of d) e
      by_job false = ended_mode d.front (under d) d.front.job e

  -- whether the disk may be written stays
  pub disk_mode : Keeps disk_machine (λ d. d.front.writable ≡ w)
  disk_mode =
      record {
        started = λ d order e. begins_mode (aimed d (is_ipl order)) order (aimed_mode d (is_ipl order) e);
        gave = gave_mode;
        took = took_mode;
        finished = finished_mode;
      }

  aimed_home : (d : Disk) (ipl : Bool) → (aimed d ipl).home ≡ d.home
  aimed_home d true = refl
  aimed_home d false = refl

  moved_home : (d : Disk) (s : Option Seek) → (moved d s).home ≡ d.home
  moved_home d None = refl
  moved_home d (Some s) = refl

  finished_home : (d : Disk) → (disk_machine.finished d).home ≡ d.home
  finished_home d = by_job (is_seeking d.front.job)
    where
      by_job : (b : Bool) → (if b then moved d (seek_of d) else after d (ending d)).home ≡ d.home
      by_job true = moved_home d (seek_of d)
      by_job false = refl

  pub disk_own : Keeps disk_machine (IsOwn w)
  disk_own =
      record {
        started = λ d order own. record {
          home = aimed_home d (is_ipl order)
              ∙ own.home;
          mode = disk_mode.started d order own.mode;
        };
        gave = λ d own. record { home = own.home; mode = disk_mode.gave d own.mode };
        took = λ d byte own. record { home = own.home; mode = disk_mode.took d byte own.mode };
        finished = λ d own. record { home = finished_home d ∙ own.home; mode = disk_mode.finished d own.mode };
      }
