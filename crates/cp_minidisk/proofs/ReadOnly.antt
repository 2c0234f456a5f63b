-- A disk that is only read is not written.
use Rattle.std.specs.Prelude.{ℕ, ◌+◌, ◌==◌, ◌≡◌, ◌||◌, ◌&&◌, refl, Bool, true, false, not, nat_lt, if◌then◌else◌, List}
use Rattle.std.specs.Prelude.{[], ◌∷◌, ◌++◌, length, drop, slice_index_or, bit_and, Option, None, Some}
use Rattle.std.proofs.Common.{◌∙◌}
use Rattle.std.proofs.lemmas.List.{set-get_or}
use Rattle.s370_walk.specs.declared.bits.UnitStatus.{UnitStatus}
use Rattle.s370_walk.specs.declared.parts.Order.{Order}
use Rattle.s370_walk.specs.declared.parts.Answer.TheVariants.{Refused}
use Rattle.ckd_track.specs.Track.{TrackFormat, count_bytes}
use Rattle.ckd_volume.specs.declared.parts.Orientation.{Orientation}
use Rattle.ckd_volume.specs.declared.parts.Orientation.TheVariants.{Gap, Count, Key}
use Rattle.ckd_volume.specs.declared.parts.WriteAccess.{WriteAccess}
use Rattle.ckd_volume.specs.declared.parts.WriteAccess.TheVariants as rights
use Rattle.ckd_volume.specs.declared.parts.Comparison.{Comparison}
use Rattle.ckd_volume.specs.declared.parts.Comparison.TheVariants as comparisons
use Rattle.ckd_volume.specs.declared.parts.Wanted.TheVariants as wanted
use Rattle.ckd_volume.specs.declared.parts.Found.{Found}
use Rattle.ckd_volume.specs.declared.parts.Found.TheVariants.{There, Lost}
use Rattle.ckd_volume.specs.declared.parts.PendingCommand.{PendingCommand}
use Rattle.ckd_volume.specs.declared.parts.PendingCommand.TheVariants as jobs
use Rattle.ckd_volume.specs.declared.control.Seek.{Seek}
use Rattle.ckd_volume.specs.Front.{Front, Cylinder, track_at, records_at, record_at, next_at, here_at, counted_at}
use Rattle.ckd_volume.specs.Front.{wants}
use Rattle.ckd_volume.specs.Orientation.{found, first_from, once_round, to_index}
use Rattle.ckd_volume.specs.Begin.{Begun, starting, right_found, refused, rejected, lost, gives, takes, at, exception}
use Rattle.ckd_volume.specs.Begin.{gives_data, no_status, unit_check, status_modifier, sense_of}
use Rattle.ckd_volume.specs.End.{Ended, ends, fails}
use Rattle.ckd_volume.specs.Control.{mask_set, sense_bytes}
use Rattle.ckd_volume.specs.Search.{home_searched, id_searched, key_searched, satisfied, fits, id_right}
use Rattle.ckd_volume.specs.Read.{home_read, count_read, data_read, read_key_data, read_count_key_data, ipl_read}
use Rattle.ckd_volume.specs.Read.{both_of, whole_of}
use Rattle.ckd_volume.specs.Write.{if_writes, data_written, both_written, whole_written, longest, mask_bars, grants}
use Rattle.ckd_volume.specs.Table.{begun, ended}
use Rattle.ckd_volume.specs.Unit.{Disk, under, aimed, is_ipl, begins, keeps, ending, after, put, moved, seek_of}
use Rattle.ckd_volume.specs.Unit.{is_seeking, disk_machine}
use Rattle.cp_minidisk.specs.Placed.{IsReadOnly, is_writing}
use Rattle.cp_minidisk.specs.Kept.{Keeps}

-- the front of a disk that is only read, with no write to be carried out
record IsSafe (f : Front) : Type 0 where
  protected : f.writable ≡ false
  writes_nothing : is_writing f.job ≡ false

starting_safe : (f : Front) (first : Bool) → f.writable ≡ false → IsSafe (starting f first)
starting_safe f true e = record { protected = e; writes_nothing = refl }
starting_safe f false e = record { protected = e; writes_nothing = refl }

choose : (b : Bool) (x y : Begun) → IsSafe x.front → IsSafe y.front → IsSafe (if b then x else y).front
choose true x y s t = s
choose false x y s t = t

barred : (w : Bool) (x y : Begun) → w ≡ false → IsSafe x.front → IsSafe (if not w then x else y).front
barred true x y e s = absurd (cc)
barred false x y e s = s

module _ (f : Front) (safe : IsSafe f) where
  refused_safe : (first second : ℕ) → IsSafe (refused f first second).front
  refused_safe first second = record { protected = safe.protected; writes_nothing = safe.writes_nothing }

  lost_safe : (head second : ℕ) → IsSafe (lost f head second).front
  lost_safe head second = record { protected = safe.protected; writes_nothing = safe.writes_nothing }

  at_safe : (head points : ℕ) (place : Orientation) → IsSafe (at f head points place)
  at_safe head points place = record { protected = safe.protected; writes_nothing = safe.writes_nothing }

  gives_safe : (status : UnitStatus) (bytes : List ℕ) → IsSafe (gives f status bytes).front
  gives_safe status bytes = record { protected = safe.protected; writes_nothing = refl }

  takes_safe : (count : ℕ) (job : PendingCommand) → is_writing job ≡ false → IsSafe (takes f count job).front
  takes_safe count job e = record { protected = safe.protected; writes_nothing = e }

  data_safe : (status : UnitStatus) (bytes : List ℕ) → IsSafe (gives_data f status bytes).front
  data_safe status bytes = choose (length bytes == 0) (record { answer = Refused status; front = f })
      (gives f status bytes) safe (gives_safe status bytes)

home_safe : (f : Front) (c : Cylinder) (x : Found) → IsSafe f → IsSafe (home_read f c x).front
home_safe f c (Lost head second) s = lost_safe f s head second
home_safe f c (There head i points) s = gives_safe (at f head 0 (Gap 0)) (at_safe f s head 0 (Gap 0)) no_status
    (track_at c head).home

count_safe : (f : Front) (c : Cylinder) (x : Found) → IsSafe f → IsSafe (count_read f c x).front
count_safe f c (Lost head second) s = lost_safe f s head second
count_safe f c (There head i points) s = gives_safe (at f head 0 (Count i)) (at_safe f s head 0 (Count i)) no_status
    (count_bytes (record_at c head i))

read_safe : (f : Front) (c : Cylinder) (x : Found) → IsSafe f → IsSafe (data_read f c x).front
read_safe f c (Lost head second) s = lost_safe f s head second
read_safe f c (There head i points) s =
    data_safe (at f head 0 (Gap (i + 1))) (at_safe f s head 0 (Gap (i + 1))) (exception (record_at c head i))
    (record_at c head i).content

both_safe : (f : Front) (c : Cylinder) (x : Found) → IsSafe f → IsSafe (read_key_data f c x).front
both_safe f c (Lost head second) s = lost_safe f s head second
both_safe f c (There head i points) s =
    data_safe (at f head 0 (Gap (i + 1))) (at_safe f s head 0 (Gap (i + 1))) (exception (record_at c head i))
    (both_of (record_at c head i))

whole_safe : (f : Front) (c : Cylinder) (x : Found) → IsSafe f → IsSafe (read_count_key_data f c x).front
whole_safe f c (Lost head second) s = lost_safe f s head second
whole_safe f c (There head i points) s =
    gives_safe (at f head 0 (Gap (i + 1))) (at_safe f s head 0 (Gap (i + 1))) (exception (record_at c head i))
    (whole_of (record_at c head i))

ipl_safe : (f : Front) (c : Cylinder) (order : Order) (x : Found) → IsSafe f → IsSafe (ipl_read f c order x).front
ipl_safe f c order x s = choose order.first (data_read f c x) (rejected f) (read_safe f c x s) (refused_safe f s 128 0)

search_home_safe : (f : Front) (x : Found) → IsSafe f → IsSafe (home_searched f x).front
search_home_safe f (Lost head second) s = lost_safe f s head second
search_home_safe f (There head i points) s = takes_safe (at f head points (Gap 0))
    (at_safe f s head points (Gap 0)) 4 jobs.SearchHome refl

search_id_safe : (f : Front) (k : Comparison) (x : Found) → IsSafe f → IsSafe (id_searched f k x).front
search_id_safe f k (Lost head second) s = lost_safe f s head second
search_id_safe f k (There head i points) s = takes_safe (at f head points (Count i))
    (at_safe f s head points (Count i)) 5 (jobs.SearchId k i) refl

search_key_safe : (f : Front) (c : Cylinder) (x : Found) → IsSafe f → IsSafe (key_searched f c x).front
search_key_safe f c (Lost head second) s = lost_safe f s head second
search_key_safe f c (There head i points) s =
    takes_safe (at f head points (Key i)) (at_safe f s head points (Key i)) (length (record_at c head i).key)
    (jobs.SearchKey i) refl

write_safe : (f : Front) (right : WriteAccess) (code : ℕ) (b : Begun) → IsSafe f
    → IsSafe (if_writes f right code b).front
write_safe f right code b s =
    barred f.writable (refused f 0 2) (if mask_bars f.mask code || not (grants right code) then rejected f else b)
    s.protected (refused_safe f s 0 2)

-- No command begins a write on it.
begun_safe : (f : Front) (right : WriteAccess) (c : Cylinder) (order : Order) → IsSafe f
    → IsSafe (begun f right c order).front
begun_safe f right c order s =
    let code : ℕ = order.command.code in
    choose (code == 3) _ _ s (
    choose (code == 4) _ _ (choose (order.first && (bit_and order.flags.bits 192 == 0))
    (gives f no_status (sense_bytes f.sense)) (rejected f) (gives_safe f s no_status (sense_bytes f.sense))
    (refused_safe f s 128 0)) (
    choose (code == 7) _ _ (choose (bit_and f.mask 24 == 0) (takes f 6 jobs.Seek) (refused f 0 4)
    (takes_safe f s 6 jobs.Seek refl) (refused_safe f s 0 4)) (
    choose (code == 31) _ _ (takes_safe f s 1 jobs.SetMask refl) (
    choose (code == 26) _ _ (home_safe f c (to_index 26 f f.place) s) (
    choose (code == 57 || code == 185) _ _ (search_home_safe f (to_index code f f.place) s) (
    choose (code == 49 || code == 177) _ _ (search_id_safe f comparisons.Equal
    (found code (wants wanted.Any) c f (next_at f.place)) s) (
    choose (code == 81 || code == 209) _ _ (search_id_safe f comparisons.High
    (found code (wants wanted.Any) c f (next_at f.place)) s) (
    choose (code == 113 || code == 241) _ _ (search_id_safe f comparisons.EqualOrHigh
    (found code (wants wanted.Any) c f (next_at f.place)) s) (
    choose (code == 41 || code == 169) _ _ (search_key_safe f c
    (found code (wants wanted.Keyed) c f (counted_at f.place)) s) (
    choose (code == 18) _ _ (count_safe f c (found 18 (wants wanted.Any) c f (next_at f.place)) s) (
    choose (code == 6) _ _ (read_safe f c (found 6 (wants wanted.Any) c f (here_at f.place)) s) (
    choose (code == 14) _ _ (both_safe f c (found 14 (wants wanted.Any) c f (counted_at f.place)) s) (
    choose (code == 30) _ _ (whole_safe f c (found 30 (wants wanted.Any) c f (next_at f.place)) s) (
    choose (code == 2) _ _ (ipl_safe f c order (once_round f.head 0
    (first_from (wants wanted.First) (records_at c f.head) 0)) s) (
    choose (code == 5) _ _ (write_safe f right 5 (data_written f c (here_at f.place)) s) (
    choose (code == 13) _ _ (write_safe f right 13 (both_written f c (here_at f.place)) s) (
    choose (code == 29) _ _ (write_safe f right 29 (whole_written f (next_at f.place)) s)
    (refused_safe f s 128 0))))))))))))))))))

-- What a command leaves that wrote nothing.
record IsHarmless (e : Ended) : Type 0 where
  nothing : e.written ≡ None
  safe : IsSafe e.front

ends_harmless : (f : Front) (status : UnitStatus) → f.writable ≡ false → IsHarmless (ends f status)
ends_harmless f status e = record { nothing = refl; safe = record { protected = e; writes_nothing = refl } }

choose_end : (b : Bool) (x y : Ended) → IsHarmless x → IsHarmless y → IsHarmless (if b then x else y)
choose_end true x y s t = s
choose_end false x y s t = t

mask_harmless : (f : Front) (bytes : List ℕ) → f.writable ≡ false → IsHarmless (mask_set f bytes)
mask_harmless f [] e = ends_harmless (record f { sense = sense_of 128 0 }) unit_check e
mask_harmless f (b ∷ bs) e = choose_end (bit_and b 39 == 0) (ends (record f { mask = b }) no_status) (fails f 128 0)
    (ends_harmless (record f { mask = b }) no_status e) (ends_harmless
    (record f { sense = sense_of 128 0 }) unit_check e)

satisfied_harmless : (f : Front) (right : WriteAccess) (b : Bool) → f.writable ≡ false
    → IsHarmless (satisfied f right b)
satisfied_harmless f right true e = ends_harmless (record f { right = right }) status_modifier e
satisfied_harmless f right false e = ends_harmless f no_status e

wrong : true ≡ false → ⊥
wrong e = cc

ended_harmless : (f : Front) (c : Cylinder) (job : PendingCommand) → f.writable ≡ false → is_writing job ≡ false
    → IsHarmless (ended f c job)
ended_harmless f c jobs.Nothing e n = ends_harmless f no_status e
ended_harmless f c (jobs.Give status) e n = ends_harmless f status e
ended_harmless f c jobs.SetMask e n = mask_harmless f f.bytes e
ended_harmless f c jobs.Seek e n = ends_harmless (record f { sense = sense_of 128 0 }) unit_check e
ended_harmless f c jobs.SearchHome e n = satisfied_harmless f rights.Home
    (fits comparisons.Equal f.bytes (drop 1 (track_at c f.head).home)) e
ended_harmless f c (jobs.SearchId k i) e n = satisfied_harmless f (id_right k)
    (fits k f.bytes (record_at c f.head i).id) e
ended_harmless f c (jobs.SearchKey i) e n = satisfied_harmless f rights.Key
    (fits comparisons.Equal f.bytes (record_at c f.head i).key) e
ended_harmless f c (jobs.WriteData i) e n = absurd (wrong n)
ended_harmless f c (jobs.WriteBoth i) e n = absurd (wrong n)
ended_harmless f c (jobs.WriteRecord i) e n = absurd (wrong n)

put_nothing : (cylinders : List Cylinder) (at head : ℕ) (written : Option TrackFormat) (c : Cylinder) → written ≡ None
    → put cylinders at (slice_index_or cylinders at []) head written ≡ cylinders
put_nothing cylinders at head written c e = rw e (set-get_or cylinders at [])

module _ (cylinders : List Cylinder) where
  aimed_read_only : (d : Disk) (ipl : Bool) → IsReadOnly cylinders d → IsReadOnly cylinders (aimed d ipl)
  aimed_read_only d true i = record { same = i.same; protected = i.protected; writes_nothing = i.writes_nothing }
  aimed_read_only d false i = i

  keeps_read_only : (d : Disk) (f : Front) → d.cylinders ≡ cylinders → IsSafe f → IsReadOnly cylinders (keeps d f)
  keeps_read_only d f e s = record { same = e; protected = s.protected; writes_nothing = s.writes_nothing }

  begins_read_only : (d : Disk) (order : Order) → IsReadOnly cylinders d
      → IsReadOnly cylinders (keeps d (begins d order).front)
  begins_read_only d order i =
      keeps_read_only d (begins d order).front i.same (begun_safe (starting d.front order.first)
      (right_found d.front order.first) (under d) order (starting_safe d.front order.first i.protected))

  started_read_only : (d : Disk) (order : Order) → IsReadOnly cylinders d
      → IsReadOnly cylinders (disk_machine.started d order)
  started_read_only d order i = begins_read_only (aimed d (is_ipl order)) order (aimed_read_only d (is_ipl order) i)

  gave_read_only : (d : Disk) → IsReadOnly cylinders d → IsReadOnly cylinders (disk_machine.gave d)
  gave_read_only d i = by_place (nat_lt d.front.given (length d.front.bytes))
    where
      by_place : (b : Bool) → IsReadOnly cylinders (keeps d (if b then record
          (d.front) { given = d.front.given + 1 } else d.front))
      by_place true = record { same = i.same; protected = i.protected; writes_nothing = i.writes_nothing }
      by_place false = record { same = i.same; protected = i.protected; writes_nothing = i.writes_nothing }

  took_read_only : (d : Disk) (byte : ℕ) → IsReadOnly cylinders d → IsReadOnly cylinders (disk_machine.took d byte)
  took_read_only d byte i = by_room (nat_lt (length d.front.bytes) longest)
    where
      by_room : (b : Bool) → IsReadOnly cylinders (keeps d (if b then record
          (d.front) { bytes = d.front.bytes ++ byte ∷ [] } else d.front))
      by_room true = record { same = i.same; protected = i.protected; writes_nothing = i.writes_nothing }
      by_room false = record { same = i.same; protected = i.protected; writes_nothing = i.writes_nothing }

  after_read_only : (d : Disk) (e : Ended) → IsReadOnly cylinders d → IsHarmless e → IsReadOnly cylinders (after d e)
  after_read_only d e i s =
      record {
        same = put_nothing d.cylinders d.cylinder d.front.head e.written (under d) s.nothing
            ∙ i.same;
        protected = s.safe.protected;
        writes_nothing = s.safe.writes_nothing;
      }

  moved_read_only : (d : Disk) (s : Option Seek) → IsReadOnly cylinders d → IsReadOnly cylinders (moved d s)
  moved_read_only d None i = record { same = i.same; protected = i.protected; writes_nothing = refl }
  moved_read_only d (Some s) i = record { same = i.same; protected = i.protected; writes_nothing = refl }

  finished_read_only : (d : Disk) → IsReadOnly cylinders d → IsReadOnly cylinders (disk_machine.finished d)
  finished_read_only d i = by_job (is_seeking d.front.job)
    where
      by_job : (b : Bool) → IsReadOnly cylinders (if b then moved d (seek_of d) else after d (ending d))
      by_job true = moved_read_only d (seek_of d) i
      by_job false = after_read_only d (ending d) i (ended_harmless d.front
          (under d) d.front.job i.protected i.writes_nothing)

  pub disk_read_only : Keeps disk_machine (IsReadOnly cylinders)
  disk_read_only = record {
    started = started_read_only;
    gave = gave_read_only;
    took = took_read_only;
    finished = finished_read_only;
  }
