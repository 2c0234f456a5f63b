-- The unit of a volume that serves a minidisk is the minidisk's, between the other cylinders.
use Rattle.std.specs.Prelude.{ℕ, zero, suc, ◌+◌, ◌-◌, ◌≡◌, ◌<◌, ◌≤◌, refl, Bool, true, false, nat_lt, nat_le, ◌&&◌}
use Rattle.std.specs.Prelude.{if◌then◌else◌, List, [], ◌∷◌, ◌++◌, length, Option, None, Some, Result, Ok, Err, IsOk}
use Rattle.std.specs.Prelude.{IfOk, OnOk}
use Rattle.std.proofs.Common.{sym, ◌∙◌, ap, subst, arith}
use Rattle.s370_walk.specs.declared.parts.Answer.{Answer}
use Rattle.s370_walk.specs.declared.parts.Order.{Order}
use Rattle.s370_walk.specs.Hardware.{given, after_giving, after_taking}
use Rattle.ckd_volume.specs.declared.parts.PendingCommand.{PendingCommand}
use Rattle.ckd_volume.specs.declared.parts.PendingCommand.TheVariants as jobs
use Rattle.ckd_volume.specs.declared.control.Seek.{Seek}
use Rattle.ckd_volume.specs.Front.{Cylinder}
use Rattle.ckd_volume.specs.Control.{sought}
use Rattle.ckd_volume.specs.Unit.{Disk, disk_machine, is_seeking, volume_of, six_of, argument_held, moved, seek_of}
use Rattle.ckd_volume.specs.Unit.{seek_status}
use Rattle.ckd_volume.specs.Write.{longest}
use Rattle.cp_minidisk.specs.Extent.{ExtentValue, IsWithin, relocated_argument}
use Rattle.cp_minidisk.specs.Placed.{placed, holding, IsOnDisk, IsOwn}
use Rattle.cp_minidisk.specs.Kept.{Keeps}
use Rattle.cp_minidisk.specs.Minidisk.{HasExtent, slice, before, behind}
use Rattle.cp_minidisk.specs.Part.{Part, with_disk, part_machine, unit_of, Serves, disk_of, part_of, with_relocated}
use Rattle.cp_minidisk.specs.Part.{relocating}
use Rattle.cp_minidisk.proofs.Placing.{started_placed, answer_placed, finished_placed, status_placed}
use Rattle.cp_minidisk.proofs.Seeking.{extent_behind, room, seek_finished, seek_ends, short_finished, short_ends}
use Rattle.cp_minidisk.proofs.Seeking.{started_on_disk, finished_on_disk}
use Rattle.cp_minidisk.proofs.Sizes.{started_size, finished_size}
use Rattle.cp_minidisk.proofs.Slicing.{Fits, before_size, in_parts, slice_size}
use Rattle.cp_minidisk.proofs.Slicing as slicing
use Rattle.cp_minidisk.proofs.Modes.{disk_own}

-- ---- A command that ends, with the argument of a seek relocated

seeking_job : (job : PendingCommand) → is_seeking job ≡ true → job ≡ jobs.Seek
seeking_job jobs.Seek e = refl
seeking_job jobs.Nothing e = absurd (cc)
seeking_job (jobs.Give status) e = absurd (cc)
seeking_job jobs.SetMask e = absurd (cc)
seeking_job jobs.SearchHome e = absurd (cc)
seeking_job (jobs.SearchId comparison i) e = absurd (cc)
seeking_job (jobs.SearchKey i) e = absurd (cc)
seeking_job (jobs.WriteData i) e = absurd (cc)
seeking_job (jobs.WriteBoth i) e = absurd (cc)
seeking_job (jobs.WriteRecord i) e = absurd (cc)

-- only the first six bytes say where a seek goes
sought_six : (total : ℕ) (bytes : List ℕ) → nat_le 6 (length bytes) ≡ true
    → sought total (six_of bytes) ≡ sought total bytes
sought_six total bytes long = rw long refl

moved_holding : (d : Disk) (bytes : List ℕ) (s : Option Seek) → moved (holding d bytes) s ≡ moved d s
moved_holding d bytes None = refl
moved_holding d bytes (Some s) = refl

module _ (d : Disk) (job : is_seeking d.front.job ≡ true) (long : nat_le 6 (length d.front.bytes) ≡ true) where
  six_finished : disk_machine.finished (holding d (six_of d.front.bytes)) ≡ disk_machine.finished d
  six_finished =
      let same : moved (holding d (six_of d.front.bytes)) (sought (length d.cylinders) (six_of d.front.bytes)) ≡ moved d
      (seek_of d)
      = moved_holding d (six_of d.front.bytes) (sought (length d.cylinders) (six_of d.front.bytes))
      ∙ ap (moved d) (sought_six (length d.cylinders) d.front.bytes long) in
      rw job same

  six_status : disk_machine.status (holding d (six_of d.front.bytes)) ≡ disk_machine.status d
  six_status =
      let same : seek_status (sought (length d.cylinders) (six_of d.front.bytes)) ≡ seek_status (seek_of d)
      = ap seek_status (sought_six (length d.cylinders) d.front.bytes long) in
      rw job same

module _ (e : ExtentValue) (below above : List Cylinder) (d : Disk) (starts : length below ≡ e.start)
    (fits : Fits e d) where
  same_argument : (bytes : List ℕ) → relocated_argument e bytes ≡ relocated_argument (extent_behind below d) bytes
  same_argument bytes = rw (starts, fits.1) refl

  finished_long : is_seeking d.front.job ≡ true → nat_le 6 (length d.front.bytes) ≡ true
      → disk_machine.finished (holding (placed below above d) (relocated_argument e (six_of d.front.bytes))) ≡ placed
      below above (disk_machine.finished d)
  finished_long job long =
      ap (λ a. disk_machine.finished (holding (placed below above d) a)) (same_argument (six_of d.front.bytes))
      ∙ seek_finished below above (holding d (six_of d.front.bytes)) (seeking_job d.front.job job) refl
      ∙ ap (placed below above) (six_finished d job long)

  status_long : is_seeking d.front.job ≡ true → nat_le 6 (length d.front.bytes) ≡ true
      → disk_machine.status (holding (placed below above d) (relocated_argument e (six_of d.front.bytes))) ≡
      disk_machine.status d
  status_long job long =
      ap (λ a. disk_machine.status (holding (placed below above d) a)) (same_argument (six_of d.front.bytes))
      ∙ seek_ends below above (holding d (six_of d.front.bytes)) (seeking_job d.front.job job) refl
      ∙ six_status d job long

  short_of : nat_le 6 (length d.front.bytes) ≡ false → length d.front.bytes < 6
  short_of h = grind arith

  finished_by : (seeks long : Bool) → is_seeking d.front.job ≡ seeks → nat_le 6 (length d.front.bytes) ≡ long
      → disk_machine.finished (with_relocated e (placed below above d)
      (if seeks && long then Some (six_of d.front.bytes) else None)) ≡ placed below above (disk_machine.finished d)
  finished_by true true job long = finished_long job long
  finished_by true false job long = short_finished below above d d.front.bytes (seeking_job d.front.job job) refl
      (short_of long)
  finished_by false true job long = finished_placed below above d fits.0 job
  finished_by false false job long = finished_placed below above d fits.0 job

  status_by : (seeks long : Bool) → is_seeking d.front.job ≡ seeks → nat_le 6 (length d.front.bytes) ≡ long
      → disk_machine.status (with_relocated e (placed below above d)
      (if seeks && long then Some (six_of d.front.bytes) else None)) ≡ disk_machine.status d
  status_by true true job long = status_long job long
  status_by true false job long = short_ends below above d d.front.bytes (seeking_job d.front.job job) refl
      (short_of long)
  status_by false true job long = status_placed below above d fits.0 job
  status_by false false job long = status_placed below above d fits.0 job

  finished_there : disk_machine.finished (relocating e (placed below above d)) ≡ placed below above
      (disk_machine.finished d)
  finished_there = finished_by (is_seeking d.front.job) (nat_le 6 (length d.front.bytes)) refl refl

  status_there : disk_machine.status (relocating e (placed below above d)) ≡ disk_machine.status d
  status_there = status_by (is_seeking d.front.job) (nat_le 6 (length d.front.bytes)) refl refl

  -- the part of the unit with the disk at its place is that disk
  part_there : part_of e (placed below above d) ≡ record { below = below; disk = d; above = above }
  part_there =
      let place : length below + d.cylinder - e.start ≡ d.cylinder = omega (arith, starts) in
      let home : length below + d.home - e.start ≡ d.home = omega (arith, starts) in
      rw (
        slicing.part e below above d starts fits,
        place,
        home,
        slicing.same_before e below above d starts fits,
        slicing.same_behind e below above d starts fits,
      ) refl

  serves_there : IsOwn e.writable d → Serves (placed below above d) e
  serves_there own =
      record {
        inside = omega (arith, room below above d.cylinders, starts, fits.1);
        within = slicing.is_within e below above d starts fits;
        home = omega (arith, starts, own.home);
        mode = own.mode;
      }

-- ---- The unit that serves a minidisk

module _ (e : ExtentValue) (u : Disk) (s : Serves u e) where
  starts : length (before (volume_of u) e) ≡ e.start
  starts = before_size (volume_of u) e s.inside

  fits : Fits e (disk_of e u)
  fits =
      let size : length (slice (volume_of u) e).cylinders ≡ e.count = slice_size (volume_of u) e s.inside in (
        record {
          cylinder = omega (arith, size, s.within.0, s.within.1);
          home = omega (arith, size, s.home, s.within.0, s.within.1);
        },
        size,
      )

  own : IsOwn e.writable (disk_of e u)
  own = record { home = omega (arith, s.home); mode = s.mode }

  pub whole : unit_of (part_of e u) ≡ u
  whole =
      let place : length (before (volume_of u) e) + (u.cylinder - e.start) ≡ u.cylinder = omega
      (arith, starts, s.within.0) in
      let home : length (before (volume_of u) e) + (u.home - e.start) ≡ u.home = omega (arith, starts, s.home) in
      rw (in_parts (volume_of u) e s.inside, place, home) refl

  started_whole : (order : Order) → disk_machine.started u order ≡ placed (before (volume_of u) e)
      (behind (volume_of u) e) (disk_machine.started (disk_of e u) order)
  started_whole order =
      ap (λ x. disk_machine.started x order) (sym whole) ∙ started_placed (before (volume_of u) e)
      (behind (volume_of u) e) (disk_of e u) order fits.0

  started_fits : (order : Order) → Fits e (disk_machine.started (disk_of e u) order)
  started_fits order = (started_on_disk order (disk_of e u) fits.0, started_size (disk_of e u) order ∙ fits.1)

  pub answers : (order : Order) → disk_machine.answer u order ≡ part_machine.answer (part_of e u) order
  answers order =
      ap (λ x. disk_machine.answer x order) (sym whole) ∙ answer_placed (before (volume_of u) e)
      (behind (volume_of u) e) (disk_of e u) order fits.0

  pub starts_part : (order : Order) → part_of e (disk_machine.started u order) ≡ part_machine.started
      (part_of e u) order
  starts_part order =
      ap (part_of e) (started_whole order)
      ∙ part_there e (before (volume_of u) e) (behind (volume_of u) e) (disk_machine.started (disk_of e u) order) starts
      (started_fits order)

  pub starts_serving : (order : Order) → Serves (disk_machine.started u order) e
  starts_serving order =
      let P : Disk → Type 0 = λ x. Serves x e in
      subst P (sym (started_whole order)) (serves_there e (before (volume_of u) e) (behind (volume_of u) e)
      (disk_machine.started (disk_of e u) order) starts (started_fits order)
      ((disk_own e.writable).started (disk_of e u) order own))

  finished_whole : disk_machine.finished (relocating e u) ≡ placed (before (volume_of u) e) (behind (volume_of u) e)
      (disk_machine.finished (disk_of e u))
  finished_whole =
      ap (λ x. disk_machine.finished (relocating e x)) (sym whole)
      ∙ finished_there e (before (volume_of u) e) (behind (volume_of u) e) (disk_of e u) starts fits

  finished_fits : Fits e (disk_machine.finished (disk_of e u))
  finished_fits = (finished_on_disk (disk_of e u) fits.0, finished_size (disk_of e u) ∙ fits.1)

  pub ends_alike : disk_machine.status (relocating e u) ≡ part_machine.status (part_of e u)
  ends_alike =
      ap (λ x. disk_machine.status (relocating e x)) (sym whole)
      ∙ status_there e (before (volume_of u) e) (behind (volume_of u) e) (disk_of e u) starts fits

  pub finishes_part : part_of e (disk_machine.finished (relocating e u)) ≡ part_machine.finished (part_of e u)
  finishes_part =
      ap (part_of e) finished_whole
      ∙ part_there e (before (volume_of u) e) (behind (volume_of u) e)
      (disk_machine.finished (disk_of e u)) starts finished_fits

  pub finishes_serving : Serves (disk_machine.finished (relocating e u)) e
  finishes_serving =
      let P : Disk → Type 0 = λ x. Serves x e in
      subst P (sym finished_whole) (serves_there e (before (volume_of u) e) (behind (volume_of u) e)
      (disk_machine.finished (disk_of e u)) starts finished_fits ((disk_own e.writable).finished (disk_of e u) own))

-- ---- Bytes that move

gave_serving : (e : ExtentValue) (u : Disk) → Serves u e → Serves (disk_machine.gave u) e
gave_serving e u s = record {
  inside = s.inside;
  within = s.within;
  home = s.home;
  mode = by_place (nat_lt u.front.given (length u.front.bytes));
}
  where
    by_place : (b : Bool) → (if b then record (u.front) { given = u.front.given + 1 } else u.front).writable ≡
        e.writable
    by_place true = s.mode
    by_place false = s.mode

took_serving : (e : ExtentValue) (u : Disk) (byte : ℕ) → Serves u e → Serves (disk_machine.took u byte) e
took_serving e u byte s = record {
  inside = s.inside;
  within = s.within;
  home = s.home;
  mode = by_room (nat_lt (length u.front.bytes) longest);
}
  where
    by_room : (b : Bool) → (if b then record (u.front) { bytes = u.front.bytes ++ byte ∷ [] } else u.front).writable ≡
        e.writable
    by_room true = s.mode
    by_room false = s.mode

-- A minidisk gives the bytes that its disk gives.
pub given_alike : (e : ExtentValue) (u : Disk) (n : ℕ) → given disk_machine u n ≡ given part_machine (part_of e u) n
given_alike e u zero = refl
given_alike e u (suc n) = ap (λ l. disk_machine.gives u ∷ l) (given_alike e (disk_machine.gave u) n)

-- After giving bytes a minidisk is that of its disk after them.
pub after_giving_alike : (e : ExtentValue) (u : Disk) (n : ℕ)
    → part_of e (after_giving disk_machine u n) ≡ after_giving part_machine (part_of e u) n
after_giving_alike e u zero = refl
after_giving_alike e u (suc n) = after_giving_alike e (disk_machine.gave u) n

-- A disk serves its minidisk still after giving bytes.
pub after_giving_serving : (e : ExtentValue) (u : Disk) (n : ℕ) → Serves u e → Serves (after_giving disk_machine u n) e
after_giving_serving e u zero s = s
after_giving_serving e u (suc n) s = after_giving_serving e (disk_machine.gave u) n (gave_serving e u s)

-- After taking bytes a minidisk is that of its disk after them.
pub after_taking_alike : (e : ExtentValue) (u : Disk) (bytes : List ℕ)
    → part_of e (after_taking disk_machine u bytes) ≡ after_taking part_machine (part_of e u) bytes
after_taking_alike e u [] = refl
after_taking_alike e u (b ∷ bs) = after_taking_alike e (disk_machine.took u b) bs

-- A disk serves its minidisk still after taking bytes.
pub after_taking_serving : (e : ExtentValue) (u : Disk) (bytes : List ℕ) → Serves u e
    → Serves (after_taking disk_machine u bytes) e
after_taking_serving e u [] s = s
after_taking_serving e u (b ∷ bs) s = after_taking_serving e (disk_machine.took u b) bs (took_serving e u b s)

-- A minidisk is done giving exactly when its disk is.
pub done_giving : (e : ExtentValue) (u : Disk) (n : ℕ) → disk_machine.done
    (after_giving disk_machine u n) ≡ part_machine.done (after_giving part_machine (part_of e u) n)
done_giving e u n = ap (λ p. part_machine.done p) (after_giving_alike e u n)

-- A minidisk is done taking exactly when its disk is.
pub done_taking : (e : ExtentValue) (u : Disk) (bytes : List ℕ)
    → disk_machine.done (after_taking disk_machine u bytes) ≡ part_machine.done
    (after_taking part_machine (part_of e u) bytes)
done_taking e u bytes = ap (λ p. part_machine.done p) (after_taking_alike e u bytes)

-- ---- A command that begins, which is never refused memory

-- What holds on an answer holds if there is one.
pub begun_ok : {E : Type 0} (r : Result Answer E) (x y : Disk) → IsOk r → OnOk r (x ≡ y) → x ≡ y
begun_ok (Ok a) x y is e = e
begun_ok (Err error) x y is e = absurd (cc)

-- Equal minidisks stay equal on an answer.
pub onward_ok : {E : Type 0} (r : Result Answer E) (x y : Part) → x ≡ y → OnOk r (x ≡ y)
onward_ok (Ok a) x y e = e
onward_ok (Err error) x y e = tt

-- An answer that is one value is each that equals it.
pub answer_ok : {E : Type 0} (r : Result Answer E) (x y : Answer) → x ≡ y → IfOk r (λ a. a ≡ x) → IfOk r (λ a. a ≡ y)
answer_ok (Ok a) x y e is = is ∙ e
answer_ok (Err error) x y e is = tt
