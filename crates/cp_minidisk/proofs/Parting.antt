-- What holds of a minidisk as a device of its own along every walk.
use Rattle.std.specs.Prelude.{ℕ, ◌≡◌, refl, Bool, true, false, if◌then◌else◌, List, ◌++◌, length, Option, None, Some}
use Rattle.std.proofs.Common.{sym, ◌∙◌, ap}
use Rattle.s370_walk.specs.Hardware.{Machine}
use Rattle.s370_walk.specs.Walk.{Form, Setting, State, Reaches}
use Rattle.ckd_volume.specs.Front.{Cylinder}
use Rattle.ckd_volume.specs.declared.control.Seek.{Seek}
use Rattle.ckd_volume.specs.Unit.{Disk, disk_machine, aimed, is_ipl, is_seeking, moved, seek_of, after, ending}
use Rattle.cp_minidisk.specs.Extent.{ExtentValue}
use Rattle.cp_minidisk.specs.Kept.{device_in, Keeps}
use Rattle.cp_minidisk.specs.Placed.{IsReadOnly}
use Rattle.cp_minidisk.specs.Part.{Part, with_disk, part_machine, unit_of, extent_of}
use Rattle.cp_minidisk.specs.PartLaws.{HasSameOtherDisks}
use Rattle.cp_minidisk.specs.Projected.{IsPartOf, seen, on_device}
use Rattle.cp_minidisk.proofs.Along.{reach_keeps}
use Rattle.cp_minidisk.proofs.Modes.{disk_mode}
use Rattle.cp_minidisk.proofs.ReadOnly.{disk_read_only}
use Rattle.cp_minidisk.proofs.Sizes.{started_size, finished_size}
use Rattle.cp_minidisk.proofs.Walked.{reaches_seen}

-- A minidisk follows its disk in each step.
pub follows : IsPartOf (λ p. p.disk) part_machine disk_machine
follows =
    record {
      answer = λ p order. refl;
      started = λ p order. refl;
      done = λ p. refl;
      gives = λ p. refl;
      gave = λ p. refl;
      took = λ p byte. refl;
      status = λ p. refl;
      finished = λ p. refl;
    }

pub follows_for : (machine : Machine Part) → machine ≡ part_machine → IsPartOf (λ p. p.disk) machine disk_machine
follows_for machine e = rw e follows

-- A walk of a minidisk is a walk of its disk.
pub walks_as_its_disk : (form : Form) (h : Setting Part) (s t : State Part) → h.machine ≡ part_machine
    → Reaches form h s t → Reaches form (on_device h disk_machine) (seen (λ p. p.disk) s) (seen (λ p. p.disk) t)
walks_as_its_disk form h s t e to = reaches_seen (λ p. p.disk) h disk_machine (follows_for h.machine e) form s t to

pub keeps_for : (holds : Part → Type 0) (machine : Machine Part) → machine ≡ part_machine → Keeps part_machine holds
    → Keeps machine holds
keeps_for holds machine e keeps = rw e keeps

along : (holds : Part → Type 0) → Keeps part_machine holds → (form : Form) (h : Setting Part) (s t : State Part)
    → h.machine ≡ part_machine
    → Reaches form h s t → holds (device_in s) → holds (device_in t)
along holds keeps form h s t e to = reach_keeps h holds (keeps_for holds h.machine e keeps) form s t to

started_volser : (d : Disk) (ipl : Bool) → (aimed d ipl).volser ≡ d.volser
started_volser d true = refl
started_volser d false = refl

moved_volser : (d : Disk) (o : Option Seek) → (moved d o).volser ≡ d.volser
moved_volser d None = refl
moved_volser d (Some s) = refl

finished_volser : (d : Disk) → (disk_machine.finished d).volser ≡ d.volser
finished_volser d = by_job (is_seeking d.front.job)
  where
    by_job : (b : Bool) → (if b then moved d (seek_of d) else after d (ending d)).volser ≡ d.volser
    by_job true = moved_volser d (seek_of d)
    by_job false = refl

-- Each step leaves the other disks of the volume as they are.
pub neighbours_kept : (q : Part) → Keeps part_machine (HasSameOtherDisks q)
neighbours_kept q =
    record {
      started = λ p order i. record {
        volser = started_volser p.disk (is_ipl order)
            ∙ i.volser;
        below = i.below;
        above = i.above;
      };
      gave = λ p i. record { volser = i.volser; below = i.below; above = i.above };
      took = λ p byte i. record { volser = i.volser; below = i.below; above = i.above };
      finished = λ p i. record { volser = finished_volser p.disk ∙ i.volser; below = i.below; above = i.above };
    }

-- A walk of a minidisk leaves the other disks of the volume as they are.
pub leaves_its_neighbours : (form : Form) (h : Setting Part) (s t : State Part) → h.machine ≡ part_machine
    → Reaches form h s t → HasSameOtherDisks (device_in s) (device_in t)
leaves_its_neighbours form h s t e to =
    along (HasSameOtherDisks (device_in s)) (neighbours_kept (device_in s)) form h s t e to
    (record { volser = refl; below = refl; above = refl })

-- of what an extent is made of
pub record HasExtentOf (x : ExtentValue) (p : Part) : Type 0 where
  pub start : length p.below ≡ x.start
  pub count : length p.disk.cylinders ≡ x.count
  pub mode : p.disk.front.writable ≡ x.writable

-- Each step keeps the extent of the minidisk.
pub extent_kept : (x : ExtentValue) → Keeps part_machine (HasExtentOf x)
extent_kept x =
    record {
      started = λ p order i. record {
        start = i.start;
        count = started_size p.disk order
            ∙ i.count;
        mode = (disk_mode x.writable).started p.disk order i.mode;
      };
      gave = λ p i. record { start = i.start; count = i.count; mode = (disk_mode x.writable).gave p.disk i.mode };
      took = λ p byte i. record {
        start = i.start;
        count = i.count;
        mode = (disk_mode x.writable).took p.disk byte i.mode;
      };
      finished = λ p i. record {
        start = i.start;
        count = finished_size p.disk
            ∙ i.count;
        mode = (disk_mode x.writable).finished p.disk i.mode;
      };
    }

-- A minidisk with an extent has that extent.
pub extent_same : (x : ExtentValue) (p : Part) → HasExtentOf x p → extent_of p ≡ x
extent_same x p i = rw (i.start, i.count, i.mode) refl

-- A walk keeps the extent of the minidisk.
pub keeps_its_extent : (form : Form) (h : Setting Part) (s t : State Part) → h.machine ≡ part_machine
    → Reaches form h s t → extent_of (device_in t) ≡ extent_of (device_in s)
keeps_its_extent form h s t e to =
    let x : ExtentValue = extent_of (device_in s) in
    extent_same x (device_in t) (along (HasExtentOf x) (extent_kept x) form h s t e to
    (record { start = refl; count = refl; mode = refl }))

-- Each step of a read-only minidisk leaves its cylinders as they are.
pub read_only_kept : (cylinders : List Cylinder) → Keeps part_machine (λ p. IsReadOnly cylinders p.disk)
read_only_kept cylinders =
    record {
      started = λ p order i. (disk_read_only cylinders).started p.disk order i;
      gave = λ p i. (disk_read_only cylinders).gave p.disk i;
      took = λ p byte i. (disk_read_only cylinders).took p.disk byte i;
      finished = λ p i. (disk_read_only cylinders).finished p.disk i;
    }

-- A read-only minidisk is never written.
pub never_writes : (form : Form) (h : Setting Part) (s t : State Part) → h.machine ≡ part_machine
    → IsReadOnly (device_in s).disk.cylinders (device_in s).disk → Reaches form h s t
    → (unit_of (device_in t)).cylinders ≡ (unit_of (device_in s)).cylinders
never_writes form h s t e i to =
    let others : HasSameOtherDisks (device_in s) (device_in t) = leaves_its_neighbours form h s t e to in
    let still : IsReadOnly (device_in s).disk.cylinders (device_in t).disk
    = along (λ p. IsReadOnly (device_in s).disk.cylinders p.disk)
    (read_only_kept (device_in s).disk.cylinders) form h s t e to i in
    rw (others.below, others.above, still.same) refl
