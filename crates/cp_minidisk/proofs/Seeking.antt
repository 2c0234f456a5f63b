-- Seeks of a minidisk on its volume, and that the arm stays on the minidisk.
use Rattle.std.specs.Prelude.{ℕ, ◌+◌, ◌*◌, ◌/◌, ◌%◌, ◌==◌, ◌≡◌, ◌<◌, ◌≤◌, refl, Bool, true, false, nat_lt, nat_le, ◌&&◌}
use Rattle.std.specs.Prelude.{if◌then◌else◌, List, ◌++◌, length, Option, None, Some}
use Rattle.std.specs.Option.{option_map}
use Rattle.std.proofs.Common.{sym, ◌∙◌, ap, arith}
use Rattle.std.proofs.lemmas.Bool.{lt-ltb}
use Rattle.std.proofs.lemmas.List.{length-append, length-set}
use Rattle.s370_walk.specs.declared.parts.Order.{Order}
use Rattle.ckd_volume.specs.declared.parts.PendingCommand.TheVariants as jobs
use Rattle.ckd_volume.specs.declared.control.Seek.{Seek}
use Rattle.ckd_volume.specs.Front.{Cylinder}
use Rattle.ckd_volume.specs.Control.{halfword, is_seek, sought}
use Rattle.ckd_volume.specs.End.{Ended, stands}
use Rattle.ckd_volume.specs.Unit.{Disk, under, aimed, is_ipl, ending, after, put, finished, is_seeking, disk_machine}
use Rattle.ckd_volume.specs.Unit.{moved, seek_of, seek_status}
use Rattle.cp_minidisk.specs.Extent.{ExtentValue, shifted, relocated_argument, no_argument}
use Rattle.cp_minidisk.specs.Placed.{placed, IsOnDisk, holding}
use Rattle.cp_minidisk.proofs.Placing.{aimed_inside}

-- the extent of a minidisk that has these cylinders before it
abbrev pub extent_behind : List Cylinder → Disk → ExtentValue
extent_behind before d = record { start = length before; count = length d.cylinders; writable = d.front.writable }

halves : (n : ℕ) → 256 * (n / 256) + n % 256 ≡ n
halves n = omega arith

choose_map : (c : Bool) (start cylinder head : ℕ) → ◌≡◌ {A = Option Seek}
    (if c then Some (record { cylinder = start + cylinder; head = head }) else None)
    (option_map (shifted start) (if c then Some (record { cylinder = cylinder; head = head }) else None))
choose_map true start cylinder head = refl
choose_map false start cylinder head = refl

none_of : (l a h : Bool) → (l && a && false && h) ≡ false
none_of true true true = refl
none_of true true false = refl
none_of true false true = refl
none_of true false false = refl
none_of false true true = refl
none_of false true false = refl
none_of false false true = refl
none_of false false false = refl

sought_none : (count : ℕ) (bytes : List ℕ) → nat_lt (halfword bytes 2) count ≡ false → sought count bytes ≡ None
sought_none count bytes e =
    let fails : is_seek count bytes ≡ false = rw e (none_of (nat_le 6 (length bytes)) (halfword bytes 0 == 0)
    (nat_lt (halfword bytes 4) 19)) in
    rw fails refl

no_such : (total : ℕ) → sought total no_argument ≡ None
no_such total = refl

sought_by : (e : ExtentValue) (total : ℕ) (bytes : List ℕ) (b : Bool) → nat_lt (halfword bytes 2) e.count ≡ b
    → length bytes ≡ 6 → e.start + e.count ≤ total
    → sought total (relocated_argument e bytes) ≡ option_map (shifted e.start) (sought e.count bytes)
sought_by e total bytes true is six fits =
    let low : halfword bytes 2 < e.count = grind arith in
    let inside : nat_lt (e.start + halfword bytes 2) total ≡ true = let lt : e.start + halfword bytes 2 < total = omega
    arith in lt-ltb (e.start + halfword bytes 2) total lt in
    let chosen : ◌≡◌ {A = Option Seek} (if (true && (halfword bytes 0 == 0) && true && nat_lt (halfword bytes 4) 19)
    then Some (record { cylinder = e.start + halfword bytes 2; head = halfword bytes 4 }) else None)
    (option_map (shifted e.start) (if (true && (halfword bytes 0 == 0) && true && nat_lt (halfword bytes 4) 19) then
    Some (record { cylinder = halfword bytes 2; head = halfword bytes 4 }) else None))
    = choose_map (true && (halfword bytes 0 == 0) && true && nat_lt (halfword bytes 4) 19) e.start (halfword bytes 2)
    (halfword bytes 4) in
    rw (is, six, halves (e.start + halfword bytes 2), inside) chosen
sought_by e total bytes false is six fits =
    let real : relocated_argument e bytes ≡ no_argument = rw is refl in
    ap (sought total) real ∙ no_such total ∙ ap (option_map (shifted e.start)) (sym (sought_none e.count bytes is))

pub seeks_shifted : (e : ExtentValue) (total : ℕ) (bytes : List ℕ) → length bytes ≡ 6 → e.start + e.count ≤ total
    → sought total (relocated_argument e bytes) ≡ option_map (shifted e.start) (sought e.count bytes)
seeks_shifted e total bytes six fits = sought_by e total bytes (nat_lt (halfword bytes 2) e.count) refl six fits

moved_by : (before behind : List Cylinder) (d : Disk) (bytes : List ℕ) (s : Option Seek)
    → moved (holding (placed before behind d) bytes) (option_map (shifted (length before)) s) ≡ placed before behind
    (moved d s)
moved_by before behind d bytes None = refl
moved_by before behind d bytes (Some s) = refl

status_by : (start : ℕ) (s : Option Seek) → seek_status (option_map (shifted start) s) ≡ seek_status s
status_by start None = refl
status_by start (Some s) = refl

-- The parts of a volume have no more cylinders than the volume.
pub room : (before behind cylinders : List Cylinder) → length before + length cylinders ≤ length
    (before ++ (cylinders ++ behind))
room before behind cylinders = omega (arith, length-append before (cylinders ++ behind), length-append cylinders behind)

-- A seek with a relocated argument ends in the midst of others as it does alone.
pub seek_finished : (before behind : List Cylinder) (d : Disk) → d.front.job ≡ jobs.Seek → length d.front.bytes ≡ 6
    → disk_machine.finished (holding (placed before behind d)
    (relocated_argument (extent_behind before d) d.front.bytes)) ≡ placed before behind (disk_machine.finished d)
seek_finished before behind d job six =
    let same : sought (length (before ++ (d.cylinders ++ behind)))
    (relocated_argument (extent_behind before d) d.front.bytes) ≡ option_map (shifted (length before)) (seek_of d)
    = seeks_shifted (extent_behind before d) (length (before ++ (d.cylinders ++ behind))) d.front.bytes six
    (room before behind d.cylinders) in
    let there : moved (holding (placed before behind d) (relocated_argument (extent_behind before d) d.front.bytes))
    (option_map (shifted (length before)) (seek_of d)) ≡ placed before behind (moved d (seek_of d))
    = moved_by before behind d (relocated_argument (extent_behind before d) d.front.bytes) (seek_of d) in
    rw (job, same) there

-- A seek with a relocated argument has the status that it has alone.
pub seek_ends : (before behind : List Cylinder) (d : Disk) → d.front.job ≡ jobs.Seek → length d.front.bytes ≡ 6
    → disk_machine.status (holding (placed before behind d) (relocated_argument (extent_behind before d) d.front.bytes))
    ≡ disk_machine.status d
seek_ends before behind d job six =
    let same : sought (length (before ++ (d.cylinders ++ behind)))
    (relocated_argument (extent_behind before d) d.front.bytes) ≡ option_map (shifted (length before)) (seek_of d)
    = seeks_shifted (extent_behind before d) (length (before ++ (d.cylinders ++ behind))) d.front.bytes six
    (room before behind d.cylinders) in
    let there : _ = status_by (length before) (seek_of d) in rw (job, same) there

-- a seek with fewer bytes is rejected by both, whatever the bytes are
pub short_finished : (before behind : List Cylinder) (d : Disk) (bytes : List ℕ) → d.front.job ≡ jobs.Seek
    → length bytes ≡ length d.front.bytes → length bytes < 6
    → disk_machine.finished (holding (placed before behind d) bytes) ≡ placed before behind (disk_machine.finished d)
short_finished before behind d bytes job long short =
    let few : nat_le 6 (length d.front.bytes) ≡ false = grind arith in
    rw (job, long, few) refl

-- A seek with too short an argument has the status that it has alone.
pub short_ends : (before behind : List Cylinder) (d : Disk) (bytes : List ℕ) → d.front.job ≡ jobs.Seek
    → length bytes ≡ length d.front.bytes → length bytes < 6
    → disk_machine.status (holding (placed before behind d) bytes) ≡ disk_machine.status d
short_ends before behind d bytes job long short =
    let few : nat_le 6 (length d.front.bytes) ≡ false = grind arith in
    rw (job, long, few) refl

-- ---- The arm stays on the minidisk.

-- A disk that starts a command is still on its cylinders.
pub started_on_disk : (order : Order) (d : Disk) → IsOnDisk d → IsOnDisk (disk_machine.started d order)
started_on_disk order d on =
    let aimed : IsOnDisk (aimed d (is_ipl order)) = aimed_inside d (is_ipl order) on in
    record { cylinder = aimed.cylinder; home = aimed.home }

after_on_disk : (d : Disk) (e : Ended) → IsOnDisk d → IsOnDisk (after d e)
after_on_disk d e on =
    let same : length (put d.cylinders d.cylinder (under d) d.front.head e.written) ≡ length d.cylinders = length-set
    d.cylinders d.cylinder (stands (under d) d.front.head e.written) in
    record { cylinder = rw same on.cylinder; home = rw same on.home }

sought_inside : (count : ℕ) (bytes : List ℕ) (s : Seek) → sought count bytes ≡ Some s → s.cylinder < count
sought_inside count bytes s e = grind arith

moved_on_disk : (d : Disk) (o : Option Seek) → seek_of d ≡ o → IsOnDisk d → IsOnDisk (moved d o)
moved_on_disk d None e on = record { cylinder = on.cylinder; home = on.home }
moved_on_disk d (Some s) e on = record {
  cylinder = sought_inside (length d.cylinders) d.front.bytes s e;
  home = on.home;
}

finished_by : (d : Disk) (b : Bool) → is_seeking d.front.job ≡ b → IsOnDisk d → IsOnDisk (finished d)
finished_by d true e on = let there : IsOnDisk (moved d (seek_of d)) = moved_on_disk d (seek_of d) refl on in rw e there
finished_by d false e on = let there : IsOnDisk (after d (ending d)) = after_on_disk d (ending d) on in rw e there

-- A disk that finishes a command is still on its cylinders.
pub finished_on_disk : (d : Disk) → IsOnDisk d → IsOnDisk (disk_machine.finished d)
finished_on_disk d on = finished_by d (is_seeking d.front.job) refl on
