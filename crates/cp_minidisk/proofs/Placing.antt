-- A minidisk on its volume begins and ends each command as alone.
use Rattle.std.specs.Prelude.{ℕ, ◌+◌, ◌-◌, ◌≡◌, ◌<◌, ◌≤◌, refl, Bool, true, false, List, [], ◌++◌, length, slice_set}
use Rattle.std.specs.Prelude.{Option}
use Rattle.std.proofs.Common.{◌∙◌, ap, arith}
use Rattle.std.proofs.lemmas.List.{set-append_left, set-append_right, get_or_append_left, get_or-append-add}
use Rattle.s370_walk.specs.declared.parts.Order.{Order}
use Rattle.ckd_track.specs.Track.{TrackFormat}
use Rattle.ckd_volume.specs.Front.{Cylinder}
use Rattle.ckd_volume.specs.End.{Ended, stands}
use Rattle.ckd_volume.specs.Unit.{Disk, under, aimed, is_ipl, begins, ending, after, put, is_seeking, disk_machine}
use Rattle.cp_minidisk.specs.Placed.{placed, IsOnDisk}

-- the cylinder under the arm is the same
pub under_placed : (before behind : List Cylinder) (d : Disk) → d.cylinder < length d.cylinders
    → under (placed before behind d) ≡ under d
under_placed before behind d inside =
    get_or-append-add before (d.cylinders ++ behind) d.cylinder []
    ∙ get_or_append_left d.cylinders behind [] d.cylinder inside

-- what is written onto it is in the minidisk's part of the volume
set_placed : (before behind cylinders : List Cylinder) (i : ℕ) (c : Cylinder) → i < length cylinders
    → slice_set (before ++ (cylinders ++ behind)) (length before + i) c ≡ before ++ (slice_set cylinders i c ++ behind)
set_placed before behind cylinders i c inside =
    let low : length before ≤ length before + i = omega arith in
    let same : (length before + i) - length before ≡ i = omega arith in
    set-append_right before (cylinders ++ behind) (length before) (length before + i) c refl low
    ∙ ap (λ k. before ++ slice_set (cylinders ++ behind) k c) same
    ∙ ap (λ l. before ++ l) (set-append_left cylinders behind i c inside)

pub put_placed : (before behind cylinders : List Cylinder) (i : ℕ) (c : Cylinder) (head : ℕ) (t : Option TrackFormat)
    → i < length cylinders
    → put (before ++ (cylinders ++ behind)) (length before + i) c head t ≡ before ++
    (put cylinders i c head t ++ behind)
put_placed before behind cylinders i c head t inside = set_placed before behind cylinders i (stands c head t) inside

pub aimed_placed : (before behind : List Cylinder) (d : Disk) (ipl : Bool)
    → aimed (placed before behind d) ipl ≡ placed before behind (aimed d ipl)
aimed_placed before behind d true = refl
aimed_placed before behind d false = refl

-- A disk that is aimed anew is still on its cylinders.
pub aimed_inside : (d : Disk) (ipl : Bool) → IsOnDisk d → IsOnDisk (aimed d ipl)
aimed_inside d true on = record { cylinder = on.home; home = on.home }
aimed_inside d false on = on

begins_placed : (before behind : List Cylinder) (d : Disk) (order : Order) → IsOnDisk d
    → begins (placed before behind d) order ≡ begins d order
begins_placed before behind d order on = rw (under_placed before behind d on.cylinder) refl

ending_placed : (before behind : List Cylinder) (d : Disk) → IsOnDisk d → ending (placed before behind d) ≡ ending d
ending_placed before behind d on = rw (under_placed before behind d on.cylinder) refl

after_placed : (before behind : List Cylinder) (d : Disk) (e : Ended) → IsOnDisk d
    → after (placed before behind d) e ≡ placed before behind (after d e)
after_placed before behind d e on =
    let with : List Cylinder → Disk = λ l. record {
      volser = d.volser;
      cylinders = l;
      cylinder = length before + d.cylinder;
      home = length before + d.home;
      front = e.front;
    } in
    ap (λ c. with (put (before ++ (d.cylinders ++ behind)) (length before + d.cylinder) c d.front.head e.written))
    (under_placed before behind d on.cylinder)
    ∙ ap with (put_placed before behind d.cylinders d.cylinder (under d) d.front.head e.written on.cylinder)

-- the two units begin each command alike
pub started_placed : (before behind : List Cylinder) (d : Disk) (order : Order) → IsOnDisk d
    → disk_machine.started (placed before behind d) order ≡ placed before behind (disk_machine.started d order)
started_placed before behind d order on =
    rw (
      aimed_placed before behind d (is_ipl order),
      begins_placed before behind (aimed d (is_ipl order)) order
          (aimed_inside d (is_ipl order) on),
    ) refl

-- A disk in the midst of others answers as it does alone.
pub answer_placed : (before behind : List Cylinder) (d : Disk) (order : Order) → IsOnDisk d
    → disk_machine.answer (placed before behind d) order ≡ disk_machine.answer d order
answer_placed before behind d order on =
    rw (
      aimed_placed before behind d (is_ipl order),
      begins_placed before behind (aimed d (is_ipl order)) order
          (aimed_inside d (is_ipl order) on),
    ) refl

-- they end each command alike but for a seek, whose argument is not the same
pub finished_placed : (before behind : List Cylinder) (d : Disk) → IsOnDisk d → is_seeking d.front.job ≡ false
    → disk_machine.finished (placed before behind d) ≡ placed before behind (disk_machine.finished d)
finished_placed before behind d on other =
    rw (other, ending_placed before behind d on, after_placed before behind d (ending d) on) refl

-- A disk in the midst of others has the status that it has alone.
pub status_placed : (before behind : List Cylinder) (d : Disk) → IsOnDisk d → is_seeking d.front.job ≡ false
    → disk_machine.status (placed before behind d) ≡ disk_machine.status d
status_placed before behind d on other = rw (other, ending_placed before behind d on) refl
