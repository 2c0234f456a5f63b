-- What is proved of a minidisk as a device of its own.
use Rattle.std.specs.Prelude.{◌≡◌}
use Rattle.s370_walk.specs.Walk.{Form, Setting, State, Reaches}
use Rattle.ckd_volume.specs.Unit.{disk_machine}
use Rattle.cp_minidisk.specs.Kept.{device_in}
use Rattle.cp_minidisk.specs.Placed.{IsReadOnly}
use Rattle.cp_minidisk.specs.Part.{Part, part_machine, unit_of, extent_of}
use Rattle.cp_minidisk.specs.Projected.{seen, on_device}

-- Whatever the program and however its words are read: where the part comes to a state, its disk
-- does by itself.
abbrev pub WalksAsItsDisk : Type 0
WalksAsItsDisk =
    (form : Form) (h : Setting Part) (s t : State Part) → h.machine ≡ part_machine
    → Reaches form h s t → Reaches form (on_device h disk_machine) (seen (λ p. p.disk) s)
    (seen (λ p. p.disk) t)

-- The volume's serial number and its other cylinders stay.
pub record HasSameOtherDisks (p q : Part) : Type 0 where
  pub volser : q.disk.volser ≡ p.disk.volser
  pub below : q.below ≡ p.below
  pub above : q.above ≡ p.above

-- a walk over a minidisk leaves the serial number and all other cylinders of its volume
abbrev pub LeavesItsNeighbours : Type 0
LeavesItsNeighbours =
    (form : Form) (h : Setting Part) (s t : State Part) → h.machine ≡ part_machine
    → Reaches form h s t → HasSameOtherDisks (device_in s) (device_in t)

-- The extent stays: where it begins, how many cylinders it has, and whether it may be written.
abbrev pub KeepsItsExtent : Type 0
KeepsItsExtent =
    (form : Form) (h : Setting Part) (s t : State Part) → h.machine ≡ part_machine
    → Reaches form h s t → extent_of (device_in t) ≡ extent_of (device_in s)

-- If the disk is only read, no cylinder of the volume changes.
abbrev pub NeverWrites : Type 0
NeverWrites =
    (form : Form) (h : Setting Part) (s t : State Part) → h.machine ≡ part_machine
    → IsReadOnly (device_in s).disk.cylinders (device_in s).disk → Reaches form h s t
    → (unit_of (device_in t)).cylinders ≡ (unit_of (device_in s)).cylinders
