-- A minidisk is an extent of a volume: so many of its cylinders, numbered from 0 (docs/MACHINE.md,
-- "Disks").
use Rattle.std.specs.Prelude.{ℕ, ◌+◌, ◌/◌, ◌%◌, ◌<◌, ◌≤◌, Bool, nat_lt, if◌then◌else◌, List, []}
use Rattle.std.specs.Prelude.{◌∷◌, slice_index, Option, None, Some}
use Rattle.ckd_volume.specs.declared.control.Seek.{Seek}
use Rattle.ckd_volume.specs.Control.{halfword}

-- the cylinders of a volume that a minidisk has, and whether they may be written
pub record ExtentValue : Type 0 where
  -- the first of its cylinders
  pub start : ℕ
  pub count : ℕ
  pub writable : Bool

-- an extent has cylinders, and ends where the largest volume does
abbrev pub IsExtent : ExtentValue → Type 0
IsExtent e = (0 < e.count) × (e.start + e.count ≤ 808)

-- Where a track of the minidisk is on the volume; None where the minidisk has no such cylinder.
abbrev pub shifted : ℕ → Seek → Seek
shifted start s = record { cylinder = start + s.cylinder; head = s.head }

-- the place on the volume to which a seek of the minidisk leads
abbrev pub relocated : ExtentValue → Seek → Option Seek
relocated e s = if nat_lt s.cylinder e.count then Some (shifted e.start s) else None

-- a cylinder of the extent
abbrev pub IsWithin : ExtentValue → ℕ → Type 0
IsWithin e cylinder = (e.start ≤ cylinder) × (cylinder < e.start + e.count)

-- what no disk accepts as the argument of a seek
abbrev pub no_argument : List ℕ
no_argument = 0xFF ∷ 0xFF ∷ 0 ∷ 0 ∷ 0 ∷ 0 ∷ []

-- The argument that a seek has on the volume: that of the shifted cylinder, and one that no disk
-- accepts where the minidisk has no such cylinder. Its other bytes are as they were, so both units
-- judge them alike.
abbrev pub relocated_argument : ExtentValue → List ℕ → List ℕ
relocated_argument e bytes =
    if nat_lt (halfword bytes 2) e.count
    then
    slice_index bytes 0
    ∷ slice_index bytes 1
    ∷ (e.start + halfword bytes 2) / 256
    ∷ (e.start + halfword bytes 2) % 256
    ∷ slice_index bytes 4
    ∷ slice_index bytes 5
    ∷ []
    else no_argument
