-- The bytes of a minidisk in a saved state. Its extent stays; it is among them so that bytes are
-- those of one minidisk.
use Rattle.std.specs.Prelude.{ℕ, List, ◌++◌}
use Rattle.saved_bytes.specs.Codes.{flag, number}
use Rattle.ckd_volume.specs.declared.parts.Sense.{Sense}
use Rattle.cp_minidisk.specs.Extent.{ExtentValue}
use Rattle.cp_minidisk.specs.Minidisk.{MinidiskValue}

-- the bytes of an extent
abbrev pub extent_bytes : ExtentValue → List ℕ
extent_bytes e = number e.start ++ (number e.count ++ flag e.writable)

-- the bytes of the sense
abbrev pub sense_bytes : Sense → List ℕ
sense_bytes s = number s.first ++ number s.second

-- the bytes of a minidisk
abbrev pub minidisk_bytes : MinidiskValue → List ℕ
minidisk_bytes m = extent_bytes m.extent
    ++ (number m.cylinder ++ (number m.head ++ sense_bytes m.sense))
