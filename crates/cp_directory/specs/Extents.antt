-- Extents: cylinders of a volume that one minidisk has.
use Rattle.std.specs.Prelude.{ℕ, ◌+◌, ◌-◌, ◌&&◌, Bool, true, false, not, if◌then◌else◌, max, min}
use Rattle.std.specs.Prelude.{nat_le, nat_lt, List, ◌++◌, length, replicate, codes, Option, Some}
use Rattle.std.specs.Prelude.{None}
use Rattle.std.specs.List.{list_all}
use Rattle.std.specs.Str.{bytes_eq}
use Rattle.cp_directory.specs.Names.{is_letter_or_digit}
use Rattle.cp_directory.specs.declared.extent.DiskMode.{DiskMode}
use Rattle.cp_directory.specs.declared.extent.DiskMode.TheVariants.{ReadOnly, Writable}

-- the serial number of a volume is one to six letters and digits
abbrev pub is_volser : List ℕ → Bool
is_volser word = nat_le 1 (length word) && nat_le (length word) 6 && list_all is_letter_or_digit
    word

-- with blanks after it, up to six characters, as it is on the volume
abbrev pub padded : List ℕ → List ℕ
padded word = word ++ replicate (6 - length word) 32

-- the mode that a word spells
abbrev pub mode_of : List ℕ → Option DiskMode
mode_of word = if bytes_eq word (codes "R") then Some ReadOnly else if bytes_eq word (codes "W") then Some Writable else None

-- whether a mode permits no write
abbrev pub is_read_only : DiskMode → Bool
is_read_only ReadOnly = true
is_read_only Writable = false

-- so many cylinders of the volume of this serial number, from this one on
pub record Extent : Type 0 where
  pub volser : List ℕ
  pub start : ℕ
  pub count : ℕ
  pub mode : DiskMode

-- it has a cylinder, and a volume has no more than 808
abbrev pub is_extent : Extent → Bool
is_extent e = nat_le 1 e.count && nat_le (e.start + e.count) 808

-- an extent that a minidisk may have
abbrev pub extent_of : Extent → Option Extent
extent_of e = if is_extent e then Some e else None

-- whether a cylinder of this number is in both
abbrev pub shares_cylinder : Extent → Extent → Bool
shares_cylinder one other =
    nat_lt (max one.start other.start) (min (one.start + one.count) (other.start + other.count))

-- whether they are of one volume and share a cylinder, and not both are read-only
abbrev pub conflicts : Extent → Extent → Bool
conflicts one other = bytes_eq one.volser other.volser && shares_cylinder one other && not
    (is_read_only one.mode && is_read_only other.mode)
