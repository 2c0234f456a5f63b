-- The programs of a user's devices that are kept, and how often one was run again.
use Rattle.std.specs.Prelude.{◌≡◌, ◌⊎◌, ℕ, ◌+◌, ◌%◌, ◌==◌, if◌then◌else◌, Bool, true, false, List}
use Rattle.std.specs.Prelude.{length, replicate, None, Option, Some, slice_index_or, slice_set}
use Rattle.s370_channel.specs.declared.words.Caw.{Caw}
use Rattle.cp_ccw.specs.CachedProgram.{IsAtBase, KeptProgram}
use Rattle.cp_ccw.specs.CachedPages.{IsAsKnown, KnownProgram}
use Rattle.cp_dat.specs.declared.dat.Dat.{Dat}
use Rattle.cp_dat.specs.Lent.{lent_memory}
use Rattle.cp_needs.specs.Needs.{IsClash}
use Rattle.s370_store.specs.Memory.{Memory}
use Rattle.machine_channels.specs.declared.channels.UnitRecord.{UnitRecord}
use Rattle.machine_channels.specs.declared.channels.UnitRecord.TheVariants as units

-- for each device of a user the last program of it that no input could change, where it has one,
-- that of a minidisk at its index; and how often one was run again
pub record ReuseValue : Type 0 where
  pub console : Option KeptProgram
  pub reader : Option KeptProgram
  pub punch : Option KeptProgram
  pub printer : Option KeptProgram
  pub disks : List (Option KnownProgram)
  pub reuses : ℕ

-- the program of a device that is no disk
abbrev pub kept_for : ReuseValue → UnitRecord → Option KeptProgram
kept_for r units.Console = r.console
kept_for r units.Reader = r.reader
kept_for r units.Punch = r.punch
kept_for r units.Printer = r.printer

-- that of the minidisk of this index
abbrev pub known_for : ReuseValue → ℕ → Option KnownProgram
known_for r index = slice_index_or r.disks index None

-- one more, which stays at its greatest value
abbrev pub counted : ℕ → ℕ
counted n = if n == 18446744073709551615 then n else n + 1

-- no device of a user with so many minidisks has a program, and none was run again
abbrev pub kept_none : ℕ → ReuseValue
kept_none minidisks = record {
  console = None;
  reader = None;
  punch = None;
  printer = None;
  disks = replicate minidisks None;
  reuses = 0;
}

-- a device has this program, or none
abbrev pub with_unit : ReuseValue → UnitRecord → Option KeptProgram → ReuseValue
with_unit r units.Console kept = record r { console = kept }
with_unit r units.Reader kept = record r { reader = kept }
with_unit r units.Punch kept = record r { punch = kept }
with_unit r units.Printer kept = record r { printer = kept }

-- no device has one, and as many were run again
abbrev pub dropped : ReuseValue → ReuseValue
dropped r = record {
  console = None;
  reader = None;
  punch = None;
  printer = None;
  disks = replicate (length r.disks) None;
  reuses = r.reuses;
}

-- the device's program that is kept may run again for this address word: all that it was copied
-- from is as it was
abbrev pub RunsAgain : ReuseValue → UnitRecord → Dat → Caw → Type 0
RunsAgain r unit d caw = (k : KeptProgram) × (kept_for r unit ≡ Some k) × IsAtBase k d caw

-- the minidisk's that is known may run again for it: all that is known of it is as it was
abbrev pub KnowsAgain : ReuseValue → ℕ → Dat → Caw → Type 0
KnowsAgain r index d caw = (k : KnownProgram) × (known_for r index ≡ Some k) × IsAsKnown k d caw

-- ---- what is kept of a program that has run, or was refused

-- it is run again, and this is counted
abbrev pub run_again : ReuseValue → ReuseValue
run_again r = record r { reuses = counted r.reuses }

-- a minidisk has this program, or none
abbrev pub with_disk : ReuseValue → ℕ → Option KnownProgram → ReuseValue
with_disk r index known = record r { disks = slice_set r.disks index known }

-- a copy of it is kept for its device, which may run again as this storage is; or memory was
-- refused, and all is as it was
abbrev pub KeepsCopy : ReuseValue → Dat → Caw → UnitRecord → Bool → ReuseValue → Type 0
KeepsCopy old d start unit done new =
    ((k : KeptProgram) × (new ≡ with_unit old unit (Some k)) × IsAtBase k d start)
    ⊎ ((done ≡ false) × (new ≡ old))

-- the same of a minidisk's
abbrev pub KeepsKnown : ReuseValue → Dat → Caw → ℕ → Bool → ReuseValue → Type 0
KeepsKnown old d start index done new =
    ((k : KnownProgram) × (new ≡ with_disk old index (Some k)) × IsAsKnown k d start)
    ⊎ ((done ≡ false) × (new ≡ old))

-- none is kept for its device of a program that an input can change
abbrev pub KeepsNone : Memory → Caw → ReuseValue → ReuseValue → Type 0
KeepsNone m start none new = (new ≡ none) × (start.address % 8 ≡ 0 → IsClash m start.address)

-- A program of a device that is no disk runs again where the one that is kept may, and this is
-- counted. Else nothing is counted, and a copy of it is kept, as its bytes and its pages were when
-- it began; but none where an input can change it. If it is refused, all may be as it was.
pub record HasReused (old : ReuseValue) (d : Dat) (start : Caw) (unit : UnitRecord) (done : Bool)
    (new : ReuseValue) : Type 0 where
  pub again : RunsAgain old unit d start → new ≡ run_again old
  pub anew : (RunsAgain old unit d start → ⊥)
      → ((held : Dat) × (lent_memory held ≡ lent_memory d) × KeepsCopy old held start unit done new)
      ⊎ KeepsNone (lent_memory d) start (with_unit old unit None) new

-- The same of a minidisk's, and one that is run again is not refused: it takes no memory, and has
-- its pages.
pub record HasReusedDisk (old : ReuseValue) (d : Dat) (start : Caw) (index : ℕ) (done : Bool)
    (new : ReuseValue) : Type 0 where
  pub again : KnowsAgain old index d start → new ≡ run_again old
  pub spare : KnowsAgain old index d start → done ≡ true
  pub anew : (KnowsAgain old index d start → ⊥)
      → ((held : Dat) × (lent_memory held ≡ lent_memory d)
      × KeepsKnown old held start index done new)
      ⊎ KeepsNone (lent_memory d) start (with_disk old index None) new
