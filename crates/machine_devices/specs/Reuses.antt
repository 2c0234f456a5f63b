-- What channels keep of the programs of a machine's devices, as they are served and as lines are
-- typed.
use Rattle.std.specs.Prelude.{◌≡◌, ℕ, Bool, true, false, Option, None, Some}
use Rattle.s370_channel.specs.declared.words.Caw.{Caw}
use Rattle.machine_channels.specs.declared.channels.UnitRecord.{UnitRecord}
use Rattle.machine_channels.specs.declared.channels.UnitRecord.TheVariants as units
use Rattle.machine_devices.specs.declared.places.AttachedDevice.{AttachedDevice}
use Rattle.machine_devices.specs.declared.places.AttachedDevice.TheVariants as kinds
use Rattle.machine_devices.specs.declared.request.Request.{Request}
use Rattle.machine_devices.specs.declared.request.Request.TheVariants.{LogsOn, LogsOff, Resets}
use Rattle.machine_devices.specs.declared.request.Request.TheVariants.{Types, Loads, Asks, Alone}
use Rattle.machine_devices.specs.Devices.{kind_at}
use Rattle.machine_devices.specs.Equipped.{Equipped}
use Rattle.machine_devices.specs.Lines.{can_load}

-- so channels keep what ran on them, over such storage, from the first to the last
module _ {C S : Type 0} (Reuses : C → S → Caw → UnitRecord → Bool → C → Type 0)
    (ReusesDisk : C → S → Caw → ℕ → Bool → C → Type 0) (old : C) (s : S) (new : C) where
  -- the program of a device of this kind ran, or was refused
  abbrev pub KindReuses : AttachedDevice → Caw → Bool → Type 0
  KindReuses kinds.Console start done = Reuses old s start units.Console done new
  KindReuses kinds.Reader start done = Reuses old s start units.Reader done new
  KindReuses kinds.Punch start done = Reuses old s start units.Punch done new
  KindReuses kinds.Printer start done = Reuses old s start units.Printer done new
  KindReuses (kinds.Disk index) start done = ReusesDisk old s start index done new

  -- where a device has the address, and works on a program; else they are as they were
  abbrev pub StartReuses : Option AttachedDevice → Option Caw → Bool → Type 0
  StartReuses None start done = new ≡ old
  StartReuses (Some kind) None done = new ≡ old
  StartReuses (Some kind) (Some start) done = KindReuses kind start done

-- whether the program of a device of this kind may have run to its end where the serve is refused:
-- only a console's, whose lines are printed after it
abbrev pub MayHaveRun : Option AttachedDevice → Bool → Type 0
MayHaveRun None done = done ≡ false
MayHaveRun (Some kinds.Console) done = Unit {0}
MayHaveRun (Some kinds.Reader) done = done ≡ false
MayHaveRun (Some kinds.Punch) done = done ≡ false
MayHaveRun (Some kinds.Printer) done = done ≡ false
MayHaveRun (Some (kinds.Disk index)) done = done ≡ false

-- What a line drops: LOGON, LOGOFF, SYSTEM RESET, and an IPL that finds its device; else they are
-- as they were.
module _ {C : Type 0} (Forgets : C → C → Type 0) (old new : C) where
  abbrev pub LoadForgets : Bool → Type 0
  LoadForgets true = Forgets old new
  LoadForgets false = new ≡ old

  abbrev pub LineForgets : Request → Equipped → Type 0
  LineForgets LogsOn e = Forgets old new
  LineForgets LogsOff e = Forgets old new
  LineForgets Resets e = Forgets old new
  LineForgets (Loads device) e = LoadForgets (can_load (kind_at e.devices e.disks device))
  LineForgets Types e = new ≡ old
  LineForgets (Asks command) e = new ≡ old
  LineForgets (Alone asked) e = new ≡ old
