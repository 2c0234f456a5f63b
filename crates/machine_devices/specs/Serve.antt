-- A device that is served: the channel program that was started runs as a whole, at one moment
-- (docs/MACHINE.md, "Channel").
use Rattle.std.specs.Prelude.{ℕ, ◌≡◌, Bool, true, false, List, Option, Some, None, slice_get}
use Rattle.unit_record.specs.Console.{ConsoleState, console_machine, wants_attention, without_lines}
use Rattle.unit_record.specs.Reader.{reader_machine}
use Rattle.unit_record.specs.Punch.{punch_machine}
use Rattle.unit_record.specs.Printer.{printer_machine}
use Rattle.s370_walk.specs.declared.parts.Ending.{Ending}
use Rattle.s370_store.specs.Memory.{Memory}
use Rattle.s370_walk.specs.Hardware.{Machine as Device}
use Rattle.s370_channel.specs.declared.words.Caw.{Caw}
use Rattle.s370_channel.specs.Reading.{Reading}
use Rattle.s370_channel.specs.Runs.{Walks}
use Rattle.s370_subchannels.specs.Programs.{program_ended, program_of}
use Rattle.s370_subchannels.specs.Subchannels.{with_attention}
use Rattle.machine_panel.specs.Machine.{Machine, with_subchannels}
use Rattle.machine_devices.specs.declared.places.AttachedDevice.{AttachedDevice}
use Rattle.machine_devices.specs.declared.places.AttachedDevice.TheVariants as kinds
use Rattle.machine_channels.specs.Channels.{DiskNeeds, ProgramNeeds, WalksDisk}
use Rattle.machine_devices.specs.Devices.{kind_at}
use Rattle.machine_devices.specs.Equipped.{Equipped, storage_in, with_bytes, with_lines}

-- nothing has happened
abbrev pub IsUntouched : Equipped → Bool → Equipped → Type 0
IsUntouched old done new = (done ≡ false) × (new ≡ old)

-- the program of a device, which had this key, has ended so and left these bytes of storage: its
-- status is pending
abbrev pub program_over : ℕ → ℕ → Ending → Machine → List ℕ → Machine
program_over device key ending m bytes =
    with_subchannels (with_bytes m bytes) (program_ended device key ending m.core.subchannels)

-- that of a console gives attention at its end where a line waits then, and the lines that it has
-- finished are printed
abbrev pub console_over : ℕ → ℕ → Ending → ConsoleState → Machine → List ℕ → Machine
console_over device key ending console m bytes =
    with_lines (with_subchannels (with_bytes m bytes)
    (program_ended device key ending
    (with_attention device (wants_attention console) m.core.subchannels))) console.lines

-- which pages the program needs that was started on a device, where these are held for a copy of it
abbrev pub KindNeeds : (Memory → ℕ → ℕ → Type 0) → AttachedDevice → Caw → Equipped → ℕ → Type 0
KindNeeds holds kinds.Console start e =
    ProgramNeeds holds console_machine start (storage_in e.machine) e.devices.console
KindNeeds holds kinds.Reader start e =
    ProgramNeeds holds reader_machine start (storage_in e.machine) e.devices.reader
KindNeeds holds kinds.Punch start e =
    ProgramNeeds holds punch_machine start (storage_in e.machine) e.devices.punch
KindNeeds holds kinds.Printer start e =
    ProgramNeeds holds printer_machine start (storage_in e.machine) e.devices.printer
KindNeeds holds (kinds.Disk index) start e =
    DiskNeeds holds start (storage_in e.machine) (slice_get e.disks index)

-- the started program of a device needs this page
abbrev pub StartNeeds : (Memory → ℕ → ℕ → Type 0) → Option AttachedDevice → Option Caw
    → Equipped → ℕ → Type 0
StartNeeds holds None start e = λ page. ⊥
StartNeeds holds (Some kind) None e = λ page. ⊥
StartNeeds holds (Some kind) (Some start) e = KindNeeds holds kind start e

-- the serve of a device needs this page
abbrev pub ServeNeeds : (Memory → ℕ → ℕ → Type 0) → ℕ → Equipped → ℕ → Type 0
ServeNeeds holds device e =
    StartNeeds holds (kind_at e.devices e.disks device)
    (program_of device e.machine.core.subchannels) e

-- programs are read so
module _ (reads : Reading) where
  -- the program of a part comes to an ending
  pub record RunsPart {D : Type 0} (part : Device D) (device : ℕ) (start : Caw) (old : Machine)
      (before : D) (new : Machine) (after : D) : Type 0 where
    pub ending : Ending
    pub walk : Walks reads part start (storage_in old) before ending (storage_in new) after
    pub left : new ≡ program_over device start.key ending old new.core.processor.bytes

  pub record RunsConsole (device : ℕ) (start : Caw) (old : Equipped) (new : Equipped) : Type 0 where
    pub ending : Ending
    pub console : ConsoleState
    pub walk : Walks reads console_machine start (storage_in old.machine) old.devices.console ending
        (storage_in new.machine) console
    pub left : new.machine ≡ console_over device start.key ending console old.machine
        new.machine.core.processor.bytes
    pub devices : new.devices ≡ record old.devices { console = without_lines console }
    pub disks : new.disks ≡ old.disks

  pub record RunsDisk (index : ℕ) (device : ℕ) (start : Caw) (old : Equipped)
      (new : Equipped) : Type 0 where
    pub ending : Ending
    pub walk : WalksDisk reads start (storage_in old.machine) old.disks index ending
        (storage_in new.machine) new.disks
    pub left : new.machine ≡ program_over device start.key ending old.machine
        new.machine.core.processor.bytes
    pub devices : new.devices ≡ old.devices

  -- of the devices only this one's part may have changed
  abbrev pub RunsKind : AttachedDevice → ℕ → Caw → Equipped → Equipped → Type 0
  RunsKind kinds.Console device start old new = RunsConsole device start old new
  RunsKind kinds.Reader device start old new =
      RunsPart reader_machine device start old.machine old.devices.reader new.machine
      new.devices.reader
      × (new.devices ≡ record old.devices { reader = new.devices.reader })
      × (new.disks ≡ old.disks)
  RunsKind kinds.Punch device start old new =
      RunsPart punch_machine device start old.machine old.devices.punch new.machine
      new.devices.punch
      × (new.devices ≡ record old.devices { punch = new.devices.punch })
      × (new.disks ≡ old.disks)
  RunsKind kinds.Printer device start old new =
      RunsPart printer_machine device start old.machine old.devices.printer new.machine
      new.devices.printer
      × (new.devices ≡ record old.devices { printer = new.devices.printer })
      × (new.disks ≡ old.disks)
  RunsKind (kinds.Disk index) device start old new = RunsDisk index device start old new

  -- where a device has the address, and works on a program
  abbrev pub Serves : Option AttachedDevice → Option Caw → ℕ → Equipped → Bool → Equipped → Type 0
  Serves None start device old done new = IsUntouched old done new
  Serves (Some kind) None device old done new = IsUntouched old done new
  Serves (Some kind) (Some start) device old done new = (done ≡ true)
      × RunsKind kind device start old new

  -- what a device leaves that is served, and whether it was working
  abbrev pub IsServedAt : ℕ → Equipped → Bool → Equipped → Type 0
  IsServedAt device old done new =
      Serves (kind_at old.devices old.disks device) (program_of device old.machine.core.subchannels)
      device old done new
