-- Why a device is not served: its program was started, and comes to a step that needs a page which
-- is not present, or to a command that needs memory (docs/MACHINE.md, "Channel"). A reader and a
-- disk have no such command.
use Rattle.std.specs.Prelude.{ℕ, ◌<◌, ◌⊎◌, Bool, length, slice_get, Option, Some, None}
use Rattle.s370_walk.specs.declared.parts.Ending.{Ending}
use Rattle.s370_store.specs.Memory.{Memory}
use Rattle.s370_walk.specs.Hardware.{Machine as Device}
use Rattle.cp_spool.specs.Reader.{FeedState, feed_machine}
use Rattle.s370_channel.specs.declared.running.ChannelError.{ChannelError}
use Rattle.s370_channel.specs.declared.running.ChannelError.TheVariants as errors
use Rattle.s370_channel.specs.declared.words.Caw.{Caw}
use Rattle.s370_channel.specs.Reading.{Reading}
use Rattle.s370_channel.specs.Runs.{IsStopped, Walks}
use Rattle.unit_record.specs.Console.{ConsoleState, console_machine, console_needs_memory}
use Rattle.unit_record.specs.Reader.{reader_machine}
use Rattle.unit_record.specs.Punch.{PunchState, punch_machine, punch_needs_memory}
use Rattle.unit_record.specs.Printer.{PrinterState, printer_machine, printer_needs_memory}
use Rattle.s370_subchannels.specs.Programs.{program_of}
use Rattle.machine_devices.specs.declared.places.AttachedDevice.{AttachedDevice}
use Rattle.machine_devices.specs.declared.places.AttachedDevice.TheVariants as kinds
use Rattle.machine_channels.specs.Channels.{DiskHadRoom, StopsDisk, StopsForPage}
use Rattle.machine_devices.specs.Devices.{kind_at}
use Rattle.machine_devices.specs.Equipped.{Equipped, storage_in}

-- ---- the console

-- its program has run, and lines that it finished are to be printed, which needs memory
pub record HasToPrint (reads : Reading) (start : Caw) (old : Equipped) : Type 0 where
  pub ending : Ending
  pub left : Memory
  pub console : ConsoleState
  pub walk : Walks reads console_machine start (storage_in old.machine) old.devices.console ending
      left console
  pub some : 0 < length console.lines

-- a program of the console that is out of memory has a line to write
abbrev pub FailsToPrint : Reading → Caw → Equipped → ChannelError → Type 0
FailsToPrint reads start old errors.Memory = HasToPrint reads start old
FailsToPrint reads start old (errors.Absent page) = ⊥

-- why a program of the console stops
abbrev pub StopsConsole : Reading → (ℕ → Bool) → Caw → Equipped → ChannelError → Type 0
StopsConsole reads present start old error =
    IsStopped console_machine console_needs_memory present start (storage_in old.machine)
    old.devices.console error
    ⊎ FailsToPrint reads start old error

-- ---- memory that was refused with room for the pages of a program

-- That is so of the program of a device of this kind, as the channels say it of any device, or
-- memory was refused to what a console prints. A reader is one that feeds from the queue of its
-- user.
module _ (reads : Reading) {S : Type 0}
    (HadRoom : (D : Type 0) → Device D → S → Caw → D → S → Type 0) (old new : S) where
  abbrev pub KindHadRoom : AttachedDevice → Caw → Equipped → Type 0
  KindHadRoom kinds.Console start e =
      HadRoom ConsoleState console_machine old start e.devices.console new
      ⊎ HasToPrint reads start e
  KindHadRoom kinds.Reader start e = (feed : FeedState)
      × HadRoom FeedState feed_machine old start feed new
  KindHadRoom kinds.Punch start e = HadRoom PunchState punch_machine old start e.devices.punch new
  KindHadRoom kinds.Printer start e =
      HadRoom PrinterState printer_machine old start e.devices.printer new
  KindHadRoom (kinds.Disk index) start e =
      DiskHadRoom HadRoom old start (slice_get e.disks index) new

  abbrev pub StartHadRoom : Option AttachedDevice → Option Caw → Equipped → Type 0
  StartHadRoom None start e = ⊥
  StartHadRoom (Some kind) None e = ⊥
  StartHadRoom (Some kind) (Some start) e = KindHadRoom kind start e

  -- of the device of an address, which is served
  abbrev pub ServeHadRoom : ℕ → Equipped → Type 0
  ServeHadRoom device e = StartHadRoom (kind_at e.devices e.disks device)
      (program_of device e.machine.core.subchannels) e

-- ---- whatever has the address

module _ (reads : Reading) (present : ℕ → Bool) where
  abbrev pub StopsKind : AttachedDevice → Caw → Equipped → ChannelError → Type 0
  StopsKind kinds.Console start old error = StopsConsole reads present start old error
  StopsKind kinds.Reader start old error =
      StopsForPage reader_machine present start (storage_in old.machine) old.devices.reader error
  StopsKind kinds.Punch start old error =
      IsStopped punch_machine punch_needs_memory present start (storage_in old.machine)
      old.devices.punch error
  StopsKind kinds.Printer start old error =
      IsStopped printer_machine printer_needs_memory present start (storage_in old.machine)
      old.devices.printer error
  StopsKind (kinds.Disk index) start old error =
      StopsDisk present start (storage_in old.machine) (slice_get old.disks index) error

  abbrev pub StopsProgram : Option AttachedDevice → Option Caw → Equipped → ChannelError → Type 0
  StopsProgram None start old error = ⊥
  StopsProgram (Some kind) None old error = ⊥
  StopsProgram (Some kind) (Some start) old error = StopsKind kind start old error

  -- why the device of an address is not served
  abbrev pub StopsAt : ℕ → Equipped → ChannelError → Type 0
  StopsAt device old error =
      StopsProgram (kind_at old.devices old.disks device)
      (program_of device old.machine.core.subchannels) old error
