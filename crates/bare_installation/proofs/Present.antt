-- Where every page is present, no program stops at an absent page.
use Rattle.std.proofs.Common.{◌≡◌, ℕ, Bool, true, false, Option, None, Some, inl, inr, subst}
use Rattle.std.specs.Prelude.{slice_get}
use Rattle.s370_store.specs.declared.Page.{Page}
use Rattle.s370_walk.specs.declared.parts.Order.{Order}
use Rattle.s370_store.specs.Memory.{Memory}
use Rattle.s370_walk.specs.Hardware.{Machine}
use Rattle.s370_channel.specs.declared.running.ChannelError.{ChannelError}
use Rattle.s370_channel.specs.declared.running.ChannelError.TheVariants as errors
use Rattle.s370_channel.specs.declared.words.Caw.{Caw}
use Rattle.s370_channel.specs.Reading.{Reading}
use Rattle.s370_channel.specs.Runs.{IsStopped}
use Rattle.s370_walk.specs.Short.{nothing_needed}
use Rattle.ckd_volume.specs.Unit.{disk_machine}
use Rattle.unit_record.specs.Console.{console_machine, console_needs_memory}
use Rattle.unit_record.specs.Reader.{reader_machine}
use Rattle.unit_record.specs.Punch.{punch_machine, punch_needs_memory}
use Rattle.unit_record.specs.Printer.{printer_machine, printer_needs_memory}
use Rattle.s370_subchannels.specs.Programs.{program_of}
use Rattle.machine_channels.specs.Channels.{StopsDisk}
use Rattle.machine_channels.specs.Disks.{DiskAt}
use Rattle.machine_devices.specs.declared.places.AttachedDevice.{AttachedDevice}
use Rattle.machine_devices.specs.declared.places.AttachedDevice.TheVariants as kinds
use Rattle.machine_devices.specs.Devices.{kind_at}
use Rattle.machine_devices.specs.Equipped.{Equipped, storage_in}
use Rattle.machine_devices.specs.Stopped.{StopsAt, StopsKind, StopsProgram}

abbrev all_there : ℕ → Bool
all_there page = true

never_stuck : {D : Type 0} (machine : Machine D) (needs : D → Order → Bool) (start : Caw) (m : Memory) (d : D)
    (page : Page) → IsStopped machine needs all_there start m d (errors.Absent page) → ⊥
never_stuck machine needs start m d page s = let no : true ≡ false = s.away.away in cc

of_disk : (start : Caw) (m : Memory) (disk : Option DiskAt) (page : Page)
    → StopsDisk all_there start m disk (errors.Absent page) → ⊥
of_disk start m None page h = h
of_disk start m (Some disk) page h = never_stuck disk_machine nothing_needed start m disk.unit page h

of_kind : (reads : Reading) (kind : AttachedDevice) (start : Caw) (e : Equipped) (page : Page)
    → StopsKind reads all_there kind start e (errors.Absent page) → ⊥
of_kind reads kinds.Console start e page (inl h) =
    never_stuck console_machine console_needs_memory start (storage_in e.machine) e.devices.console page h
of_kind reads kinds.Console start e page (inr h) = h
of_kind reads kinds.Reader start e page h =
    never_stuck reader_machine nothing_needed start (storage_in e.machine) e.devices.reader page h
of_kind reads kinds.Punch start e page h =
    never_stuck punch_machine punch_needs_memory start (storage_in e.machine) e.devices.punch page h
of_kind reads kinds.Printer start e page h =
    never_stuck printer_machine printer_needs_memory start (storage_in e.machine) e.devices.printer page h
of_kind reads (kinds.Disk index) start e page h = of_disk start (storage_in e.machine) (slice_get e.disks index) page h

of_program : (reads : Reading) (kind : Option AttachedDevice) (start : Option Caw) (e : Equipped) (page : Page)
    → StopsProgram reads all_there kind start e (errors.Absent page) → ⊥
of_program reads None start e page h = h
of_program reads (Some kind) None e page h = h
of_program reads (Some kind) (Some start) e page h = of_kind reads kind start e page h

-- A machine that has all its storage never stops for an absent page.
pub never_away : (reads : Reading) (device : ℕ) (e : Equipped) (error : ChannelError) (page : Page)
    → error ≡ errors.Absent page → StopsAt reads all_there device e error → ⊥
never_away reads device e error page is h =
    of_program reads (kind_at e.devices e.disks device) (program_of device e.machine.core.subchannels) e page
    (subst (λ (x : ChannelError). StopsAt reads all_there device e x) is h)
