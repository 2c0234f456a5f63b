-- What comes of a line besides what it says: a loading, files that are closed, a message; and where
-- that takes memory.
use Rattle.std.specs.Prelude.{◌≡◌, ℕ, ◌<◌, ◌⊎◌, ◌||◌, Bool, true, false, List, IsSome, Option, Some}
use Rattle.std.specs.Prelude.{None}
use Rattle.s370_walk.specs.Hardware.{Machine as Device}
use Rattle.user_names.specs.Users.{user_of}
use Rattle.cp_console.specs.declared.device_commands.DeviceCommand.{DeviceCommand}
use Rattle.cp_console.specs.declared.device_commands.DeviceCommand.TheVariants as commands
use Rattle.machine_devices.specs.declared.files.ClosedFiles.{ClosedFiles}
use Rattle.machine_devices.specs.declared.line.LineOutcome.{LineOutcome}
use Rattle.machine_devices.specs.declared.line.LineOutcome.TheVariants.{Silent, Said, Files, Sent}
use Rattle.machine_devices.specs.declared.line.LineOutcome.TheVariants.{Closed, LoggedOff}
use Rattle.machine_devices.specs.declared.request.Request.{Request}
use Rattle.machine_devices.specs.declared.request.Request.TheVariants.{LogsOn, LogsOff, Resets}
use Rattle.machine_devices.specs.declared.request.Request.TheVariants.{Types, Loads, Asks, Alone}
use Rattle.machine_devices.specs.declared.places.AttachedDevice.{AttachedDevice}
use Rattle.machine_devices.specs.declared.places.AttachedDevice.TheVariants as kinds
use Rattle.machine_devices.specs.Devices.{DevicesValue, kind_at, part_at}
use Rattle.machine_devices.specs.Equipped.{Equipped}
use Rattle.machine_devices.specs.Lines.{IplNeeds, LoadHadRoom, can_load, files_closed, requested}
use Rattle.machine_devices.specs.Spooling.{open_files}
use Rattle.machine_devices.specs.UserDirectory.{UserDirectory, is_on}
use Rattle.machine_panel.specs.Panel.{line_room}

-- ---- what a line asks for

-- whether it asks to load the machine
abbrev pub is_ipl : Request → Bool
is_ipl (Loads device) = true
is_ipl LogsOn = false
is_ipl LogsOff = false
is_ipl Resets = false
is_ipl Types = false
is_ipl (Asks command) = false
is_ipl (Alone asked) = false

-- which pages that loading needs: page 0, and those that its program touches
abbrev pub LoadWants : Request → Equipped → ℕ → Type 0
LoadWants (Loads device) e = IplNeeds device e
LoadWants LogsOn e = λ page. ⊥
LoadWants LogsOff e = λ page. ⊥
LoadWants Resets e = λ page. ⊥
LoadWants Types e = λ page. ⊥
LoadWants (Asks command) e = λ page. ⊥
LoadWants (Alone asked) e = λ page. ⊥

-- memory was refused to that loading before it began, or with room for its pages
module _ {S : Type 0} (HadRoom : (D : Type 0) → Device D → S → D → S → Type 0) (old new : S) where
  abbrev pub LineHadRoom : Request → Equipped → Type 0
  LineHadRoom (Loads device) e = LoadHadRoom HadRoom old new (kind_at e.devices e.disks device) e
  LineHadRoom LogsOn e = ⊥
  LineHadRoom LogsOff e = ⊥
  LineHadRoom Resets e = ⊥
  LineHadRoom Types e = ⊥
  LineHadRoom (Asks command) e = ⊥
  LineHadRoom (Alone asked) e = ⊥

-- CLOSE closes a file
abbrev pub command_closes : DeviceCommand → Bool
command_closes (commands.Close device) = true
command_closes commands.QueryFiles = false
command_closes commands.QueryUsers = false
command_closes (commands.Spool device name) = false
command_closes (commands.Purge file) = false
command_closes (commands.Message name text) = false

-- and LOGOFF closes two
abbrev pub closes : Request → Bool
closes LogsOff = true
closes (Asks command) = command_closes command
closes LogsOn = false
closes Resets = false
closes Types = false
closes (Loads device) = false
closes (Alone asked) = false

-- such a line, or an IPL, is cut short where memory is refused meanwhile
abbrev pub is_cut : Request → Bool
is_cut q = closes q || is_ipl q

-- ---- what takes memory

-- a file was closed
abbrev pub HasClosed : ClosedFiles → Type 0
HasClosed files = IsSome files.punched ⊎ IsSome files.printed

-- a message is to be sent
abbrev pub is_sent : LineOutcome → Bool
is_sent (Sent user line) = true
is_sent Silent = false
is_sent (Said response) = false
is_sent Files = false
is_sent (Closed files) = false
is_sent (LoggedOff files) = false

-- and what comes of a line that was answered so takes memory only for a message and for files that
-- it closed
abbrev pub NeedsMemory : LineOutcome → Type 0
NeedsMemory reported = (is_sent reported ≡ true) ⊎ HasClosed (files_closed reported)

-- the device of this kind has an open file
abbrev pub HasOpen : Option AttachedDevice → DevicesValue → Type 0
HasOpen (Some kinds.Punch) d = IsSome (open_files d).punched
HasOpen (Some kinds.Printer) d = IsSome (open_files d).printed
HasOpen (Some kinds.Console) d = ⊥
HasOpen (Some kinds.Reader) d = ⊥
HasOpen (Some (kinds.Disk index)) d = ⊥
HasOpen None d = ⊥

-- a message can be sent to a user who is known and logged on
abbrev pub CanReceive : Option ℕ → UserDirectory → Type 0
CanReceive (Some user) w = is_on w user ≡ true
CanReceive None w = ⊥

-- an open file that is closed takes memory, and a message that is sent
abbrev pub CommandMayTakeMemory : UserDirectory → DeviceCommand → DevicesValue → Type 0
CommandMayTakeMemory w (commands.Close device) d = HasOpen (part_at d device) d
CommandMayTakeMemory w (commands.Message name text) d = CanReceive (user_of w.names name) w
CommandMayTakeMemory w commands.QueryFiles d = ⊥
CommandMayTakeMemory w commands.QueryUsers d = ⊥
CommandMayTakeMemory w (commands.Spool device name) d = ⊥
CommandMayTakeMemory w (commands.Purge file) d = ⊥

-- and so do open files that LOGOFF closes, the answer to a reset, a line that waits for the
-- console, a loading from a device that can be loaded from, and what a machine alone makes room for
abbrev pub MayTakeMemory : UserDirectory → Request → Equipped → Type 0
MayTakeMemory w LogsOn e = ⊥
MayTakeMemory w LogsOff e = HasClosed (open_files e.devices)
MayTakeMemory w Resets e = Unit {0}
MayTakeMemory w Types e = Unit {0}
MayTakeMemory w (Loads device) e = can_load (kind_at e.devices e.disks device) ≡ true
MayTakeMemory w (Asks command) e = CommandMayTakeMemory w command e.devices
MayTakeMemory w (Alone asked) e = 0 < line_room asked

-- the lines that may take memory
abbrev pub LineMay : UserDirectory → List ℕ → Equipped → Type 0
LineMay w typed e = MayTakeMemory w (requested typed e) e
