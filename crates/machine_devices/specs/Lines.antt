-- What a line does to a machine and its devices, and what is reported (docs/COMMANDS.md).
use Rattle.std.specs.Prelude.{ℕ, ◌≡◌, ◌<◌, ◌⊎◌, Bool, true, false, if◌then◌else◌, List, [], ◌∷◌}
use Rattle.std.specs.Prelude.{codes, is_some, map, set, slice_get, take, Option, Some, None}
use Rattle.std.specs.Str.{bytes_eq}
use Rattle.user_names.specs.Users.{user_of}
use Rattle.cp_console.specs.ConsoleLine.{characters_of}
use Rattle.cp_console.specs.Lines.{cleaned}
use Rattle.cp_console.specs.Responses.{text_of, told_text}
use Rattle.cp_console.specs.declared.console_line.ConsoleLine.{ConsoleLine}
use Rattle.cp_console.specs.declared.device_commands.DeviceCommand.{DeviceCommand}
use Rattle.cp_console.specs.declared.device_commands.DeviceCommand.TheVariants as commands
use Rattle.cp_console.specs.declared.responses.Response.{Response}
use Rattle.cp_console.specs.declared.responses.Response.TheVariants as responses
use Rattle.unit_record.specs.declared.output.Target.{Target}
use Rattle.unit_record.specs.declared.output.Target.TheVariants as targets
use Rattle.unit_record.specs.Console.{has_room, with_typed}
use Rattle.unit_record.specs.Reader.{DeckValue, queued_at, reader_machine}
use Rattle.ckd_volume.specs.Unit.{Disk, disk_machine, rested}
use Rattle.machine_panel.specs.Machine.{cleared, printed, reset, switched_off}
use Rattle.machine_panel.specs.declared.line.PanelLine.{PanelLine}
use Rattle.machine_panel.specs.Panel.{line, line_room}
use Rattle.machine_devices.specs.declared.files.ClosedFiles.{ClosedFiles}
use Rattle.machine_devices.specs.declared.line.LineOutcome.{LineOutcome}
use Rattle.machine_devices.specs.declared.line.LineOutcome.TheVariants.{Silent, Said, Files, Sent}
use Rattle.machine_devices.specs.declared.line.LineOutcome.TheVariants.{Closed, LoggedOff}
use Rattle.machine_devices.specs.declared.places.AttachedDevice.{AttachedDevice}
use Rattle.machine_devices.specs.declared.places.AttachedDevice.TheVariants as kinds
use Rattle.machine_devices.specs.declared.request.Request.{Request}
use Rattle.machine_devices.specs.declared.request.Request.TheVariants.{LogsOn, LogsOff, Resets}
use Rattle.machine_devices.specs.declared.request.Request.TheVariants.{Types, Loads, Asks, Alone}
use Rattle.s370_walk.specs.Hardware.{Machine as Device}
use Rattle.cp_spool.specs.Reader.{FeedState, feed_machine}
use Rattle.machine_channels.specs.Channels.{DiskHadRoomToLoad, DiskLoads, LoadNeeds}
use Rattle.machine_channels.specs.Disks.{DiskAt, cleared_disk, reset_disk}
use Rattle.machine_devices.specs.Devices.{DevicesValue, kind_at, part_at}
use Rattle.machine_devices.specs.Equipped.{Equipped, storage_in, with_attended}
use Rattle.machine_devices.specs.Loading.{IsLoaded}
use Rattle.machine_devices.specs.Requests.{request_in}
use Rattle.machine_devices.specs.Resets.{devices_reset}
use Rattle.machine_devices.specs.Spooling.{devices_logged_off, is_punch, open_files, spooled}
use Rattle.machine_devices.specs.Spooling.{with_deck_purged, with_printer_closed, with_punch_closed}
use Rattle.machine_devices.specs.UserDirectory.{UserDirectory, is_on, users_on}

-- the machine and its devices after a line, and what is reported
pub record Outcome : Type 0 where
  pub equipped : Equipped
  pub reported : LineOutcome

-- the machine after a line, and what the line reports
abbrev pub outcome : Equipped → LineOutcome → Outcome
outcome e reported = record { equipped = e; reported = reported }

-- no file is closed
abbrev pub none_closed : ClosedFiles
none_closed = record { punched = None; printed = None }

-- the outcome of a line with this response
abbrev pub said : Option Response → LineOutcome
said None = Silent
said (Some response) = Said response

-- ---- LOGON, LOGOFF, SYSTEM RESET, and lines that the machine alone answers

-- LOGON leaves a cleared machine
abbrev pub logged_on : Equipped → Outcome
logged_on e = outcome (record {
  machine = cleared e.machine;
  devices = devices_reset e.devices;
  disks = map cleared_disk e.disks;
}) (Said responses.LogonOk)

-- LOGOFF closes the open files of punch and printer first
abbrev pub logged_off : Equipped → Outcome
logged_off e =
    outcome (record {
      machine = switched_off e.machine;
      devices = devices_reset (devices_logged_off e.devices);
      disks = map cleared_disk e.disks;
    })
    (LoggedOff (open_files e.devices))

-- SYSTEM RESET resets the machine, its devices and its disks
abbrev pub was_reset : Equipped → Outcome
was_reset e =
    outcome (record {
      machine = printed (reset e.machine) (text_of responses.SystemReset);
      devices = devices_reset e.devices;
      disks = map reset_disk e.disks;
    })
    (Said responses.SystemReset)

-- a line for the machine without its devices
abbrev pub answered_alone : PanelLine → Equipped → Outcome
answered_alone asked e = let a =
    line asked e.machine in outcome (record e { machine = a.machine }) (said a.reply)

-- ---- a line for the console

-- it waits to be read, and gives attention; where too many wait it is lost, and a notice says so
abbrev pub typed_where : Bool → ℕ → List ℕ → Equipped → Outcome
typed_where true device text e =
    outcome (record e {
      machine = with_attended device e.machine;
      devices = record e.devices { console = with_typed e.devices.console text };
    }) Silent
typed_where false device text e =
    outcome (record e { machine = printed e.machine (text_of responses.LineLost) })
    (Said responses.LineLost)

-- a line waits at the console, if there is one
abbrev pub typed_at : Option ℕ → List ℕ → Equipped → Outcome
typed_at None text e = outcome e Silent
typed_at (Some device) text e = typed_where (has_room e.devices.console) device text e

-- ---- SPOOL

-- the target of a user who may be unknown
abbrev pub target_in : Option ℕ → Option Target
target_in None = None
target_in (Some user) = Some (targets.User user)

-- `SYSTEM` is the operator, another name is a user's
abbrev pub target_of : UserDirectory → List ℕ → Option Target
target_of w name = if bytes_eq name (codes "SYSTEM") then Some targets.System
    else target_in (user_of w.names name)

-- SPOOL sets the punch's target, or reports that the user is unknown
abbrev pub spooled_to : Option Target → ℕ → Equipped → Outcome
spooled_to None device e = outcome e (Said responses.UserNotFound)
spooled_to (Some target) device e =
    outcome (record e { devices = spooled e.devices device target }) (Said responses.Spooled)

-- SPOOL of a punch, or of a device that is none
abbrev pub spool_answered : UserDirectory → ℕ → List ℕ → Equipped → Outcome
spool_answered w device name e =
    if is_punch (part_at e.devices device)
    then spooled_to (target_of w name) device e
    else outcome e (Said responses.DeviceNotFound)

-- ---- CLOSE: the owner of all files has a number for the one that is closed

-- CLOSE of the punch
abbrev pub punch_answered : Option ℕ → Equipped → Outcome
punch_answered None e = outcome e (Said responses.NoFile)
punch_answered (Some place) e =
    outcome (record e { devices = with_punch_closed e.devices })
    (Closed (record { punched = Some place; printed = None }))

-- CLOSE of the printer
abbrev pub printer_answered : Option ℕ → Equipped → Outcome
printer_answered None e = outcome e (Said responses.NoFile)
printer_answered (Some place) e =
    outcome (record e { devices = with_printer_closed e.devices })
    (Closed (record { punched = None; printed = Some place }))

-- CLOSE of a device of this kind
abbrev pub closed_at : Option AttachedDevice → Equipped → Outcome
closed_at (Some kinds.Punch) e = punch_answered (open_files e.devices).punched e
closed_at (Some kinds.Printer) e = printer_answered (open_files e.devices).printed e
closed_at (Some kinds.Console) e = outcome e (Said responses.DeviceNotFound)
closed_at (Some kinds.Reader) e = outcome e (Said responses.DeviceNotFound)
closed_at (Some (kinds.Disk index)) e = outcome e (Said responses.DeviceNotFound)
closed_at None e = outcome e (Said responses.DeviceNotFound)

-- CLOSE of the device with this address
abbrev pub close_answered : ℕ → Equipped → Outcome
close_answered device e = closed_at (part_at e.devices device) e

-- which files a line closed
abbrev pub files_closed : LineOutcome → ClosedFiles
files_closed (Closed files) = files
files_closed (LoggedOff files) = files
files_closed Silent = none_closed
files_closed (Said response) = none_closed
files_closed Files = none_closed
files_closed (Sent user line) = none_closed

-- ---- PURGE and QUERY

-- PURGE removes a waiting deck, or reports that there is none
abbrev pub purge_answered : ℕ → Equipped → Outcome
purge_answered file e =
    outcome (record e { devices = with_deck_purged e.devices file })
    (Said (if is_some (queued_at e.devices.reader file) then responses.Purged
    else responses.FileNotFound))

-- QUERY FILES reports the decks, or that there is none
abbrev pub files_told : List DeckValue → LineOutcome
files_told [] = Said responses.NoFiles
files_told (deck ∷ decks) = Files

-- ---- MSG

-- MSG sends its text to a user who is logged on
abbrev pub SendsWhere : Bool → ℕ → UserDirectory → List ℕ → LineOutcome → Type 0
SendsWhere true user w text reported = (line : ConsoleLine)
    × (characters_of line ≡ take 144 (told_text w.own text)) × (reported ≡ Sent user line)
SendsWhere false user w text reported = reported ≡ Said responses.UserNotLoggedOn

-- MSG sends its text to a user who may be unknown
abbrev pub SendsTo : Option ℕ → UserDirectory → List ℕ → LineOutcome → Type 0
SendsTo None w text reported = reported ≡ Said responses.UserNotFound
SendsTo (Some user) w text reported = SendsWhere (is_on w user) user w text reported

-- ---- IPL

-- what IPL reports
abbrev pub ipl_told : Bool → LineOutcome
ipl_told true = Silent
ipl_told false = Said responses.IplFailed

-- IPL from the card reader
pub record LoadsReader (device : ℕ) (old : Equipped) (reported : LineOutcome)
    (new : Equipped) : Type 0 where
  pub well : Bool
  pub loaded : IsLoaded reader_machine device old.machine (devices_reset old.devices).reader well
      new.machine new.devices.reader
  pub rest : new.devices ≡ record (devices_reset old.devices) { reader = new.devices.reader }
  pub disks : new.disks ≡ map reset_disk old.disks
  pub says : reported ≡ ipl_told well

-- IPL from a disk
pub record LoadsUnit (index : ℕ) (disk : DiskAt) (device : ℕ) (old : Equipped)
    (reported : LineOutcome) (new : Equipped) : Type 0 where
  pub well : Bool
  pub unit : Disk
  pub loaded : IsLoaded disk_machine device old.machine disk.unit well new.machine unit
  pub rest : new.devices ≡ devices_reset old.devices
  pub disks : new.disks ≡ set (map reset_disk old.disks) index (record disk { unit = rested unit })
  pub says : reported ≡ ipl_told well

-- IPL from an address without a device that can be loaded from
abbrev pub IsNotFound : Equipped → LineOutcome → Equipped → Type 0
IsNotFound old reported new = outcome new reported ≡ outcome old (Said responses.DeviceNotFound)

-- the disk as the reset left it
abbrev pub LoadsDisk : ℕ → Option DiskAt → ℕ → Equipped → LineOutcome → Equipped → Type 0
LoadsDisk index (Some disk) device old reported new = LoadsUnit index disk device old reported new
LoadsDisk index None device old reported new = IsNotFound old reported new

-- a reader or a disk is loaded from
abbrev pub can_load : Option AttachedDevice → Bool
can_load (Some kinds.Reader) = true
can_load (Some (kinds.Disk index)) = true
can_load (Some kinds.Console) = false
can_load (Some kinds.Punch) = false
can_load (Some kinds.Printer) = false
can_load None = false

-- the machine and its devices after that, and what is reported
abbrev pub LoadsKind : Option AttachedDevice → ℕ → Equipped → LineOutcome → Equipped → Type 0
LoadsKind (Some kinds.Reader) device old reported new = LoadsReader device old reported new
LoadsKind (Some (kinds.Disk index)) device old reported new =
    LoadsDisk index (slice_get (map reset_disk old.disks) index) device old reported new
LoadsKind (Some kinds.Console) device old reported new = IsNotFound old reported new
LoadsKind (Some kinds.Punch) device old reported new = IsNotFound old reported new
LoadsKind (Some kinds.Printer) device old reported new = IsNotFound old reported new
LoadsKind None device old reported new = IsNotFound old reported new

-- which pages it needs: those that the walk of the loading touches, and that of the PSW
abbrev pub KindLoads : Option AttachedDevice → Equipped → ℕ → Type 0
KindLoads (Some kinds.Reader) e =
    LoadNeeds reader_machine (storage_in e.machine) (devices_reset e.devices).reader
KindLoads (Some (kinds.Disk index)) e =
    DiskLoads (storage_in e.machine) (slice_get (map reset_disk e.disks) index)
KindLoads (Some kinds.Console) e = λ page. ⊥
KindLoads (Some kinds.Punch) e = λ page. ⊥
KindLoads (Some kinds.Printer) e = λ page. ⊥
KindLoads None e = λ page. ⊥

-- the pages that an IPL needs
abbrev pub IplNeeds : ℕ → Equipped → ℕ → Type 0
IplNeeds device e = KindLoads (kind_at e.devices e.disks device) e

-- memory was refused to a loading from a device of this kind before it began, or with room for its
-- pages, as the channels say it of any device. A reader is one that feeds from the queue of its
-- user.
module _ {S : Type 0} (HadRoom : (D : Type 0) → Device D → S → D → S → Type 0) (old new : S) where
  abbrev pub LoadHadRoom : Option AttachedDevice → Equipped → Type 0
  LoadHadRoom (Some kinds.Reader) e = (new ≡ old)
      ⊎ ((feed : FeedState) × HadRoom FeedState feed_machine old feed new)
  LoadHadRoom (Some (kinds.Disk index)) e = (new ≡ old)
      ⊎ DiskHadRoomToLoad HadRoom old (slice_get (map reset_disk e.disks) index) new
  LoadHadRoom (Some kinds.Console) e = ⊥
  LoadHadRoom (Some kinds.Punch) e = ⊥
  LoadHadRoom (Some kinds.Printer) e = ⊥
  LoadHadRoom None e = ⊥

-- an IPL from the device of this address
abbrev pub IsIpl : ℕ → Equipped → LineOutcome → Equipped → Type 0
IsIpl device old reported new =
    LoadsKind (kind_at old.devices old.disks device) device old reported new

-- ---- a command that concerns devices' files or other users

-- what each command of devices does
abbrev pub IsObeyed : UserDirectory → DeviceCommand → Equipped → LineOutcome → Equipped → Type 0
IsObeyed w commands.QueryFiles old reported new =
    outcome new reported ≡ outcome old (files_told old.devices.reader.decks)
IsObeyed w commands.QueryUsers old reported new =
    outcome new reported ≡ outcome old (Said (responses.Users (users_on w)))
IsObeyed w (commands.Spool device name) old reported new =
    outcome new reported ≡ spool_answered w device name old
IsObeyed w (commands.Close device) old reported new =
    outcome new reported ≡ close_answered device old
IsObeyed w (commands.Purge file) old reported new = outcome new reported ≡ purge_answered file old
IsObeyed w (commands.Message name text) old reported new = (new ≡ old)
    × SendsTo (user_of w.names name) w text reported

-- ---- a line

-- what each kind of line does
abbrev pub IsAnswered : Request → UserDirectory → List ℕ → Equipped → LineOutcome → Equipped
    → Type 0
IsAnswered LogsOn w typed old reported new = outcome new reported ≡ logged_on old
IsAnswered LogsOff w typed old reported new = outcome new reported ≡ logged_off old
IsAnswered Resets w typed old reported new = outcome new reported ≡ was_reset old
IsAnswered Types w typed old reported new =
    outcome new reported ≡ typed_at old.devices.places.console (cleaned typed) old
IsAnswered (Loads device) w typed old reported new = IsIpl device old reported new
IsAnswered (Asks command) w typed old reported new = IsObeyed w command old reported new
IsAnswered (Alone asked) w typed old reported new = outcome new reported ≡ answered_alone asked old

-- what a line asks; it is cut and cleaned first
abbrev pub requested : List ℕ → Equipped → Request
requested typed e = request_in e.machine.mode (is_some e.devices.places.console) (cleaned typed)

-- a line, what it leaves, and what is reported
abbrev pub IsLine : UserDirectory → List ℕ → Equipped → LineOutcome → Equipped → Type 0
IsLine w typed old reported new = IsAnswered (requested typed old) w typed old reported new
