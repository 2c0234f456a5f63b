-- What a line reports is one.
use Rattle.std.proofs.Common.{◌≡◌, ◌∙◌, ℕ, Bool, true, false, List, Option, Some, None, inl, inr, refl, sym, ap}
use Rattle.std.specs.Prelude.{map, slice_get}
use Rattle.user_names.specs.Users.{user_of}
use Rattle.unit_record.specs.Reader.{reader_machine}
use Rattle.ckd_volume.specs.Unit.{disk_machine}
use Rattle.s370_store.specs.Memory.{memory_of}
use Rattle.s370_walk.specs.declared.parts.Ending.{Ending}
use Rattle.s370_walk.specs.Walk.{live}
use Rattle.s370_channel.specs.Guest.{guest_written}
use Rattle.s370_channel.specs.Loading.{loading, loading_limits}
use Rattle.s370_channel.specs.Progress.{setting}
use Rattle.cp_console.specs.declared.device_commands.DeviceCommand.{DeviceCommand}
use Rattle.cp_console.specs.declared.device_commands.DeviceCommand.TheVariants as commands
use Rattle.machine_channels.specs.Disks.{DiskAt, reset_disk}
use Rattle.machine_devices.specs.declared.line.LineOutcome.{LineOutcome}
use Rattle.machine_devices.specs.declared.places.AttachedDevice.{AttachedDevice}
use Rattle.machine_devices.specs.declared.places.AttachedDevice.TheVariants as kinds
use Rattle.machine_devices.specs.declared.request.Request.{Request}
use Rattle.machine_devices.specs.declared.request.Request.TheVariants.{LogsOn, LogsOff, Resets, Types, Loads, Asks}
use Rattle.machine_devices.specs.declared.request.Request.TheVariants.{Alone}
use Rattle.machine_devices.specs.Devices.{kind_at}
use Rattle.machine_devices.specs.Equipped.{Equipped, storage_in}
use Rattle.machine_devices.specs.Lines.{IsAnswered, IsObeyed, LoadsDisk, LoadsKind, LoadsReader, LoadsUnit, Outcome}
use Rattle.machine_devices.specs.Lines.{SendsTo, SendsWhere, ipl_told, outcome, requested}
use Rattle.machine_devices.specs.Loading.{is_good}
use Rattle.machine_devices.specs.OneReply.{IsOneOutcome, OutcomesAreOne}
use Rattle.machine_devices.specs.Resets.{devices_reset}
use Rattle.machine_devices.specs.UserDirectory.{UserDirectory, is_on}
use Rattle.machine_devices.proofs.OneLife.{ends_are_one}

reports_one : (a b : Equipped) (reported said : LineOutcome) (o : Outcome) → outcome a reported ≡ o
    → outcome b said ≡ o → IsOneOutcome reported said
reports_one a b reported said o e f =
    inl (ap (λ (x : Outcome). x.reported) f ∙ sym (ap (λ (x : Outcome). x.reported) e))

-- ---- a loading

loads_one : (e f : Ending) (well did : Bool) (reported said : LineOutcome) → reported ≡ ipl_told well
    → said ≡ ipl_told did → well ≡ is_good e → did ≡ is_good f → e ≡ f → IsOneOutcome reported said
loads_one e f well did reported said l r w d same =
    let one : did ≡ well = d ∙ sym (ap is_good same) ∙ sym w in
    inl (r ∙ ap ipl_told one ∙ sym l)

readers_tell : (device : ℕ) (old a b : Equipped) (reported said : LineOutcome) → LoadsReader device old reported a
    → LoadsReader device old said b → IsOneOutcome reported said
readers_tell device old a b reported said l r =
    let keys : List ℕ = old.machine.core.processor.keys in
    let one = ends_are_one (live guest_written) (setting reader_machine loading_limits)
    (loading reader_machine (storage_in old.machine) (devices_reset old.devices).reader) l.loaded.ending
    r.loaded.ending (memory_of l.loaded.bytes keys) (memory_of r.loaded.bytes keys) a.devices.reader
    b.devices.reader l.loaded.walk r.loaded.walk in
    loads_one l.loaded.ending r.loaded.ending l.well r.well reported said l.says r.says l.loaded.reported
    r.loaded.reported one.ending

units_tell : (index : ℕ) (disk : DiskAt) (device : ℕ) (old a b : Equipped) (reported said : LineOutcome)
    → LoadsUnit index disk device old reported a → LoadsUnit index disk device old said b → IsOneOutcome reported said
units_tell index disk device old a b reported said l r =
    let keys : List ℕ = old.machine.core.processor.keys in
    let one = ends_are_one (live guest_written) (setting disk_machine loading_limits)
    (loading disk_machine (storage_in old.machine) disk.unit) l.loaded.ending r.loaded.ending
    (memory_of l.loaded.bytes keys) (memory_of r.loaded.bytes keys) l.unit r.unit l.loaded.walk r.loaded.walk in
    loads_one l.loaded.ending r.loaded.ending l.well r.well reported said l.says r.says l.loaded.reported
    r.loaded.reported one.ending

disks_tell : (o : Option DiskAt) (index device : ℕ) (old a b : Equipped) (reported said : LineOutcome)
    → LoadsDisk index o device old reported a → LoadsDisk index o device old said b → IsOneOutcome reported said
disks_tell (Some disk) index device old a b reported said l r =
    units_tell index disk device old a b reported said l r
disks_tell None index device old a b reported said l r = reports_one a b reported said _ l r

kinds_tell : (k : Option AttachedDevice) (device : ℕ) (old a b : Equipped) (reported said : LineOutcome)
    → LoadsKind k device old reported a → LoadsKind k device old said b → IsOneOutcome reported said
kinds_tell (Some kinds.Reader) device old a b reported said l r = readers_tell device old a b reported said l r
kinds_tell (Some (kinds.Disk index)) device old a b reported said l r =
    disks_tell (slice_get (map reset_disk old.disks) index) index device old a b reported said l r
kinds_tell (Some kinds.Console) device old a b reported said l r = reports_one a b reported said _ l r
kinds_tell (Some kinds.Punch) device old a b reported said l r = reports_one a b reported said _ l r
kinds_tell (Some kinds.Printer) device old a b reported said l r = reports_one a b reported said _ l r
kinds_tell None device old a b reported said l r = reports_one a b reported said _ l r

-- ---- a line

same_said : (reported said other : LineOutcome) → reported ≡ other → said ≡ other → IsOneOutcome reported said
same_said reported said other l r = inl (r ∙ sym l)

sends_where : (on : Bool) (user : ℕ) (w : UserDirectory) (text : List ℕ) (reported said : LineOutcome)
    → SendsWhere on user w text reported → SendsWhere on user w text said → IsOneOutcome reported said
sends_where true user w text reported said l r =
    inr (record {
      user = user;
      line = l.0;
      text = r.0;
      sends = l.2;
      also = r.2;
      characters = r.1 ∙ sym l.1;
    })
sends_where false user w text reported said l r = same_said reported said _ l r

sends_to : (o : Option ℕ) (w : UserDirectory) (text : List ℕ) (reported said : LineOutcome)
    → SendsTo o w text reported → SendsTo o w text said → IsOneOutcome reported said
sends_to None w text reported said l r = same_said reported said _ l r
sends_to (Some user) w text reported said l r = sends_where (is_on w user) user w text reported said l r

obeys_tell : (w : UserDirectory) (command : DeviceCommand) (old a b : Equipped) (reported said : LineOutcome)
    → IsObeyed w command old reported a → IsObeyed w command old said b → IsOneOutcome reported said
obeys_tell w commands.QueryFiles old a b reported said l r = reports_one a b reported said _ l r
obeys_tell w commands.QueryUsers old a b reported said l r = reports_one a b reported said _ l r
obeys_tell w (commands.Spool device name) old a b reported said l r = reports_one a b reported said _ l r
obeys_tell w (commands.Close device) old a b reported said l r = reports_one a b reported said _ l r
obeys_tell w (commands.Purge file) old a b reported said l r = reports_one a b reported said _ l r
obeys_tell w (commands.Message name text) old a b reported said l r =
    sends_to (user_of w.names name) w text reported said l.1 r.1

answers_tell : (q : Request) (w : UserDirectory) (typed : List ℕ) (old a b : Equipped) (reported said : LineOutcome)
    → IsAnswered q w typed old reported a → IsAnswered q w typed old said b → IsOneOutcome reported said
answers_tell LogsOn w typed old a b reported said l r = reports_one a b reported said _ l r
answers_tell LogsOff w typed old a b reported said l r = reports_one a b reported said _ l r
answers_tell Resets w typed old a b reported said l r = reports_one a b reported said _ l r
answers_tell Types w typed old a b reported said l r = reports_one a b reported said _ l r
answers_tell (Loads device) w typed old a b reported said l r =
    kinds_tell (kind_at old.devices old.disks device) device old a b reported said l r
answers_tell (Asks command) w typed old a b reported said l r = obeys_tell w command old a b reported said l r
answers_tell (Alone asked) w typed old a b reported said l r = reports_one a b reported said _ l r

-- A line that is typed at one machine reports one thing.
pub outcomes_are_one : OutcomesAreOne
outcomes_are_one w typed old one other reported said l r =
    answers_tell (requested typed old) w typed old one other reported said l r
