-- What happens to a machine with devices leaves one machine, event by event.
use Rattle.std.proofs.Common.{◌≡◌, ℕ, Bool, true, false, List, [], ◌∷◌, Option, Some, None, refl, sym, ap, subst, ◌∙◌}
use Rattle.std.specs.Prelude.{if◌then◌else◌, codes, map, set, slice_get}
use Rattle.std.specs.Str.{bytes_eq}
use Rattle.user_names.specs.Users.{user_of}
use Rattle.unit_record.specs.Console.{ConsoleState, console_machine, without_lines}
use Rattle.unit_record.specs.Reader.{ReaderState, reader_machine}
use Rattle.unit_record.specs.Punch.{PunchState, punch_machine}
use Rattle.unit_record.specs.Printer.{PrinterState, printer_machine}
use Rattle.unit_record.specs.declared.output.Target.TheVariants as targets
use Rattle.ckd_volume.specs.Unit.{Disk, disk_machine, rested}
use Rattle.s370_store.specs.Memory.{Memory, memory_of}
use Rattle.s370_walk.specs.declared.parts.Ending.{Ending}
use Rattle.s370_walk.specs.Hardware.{Machine as Device}
use Rattle.s370_walk.specs.Walk.{Fetching, Form, Moving, Over, Reaches, Setting, State, live}
use Rattle.s370_walk.proofs.Reaching.{one_end}
use Rattle.s370_channel.specs.declared.words.Caw.{Caw}
use Rattle.s370_channel.specs.Guest.{guest_written}
use Rattle.s370_channel.specs.Loading.{loading, loading_limits}
use Rattle.s370_channel.specs.Progress.{setting}
use Rattle.s370_channel.specs.Reading.{Reading}
use Rattle.s370_channel.specs.Runs.{Walks, begun, limited}
use Rattle.s370_subchannels.specs.Programs.{program_of}
use Rattle.cp_console.specs.declared.device_commands.DeviceCommand.{DeviceCommand}
use Rattle.cp_console.specs.declared.device_commands.DeviceCommand.TheVariants as commands
use Rattle.cp_console.specs.declared.responses.Response.TheVariants as responses
use Rattle.machine_panel.specs.Machine.{Machine, reset}
use Rattle.machine_channels.specs.Channels.{WalksAt}
use Rattle.machine_channels.specs.Disks.{DiskAt, reset_disk}
use Rattle.machine_devices.specs.declared.line.LineOutcome.{LineOutcome}
use Rattle.machine_devices.specs.declared.line.LineOutcome.TheVariants.{Said}
use Rattle.machine_devices.specs.declared.places.AttachedDevice.{AttachedDevice}
use Rattle.machine_devices.specs.declared.places.AttachedDevice.TheVariants as kinds
use Rattle.machine_devices.specs.declared.request.Request.{Request}
use Rattle.machine_devices.specs.declared.request.Request.TheVariants.{LogsOn, LogsOff, Resets, Types, Loads, Asks}
use Rattle.machine_devices.specs.declared.request.Request.TheVariants.{Alone}
use Rattle.machine_devices.specs.Devices.{DevicesValue, kind_at, part_at}
use Rattle.machine_devices.specs.Equipped.{Equipped, storage_in}
use Rattle.machine_devices.specs.Life.{Event, Units, Serve, Line, Tick, Deck, Message, Purge, Leaves, Lives}
use Rattle.machine_devices.specs.Lines.{IsAnswered, IsObeyed, LoadsDisk, LoadsKind, LoadsReader, LoadsUnit, Outcome}
use Rattle.machine_devices.specs.Lines.{outcome, requested, spool_answered, spooled_to, target_in}
use Rattle.machine_devices.specs.Loading.{is_good, left_by}
use Rattle.machine_devices.specs.OneLife.{KeepsNames, LinesAreOne, LivesAreApart, LivesAreOne, elsewhere}
use Rattle.machine_devices.specs.Resets.{devices_reset}
use Rattle.machine_devices.specs.Serve.{IsServedAt, RunsConsole, RunsKind, RunsPart, Serves, console_over, program_over}
use Rattle.machine_devices.specs.Spooling.{is_punch}
use Rattle.machine_devices.specs.UserDirectory.{UserDirectory}

-- ---- parts of what a walk comes to

abbrev ending_in : {D : Type 0} → State D → Ending → Ending
ending_in (Fetching spot m d) other = other
ending_in (Moving p m d) other = other
ending_in (Over e m d) other = e

abbrev memory_in : {D : Type 0} → State D → Memory
memory_in (Fetching spot m d) = m
memory_in (Moving p m d) = m
memory_in (Over e m d) = m

abbrev device_in : {D : Type 0} → State D → D
device_in (Fetching spot m d) = d
device_in (Moving p m d) = d
device_in (Over e m d) = d

-- Two ends of one walk are equal in all their parts.
pub record AreOne {D : Type 0} (e f : Ending) (m n : Memory) (d g : D) : Type 0 where
  pub ending : e ≡ f
  pub memory : m ≡ n
  pub device : d ≡ g

-- A walk comes to one end.
pub ends_are_one : {D : Type 0} (form : Form) (h : Setting D) (s : State D) (e f : Ending) (m n : Memory) (d g : D)
    → Reaches form h s (Over e m d) → Reaches form h s (Over f n g) → AreOne e f m n d g
ends_are_one {D} form h s e f m n d g a b =
    let same : ◌≡◌ {A = State D} (Over e m d) (Over f n g) = one_end form h s e f m n d g a b in
    record {
      ending = ap (λ (s : State D). ending_in s e) same;
      memory = ap (λ (s : State D). memory_in s) same;
      device = ap (λ (s : State D). device_in s) same;
    }

-- ---- machines of which all parts are known

made : Machine → DevicesValue → List DiskAt → Equipped
made machine devices disks = record { machine = machine; devices = devices; disks = disks }

is_made : (e : Equipped) → e ≡ record { machine = e.machine; devices = e.devices; disks = e.disks }
is_made e = refl

all_one : (a b : Equipped) → a.machine ≡ b.machine → a.devices ≡ b.devices → a.disks ≡ b.disks → a ≡ b
all_one a b m d k =
    let first : a ≡ record { machine = b.machine; devices = a.devices; disks = a.disks } =
    ap (λ (x : Machine). record { machine = x; devices = a.devices; disks = a.disks }) m in
    let second : record { machine = b.machine; devices = a.devices; disks = a.disks }
    ≡ record { machine = b.machine; devices = b.devices; disks = a.disks } =
    ap (λ (x : DevicesValue). record { machine = b.machine; devices = x; disks = a.disks }) d in
    let third : record { machine = b.machine; devices = b.devices; disks = a.disks } ≡ b =
    ap (λ (x : List DiskAt). record { machine = b.machine; devices = b.devices; disks = x }) k in
    first ∙ second ∙ third

both : {A : Type 0} (a b c : A) → a ≡ c → b ≡ c → a ≡ b
both a b c e f = e ∙ sym f

outcomes_are_one : (a b : Equipped) (reported said : LineOutcome) (o : Outcome) → outcome a reported ≡ o
    → outcome b said ≡ o → a ≡ b
outcomes_are_one a b reported said o e f = ap (λ (x : Outcome). x.equipped) e ∙ sym (ap (λ (x : Outcome). x.equipped) f)

-- ---- a device that is served

overs_are_one : (device key : ℕ) (e f : Ending) (old a b : Machine)
    → a ≡ program_over device key e old a.core.processor.bytes
    → b ≡ program_over device key f old b.core.processor.bytes → e ≡ f → storage_in a ≡ storage_in b → a ≡ b
overs_are_one device key e f old a b l r same storage =
    l ∙ ap (λ (x : Ending). program_over device key x old a.core.processor.bytes) same ∙ ap
    (λ (m : Memory). program_over device key f old m.bytes) storage ∙ sym r

module _ (reads : Reading) where
  parts_are_one : {D : Type 0} (part : Device D) (device : ℕ) (start : Caw) (old : Machine) (before : D) (a b : Machine)
      (x y : D) (l : RunsPart reads part device start old before a x)
      (r : RunsPart reads part device start old before b y) → AreOne l.ending r.ending (storage_in a) (storage_in b) x y
  parts_are_one part device start old before a b x y l r =
      ends_are_one (reads (storage_in old)) (limited part start) (begun start (storage_in old) before) l.ending r.ending
      (storage_in a) (storage_in b) x y l.walk r.walk

  consoles_are_one : (device : ℕ) (start : Caw) (old a b : Equipped) → RunsConsole reads device start old a
      → RunsConsole reads device start old b → a ≡ b
  consoles_are_one device start old a b l r =
      let one = ends_are_one (reads (storage_in old.machine)) (limited console_machine start)
      (begun start (storage_in old.machine) old.devices.console) l.ending r.ending (storage_in a.machine)
      (storage_in b.machine) l.console r.console l.walk r.walk in
      let machine : a.machine ≡ b.machine =
      l.left ∙ ap (λ (x : Ending).
      console_over device start.key x l.console old.machine a.machine.core.processor.bytes) one.ending ∙ ap
      (λ (c : ConsoleState). console_over device start.key r.ending c old.machine a.machine.core.processor.bytes)
      one.device ∙ ap (λ (m : Memory). console_over device start.key r.ending r.console old.machine m.bytes)
      one.memory ∙ sym r.left in
      let devices : a.devices ≡ b.devices =
      l.devices ∙ ap (λ (c : ConsoleState). record old.devices { console = without_lines c }) one.device ∙ sym
      r.devices in
      all_one a b machine devices (both a.disks b.disks old.disks l.disks r.disks)

  disks_are_one : (o : Option DiskAt) (index device : ℕ) (start : Caw) (old a b : Equipped) (e f : Ending)
      → WalksAt reads start (storage_in old.machine) old.disks index o e (storage_in a.machine) a.disks
      → WalksAt reads start (storage_in old.machine) old.disks index o f (storage_in b.machine) b.disks
      → a.machine ≡ program_over device start.key e old.machine a.machine.core.processor.bytes
      → b.machine ≡ program_over device start.key f old.machine b.machine.core.processor.bytes → a.devices ≡ b.devices
      → a ≡ b
  disks_are_one None index device start old a b e f l r left right d = absurd l
  disks_are_one (Some disk) index device start old a b e f l r left right d =
      let one = ends_are_one (reads (storage_in old.machine)) (limited disk_machine start)
      (begun start (storage_in old.machine) disk.unit) e f (storage_in a.machine) (storage_in b.machine) l.one.unit
      r.one.unit l.one.walk r.one.walk in
      let rests : l.left ≡ r.left =
      l.one.rest ∙ ap (λ (u : Disk). record disk { unit = rested u }) one.device ∙ sym r.one.rest in
      let disks : a.disks ≡ b.disks = l.rest ∙ ap (λ (x : DiskAt). set old.disks index x) rests ∙ sym r.rest in
      all_one a b (overs_are_one device start.key e f old.machine a.machine b.machine left right one.ending one.memory)
      d disks

  kinds_are_one : (k : AttachedDevice) (device : ℕ) (start : Caw) (old a b : Equipped)
      → RunsKind reads k device start old a
      → RunsKind reads k device start old b → a ≡ b
  kinds_are_one kinds.Console device start old a b l r = consoles_are_one device start old a b l r
  kinds_are_one kinds.Reader device start old a b l r =
      let one = parts_are_one reader_machine device start old.machine old.devices.reader a.machine b.machine
      a.devices.reader b.devices.reader l.0 r.0 in
      all_one a b (overs_are_one device start.key l.0.ending r.0.ending old.machine a.machine b.machine l.0.left
      r.0.left one.ending one.memory)
      (l.1 ∙ ap (λ (x : ReaderState). record old.devices { reader = x }) one.device ∙ sym r.1)
      (both a.disks b.disks old.disks l.2 r.2)
  kinds_are_one kinds.Punch device start old a b l r =
      let one = parts_are_one punch_machine device start old.machine old.devices.punch a.machine b.machine
      a.devices.punch b.devices.punch l.0 r.0 in
      all_one a b (overs_are_one device start.key l.0.ending r.0.ending old.machine a.machine b.machine l.0.left
      r.0.left one.ending one.memory)
      (l.1 ∙ ap (λ (x : PunchState). record old.devices { punch = x }) one.device ∙ sym r.1)
      (both a.disks b.disks old.disks l.2 r.2)
  kinds_are_one kinds.Printer device start old a b l r =
      let one = parts_are_one printer_machine device start old.machine old.devices.printer a.machine b.machine
      a.devices.printer b.devices.printer l.0 r.0 in
      all_one a b (overs_are_one device start.key l.0.ending r.0.ending old.machine a.machine b.machine l.0.left
      r.0.left one.ending one.memory)
      (l.1 ∙ ap (λ (x : PrinterState). record old.devices { printer = x }) one.device ∙ sym r.1)
      (both a.disks b.disks old.disks l.2 r.2)
  kinds_are_one (kinds.Disk index) device start old a b l r =
      disks_are_one (slice_get old.disks index) index device start old a b l.ending r.ending l.walk r.walk l.left r.left
      (both a.devices b.devices old.devices l.devices r.devices)

  serves_are_one : (k : Option AttachedDevice) (start : Option Caw) (device : ℕ) (old a b : Equipped) (done did : Bool)
      → Serves reads k start device old done a → Serves reads k start device old did b → a ≡ b
  serves_are_one None start device old a b done did l r = both a b old l.1 r.1
  serves_are_one (Some kind) None device old a b done did l r = both a b old l.1 r.1
  serves_are_one (Some kind) (Some start) device old a b done did l r = kinds_are_one kind device start old a b l.1 r.1

-- ---- a loading

lefts_are_one : (device : ℕ) (old : Machine) (e f : Ending) (xs ys : List ℕ) (a b : Machine)
    → a ≡ left_by (is_good e) device (reset old) xs → b ≡ left_by (is_good f) device (reset old) ys → e ≡ f → xs ≡ ys
    → a ≡ b
lefts_are_one device old e f xs ys a b l r same bytes =
    l ∙ ap (λ (x : Ending). left_by (is_good x) device (reset old) xs) same ∙ ap
    (λ (x : List ℕ). left_by (is_good f) device (reset old) x) bytes ∙ sym r

readers_loaded : (device : ℕ) (old a b : Equipped) (reported said : LineOutcome) → LoadsReader device old reported a
    → LoadsReader device old said b → a ≡ b
readers_loaded device old a b reported said l r =
    let keys : List ℕ = old.machine.core.processor.keys in
    let one = ends_are_one (live guest_written) (setting reader_machine loading_limits)
    (loading reader_machine (storage_in old.machine) (devices_reset old.devices).reader) l.loaded.ending
    r.loaded.ending (memory_of l.loaded.bytes keys) (memory_of r.loaded.bytes keys) a.devices.reader
    b.devices.reader l.loaded.walk r.loaded.walk in
    all_one a b (lefts_are_one device old.machine l.loaded.ending r.loaded.ending l.loaded.bytes r.loaded.bytes
    a.machine b.machine l.loaded.left r.loaded.left one.ending (ap (λ (m : Memory). m.bytes) one.memory))
    (l.rest ∙ ap (λ (x : ReaderState). record (devices_reset old.devices) { reader = x }) one.device ∙ sym r.rest)
    (both a.disks b.disks (map reset_disk old.disks) l.disks r.disks)

units_loaded : (index : ℕ) (disk : DiskAt) (device : ℕ) (old a b : Equipped) (reported said : LineOutcome)
    → LoadsUnit index disk device old reported a → LoadsUnit index disk device old said b → a ≡ b
units_loaded index disk device old a b reported said l r =
    let keys : List ℕ = old.machine.core.processor.keys in
    let one = ends_are_one (live guest_written) (setting disk_machine loading_limits)
    (loading disk_machine (storage_in old.machine) disk.unit) l.loaded.ending r.loaded.ending
    (memory_of l.loaded.bytes keys) (memory_of r.loaded.bytes keys) l.unit r.unit l.loaded.walk r.loaded.walk in
    all_one a b (lefts_are_one device old.machine l.loaded.ending r.loaded.ending l.loaded.bytes r.loaded.bytes
    a.machine b.machine l.loaded.left r.loaded.left one.ending (ap (λ (m : Memory). m.bytes) one.memory))
    (both a.devices b.devices (devices_reset old.devices) l.rest r.rest)
    (l.disks ∙ ap (λ (u : Disk). set (map reset_disk old.disks) index (record disk { unit = rested u })) one.device
    ∙ sym r.disks)

disks_loaded : (o : Option DiskAt) (index device : ℕ) (old a b : Equipped) (reported said : LineOutcome)
    → LoadsDisk index o device old reported a → LoadsDisk index o device old said b → a ≡ b
disks_loaded (Some disk) index device old a b reported said l r =
    units_loaded index disk device old a b reported said l r
disks_loaded None index device old a b reported said l r = outcomes_are_one a b reported said _ l r

kinds_loaded : (k : Option AttachedDevice) (device : ℕ) (old a b : Equipped) (reported said : LineOutcome)
    → LoadsKind k device old reported a → LoadsKind k device old said b → a ≡ b
kinds_loaded (Some kinds.Reader) device old a b reported said l r = readers_loaded device old a b reported said l r
kinds_loaded (Some (kinds.Disk index)) device old a b reported said l r =
    disks_loaded (slice_get (map reset_disk old.disks) index) index device old a b reported said l r
kinds_loaded (Some kinds.Console) device old a b reported said l r = outcomes_are_one a b reported said _ l r
kinds_loaded (Some kinds.Punch) device old a b reported said l r = outcomes_are_one a b reported said _ l r
kinds_loaded (Some kinds.Printer) device old a b reported said l r = outcomes_are_one a b reported said _ l r
kinds_loaded None device old a b reported said l r = outcomes_are_one a b reported said _ l r

-- ---- a line

spools_alike : (v w : UserDirectory) (device : ℕ) (name : List ℕ) (old : Equipped) → v.names ≡ w.names
    → spool_answered v device name old ≡ spool_answered w device name old
spools_alike v w device name old same =
    ap (λ (names : List (List ℕ)). if is_punch (part_at old.devices device)
    then spooled_to (if bytes_eq name (codes "SYSTEM") then Some targets.System else target_in (user_of names name))
    device old
    else outcome old (Said responses.DeviceNotFound)) same

obeys_alike : (v w : UserDirectory) (command : DeviceCommand) (old a b : Equipped) (reported said : LineOutcome)
    → v.names ≡ w.names → IsObeyed v command old reported a → IsObeyed w command old said b → a ≡ b
obeys_alike v w commands.QueryFiles old a b reported said same l r = outcomes_are_one a b reported said _ l r
obeys_alike v w commands.QueryUsers old a b reported said same l r =
    both a b old (ap (λ (x : Outcome). x.equipped) l) (ap (λ (x : Outcome). x.equipped) r)
obeys_alike v w (commands.Spool device name) old a b reported said same l r =
    outcomes_are_one a b reported said (spool_answered w device name old) (l ∙ spools_alike v w device name old same) r
obeys_alike v w (commands.Close device) old a b reported said same l r = outcomes_are_one a b reported said _ l r
obeys_alike v w (commands.Purge file) old a b reported said same l r = outcomes_are_one a b reported said _ l r
obeys_alike v w (commands.Message name text) old a b reported said same l r = both a b old l.0 r.0

answers_alike : (q : Request) (v w : UserDirectory) (typed : List ℕ) (old a b : Equipped) (reported said : LineOutcome)
    → v.names ≡ w.names → IsAnswered q v typed old reported a → IsAnswered q w typed old said b → a ≡ b
answers_alike LogsOn v w typed old a b reported said same l r = outcomes_are_one a b reported said _ l r
answers_alike LogsOff v w typed old a b reported said same l r = outcomes_are_one a b reported said _ l r
answers_alike Resets v w typed old a b reported said same l r = outcomes_are_one a b reported said _ l r
answers_alike Types v w typed old a b reported said same l r = outcomes_are_one a b reported said _ l r
answers_alike (Loads device) v w typed old a b reported said same l r =
    kinds_loaded (kind_at old.devices old.disks device) device old a b reported said l r
answers_alike (Asks command) v w typed old a b reported said same l r =
    obeys_alike v w command old a b reported said same l r
answers_alike (Alone asked) v w typed old a b reported said same l r = outcomes_are_one a b reported said _ l r

-- A typed line has one outcome.
pub lines_are_one : LinesAreOne
lines_are_one v w typed old one other reported said same l r =
    answers_alike (requested typed old) v w typed old one other reported said same l r

-- ---- events

leaves_one : (reads : Reading) (event : Event) (old a b : Equipped) → Leaves reads event old a
    → Leaves reads event old b → a ≡ b
leaves_one reads (Units count) old a b l r =
    all_one a b (both a.machine b.machine _ l.0 r.0) (both a.devices b.devices old.devices l.1 r.1)
    (both a.disks b.disks old.disks l.2 r.2)
leaves_one reads (Serve device) old a b l r =
    serves_are_one reads (kind_at old.devices old.disks device) (program_of device old.machine.core.subchannels) device
    old a b l.0 r.0 l.1 r.1
leaves_one reads (Line world typed) old a b l r = lines_are_one world world typed old a b l.0 r.0 refl l.1 r.1
leaves_one reads Tick old a b l r =
    all_one a b (both a.machine b.machine _ l.0 r.0) (both a.devices b.devices old.devices l.1 r.1)
    (both a.disks b.disks old.disks l.2 r.2)
leaves_one reads (Deck deck) old a b l r = both a b _ l r
leaves_one reads (Message text) old a b l r = both a b _ l r
leaves_one reads (Purge id) old a b l r = both a b _ l r

-- Two machines that live the same events are equal.
pub lives_are_one : LivesAreOne
lives_are_one reads [] first one other l r = both one other first l r
lives_are_one reads (event ∷ events) first one other l r =
    let same : l.0 ≡ r.0 = leaves_one reads event first l.0 r.0 l.1 r.1 in
    lives_are_one reads events l.0 one other l.2 (subst (λ (e : Equipped). Lives reads events e other) (sym same) r.2)

-- ---- events in other worlds

leaves_apart : (reads : Reading) (there : UserDirectory → UserDirectory) (event : Event) (old a b : Equipped)
    → KeepsNames there → Leaves reads event old a → Leaves reads (elsewhere there event) old b → a ≡ b
leaves_apart reads there (Units count) old a b keeps l r = leaves_one reads (Units count) old a b l r
leaves_apart reads there (Serve device) old a b keeps l r = leaves_one reads (Serve device) old a b l r
leaves_apart reads there (Line world typed) old a b keeps l r =
    lines_are_one world (there world) typed old a b l.0 r.0 (sym (keeps world)) l.1 r.1
leaves_apart reads there Tick old a b keeps l r = leaves_one reads Tick old a b l r
leaves_apart reads there (Deck deck) old a b keeps l r = leaves_one reads (Deck deck) old a b l r
leaves_apart reads there (Message text) old a b keeps l r = leaves_one reads (Message text) old a b l r
leaves_apart reads there (Purge id) old a b keeps l r = leaves_one reads (Purge id) old a b l r

-- What happens to one machine leaves the others as they are.
pub lives_are_apart : LivesAreApart
lives_are_apart reads there [] first one other keeps l r = both one other first l r
lives_are_apart reads there (event ∷ events) first one other keeps l r =
    let same : l.0 ≡ r.0 = leaves_apart reads there event first l.0 r.0 keeps l.1 r.1 in
    lives_are_apart reads there events l.0 one other keeps l.2
    (subst (λ (e : Equipped). Lives reads (map (elsewhere there) events) e other) (sym same) r.2)
