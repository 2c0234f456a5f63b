-- Attention agrees with the lines that wait, event by event.
use Rattle.std.proofs.Common.{◌≡◌, ℕ, ◌+◌, Bool, true, false, List, [], ◌∷◌, ◌++◌, length, Option, Some, None, refl}
use Rattle.std.proofs.Common.{sym, ap, subst, ◌∙◌, arith, eq-eqb, length-append, ne_eqb}
use Rattle.std.proofs.lemmas.Bool.{lt-ltb}
use Rattle.std.specs.Prelude.{if◌then◌else◌, ◌==◌, ◌&&◌, map, nat_lt, slice_get}
use Rattle.std.specs.List.{position}
use Rattle.unit_record.specs.Console.{ConsoleState, console_reset, has_room, typed_byte, wants_attention, with_typed}
use Rattle.unit_record.specs.Console.{without_lines}
use Rattle.unit_record.specs.declared.output.Target.{Target}
use Rattle.s370_walk.specs.declared.parts.Ending.{Ending}
use Rattle.s370_channel.specs.declared.words.Caw.{Caw}
use Rattle.s370_channel.specs.Reading.{Reading}
use Rattle.machine_channels.specs.Disks.{DiskAt, is_disk_at, reset_disk}
use Rattle.cp_console.specs.Lines.{cleaned}
use Rattle.cp_console.specs.Responses.{text_of, is_panel}
use Rattle.cp_console.specs.declared.device_commands.DeviceCommand.{DeviceCommand}
use Rattle.cp_console.specs.declared.device_commands.DeviceCommand.TheVariants as commands
use Rattle.cp_console.specs.declared.responses.Response.{Response}
use Rattle.cp_console.specs.declared.responses.Response.TheVariants as responses
use Rattle.s370_subchannels.specs.declared.subchannel.Subchannel.{Subchannel}
use Rattle.s370_subchannels.specs.Programs.{program_ended, program_of}
use Rattle.s370_subchannels.specs.Subchannels.{reset as reset_list, with_attention}
use Rattle.s370_intr.specs.Run.{run as run_core}
use Rattle.machine_panel.specs.DisplayStore.{changed, displayed, stored}
use Rattle.machine_panel.specs.declared.machine.Mode.{Mode}
use Rattle.machine_panel.specs.declared.machine.Mode.TheVariants.{Off, Stopped, Running}
use Rattle.machine_panel.specs.Machine.{Machine, printed, reset}
use Rattle.machine_panel.specs.declared.line.PanelLine.{PanelLine}
use Rattle.machine_panel.specs.declared.line.PanelLine.TheVariants.{Nothing, Says, Stop, Begin, External, Display}
use Rattle.machine_panel.specs.declared.line.PanelLine.TheVariants.{Store}
use Rattle.machine_panel.specs.Panel.{answered, line}
use Rattle.machine_panel.specs.Run.{halted, run, run_in}
use Rattle.machine_panel.specs.Tick.{ticked_in}
use Rattle.machine_devices.specs.declared.line.LineOutcome.{LineOutcome}
use Rattle.machine_devices.specs.declared.line.LineOutcome.TheVariants.{Said}
use Rattle.machine_devices.specs.declared.places.AttachedDevice.{AttachedDevice}
use Rattle.machine_devices.specs.declared.places.AttachedDevice.TheVariants as kinds
use Rattle.machine_devices.specs.declared.places.Places.{Places}
use Rattle.machine_devices.specs.declared.request.Request.{Request}
use Rattle.machine_devices.specs.declared.request.Request.TheVariants.{LogsOn, LogsOff, Resets, Types, Loads, Asks}
use Rattle.machine_devices.specs.declared.request.Request.TheVariants.{Alone}
use Rattle.machine_devices.specs.Attention.{AttentionAgrees, AttentionAgreesAtFirst, AttentionGoesOnAgreeing, waits_at}
use Rattle.machine_devices.specs.Devices.{DevicesValue, is_there, kind_at, part_at, part_or_disk}
use Rattle.machine_devices.specs.Equipped.{Equipped}
use Rattle.machine_devices.specs.Life.{Event, Units, Serve, Line, Tick, Deck, Message, Purge, Leaves}
use Rattle.machine_devices.specs.Lines.{IsAnswered, IsObeyed, LoadsDisk, LoadsKind, LoadsReader, LoadsUnit, Outcome}
use Rattle.machine_devices.specs.Lines.{close_answered, closed_at, logged_off, logged_on, outcome, requested}
use Rattle.machine_devices.specs.Lines.{printer_answered, punch_answered, spool_answered, spooled_to, target_of}
use Rattle.machine_devices.specs.Lines.{typed_at, typed_where, was_reset}
use Rattle.machine_devices.specs.Loading.{is_good, left_by}
use Rattle.machine_devices.specs.Serve.{IsServedAt, RunsConsole, Serves, program_over}
use Rattle.machine_devices.specs.Spooling.{is_punch, open_files}
use Rattle.machine_devices.specs.UserDirectory.{UserDirectory}
use Rattle.machine_devices.proofs.Marks.{AgreeElse, Keeps, Marks, attends_and_ends, ended_keeps, marked, reset_marks}
use Rattle.machine_devices.proofs.Marks.{run_keeps, same_number}

-- ---- a machine whose parts are known

agrees_as : (e : Equipped) (places : Places) (console : ConsoleState) (list : List Subchannel)
    → e.devices.places ≡ places → e.devices.console ≡ console → e.machine.core.subchannels ≡ list
    → Marks (waits_at places.console console) list → AttentionAgrees e
agrees_as e places console list p c l h =
    subst (λ (x : Places). Marks (waits_at x.console e.devices.console) e.machine.core.subchannels) (sym p)
    (subst (λ (x : ConsoleState). Marks (waits_at places.console x) e.machine.core.subchannels) (sym c)
    (subst (Marks (waits_at places.console console)) (sym l) h))

-- its marks are kept, and its console waits as before
alike : (old new : Equipped) → new.devices.places ≡ old.devices.places → new.devices.console ≡ old.devices.console
    → Keeps old.machine.core.subchannels new.machine.core.subchannels → AttentionAgrees old → AttentionAgrees new
alike old new p c k h =
    agrees_as new old.devices.places old.devices.console new.machine.core.subchannels p c refl
    (k (waits_at old.devices.places.console old.devices.console) h)

-- nothing changes but what has no part in it
same : (old new : Equipped) → new.devices.places ≡ old.devices.places → new.devices.console ≡ old.devices.console
    → new.machine.core.subchannels ≡ old.machine.core.subchannels → AttentionAgrees old → AttentionAgrees new
same old new p c l h = agrees_as new old.devices.places old.devices.console old.machine.core.subchannels p c l h

-- no line waits
nobody : (there : Bool) → there && false ≡ false
nobody true = refl
nobody false = refl

none_waits : (place : Option ℕ) (console : ConsoleState) → wants_attention console ≡ false → (device : ℕ)
    → waits_at place console device ≡ false
none_waits place console quiet device = rw quiet (nobody (is_there place device))

-- after a reset
afresh : (old new : Equipped) → new.devices.places ≡ old.devices.places
    → new.devices.console ≡ console_reset old.devices.console
    → new.machine.core.subchannels ≡ reset_list old.machine.core.subchannels → AttentionAgrees new
afresh old new p c l =
    agrees_as new old.devices.places (console_reset old.devices.console) (reset_list old.machine.core.subchannels) p c l
    (reset_marks (waits_at old.devices.places.console (console_reset old.devices.console))
    old.machine.core.subchannels (none_waits old.devices.places.console (console_reset old.devices.console) refl))

quiet_of : (console : ConsoleState) → console.waiting ≡ [] → wants_attention console ≡ false
quiet_of console e = rw e refl

-- Attentions agree with the console at first.
pub agrees_at_first : AttentionAgreesAtFirst
agrees_at_first m list d disks e =
    reset_marks (waits_at d.places.console d.console) list
    (none_waits d.places.console d.console (quiet_of d.console e))

-- ---- a run and a tick

halted_same : (notice : Option Response) (m : Machine) → (halted notice m).core.subchannels ≡ m.core.subchannels
halted_same None m = refl
halted_same (Some response) m = refl

runs_in : (mode : Mode) (n : ℕ) (m : Machine) → Keeps m.core.subchannels (run_in mode n m).machine.core.subchannels
runs_in Running n m f h =
    let r = run_in Running n m in subst (Marks f)
    (sym (halted_same r.notice (record m { core = (run_core n m.core).core }))) (run_keeps n m.core f h)
runs_in Stopped n m f h = h
runs_in Off n m f h = h

ticked_same : (mode : Mode) (m : Machine) → (ticked_in mode m).core.subchannels ≡ m.core.subchannels
ticked_same Running m = refl
ticked_same Stopped m = refl
ticked_same Off m = refl

-- ---- a device that is served

-- its program ends, and its part is no console
ends_alike : (device key : ℕ) (ending : Ending) (bytes : List ℕ) (old new : Equipped)
    → new.devices.places ≡ old.devices.places → new.devices.console ≡ old.devices.console
    → new.machine ≡ program_over device key ending old.machine bytes → AttentionAgrees old → AttentionAgrees new
ends_alike device key ending bytes old new p c left h =
    alike old new p c (λ f marks.
    subst (Marks f) (sym (ap (λ (m : Machine). m.core.subchannels) left))
    (ended_keeps device key ending old.machine.core.subchannels f marks)) h

-- consoles at one place wait alike at every other
same_place : (place : Option ℕ) (device : ℕ) (c c' : ConsoleState) → is_there place device ≡ true
    → AgreeElse device (waits_at place c) (waits_at place c')
same_place None device c c' is other n = refl
same_place (Some a) device c c' is other n =
    let apart : (a == other) ≡ false = ne_eqb a other (λ e. n (sym (same_number a device is) ∙ e)) in rw apart refl

waits_there : (there wants : Bool) → there ≡ true → wants ≡ true → there && wants ≡ true
waits_there there wants e w = rw (e, w) refl

waits_as : (there wants : Bool) → there ≡ true → (there && wants) ≡ wants
waits_as there wants e = rw e refl

module _ (reads : Reading) where
  console_runs : (device : ℕ) (start : Caw) (old new : Equipped) → is_there old.devices.places.console device ≡ true
      → RunsConsole reads device start old new → AttentionAgrees old → AttentionAgrees new
  console_runs device start old new is r h =
      let place : Option ℕ = old.devices.places.console in
      let wants : Bool = wants_attention r.console in
      let list : List Subchannel = old.machine.core.subchannels in
      let given : Marks (waits_at place r.console)
      (program_ended device start.key r.ending (with_attention device wants list)) =
      attends_and_ends device start.key r.ending wants (waits_at place old.devices.console) (waits_at place r.console)
      list (waits_as (is_there place device) wants is) (same_place place device old.devices.console r.console is) h
      in
      agrees_as new old.devices.places (without_lines r.console)
      (program_ended device start.key r.ending (with_attention device wants list))
      (ap (λ (d : DevicesValue). d.places) r.devices) (ap (λ (d : DevicesValue). d.console) r.devices)
      (ap (λ (m : Machine). m.core.subchannels) r.left) given

  -- where it is the console, its address is there
  abbrev IsConsoleAt : Option AttachedDevice → Bool → Type 0
  IsConsoleAt (Some kinds.Console) there = there ≡ true
  IsConsoleAt (Some kinds.Reader) there = Unit {0}
  IsConsoleAt (Some kinds.Punch) there = Unit {0}
  IsConsoleAt (Some kinds.Printer) there = Unit {0}
  IsConsoleAt (Some (kinds.Disk index)) there = Unit {0}
  IsConsoleAt None there = Unit {0}

  disk_is_other : (o : Option ℕ) → IsConsoleAt (part_or_disk None o) false
  disk_is_other None = tt
  disk_is_other (Some index) = tt

  console_at : (c r p q : Bool) (o : Option ℕ)
      → IsConsoleAt (part_or_disk
      (if c then Some kinds.Console else if r then Some kinds.Reader else if p then Some kinds.Punch else if q
      then Some kinds.Printer else None) o) c
  console_at true r p q o = refl
  console_at false true p q o = tt
  console_at false false true q o = tt
  console_at false false false true o = tt
  console_at false false false false o = disk_is_other o

  serves : (k : Option AttachedDevice) (start : Option Caw) (device : ℕ) (old : Equipped) (done : Bool) (new : Equipped)
      → IsConsoleAt k (is_there old.devices.places.console device) → Serves reads k start device old done new
      → AttentionAgrees old → AttentionAgrees new
  serves None start device old done new is s h = subst AttentionAgrees (sym s.1) h
  serves (Some kind) None device old done new is s h = subst AttentionAgrees (sym s.1) h
  serves (Some kinds.Console) (Some start) device old done new is s h = console_runs device start old new is s.1 h
  serves (Some kinds.Reader) (Some start) device old done new is s h =
      ends_alike device start.key s.1.0.ending new.machine.core.processor.bytes old new
      (ap (λ (d : DevicesValue). d.places) s.1.1) (ap (λ (d : DevicesValue). d.console) s.1.1) s.1.0.left h
  serves (Some kinds.Punch) (Some start) device old done new is s h =
      ends_alike device start.key s.1.0.ending new.machine.core.processor.bytes old new
      (ap (λ (d : DevicesValue). d.places) s.1.1) (ap (λ (d : DevicesValue). d.console) s.1.1) s.1.0.left h
  serves (Some kinds.Printer) (Some start) device old done new is s h =
      ends_alike device start.key s.1.0.ending new.machine.core.processor.bytes old new
      (ap (λ (d : DevicesValue). d.places) s.1.1) (ap (λ (d : DevicesValue). d.console) s.1.1) s.1.0.left h
  serves (Some (kinds.Disk index)) (Some start) device old done new is s h =
      ends_alike device start.key s.1.ending new.machine.core.processor.bytes old new
      (ap (λ (d : DevicesValue). d.places) s.1.devices) (ap (λ (d : DevicesValue). d.console) s.1.devices) s.1.left
      h

  serve_agrees : (device : ℕ) (old : Equipped) (done : Bool) (new : Equipped) → IsServedAt reads device old done new
      → AttentionAgrees old → AttentionAgrees new
  serve_agrees device old done new s h =
      let p : Places = old.devices.places in
      serves (kind_at old.devices old.disks device) (program_of device old.machine.core.subchannels) device old done new
      (console_at (is_there p.console device) (is_there p.reader device) (is_there p.punch device)
      (is_there p.printer device) (position (is_disk_at device) old.disks)) s h

-- ---- a line that the machine alone answers

answered_same : (shown : Bool) (m : Machine) (text : List ℕ)
    → (if shown then printed m text else m).core.subchannels ≡ m.core.subchannels
answered_same true m text = refl
answered_same false m text = refl

says_same : (reply : Response) (m : Machine) → (answered reply m).machine.core.subchannels ≡ m.core.subchannels
says_same reply m = answered_same (is_panel reply) m (text_of reply)

line_same : (asked : PanelLine) (m : Machine) → (line asked m).machine.core.subchannels ≡ m.core.subchannels
line_same Nothing m = refl
line_same (Says response) m = refl
line_same Stop m = refl
line_same (Begin address) m = refl
line_same External m = refl
line_same (Display place) m = says_same (displayed place m.core.processor) m
line_same (Store change) m =
    says_same (stored change m.core.processor)
    (record m { core = record m.core { processor = changed change m.core.processor } })

-- ---- a line for the console

one_waits : (lines : List (List ℕ)) (line : List ℕ) → nat_lt 0 (length (lines ++ line ∷ [])) ≡ true
one_waits lines line =
    let more : length (lines ++ line ∷ []) ≡ length lines + 1 = length-append lines (line ∷ []) in
    lt-ltb 0 (length (lines ++ line ∷ [])) (omega (arith, more))

typed_waits : (console : ConsoleState) (text : List ℕ) → has_room console ≡ true
    → wants_attention (with_typed console text) ≡ true
typed_waits console text room = rw room (one_waits console.waiting (map typed_byte text))

is_itself : (device : ℕ) → (device == device) ≡ true
is_itself device = eq-eqb device device refl

typed_in : (b : Bool) (device : ℕ) (text : List ℕ) (old : Equipped) → has_room old.devices.console ≡ b
    → old.devices.places.console ≡ Some device → AttentionAgrees old
    → AttentionAgrees (typed_where b device text old).equipped
typed_in true device text old room is h =
    let place : Option ℕ = old.devices.places.console in
    let there : is_there place device ≡ true =
    subst (λ (o : Option ℕ). is_there o device ≡ true) (sym is) (is_itself device) in
    marked device (waits_at place old.devices.console) (waits_at place (with_typed old.devices.console text))
    old.machine.core.subchannels
    (waits_there (is_there place device) (wants_attention (with_typed old.devices.console text)) there
    (typed_waits old.devices.console text room))
    (same_place place device old.devices.console (with_typed old.devices.console text) there) h
typed_in false device text old room is h = h

types : (place : Option ℕ) (text : List ℕ) (old : Equipped) → old.devices.places.console ≡ place → AttentionAgrees old
    → AttentionAgrees (typed_at place text old).equipped
types None text old is h = h
types (Some device) text old is h = typed_in (has_room old.devices.console) device text old refl is h

-- ---- a command that concerns devices

left_same : (well : Bool) (device : ℕ) (m : Machine) (bytes : List ℕ)
    → (left_by well device m bytes).core.subchannels ≡ m.core.subchannels
left_same true device m bytes = refl
left_same false device m bytes = refl

reader_loaded : (device : ℕ) (old : Equipped) (reported : LineOutcome) (new : Equipped)
    → LoadsReader device old reported new → AttentionAgrees new
reader_loaded device old reported new l =
    afresh old new (ap (λ (d : DevicesValue). d.places) l.rest) (ap (λ (d : DevicesValue). d.console) l.rest)
    (ap (λ (m : Machine). m.core.subchannels) l.loaded.left ∙ left_same (is_good l.loaded.ending) device
    (reset old.machine) l.loaded.bytes)

unit_loaded : (index : ℕ) (disk : DiskAt) (device : ℕ) (old : Equipped) (reported : LineOutcome) (new : Equipped)
    → LoadsUnit index disk device old reported new → AttentionAgrees new
unit_loaded index disk device old reported new l =
    afresh old new (ap (λ (d : DevicesValue). d.places) l.rest) (ap (λ (d : DevicesValue). d.console) l.rest)
    (ap (λ (m : Machine). m.core.subchannels) l.loaded.left ∙ left_same (is_good l.loaded.ending) device
    (reset old.machine) l.loaded.bytes)

left_alone : (old new : Equipped) (reported : LineOutcome) (o : Outcome) → outcome new reported ≡ o
    → AttentionAgrees o.equipped → AttentionAgrees new
left_alone old new reported o e h = subst AttentionAgrees (sym (ap (λ (x : Outcome). x.equipped) e)) h

disk_loaded : (index : ℕ) (o : Option DiskAt) (device : ℕ) (old : Equipped) (reported : LineOutcome) (new : Equipped)
    → LoadsDisk index o device old reported new → AttentionAgrees old → AttentionAgrees new
disk_loaded index (Some disk) device old reported new l h = unit_loaded index disk device old reported new l
disk_loaded index None device old reported new l h = left_alone old new reported _ l h

loaded : (k : Option AttachedDevice) (device : ℕ) (old : Equipped) (reported : LineOutcome) (new : Equipped)
    → LoadsKind k device old reported new → AttentionAgrees old → AttentionAgrees new
loaded (Some kinds.Reader) device old reported new l h = reader_loaded device old reported new l
loaded (Some (kinds.Disk index)) device old reported new l h =
    disk_loaded index (slice_get (map reset_disk old.disks) index) device old reported new l h
loaded (Some kinds.Console) device old reported new l h = left_alone old new reported _ l h
loaded (Some kinds.Punch) device old reported new l h = left_alone old new reported _ l h
loaded (Some kinds.Printer) device old reported new l h = left_alone old new reported _ l h
loaded None device old reported new l h = left_alone old new reported _ l h

spooled_in : (b : Bool) (to : Target) (e : Equipped) → AttentionAgrees e
    → AttentionAgrees (record e { devices = if b then record e.devices { target = to } else e.devices })
spooled_in true to e h = h
spooled_in false to e h = h

spooled_for : (o : Option Target) (device : ℕ) (e : Equipped) → AttentionAgrees e
    → AttentionAgrees (spooled_to o device e).equipped
spooled_for None device e h = h
spooled_for (Some target) device e h = spooled_in (is_punch (part_at e.devices device)) target e h

spools_where : (b : Bool) (w : UserDirectory) (device : ℕ) (name : List ℕ) (e : Equipped) (other : LineOutcome)
    → AttentionAgrees e → AttentionAgrees
    (if b then spooled_to (target_of w name) device e else outcome e other).equipped
spools_where true w device name e other h = spooled_for (target_of w name) device e h
spools_where false w device name e other h = h

closes_punch : (place : Option ℕ) (e : Equipped) → AttentionAgrees e → AttentionAgrees (punch_answered place e).equipped
closes_punch None e h = h
closes_punch (Some place) e h = h

closes_printer : (place : Option ℕ) (e : Equipped) → AttentionAgrees e
    → AttentionAgrees (printer_answered place e).equipped
closes_printer None e h = h
closes_printer (Some place) e h = h

closes : (kind : Option AttachedDevice) (e : Equipped) → AttentionAgrees e → AttentionAgrees (closed_at kind e).equipped
closes (Some kinds.Console) e h = h
closes (Some kinds.Reader) e h = h
closes (Some kinds.Punch) e h = closes_punch (open_files e.devices).punched e h
closes (Some kinds.Printer) e h = closes_printer (open_files e.devices).printed e h
closes (Some (kinds.Disk index)) e h = h
closes None e h = h

obeys : (w : UserDirectory) (command : DeviceCommand) (old : Equipped) (reported : LineOutcome) (new : Equipped)
    → IsObeyed w command old reported new → AttentionAgrees old → AttentionAgrees new
obeys w commands.QueryFiles old reported new o h = left_alone old new reported _ o h
obeys w commands.QueryUsers old reported new o h = left_alone old new reported _ o h
obeys w (commands.Spool device name) old reported new o h =
    left_alone old new reported (spool_answered w device name old) o
    (spools_where (is_punch (part_at old.devices device)) w device name old (Said responses.DeviceNotFound) h)
obeys w (commands.Close device) old reported new o h =
    left_alone old new reported (close_answered device old) o (closes (part_at old.devices device) old h)
obeys w (commands.Purge file) old reported new o h = left_alone old new reported _ o h
obeys w (commands.Message name text) old reported new o h = subst AttentionAgrees (sym o.0) h

-- ---- a line

answers : (r : Request) (w : UserDirectory) (typed : List ℕ) (old : Equipped) (reported : LineOutcome) (new : Equipped)
    → IsAnswered r w typed old reported new → AttentionAgrees old → AttentionAgrees new
answers LogsOn w typed old reported new a h =
    left_alone old new reported (logged_on old) a (afresh old (logged_on old).equipped refl refl refl)
answers LogsOff w typed old reported new a h =
    left_alone old new reported (logged_off old) a (afresh old (logged_off old).equipped refl refl refl)
answers Resets w typed old reported new a h =
    left_alone old new reported (was_reset old) a (afresh old (was_reset old).equipped refl refl refl)
answers Types w typed old reported new a h =
    left_alone old new reported (typed_at old.devices.places.console (cleaned typed) old) a
    (types old.devices.places.console (cleaned typed) old refl h)
answers (Loads device) w typed old reported new a h =
    loaded (kind_at old.devices old.disks device) device old reported new a h
answers (Asks command) w typed old reported new a h = obeys w command old reported new a h
answers (Alone asked) w typed old reported new a h =
    left_alone old new reported _ a
    (same old (record old { machine = (line asked old.machine).machine }) refl refl (line_same asked old.machine) h)

-- ---- events

leaves : (reads : Reading) (event : Event) (old new : Equipped) → Leaves reads event old new → AttentionAgrees old
    → AttentionAgrees new
leaves reads (Units count) old new l h =
    let kept : Marks (waits_at old.devices.places.console old.devices.console)
    (run count old.machine).machine.core.subchannels =
    runs_in old.machine.mode count old.machine (waits_at old.devices.places.console old.devices.console) h in
    agrees_as new old.devices.places old.devices.console (run count old.machine).machine.core.subchannels
    (ap (λ (d : DevicesValue). d.places) l.1) (ap (λ (d : DevicesValue). d.console) l.1)
    (ap (λ (m : Machine). m.core.subchannels) l.0) kept
leaves reads (Serve device) old new l h = serve_agrees reads device old l.0 new l.1 h
leaves reads (Line world typed) old new l h = answers (requested typed old) world typed old l.0 new l.1 h
leaves reads Tick old new l h =
    same old new (ap (λ (d : DevicesValue). d.places) l.1) (ap (λ (d : DevicesValue). d.console) l.1)
    (ap (λ (m : Machine). m.core.subchannels) l.0 ∙ ticked_same old.machine.mode old.machine) h
leaves reads (Deck deck) old new l h = subst AttentionAgrees (sym l) h
leaves reads (Message text) old new l h = subst AttentionAgrees (sym l) h
leaves reads (Purge id) old new l h = subst AttentionAgrees (sym l) h

-- Attentions agree with the console after each step.
pub goes_on_agreeing : AttentionGoesOnAgreeing
goes_on_agreeing reads [] first last h l = subst AttentionAgrees (sym l) h
goes_on_agreeing reads (event ∷ events) first last h l =
    goes_on_agreeing reads events l.0 last (leaves reads event first l.0 l.1 h) l.2
