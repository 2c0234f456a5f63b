-- Lines that were printed before do not matter to a machine with devices.
use Rattle.std.specs.Prelude.{ℕ, ◌≡◌, refl, List, [], ◌∷◌, ◌++◌, Bool, true, false, if◌then◌else◌, is_some, length}
use Rattle.std.specs.Prelude.{map, slice_get, Option, Some, None}
use Rattle.std.proofs.Common.{ap, sym, ◌∙◌, append_assoc}
use Rattle.unit_record.specs.declared.output.Target.{Target}
use Rattle.unit_record.specs.Console.{has_room}
use Rattle.unit_record.specs.Reader.{reader_machine}
use Rattle.s370_walk.specs.Hardware.{Machine as Device}
use Rattle.s370_channel.specs.Reading.{Reading}
use Rattle.s370_channel.specs.declared.words.Caw.{Caw}
use Rattle.s370_subchannels.specs.Programs.{program_of}
use Rattle.user_names.specs.Users.{user_of}
use Rattle.cp_console.specs.Lines.{cleaned}
use Rattle.cp_console.specs.Responses.{text_of}
use Rattle.cp_console.specs.declared.device_commands.DeviceCommand.{DeviceCommand}
use Rattle.cp_console.specs.declared.device_commands.DeviceCommand.TheVariants as commands
use Rattle.cp_console.specs.declared.responses.Response.TheVariants as responses
use Rattle.machine_channels.specs.Disks.{DiskAt, reset_disk}
use Rattle.machine_panel.specs.Machine.{Machine, printed, reset}
use Rattle.machine_panel.specs.Run.{MachineRun}
use Rattle.machine_panel.specs.Panel.{Answer, line}
use Rattle.machine_panel.specs.declared.line.PanelLine.{PanelLine}
use Rattle.machine_panel.specs.Forgotten.{having_printed}
use Rattle.machine_panel.proofs.Forgotten.{do_not_matter}
use Rattle.machine_devices.specs.declared.line.LineOutcome.{LineOutcome}
use Rattle.machine_devices.specs.declared.places.AttachedDevice.{AttachedDevice}
use Rattle.machine_devices.specs.declared.places.AttachedDevice.TheVariants as kinds
use Rattle.machine_devices.specs.declared.request.Request.{Request}
use Rattle.machine_devices.specs.declared.request.Request.TheVariants.{LogsOn, LogsOff, Resets, Types, Loads, Asks}
use Rattle.machine_devices.specs.declared.request.Request.TheVariants.{Alone}
use Rattle.machine_devices.specs.Devices.{kind_at, part_at}
use Rattle.machine_devices.specs.Equipped.{Equipped, with_bytes}
use Rattle.machine_devices.specs.Forgotten.{PrintedLinesDoNotMatter, equipped_having_printed as having}
use Rattle.machine_devices.specs.Life.{Event, Units, Serve, Line, Tick, Deck, Message, Purge, Leaves, Lives}
use Rattle.machine_devices.specs.declared.line.LineOutcome.TheVariants as Lines
use Rattle.machine_devices.specs.Lines.{Outcome, outcome, said, typed_where, typed_at, spooled_to, spool_answered}
use Rattle.machine_devices.specs.Lines.{target_of, closed_at, punch_answered, printer_answered, close_answered}
use Rattle.machine_devices.specs.Lines.{purge_answered, answered_alone, was_reset, logged_on, logged_off, LoadsKind}
use Rattle.machine_devices.specs.Lines.{LoadsDisk, LoadsReader, LoadsUnit, IsNotFound, IsObeyed, IsAnswered, IsLine}
use Rattle.machine_devices.specs.Lines.{requested}
use Rattle.machine_devices.specs.Loading.{IsLoaded, left_by, is_good}
use Rattle.machine_devices.specs.Serve.{IsServedAt, RunsKind, Serves, console_over}
use Rattle.machine_devices.specs.Replies.{IsLineTold, delivered_by}
use Rattle.machine_devices.specs.declared.reply.Reply.{Reply}
use Rattle.machine_devices.specs.Spooling.{is_punch, open_files}
use Rattle.machine_devices.specs.UserDirectory.{UserDirectory}

module _ (gone : List (List ℕ)) where
  -- ---- a line

  abbrev outcome_with : Outcome → Outcome
  outcome_with o = outcome (having gone o.equipped) o.reported

  -- what is answered by a machine without them is answered with them
  abbrev Same : (Equipped → Outcome) → Equipped → Type 0
  Same f e = f (having gone e) ≡ outcome_with (f e)

  carried : (f : Equipped → Outcome) (old : Equipped) (reported : LineOutcome) (new : Equipped) → Same f old
      → outcome new reported ≡ f old → outcome (having gone new) reported ≡ f (having gone old)
  carried f old reported new same h = ap outcome_with h ∙ sym same

  typed_so : (b : Bool) (device : ℕ) (text : List ℕ) (e : Equipped) → Same (typed_where b device text) e
  typed_so true device text e = refl
  typed_so false device text e = ap (λ (m : Machine). outcome (record e { machine = m })
      (Lines.Said responses.LineLost)) ((do_not_matter gone e.machine).prints (text_of responses.LineLost))

  typed_at_so : (place : Option ℕ) (text : List ℕ) (e : Equipped) → Same (typed_at place text) e
  typed_at_so None text e = refl
  typed_at_so (Some device) text e = typed_so (has_room e.devices.console) device text e

  reset_so : (e : Equipped) → Same was_reset e
  reset_so e = ap (λ (m : Machine). record (was_reset e) {
    equipped = record
        (was_reset e).equipped { machine = m };
  }) ((do_not_matter gone (reset e.machine)).prints
      (text_of responses.SystemReset))

  alone_so : (asked : PanelLine) (e : Equipped) → Same (answered_alone asked) e
  alone_so asked e = ap (λ (a : Answer). outcome (record e { machine = a.machine }) (said a.reply))
      ((do_not_matter gone e.machine).answers asked)

  target_so : (target : Option Target) (device : ℕ) (e : Equipped) → Same (spooled_to target device) e
  target_so None device e = refl
  target_so (Some target) device e = refl

  spool_so : (b : Bool) (target : Option Target) (device : ℕ) (e : Equipped) →
      (if b then spooled_to target device (having gone e) else outcome (having gone e)
      (Lines.Said responses.DeviceNotFound))
      ≡ outcome_with (if b then spooled_to target device e else outcome e (Lines.Said responses.DeviceNotFound))
  spool_so true target device e = target_so target device e
  spool_so false target device e = refl

  punch_so : (place : Option ℕ) (e : Equipped) → Same (punch_answered place) e
  punch_so None e = refl
  punch_so (Some place) e = refl

  printer_so : (place : Option ℕ) (e : Equipped) → Same (printer_answered place) e
  printer_so None e = refl
  printer_so (Some place) e = refl

  close_so : (kind : Option AttachedDevice) (e : Equipped) → Same (closed_at kind) e
  close_so (Some kinds.Punch) e = punch_so (open_files e.devices).punched e
  close_so (Some kinds.Printer) e = printer_so (open_files e.devices).printed e
  close_so (Some kinds.Console) e = refl
  close_so (Some kinds.Reader) e = refl
  close_so (Some (kinds.Disk index)) e = refl
  close_so None e = refl

  obeyed : (w : UserDirectory) (command : DeviceCommand) (old : Equipped) (reported : LineOutcome) (new : Equipped)
      → IsObeyed w command old reported new → IsObeyed w command (having gone old) reported (having gone new)
  obeyed w commands.QueryFiles old reported new h = ap outcome_with h
  obeyed w commands.QueryUsers old reported new h = ap outcome_with h
  obeyed w (commands.Spool device name) old reported new h =
      ap outcome_with h ∙ sym (spool_so (is_punch (part_at old.devices device)) (target_of w name) device old)
  obeyed w (commands.Close device) old reported new h =
      ap outcome_with h ∙ sym (close_so (part_at old.devices device) old)
  obeyed w (commands.Purge file) old reported new h = ap outcome_with h
  obeyed w (commands.Message name text) old reported new h = (ap (having gone) h.0, h.1)

  -- ---- IPL

  left_so : (b : Bool) (device : ℕ) (m : Machine) (bytes : List ℕ)
      → left_by b device (reset (having_printed gone m)) bytes ≡ having_printed gone (left_by b device (reset m) bytes)
  left_so true device m bytes = refl
  left_so false device m bytes = (do_not_matter gone (with_bytes (reset m) bytes)).prints (text_of responses.IplFailed)

  loaded_so : {D : Type 0} (machine : Device D) (device : ℕ) (old : Machine) (part : D) (well : Bool) (new : Machine)
      (after : D) →
      IsLoaded machine device old part well new after
      → IsLoaded machine device (having_printed gone old) part well (having_printed gone new) after
  loaded_so machine device old part well new after h = record {
    ending = h.ending;
    bytes = h.bytes;
    walk = h.walk;
    reported = h.reported;
    left = ap (having_printed gone) h.left ∙ sym (left_so (is_good h.ending) device old h.bytes);
  }

  loads_disk : (index : ℕ) (disk : Option DiskAt) (device : ℕ) (old : Equipped) (reported : LineOutcome)
      (new : Equipped)
      → LoadsDisk index disk device old reported new
      → LoadsDisk index disk device (having gone old) reported (having gone new)
  loads_disk index None device old reported new h = ap outcome_with h
  loads_disk index (Some disk) device old reported new h = record {
    well = h.well;
    unit = h.unit;
    loaded = loaded_so _ device old.machine _ h.well new.machine h.unit h.loaded;
    rest = h.rest;
    disks = h.disks;
    says = h.says;
  }

  loads : (kind : Option AttachedDevice) (device : ℕ) (old : Equipped) (reported : LineOutcome) (new : Equipped)
      → LoadsKind kind device old reported new → LoadsKind kind device (having gone old) reported (having gone new)
  loads (Some kinds.Reader) device old reported new h = record {
    well = h.well;
    loaded = loaded_so reader_machine device old.machine _ h.well new.machine new.devices.reader h.loaded;
    rest = h.rest;
    disks = h.disks;
    says = h.says;
  }
  loads (Some (kinds.Disk index)) device old reported new h = loads_disk index (slice_get
      (map reset_disk old.disks) index) device old reported new h
  loads (Some kinds.Console) device old reported new h = ap outcome_with h
  loads (Some kinds.Punch) device old reported new h = ap outcome_with h
  loads (Some kinds.Printer) device old reported new h = ap outcome_with h
  loads None device old reported new h = ap outcome_with h

  answered_so : (asked : Request) (w : UserDirectory) (typed : List ℕ) (old : Equipped) (reported : LineOutcome)
      (new : Equipped)
      → IsAnswered asked w typed old reported new
      → IsAnswered asked w typed (having gone old) reported (having gone new)
  answered_so LogsOn w typed old reported new h = ap outcome_with h
  answered_so LogsOff w typed old reported new h = ap outcome_with h
  answered_so Resets w typed old reported new h = carried was_reset old reported new (reset_so old) h
  answered_so Types w typed old reported new h = ap outcome_with h
      ∙ sym (typed_at_so old.devices.places.console (cleaned typed) old)
  answered_so (Loads device) w typed old reported new h =
      loads (kind_at old.devices old.disks device) device old reported new h
  answered_so (Asks command) w typed old reported new h = obeyed w command old reported new h
  answered_so (Alone asked) w typed old reported new h =
      carried (answered_alone asked) old reported new (alone_so asked old) h

  pub line_so : (w : UserDirectory) (typed : List ℕ) (old : Equipped) (reported : LineOutcome) (new : Equipped)
      → IsLine w typed old reported new
      → IsLine w typed (having gone old) reported (having gone new)
  line_so w typed old reported new h = answered_so (requested typed old) w typed old reported new h

  pub delivered_so : (users number before : ℕ) (reported : LineOutcome) (answered : Equipped)
      → delivered_by users number before reported (having gone answered)
      ≡ delivered_by users number before reported answered
  delivered_so users number before (Lines.Sent user line) answered = refl
  delivered_so users number before Lines.Silent answered = refl
  delivered_so users number before (Lines.Said response) answered = refl
  delivered_so users number before Lines.Files answered = refl
  delivered_so users number before (Lines.Closed files) answered = refl
  delivered_so users number before (Lines.LoggedOff files) answered = refl

  pub told_so : (w : UserDirectory) (users number : ℕ) (typed : List ℕ) (old : Equipped) (reply : Reply)
      → IsLineTold w users number typed old reply → IsLineTold w users number typed (having gone old) reply
  told_so w users number typed old reply h = record {
    reported = h.reported;
    answered = having gone h.answered;
    line = line_so w typed old h.reported h.answered h.line;
    said = h.said;
    delivered = h.delivered ∙ sym (delivered_so users number (length old.devices.punched) h.reported h.answered);
  }

  -- ---- a serve

  runs_kind : (reads : Reading) (kind : AttachedDevice) (device : ℕ) (start : Caw) (old new : Equipped)
      → RunsKind reads kind device start old new
      → RunsKind reads kind device start (having gone old) (having gone new)
  runs_kind reads kinds.Console device start old new h = record {
    ending = h.ending;
    console = h.console;
    walk = h.walk;
    left = ap (having_printed gone) h.left ∙ ap (λ (o : List (List ℕ)). record
        (console_over device start.key h.ending h.console old.machine new.machine.core.processor.bytes) { output = o })
        (sym (append_assoc gone old.machine.output h.console.lines));
    devices = h.devices;
    disks = h.disks;
  }
  runs_kind reads kinds.Reader device start old new h = (
    record {
      ending = h.0.ending;
      walk = h.0.walk;
      left = ap
          (having_printed gone) h.0.left;
    },
    h.1,
    h.2,
  )
  runs_kind reads kinds.Punch device start old new h = (
    record {
      ending = h.0.ending;
      walk = h.0.walk;
      left = ap
          (having_printed gone) h.0.left;
    },
    h.1,
    h.2,
  )
  runs_kind reads kinds.Printer device start old new h = (
    record {
      ending = h.0.ending;
      walk = h.0.walk;
      left = ap
          (having_printed gone) h.0.left;
    },
    h.1,
    h.2,
  )
  runs_kind reads (kinds.Disk index) device start old new h =
      record { ending = h.ending; walk = h.walk; left = ap (having_printed gone) h.left; devices = h.devices }

  serves : (reads : Reading) (kind : Option AttachedDevice) (start : Option Caw) (device : ℕ) (old : Equipped)
      (done : Bool)
      (new : Equipped)
      → Serves reads kind start device old done new
      → Serves reads kind start device (having gone old) done (having gone new)
  serves reads None start device old done new h = (h.0, ap (having gone) h.1)
  serves reads (Some kind) None device old done new h = (h.0, ap (having gone) h.1)
  serves reads (Some kind) (Some start) device old done new h = (h.0, runs_kind reads kind device start old new h.1)

  pub served_so : (reads : Reading) (device : ℕ) (old : Equipped) (done : Bool) (new : Equipped)
      → IsServedAt reads device old done new → IsServedAt reads device (having gone old) done (having gone new)
  served_so reads device old done new h =
      serves reads (kind_at old.devices old.disks device)
      (program_of device old.machine.core.subchannels) device old done new h

  -- ---- a life

  leaves : (reads : Reading) (event : Event) (old new : Equipped) → Leaves reads event old new
      → Leaves reads event (having gone old) (having gone new)
  leaves reads (Units count) old new h = (
    ap (having_printed gone) h.0 ∙ sym (ap (λ (r : MachineRun). r.machine)
        ((do_not_matter gone old.machine).runs count)),
    h.1,
    h.2,
  )
  leaves reads (Serve device) old new h = (
    h.0,
    serves reads (kind_at old.devices old.disks device)
        (program_of device old.machine.core.subchannels) device old h.0 new h.1,
  )
  leaves reads (Line world typed) old new h = (h.0, answered_so (requested typed old) world typed old h.0 new h.1)
  leaves reads Tick old new h = (ap (having_printed gone) h.0 ∙ sym (do_not_matter gone old.machine).ticks, h.1, h.2)
  leaves reads (Deck deck) old new h = ap (having gone) h
  leaves reads (Message text) old new h =
      ap (having gone) h ∙ sym (ap (λ (m : Machine). record old { machine = m })
      ((do_not_matter gone old.machine).prints text))
  leaves reads (Purge id) old new h = ap (having gone) h

  pub lives : (reads : Reading) (events : List Event) (old new : Equipped) → Lives reads events old new
      → Lives reads events (having gone old) (having gone new)
  lives reads [] old new h = ap (having gone) h
  lives reads (event ∷ events) old new h = (
    having gone h.0,
    leaves reads event old h.0 h.1,
    lives reads events h.0 new
        h.2,
  )

-- Lines that a console has printed before do not matter to what an event leaves.
pub do_not_matter_to_life : PrintedLinesDoNotMatter
do_not_matter_to_life reads gone events old new h = lives gone reads events old new h
