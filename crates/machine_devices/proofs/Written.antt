-- Entries of closed files that were written do not matter to a machine with devices, and closed files stay.
use Rattle.std.specs.Prelude.{ℕ, ◌≡◌, refl, List, [], ◌∷◌, ◌++◌, Bool, true, false, if◌then◌else◌, length, map}
use Rattle.std.specs.Prelude.{slice_get, suc, zero, Option, Some, None}
use Rattle.std.specs.List.{list_all}
use Rattle.std.proofs.Common.{ap, sym, subst, ◌∙◌, ◌&&◌, append-nil, append_assoc}
use Rattle.std.proofs.lemmas.List.Folds.{list_all-append}
use Rattle.unit_record.specs.declared.output.Target.{Target}
use Rattle.unit_record.specs.declared.output.Target.TheVariants as targets
use Rattle.unit_record.specs.Console.{has_room}
use Rattle.unit_record.specs.Output.{EntryValue, FileValue, closed_with}
use Rattle.s370_channel.specs.Reading.{Reading}
use Rattle.s370_channel.specs.declared.words.Caw.{Caw}
use Rattle.s370_subchannels.specs.Programs.{program_of}
use Rattle.cp_console.specs.Lines.{cleaned}
use Rattle.cp_console.specs.declared.device_commands.DeviceCommand.{DeviceCommand}
use Rattle.cp_console.specs.declared.device_commands.DeviceCommand.TheVariants as commands
use Rattle.cp_console.specs.declared.responses.Response.TheVariants as responses
use Rattle.machine_channels.specs.Disks.{DiskAt, cleared_disk, reset_disk}
use Rattle.machine_panel.specs.Machine.{switched_off}
use Rattle.machine_panel.specs.declared.line.PanelLine.{PanelLine}
use Rattle.machine_devices.specs.declared.line.LineOutcome.{LineOutcome}
use Rattle.machine_devices.specs.declared.line.LineOutcome.TheVariants as Lines
use Rattle.machine_devices.specs.declared.places.AttachedDevice.{AttachedDevice}
use Rattle.machine_devices.specs.declared.places.AttachedDevice.TheVariants as kinds
use Rattle.machine_devices.specs.declared.request.Request.{Request}
use Rattle.machine_devices.specs.declared.request.Request.TheVariants.{LogsOn, LogsOff, Resets, Types, Loads, Asks}
use Rattle.machine_devices.specs.declared.request.Request.TheVariants.{Alone}
use Rattle.machine_devices.specs.Devices.{DevicesValue, kind_at, part_at}
use Rattle.machine_devices.specs.Equipped.{Equipped}
use Rattle.machine_devices.specs.Life.{Event, Units, Serve, Line, Tick, Deck, Message, Purge, Leaves, Lives}
use Rattle.machine_devices.specs.Lines.{Outcome, outcome, typed_where, typed_at, spooled_to}
use Rattle.machine_devices.specs.Lines.{target_of, closed_at, punch_answered, printer_answered}
use Rattle.machine_devices.specs.Lines.{answered_alone, close_answered, logged_on, purge_answered, spool_answered}
use Rattle.machine_devices.specs.Lines.{was_reset, logged_off, LoadsKind}
use Rattle.machine_devices.specs.Lines.{LoadsDisk, IsObeyed, IsAnswered, IsLine}
use Rattle.machine_devices.specs.Lines.{requested}
use Rattle.machine_devices.specs.Resets.{devices_reset}
use Rattle.machine_devices.specs.Serve.{IsServedAt, RunsKind, Serves}
use Rattle.machine_devices.specs.Replies.{IsLineTold, deck_of, delivered_by}
use Rattle.machine_devices.specs.declared.reply.Reply.{Reply}
use Rattle.machine_devices.specs.Spooling.{devices_logged_off, is_punch, open_files, place_of}
use Rattle.machine_devices.specs.Spooling.{with_printer_closed, with_punch_closed}
use Rattle.machine_devices.specs.UserDirectory.{UserDirectory}
use Rattle.machine_devices.specs.Written.{AreClosedAfter, ClosedFilesStay, Lost, WrittenFilesDoNotMatter}
use Rattle.machine_devices.specs.Written.{devices_having, entries_or, equipped_having, has_entry, left_of, with_entries}
use Rattle.machine_devices.specs.Written.{without_entries}

-- ---- files with entries that they have lost

-- there are as many
pub length_with : (lost : List (List EntryValue)) (files : List FileValue)
    → length (with_entries lost files) ≡ length files
length_with lost [] = refl
length_with lost (file ∷ files) = ap suc (length_with (left_of file.entries lost) files)

-- one that is closed has entries, and gets none of them
pub closed_with_entries : (lost : List (List EntryValue)) (files : List FileValue) (target : Target)
    (entries : List EntryValue)
    → closed_with (with_entries lost files) target entries ≡ with_entries lost (closed_with files target entries)
closed_with_entries lost files target [] = refl
closed_with_entries lost [] target (entry ∷ entries) = refl
closed_with_entries lost (file ∷ files) target (entry ∷ entries) =
    ap (λ (more : List FileValue). record file { entries = entries_or file.entries lost } ∷ more)
    (closed_with_entries (left_of file.entries lost) files target (entry ∷ entries))

-- they are for whom they were
deck_with : (users number : ℕ) (lost : List (List EntryValue)) (files : List FileValue) (place : ℕ)
    → deck_of users number (slice_get (with_entries lost files) place) ≡ deck_of users number (slice_get files place)
deck_with users number lost [] place = refl
deck_with users number lost (file ∷ files) zero = refl
deck_with users number lost (file ∷ files) (suc place) =
    deck_with users number (left_of file.entries lost) files place

-- files without their entries had them
pub entries_again : (files : List FileValue)
    → with_entries (map (λ (file : FileValue). file.entries) files) (map without_entries files) ≡ files
entries_again [] = refl
entries_again (file ∷ files) = ap (λ (more : List FileValue). file ∷ more) (entries_again files)

module _ (lost : Lost) where
  abbrev having : Equipped → Equipped
  having e = equipped_having lost e

  abbrev outcome_with : Outcome → Outcome
  outcome_with o = outcome (having o.equipped) o.reported

  -- what is answered by a machine whose files have lost entries is answered by one whose files have them
  abbrev Same : (Equipped → Outcome) → Equipped → Type 0
  Same f e = f (having e) ≡ outcome_with (f e)

  carried : (f : Equipped → Outcome) (old : Equipped) (reported : LineOutcome) (new : Equipped) → Same f old
      → outcome new reported ≡ f old → outcome (having new) reported ≡ f (having old)
  carried f old reported new same h = ap outcome_with h ∙ sym same

  typed_so : (b : Bool) (device : ℕ) (text : List ℕ) (e : Equipped) → Same (typed_where b device text) e
  typed_so true device text e = refl
  typed_so false device text e = refl

  typed_at_so : (place : Option ℕ) (text : List ℕ) (e : Equipped) → Same (typed_at place text) e
  typed_at_so None text e = refl
  typed_at_so (Some device) text e = typed_so (has_room e.devices.console) device text e

  -- the devices whose punch has this target, where there is one
  abbrev aimed : Bool → Target → DevicesValue → DevicesValue
  aimed b target d = if b then record d { target = target } else d

  aimed_so : (b : Bool) (target : Target) (d : DevicesValue)
      → aimed b target (devices_having lost d) ≡ devices_having lost (aimed b target d)
  aimed_so true target d = refl
  aimed_so false target d = refl

  target_so : (target : Option Target) (device : ℕ) (e : Equipped) → Same (spooled_to target device) e
  target_so None device e = refl
  target_so (Some target) device e =
      ap (λ (d : DevicesValue). outcome (record e { devices = d }) (Lines.Said responses.Spooled))
      (aimed_so (is_punch (part_at e.devices device)) target e.devices)

  spool_so : (b : Bool) (target : Option Target) (device : ℕ) (e : Equipped) →
      (if b then spooled_to target device (having e) else outcome (having e) (Lines.Said responses.DeviceNotFound))
      ≡ outcome_with (if b then spooled_to target device e else outcome e (Lines.Said responses.DeviceNotFound))
  spool_so true target device e = target_so target device e
  spool_so false target device e = refl

  -- ---- files that are closed

  punch_so : (place : Option ℕ) (e : Equipped) → Same (punch_answered place) e
  punch_so None e = refl
  punch_so (Some place) e =
      let d = with_punch_closed e.devices in
      ap (λ (files : List FileValue). outcome (record e {
        devices = record d { punched = files; printed = with_entries lost.printed e.devices.printed };
      }) (Lines.Closed (record { punched = Some place; printed = None })))
      (closed_with_entries lost.punched e.devices.punched e.devices.target e.devices.punch.entries)

  printer_so : (place : Option ℕ) (e : Equipped) → Same (printer_answered place) e
  printer_so None e = refl
  printer_so (Some place) e =
      let d = with_printer_closed e.devices in
      ap (λ (files : List FileValue). outcome (record e {
        devices = record d { punched = with_entries lost.punched e.devices.punched; printed = files };
      }) (Lines.Closed (record { punched = None; printed = Some place })))
      (closed_with_entries lost.printed e.devices.printed targets.System e.devices.printer.entries)

  close_so : (kind : Option AttachedDevice) (e : Equipped) → Same (closed_at kind) e
  close_so (Some kinds.Punch) e =
      ap (λ (count : ℕ). punch_answered (place_of e.devices.punch.entries count) (having e))
      (length_with lost.punched e.devices.punched)
      ∙ punch_so (open_files e.devices).punched e
  close_so (Some kinds.Printer) e =
      ap (λ (count : ℕ). printer_answered (place_of e.devices.printer.entries count) (having e))
      (length_with lost.printed e.devices.printed)
      ∙ printer_so (open_files e.devices).printed e
  close_so (Some kinds.Console) e = refl
  close_so (Some kinds.Reader) e = refl
  close_so (Some (kinds.Disk index)) e = refl
  close_so None e = refl

  -- what LOGOFF leaves, with these closed files, of which there were so many
  abbrev off : Equipped → List FileValue → List FileValue → ℕ → ℕ → Outcome
  off e punched printed punches prints =
      outcome (record {
        machine = switched_off e.machine;
        devices = record (devices_reset (devices_logged_off e.devices)) { punched = punched; printed = printed };
        disks = map cleared_disk e.disks;
      })
      (Lines.LoggedOff (record {
        punched = place_of e.devices.punch.entries punches;
        printed = place_of e.devices.printer.entries prints;
      }))

  off_so : (e : Equipped) → Same logged_off e
  off_so e =
      let d = e.devices in
      let ps = closed_with (with_entries lost.punched d.punched) d.target d.punch.entries in
      let qs = closed_with (with_entries lost.printed d.printed) targets.System d.printer.entries in
      let punched = with_entries lost.punched (closed_with d.punched d.target d.punch.entries) in
      ap (λ (n : ℕ). off e ps qs n (length (with_entries lost.printed d.printed))) (length_with lost.punched d.punched)
      ∙ ap (λ (n : ℕ). off e ps qs (length d.punched) n) (length_with lost.printed d.printed)
      ∙ ap (λ (files : List FileValue). off e files qs (length d.punched) (length d.printed))
      (closed_with_entries lost.punched d.punched d.target d.punch.entries)
      ∙ ap (λ (files : List FileValue). off e punched files (length d.punched) (length d.printed))
      (closed_with_entries lost.printed d.printed targets.System d.printer.entries)

  -- ---- a line

  obeyed : (w : UserDirectory) (command : DeviceCommand) (old : Equipped) (reported : LineOutcome) (new : Equipped)
      → IsObeyed w command old reported new → IsObeyed w command (having old) reported (having new)
  obeyed w commands.QueryFiles old reported new h = ap outcome_with h
  obeyed w commands.QueryUsers old reported new h = ap outcome_with h
  obeyed w (commands.Spool device name) old reported new h =
      ap outcome_with h ∙ sym (spool_so (is_punch (part_at old.devices device)) (target_of w name) device old)
  obeyed w (commands.Close device) old reported new h =
      ap outcome_with h ∙ sym (close_so (part_at old.devices device) old)
  obeyed w (commands.Purge file) old reported new h = ap outcome_with h
  obeyed w (commands.Message name text) old reported new h = (ap having h.0, h.1)

  loads_disk : (index : ℕ) (disk : Option DiskAt) (device : ℕ) (old : Equipped) (reported : LineOutcome)
      (new : Equipped)
      → LoadsDisk index disk device old reported new
      → LoadsDisk index disk device (having old) reported (having new)
  loads_disk index None device old reported new h = ap outcome_with h
  loads_disk index (Some disk) device old reported new h = record {
    well = h.well;
    unit = h.unit;
    loaded = h.loaded;
    rest = ap (devices_having lost) h.rest;
    disks = h.disks;
    says = h.says;
  }

  loads : (kind : Option AttachedDevice) (device : ℕ) (old : Equipped) (reported : LineOutcome) (new : Equipped)
      → LoadsKind kind device old reported new → LoadsKind kind device (having old) reported (having new)
  loads (Some kinds.Reader) device old reported new h = record {
    well = h.well;
    loaded = h.loaded;
    rest = ap (devices_having lost) h.rest;
    disks = h.disks;
    says = h.says;
  }
  loads (Some (kinds.Disk index)) device old reported new h = loads_disk index (slice_get
      (map reset_disk old.disks) index) device old reported new h
  loads (Some kinds.Console) device old reported new h = ap outcome_with h
  loads (Some kinds.Punch) device old reported new h = ap outcome_with h
  loads (Some kinds.Printer) device old reported new h = ap outcome_with h
  loads None device old reported new h = ap outcome_with h

  answered_so : (asked : Request) (w : UserDirectory) (typed : List ℕ) (old : Equipped) (reported : LineOutcome)
      (new : Equipped)
      → IsAnswered asked w typed old reported new
      → IsAnswered asked w typed (having old) reported (having new)
  answered_so LogsOn w typed old reported new h = ap outcome_with h
  answered_so LogsOff w typed old reported new h = carried logged_off old reported new (off_so old) h
  answered_so Resets w typed old reported new h = ap outcome_with h
  answered_so Types w typed old reported new h = ap outcome_with h
      ∙ sym (typed_at_so old.devices.places.console (cleaned typed) old)
  answered_so (Loads device) w typed old reported new h =
      loads (kind_at old.devices old.disks device) device old reported new h
  answered_so (Asks command) w typed old reported new h = obeyed w command old reported new h
  answered_so (Alone asked) w typed old reported new h = ap outcome_with h

  -- a line does the same
  pub line_so : (w : UserDirectory) (typed : List ℕ) (old : Equipped) (reported : LineOutcome) (new : Equipped)
      → IsLine w typed old reported new
      → IsLine w typed (having old) reported (having new)
  line_so w typed old reported new h = answered_so (requested typed old) w typed old reported new h

  -- what it delivers is the same
  pub delivered_so : (users number before : ℕ) (reported : LineOutcome) (answered : Equipped)
      → delivered_by users number before reported (having answered)
      ≡ delivered_by users number before reported answered
  delivered_so users number before (Lines.Sent user line) e = refl
  delivered_so users number before Lines.Silent e = deck_with users number lost.punched e.devices.punched before
  delivered_so users number before (Lines.Said response) e =
      deck_with users number lost.punched e.devices.punched before
  delivered_so users number before Lines.Files e = deck_with users number lost.punched e.devices.punched before
  delivered_so users number before (Lines.Closed files) e =
      deck_with users number lost.punched e.devices.punched before
  delivered_so users number before (Lines.LoggedOff files) e =
      deck_with users number lost.punched e.devices.punched before

  -- it is answered in the same way
  pub told_so : (w : UserDirectory) (users number : ℕ) (typed : List ℕ) (old : Equipped) (reply : Reply)
      → IsLineTold w users number typed old reply → IsLineTold w users number typed (having old) reply
  told_so w users number typed old reply h = record {
    reported = h.reported;
    answered = having h.answered;
    line = line_so w typed old h.reported h.answered h.line;
    said = h.said;
    delivered = h.delivered ∙ sym (delivered_so users number (length old.devices.punched) h.reported h.answered)
        ∙ ap (λ (before : ℕ). delivered_by users number before h.reported (having h.answered))
        (sym (length_with lost.punched old.devices.punched));
  }

  -- ---- a serve

  runs_kind : (reads : Reading) (kind : AttachedDevice) (device : ℕ) (start : Caw) (old new : Equipped)
      → RunsKind reads kind device start old new
      → RunsKind reads kind device start (having old) (having new)
  runs_kind reads kinds.Console device start old new h = record {
    ending = h.ending;
    console = h.console;
    walk = h.walk;
    left = h.left;
    devices = ap (devices_having lost) h.devices;
    disks = h.disks;
  }
  runs_kind reads kinds.Reader device start old new h = (h.0, ap (devices_having lost) h.1, h.2)
  runs_kind reads kinds.Punch device start old new h = (h.0, ap (devices_having lost) h.1, h.2)
  runs_kind reads kinds.Printer device start old new h = (h.0, ap (devices_having lost) h.1, h.2)
  runs_kind reads (kinds.Disk index) device start old new h =
      record { ending = h.ending; walk = h.walk; left = h.left; devices = ap (devices_having lost) h.devices }

  serves : (reads : Reading) (kind : Option AttachedDevice) (start : Option Caw) (device : ℕ) (old : Equipped)
      (done : Bool)
      (new : Equipped)
      → Serves reads kind start device old done new
      → Serves reads kind start device (having old) done (having new)
  serves reads None start device old done new h = (h.0, ap having h.1)
  serves reads (Some kind) None device old done new h = (h.0, ap having h.1)
  serves reads (Some kind) (Some start) device old done new h = (h.0, runs_kind reads kind device start old new h.1)

  -- a serve does the same
  pub served_so : (reads : Reading) (device : ℕ) (old : Equipped) (done : Bool) (new : Equipped)
      → IsServedAt reads device old done new → IsServedAt reads device (having old) done (having new)
  served_so reads device old done new h =
      serves reads (kind_at old.devices old.disks device)
      (program_of device old.machine.core.subchannels) device old done new h

  -- ---- a life

  leaves : (reads : Reading) (event : Event) (old new : Equipped) → Leaves reads event old new
      → Leaves reads event (having old) (having new)
  leaves reads (Units count) old new h = (h.0, ap (devices_having lost) h.1, h.2)
  leaves reads (Serve device) old new h = (h.0, served_so reads device old h.0 new h.1)
  leaves reads (Line world typed) old new h = (h.0, line_so world typed old h.0 new h.1)
  leaves reads Tick old new h = (h.0, ap (devices_having lost) h.1, h.2)
  leaves reads (Deck deck) old new h = ap having h
  leaves reads (Message text) old new h = ap having h
  leaves reads (Purge id) old new h = ap having h

  -- and so does all that happens
  pub lives : (reads : Reading) (events : List Event) (old new : Equipped) → Lives reads events old new
      → Lives reads events (having old) (having new)
  lives reads [] old new h = ap having h
  lives reads (event ∷ events) old new h = (
    having h.0,
    leaves reads event old h.0 h.1,
    lives reads events h.0 new h.2,
  )

-- whatever happens to a machine whose files have lost entries happens to the one whose files have them
pub do_not_matter_to_life : WrittenFilesDoNotMatter
do_not_matter_to_life reads lost events old new h = lives lost reads events old new h

-- ---- closed files stay

abbrev is_full : List FileValue → Bool
is_full files = list_all (λ (file : FileValue). has_entry file.entries) files

kept : (old new : List FileValue) → new ≡ old → AreClosedAfter old new
kept old new h = record { more = []; same = h ∙ sym (append-nil old); full = refl }

closes : (files : List FileValue) (target : Target) (entries : List EntryValue)
    → AreClosedAfter files (closed_with files target entries)
closes files target [] = kept files files refl
closes files target (entry ∷ entries) = record {
  more = record { target = target; entries = entry ∷ entries } ∷ [];
  same = refl;
  full = refl;
}

and_true : (a b : Bool) → a ≡ true → b ≡ true → (a && b) ≡ true
and_true a b h k = ap (λ (x : Bool). x && b) h ∙ k

both_after : (one other last : List FileValue) → AreClosedAfter one other → AreClosedAfter other last
    → AreClosedAfter one last
both_after one other last h k = record {
  more = h.more ++ k.more;
  same = k.same ∙ ap (λ (files : List FileValue). files ++ k.more) h.same ∙ append_assoc one h.more k.more;
  full = list_all-append (λ (file : FileValue). has_entry file.entries) h.more k.more
      ∙ and_true (is_full h.more) (is_full k.more) h.full k.full;
}

-- the closed files of both devices stay
abbrev Stay : Equipped → Equipped → Type 0
Stay old new = AreClosedAfter old.devices.punched new.devices.punched
    × AreClosedAfter old.devices.printed new.devices.printed

same_files : (old new : Equipped) → new.devices.punched ≡ old.devices.punched
    → new.devices.printed ≡ old.devices.printed → Stay old new
same_files old new h k =
    (kept old.devices.punched new.devices.punched h, kept old.devices.printed new.devices.printed k)

unchanged : (old new : Equipped) → new ≡ old → Stay old new
unchanged old new h =
    same_files old new (ap (λ (e : Equipped). e.devices.punched) h) (ap (λ (e : Equipped). e.devices.printed) h)

by_devices : (old new : Equipped) (d : DevicesValue) → new.devices ≡ d → d.punched ≡ old.devices.punched
    → d.printed ≡ old.devices.printed → Stay old new
by_devices old new d h k l =
    same_files old new (ap (λ (x : DevicesValue). x.punched) h ∙ k) (ap (λ (x : DevicesValue). x.printed) h ∙ l)

by_outcome : (f : Equipped → Outcome) (old : Equipped) (reported : LineOutcome) (new : Equipped)
    → Stay old (f old).equipped → outcome new reported ≡ f old → Stay old new
by_outcome f old reported new stay h = subst (λ (o : Outcome). Stay old o.equipped) (sym h) stay

typed_stay : (b : Bool) (device : ℕ) (text : List ℕ) (e : Equipped) → Stay e (typed_where b device text e).equipped
typed_stay true device text e = same_files e (typed_where true device text e).equipped refl refl
typed_stay false device text e = same_files e (typed_where false device text e).equipped refl refl

typed_at_stay : (place : Option ℕ) (text : List ℕ) (e : Equipped) → Stay e (typed_at place text e).equipped
typed_at_stay None text e = unchanged e e refl
typed_at_stay (Some device) text e = typed_stay (has_room e.devices.console) device text e

aimed_stay : (b : Bool) (target : Target) (e : Equipped)
    → Stay e (record e { devices = if b then record e.devices { target = target } else e.devices })
aimed_stay true target e =
    (kept e.devices.punched e.devices.punched refl, kept e.devices.printed e.devices.printed refl)
aimed_stay false target e = unchanged e e refl

spool_stay : (b : Bool) (target : Option Target) (device : ℕ) (e : Equipped)
    → Stay e (if b then spooled_to target device e else outcome e (Lines.Said responses.DeviceNotFound)).equipped
spool_stay true None device e = unchanged e e refl
spool_stay true (Some target) device e = aimed_stay (is_punch (part_at e.devices device)) target e
spool_stay false target device e = unchanged e e refl

punch_stay : (place : Option ℕ) (e : Equipped) → Stay e (punch_answered place e).equipped
punch_stay None e = unchanged e e refl
punch_stay (Some place) e = (
  closes e.devices.punched e.devices.target e.devices.punch.entries,
  kept e.devices.printed e.devices.printed refl,
)

printer_stay : (place : Option ℕ) (e : Equipped) → Stay e (printer_answered place e).equipped
printer_stay None e = unchanged e e refl
printer_stay (Some place) e = (
  kept e.devices.punched e.devices.punched refl,
  closes e.devices.printed targets.System e.devices.printer.entries,
)

close_stay : (kind : Option AttachedDevice) (e : Equipped) → Stay e (closed_at kind e).equipped
close_stay (Some kinds.Punch) e = punch_stay (open_files e.devices).punched e
close_stay (Some kinds.Printer) e = printer_stay (open_files e.devices).printed e
close_stay (Some kinds.Console) e = unchanged e e refl
close_stay (Some kinds.Reader) e = unchanged e e refl
close_stay (Some (kinds.Disk index)) e = unchanged e e refl
close_stay None e = unchanged e e refl

off_stay : (e : Equipped) → Stay e (logged_off e).equipped
off_stay e = (
  closes e.devices.punched e.devices.target e.devices.punch.entries,
  closes e.devices.printed targets.System e.devices.printer.entries,
)

obeyed_stay : (w : UserDirectory) (command : DeviceCommand) (old : Equipped) (reported : LineOutcome) (new : Equipped)
    → IsObeyed w command old reported new → Stay old new
obeyed_stay w commands.QueryFiles old reported new h = unchanged old new (ap (λ (o : Outcome). o.equipped) h)
obeyed_stay w commands.QueryUsers old reported new h = unchanged old new (ap (λ (o : Outcome). o.equipped) h)
obeyed_stay w (commands.Spool device name) old reported new h =
    by_outcome (spool_answered w device name) old reported new
    (spool_stay (is_punch (part_at old.devices device)) (target_of w name) device old) h
obeyed_stay w (commands.Close device) old reported new h =
    by_outcome (close_answered device) old reported new (close_stay (part_at old.devices device) old) h
obeyed_stay w (commands.Purge file) old reported new h =
    by_outcome (purge_answered file) old reported new
    (same_files old (purge_answered file old).equipped refl refl) h
obeyed_stay w (commands.Message name text) old reported new h = unchanged old new h.0

disk_stay : (index : ℕ) (disk : Option DiskAt) (device : ℕ) (old : Equipped) (reported : LineOutcome) (new : Equipped)
    → LoadsDisk index disk device old reported new → Stay old new
disk_stay index None device old reported new h = unchanged old new (ap (λ (o : Outcome). o.equipped) h)
disk_stay index (Some disk) device old reported new h = by_devices old new (devices_reset old.devices) h.rest refl refl

loads_stay : (kind : Option AttachedDevice) (device : ℕ) (old : Equipped) (reported : LineOutcome) (new : Equipped)
    → LoadsKind kind device old reported new → Stay old new
loads_stay (Some kinds.Reader) device old reported new h =
    by_devices old new (record (devices_reset old.devices) { reader = new.devices.reader }) h.rest refl refl
loads_stay (Some (kinds.Disk index)) device old reported new h =
    disk_stay index (slice_get (map reset_disk old.disks) index) device old reported new h
loads_stay (Some kinds.Console) device old reported new h = unchanged old new (ap (λ (o : Outcome). o.equipped) h)
loads_stay (Some kinds.Punch) device old reported new h = unchanged old new (ap (λ (o : Outcome). o.equipped) h)
loads_stay (Some kinds.Printer) device old reported new h = unchanged old new (ap (λ (o : Outcome). o.equipped) h)
loads_stay None device old reported new h = unchanged old new (ap (λ (o : Outcome). o.equipped) h)

answered_stay : (asked : Request) (w : UserDirectory) (typed : List ℕ) (old : Equipped) (reported : LineOutcome)
    (new : Equipped) → IsAnswered asked w typed old reported new → Stay old new
answered_stay LogsOn w typed old reported new h =
    by_outcome logged_on old reported new (same_files old (logged_on old).equipped refl refl) h
answered_stay LogsOff w typed old reported new h = by_outcome logged_off old reported new (off_stay old) h
answered_stay Resets w typed old reported new h =
    by_outcome was_reset old reported new (same_files old (was_reset old).equipped refl refl) h
answered_stay Types w typed old reported new h =
    by_outcome (typed_at old.devices.places.console (cleaned typed)) old reported new
    (typed_at_stay old.devices.places.console (cleaned typed) old) h
answered_stay (Loads device) w typed old reported new h =
    loads_stay (kind_at old.devices old.disks device) device old reported new h
answered_stay (Asks command) w typed old reported new h = obeyed_stay w command old reported new h
answered_stay (Alone asked) w typed old reported new h =
    by_outcome (answered_alone asked) old reported new (same_files old (answered_alone asked old).equipped refl refl) h

module _ (reads : Reading) where
  runs_stay : (kind : AttachedDevice) (device : ℕ) (start : Caw) (old new : Equipped)
      → RunsKind reads kind device start old new → Stay old new
  runs_stay kinds.Console device start old new h = same_files old new
      (ap (λ (d : DevicesValue). d.punched) h.devices) (ap (λ (d : DevicesValue). d.printed) h.devices)
  runs_stay kinds.Reader device start old new h = same_files old new
      (ap (λ (d : DevicesValue). d.punched) h.1) (ap (λ (d : DevicesValue). d.printed) h.1)
  runs_stay kinds.Punch device start old new h = same_files old new
      (ap (λ (d : DevicesValue). d.punched) h.1) (ap (λ (d : DevicesValue). d.printed) h.1)
  runs_stay kinds.Printer device start old new h = same_files old new
      (ap (λ (d : DevicesValue). d.punched) h.1) (ap (λ (d : DevicesValue). d.printed) h.1)
  runs_stay (kinds.Disk index) device start old new h = same_files old new
      (ap (λ (d : DevicesValue). d.punched) h.devices) (ap (λ (d : DevicesValue). d.printed) h.devices)

  serves_stay : (kind : Option AttachedDevice) (start : Option Caw) (device : ℕ) (old : Equipped) (done : Bool)
      (new : Equipped) → Serves reads kind start device old done new → Stay old new
  serves_stay None start device old done new h = unchanged old new h.1
  serves_stay (Some kind) None device old done new h = unchanged old new h.1
  serves_stay (Some kind) (Some start) device old done new h = runs_stay kind device start old new h.1

  -- an event leaves the closed files, and others after them
  pub leaves_stay : (event : Event) (old new : Equipped) → Leaves reads event old new → Stay old new
  leaves_stay (Units count) old new h = by_devices old new old.devices h.1 refl refl
  leaves_stay (Serve device) old new h =
      serves_stay (kind_at old.devices old.disks device)
      (program_of device old.machine.core.subchannels) device old h.0 new h.1
  leaves_stay (Line world typed) old new h = answered_stay (requested typed old) world typed old h.0 new h.1
  leaves_stay Tick old new h = by_devices old new old.devices h.1 refl refl
  leaves_stay (Deck deck) old new h = same_files old new
      (ap (λ (e : Equipped). e.devices.punched) h) (ap (λ (e : Equipped). e.devices.printed) h)
  leaves_stay (Message text) old new h = same_files old new
      (ap (λ (e : Equipped). e.devices.punched) h) (ap (λ (e : Equipped). e.devices.printed) h)
  leaves_stay (Purge id) old new h = same_files old new
      (ap (λ (e : Equipped). e.devices.punched) h) (ap (λ (e : Equipped). e.devices.printed) h)

  lives_stay : (events : List Event) (old new : Equipped) → Lives reads events old new → Stay old new
  lives_stay [] old new h = unchanged old new h
  lives_stay (event ∷ events) old new h =
      let first = leaves_stay event old h.0 h.1 in
      let rest = lives_stay events h.0 new h.2 in (
        both_after old.devices.punched h.0.devices.punched new.devices.punched first.0 rest.0,
        both_after old.devices.printed h.0.devices.printed new.devices.printed first.1 rest.1,
      )

-- closed files stay, whatever happens
pub closed_files_stay : ClosedFilesStay
closed_files_stay reads events old new h = lives_stay reads events old new h
