-- What an answer to a line leaves alone.
use Rattle.std.proofs.Common.{◌≡◌, ◌⊎◌, ℕ, ◌+◌, ◌<◌, length-append, Bool, true, false, List, [], ◌∷◌, length, Option}
use Rattle.std.proofs.Common.{Some, None, refl, sym, ◌∙◌, ap, subst, inl, inr, arith}
use Rattle.std.specs.Prelude.{IsSome, ◌||◌, ◌++◌, if◌then◌else◌, map, nat_lt, slice_get}
use Rattle.std.proofs.lemmas.Bool.{lt-ltb}
use Rattle.std.proofs.lemmas.Bool.Decides.{nat_tests}
use Rattle.unit_record.specs.declared.output.Target.{Target}
use Rattle.unit_record.specs.declared.output.Target.TheVariants.{System}
use Rattle.unit_record.specs.Output.{EntryValue, FileValue, closed_with}
use Rattle.user_names.specs.Users.{user_of}
use Rattle.unit_record.specs.Reader.{DeckValue}
use Rattle.unit_record.specs.Console.{has_room}
use Rattle.cp_console.specs.Lines.{cleaned}
use Rattle.cp_console.specs.declared.console_line.ConsoleLine.{ConsoleLine}
use Rattle.cp_console.specs.declared.device_commands.DeviceCommand.{DeviceCommand}
use Rattle.cp_console.specs.declared.device_commands.DeviceCommand.TheVariants as commands
use Rattle.cp_console.specs.declared.responses.Response.{Response}
use Rattle.cp_console.specs.declared.responses.Response.TheVariants as responses
use Rattle.machine_panel.specs.declared.line.PanelLine.{PanelLine}
use Rattle.machine_panel.specs.Panel.{line}
use Rattle.machine_channels.specs.Disks.{DiskAt, reset_disk}
use Rattle.machine_devices.specs.declared.line.LineOutcome.{LineOutcome}
use Rattle.machine_devices.specs.declared.line.LineOutcome.TheVariants.{Silent, Said, Files, Sent, Closed, LoggedOff}
use Rattle.machine_devices.specs.declared.places.AttachedDevice.{AttachedDevice}
use Rattle.machine_devices.specs.declared.places.AttachedDevice.TheVariants as kinds
use Rattle.machine_devices.specs.declared.request.Request.{Request}
use Rattle.machine_devices.specs.declared.request.Request.TheVariants.{LogsOn, LogsOff, Resets, Types, Loads, Asks}
use Rattle.machine_devices.specs.declared.request.Request.TheVariants.{Alone}
use Rattle.machine_devices.specs.Devices.{DevicesValue, kind_at, part_at}
use Rattle.machine_devices.specs.Equipped.{Equipped}
use Rattle.machine_devices.specs.Lines.{IsAnswered, IsLine, IsObeyed, LoadsDisk, LoadsKind, Outcome, SendsTo}
use Rattle.machine_devices.specs.Lines.{SendsWhere, answered_alone, close_answered, closed_at, files_closed, files_told}
use Rattle.machine_devices.specs.Lines.{ipl_told, logged_off, none_closed, printer_answered, punch_answered, logged_on}
use Rattle.machine_devices.specs.Lines.{outcome, purge_answered, requested, said, spool_answered, spooled_to, target_of}
use Rattle.machine_devices.specs.Lines.{typed_at, typed_where, was_reset}
use Rattle.machine_devices.specs.Spooling.{is_punch, open_files, place_of, spooled, with_printer_closed}
use Rattle.machine_devices.specs.Spooling.{with_punch_closed}
use Rattle.machine_devices.specs.UserDirectory.{UserDirectory, is_on}
use Rattle.machine_devices.specs.Notes.{closed_by, note_at, note_where, noted, stands_in}
use Rattle.machine_devices.specs.declared.files.FileKind.{FileKind}
use Rattle.machine_devices.specs.declared.files.FileKind.TheVariants as of_files
use Rattle.machine_devices.specs.declared.files.FileNote.{FileNote}
use Rattle.machine_devices.specs.declared.files.ClosedFiles.{ClosedFiles}
use Rattle.machine_devices.specs.Comes.{HasClosed, HasOpen, MayTakeMemory, NeedsMemory, is_sent, closes, command_closes}
use Rattle.machine_devices.specs.Comes.{CanReceive, is_cut, LineMay, is_ipl}

-- a message that is sent leaves its sender's machine
abbrev pub SentSame : Equipped → LineOutcome → Equipped → Type 0
SentSame old (Sent user line) new = new ≡ old
SentSame old Silent new = Unit {0}
SentSame old (Said response) new = Unit {0}
SentSame old Files new = Unit {0}
SentSame old (Closed files) new = Unit {0}
SentSame old (LoggedOff files) new = Unit {0}

-- what is sent leaves the machine, and no file is closed where the line closes none
pub record IsMild (closing sends : Bool) (old : Equipped) (o : Outcome) : Type 0 where
  pub sent : SentSame old o.reported o.equipped
  pub unsent : sends ≡ false → is_sent o.reported ≡ false
  pub none : closing ≡ false → files_closed o.reported ≡ none_closed
  pub punched : closing ≡ false → o.equipped.devices.punched ≡ old.devices.punched
  pub printed : closing ≡ false → o.equipped.devices.printed ≡ old.devices.printed

said_sent : (r : Option Response) (old new : Equipped) → SentSame old (said r) new
said_sent None old new = tt
said_sent (Some response) old new = tt

said_unsent : (r : Option Response) → is_sent (said r) ≡ false
said_unsent None = refl
said_unsent (Some response) = refl

said_no_file : (r : Option Response) → files_closed (said r) ≡ none_closed
said_no_file None = refl
said_no_file (Some response) = refl

alone_mild : (asked : PanelLine) (e : Equipped) → IsMild false false e (answered_alone asked e)
alone_mild asked e = record {
  sent = said_sent (line asked e.machine).reply e (answered_alone asked e).equipped;
  unsent = λ none. said_unsent (line asked e.machine).reply;
  none = λ none. said_no_file (line asked e.machine).reply;
  punched = λ none. refl;
  printed = λ none. refl;
}

typed_where_mild : (room : Bool) (device : ℕ) (text : List ℕ) (e : Equipped)
    → IsMild false false e (typed_where room device text e)
typed_where_mild true device text e =
    record { sent = tt; unsent = λ none. refl; none = λ none. refl; punched = λ none. refl; printed = λ none. refl }
typed_where_mild false device text e =
    record { sent = tt; unsent = λ none. refl; none = λ none. refl; punched = λ none. refl; printed = λ none. refl }

typed_mild : (place : Option ℕ) (text : List ℕ) (e : Equipped) → IsMild false false e (typed_at place text e)
typed_mild None text e =
    record { sent = tt; unsent = λ none. refl; none = λ none. refl; punched = λ none. refl; printed = λ none. refl }
typed_mild (Some device) text e = typed_where_mild (has_room e.devices.console) device text e

logon_mild : (e : Equipped) → IsMild false false e (logged_on e)
logon_mild e = record {
  sent = tt;
  unsent = λ none. refl;
  none = λ none. refl;
  punched = λ none. refl;
  printed = λ none. refl;
}

reset_mild : (e : Equipped) → IsMild false false e (was_reset e)
reset_mild e = record {
  sent = tt;
  unsent = λ none. refl;
  none = λ none. refl;
  punched = λ none. refl;
  printed = λ none. refl;
}

logoff_mild : (e : Equipped) → IsMild true false e (logged_off e)
logoff_mild e = record {
  sent = tt;
  unsent = λ none. refl;
  none = λ none. cc;
  punched = λ none. cc;
  printed = λ none. cc;
}

-- ---- commands

files_mild : (decks : List DeckValue) (e : Equipped) → IsMild false false e (outcome e (files_told decks))
files_mild [] e = record {
  sent = tt;
  unsent = λ none. refl;
  none = λ none. refl;
  punched = λ none. refl;
  printed = λ none. refl;
}
files_mild (deck ∷ decks) e =
    record { sent = tt; unsent = λ none. refl; none = λ none. refl; punched = λ none. refl; printed = λ none. refl }

said_mild : (response : Response) (e : Equipped) → IsMild false false e (outcome e (Said response))
said_mild response e = record {
  sent = tt;
  unsent = λ none. refl;
  none = λ none. refl;
  punched = λ none. refl;
  printed = λ none. refl;
}

spooled_punched : (b : Bool) (d : DevicesValue) (target : Target)
    → (if b then record d { target = target } else d).punched ≡ d.punched
spooled_punched true d target = refl
spooled_punched false d target = refl

spooled_printed : (b : Bool) (d : DevicesValue) (target : Target)
    → (if b then record d { target = target } else d).printed ≡ d.printed
spooled_printed true d target = refl
spooled_printed false d target = refl

spooled_mild : (target : Option Target) (device : ℕ) (e : Equipped) → IsMild false false e (spooled_to target device e)
spooled_mild None device e =
    record { sent = tt; unsent = λ none. refl; none = λ none. refl; punched = λ none. refl; printed = λ none. refl }
spooled_mild (Some target) device e = record {
  sent = tt;
  unsent = λ none. refl;
  none = λ none. refl;
  punched = λ none. spooled_punched (is_punch (part_at e.devices device)) e.devices target;
  printed = λ none. spooled_printed (is_punch (part_at e.devices device)) e.devices target;
}

spool_where : (b : Bool) (target : Option Target) (device : ℕ) (e : Equipped)
    → IsMild false false e (if b then spooled_to target device e else outcome e (Said responses.DeviceNotFound))
spool_where true target device e = spooled_mild target device e
spool_where false target device e = said_mild responses.DeviceNotFound e

punch_mild : (place : Option ℕ) (e : Equipped) → IsMild true false e (punch_answered place e)
punch_mild None e = record {
  sent = tt;
  unsent = λ none. refl;
  none = λ none. cc;
  punched = λ none. cc;
  printed = λ none. cc;
}
punch_mild (Some place) e =
    record { sent = tt; unsent = λ none. refl; none = λ none. cc; punched = λ none. cc; printed = λ none. cc }

printer_mild : (place : Option ℕ) (e : Equipped) → IsMild true false e (printer_answered place e)
printer_mild None e = record {
  sent = tt;
  unsent = λ none. refl;
  none = λ none. cc;
  punched = λ none. cc;
  printed = λ none. cc;
}
printer_mild (Some place) e =
    record { sent = tt; unsent = λ none. refl; none = λ none. cc; punched = λ none. cc; printed = λ none. cc }

no_device_mild : (e : Equipped) → IsMild true false e (outcome e (Said responses.DeviceNotFound))
no_device_mild e = record {
  sent = tt;
  unsent = λ none. refl;
  none = λ none. cc;
  punched = λ none. cc;
  printed = λ none. cc;
}

close_mild : (kind : Option AttachedDevice) (e : Equipped) → IsMild true false e (closed_at kind e)
close_mild (Some kinds.Punch) e = punch_mild (open_files e.devices).punched e
close_mild (Some kinds.Printer) e = printer_mild (open_files e.devices).printed e
close_mild (Some kinds.Console) e = no_device_mild e
close_mild (Some kinds.Reader) e = no_device_mild e
close_mild (Some (kinds.Disk index)) e = no_device_mild e
close_mild None e = no_device_mild e

purge_mild : (file : ℕ) (e : Equipped) → IsMild false false e (purge_answered file e)
purge_mild file e = record {
  sent = tt;
  unsent = λ none. refl;
  none = λ none. refl;
  punched = λ none. refl;
  printed = λ none. refl;
}

sent_mild : (user : ℕ) (line : ConsoleLine) (e : Equipped) → IsMild false true e (outcome e (Sent user line))
sent_mild user line e = record {
  sent = refl;
  unsent = λ sends. cc;
  none = λ closing. refl;
  punched = λ closing. refl;
  printed = λ closing. refl;
}

unsent_mild : (response : Response) (e : Equipped) → IsMild false true e (outcome e (Said response))
unsent_mild response e =
    record {
      sent = tt;
      unsent = λ sends. cc;
      none = λ closing. refl;
      punched = λ closing. refl;
      printed = λ closing. refl;
    }

told_mild : (reported reported' : LineOutcome) (e : Equipped) → reported ≡ reported'
    → IsMild false true e (outcome e reported') → IsMild false true e (outcome e reported)
told_mild reported reported' e is mild = subst (λ (t : LineOutcome). IsMild false true e (outcome e t)) (sym is) mild

sends_where : (on : Bool) (user : ℕ) (w : UserDirectory) (text : List ℕ) (reported : LineOutcome) (e : Equipped)
    → SendsWhere on user w text reported → IsMild false true e (outcome e reported)
sends_where true user w text reported e h = told_mild reported _ e h.2 (sent_mild user h.0 e)
sends_where false user w text reported e h = told_mild reported _ e h (unsent_mild responses.UserNotLoggedOn e)

message_mild : (found : Option ℕ) (w : UserDirectory) (text : List ℕ) (reported : LineOutcome) (e : Equipped)
    → SendsTo found w text reported → IsMild false true e (outcome e reported)
message_mild None w text reported e h = told_mild reported _ e h (unsent_mild responses.UserNotFound e)
message_mild (Some user) w text reported e h = sends_where (is_on w user) user w text reported e h

-- ---- a loading

ipl_sent : (well : Bool) (old new : Equipped) → SentSame old (ipl_told well) new
ipl_sent true old new = tt
ipl_sent false old new = tt

ipl_unsent : (well : Bool) → is_sent (ipl_told well) ≡ false
ipl_unsent true = refl
ipl_unsent false = refl

ipl_no_file : (well : Bool) → files_closed (ipl_told well) ≡ none_closed
ipl_no_file true = refl
ipl_no_file false = refl

-- it says only how it ended, and the files stay
ipl_mild : (well : Bool) (old : Equipped) (reported : LineOutcome) (new : Equipped) → reported ≡ ipl_told well
    → new.devices.punched ≡ old.devices.punched → new.devices.printed ≡ old.devices.printed
    → IsMild false false old (outcome new reported)
ipl_mild well old reported new says punched printed = record {
  sent = subst (λ (t : LineOutcome). SentSame old t new) (sym says) (ipl_sent well old new);
  unsent = λ none. ap is_sent says ∙ ipl_unsent well;
  none = λ none. ap files_closed says ∙ ipl_no_file well;
  punched = λ none. punched;
  printed = λ none. printed;
}

-- ---- a line

from : (closing sends : Bool) (old new : Equipped) (reported : LineOutcome) (o : Outcome) → outcome new reported ≡ o
    → IsMild closing sends old o → IsMild closing sends old (outcome new reported)
from closing sends old new reported o h mild = subst (λ (x : Outcome). IsMild closing sends old x) (sym h) mild

disk_loaded_mild : (index : ℕ) (o : Option DiskAt) (device : ℕ) (old : Equipped) (reported : LineOutcome)
    (new : Equipped) → LoadsDisk index o device old reported new → IsMild false false old (outcome new reported)
disk_loaded_mild index (Some disk) device old reported new l =
    ipl_mild l.well old reported new l.says (ap (λ (d : DevicesValue). d.punched) l.rest)
    (ap (λ (d : DevicesValue). d.printed) l.rest)
disk_loaded_mild index None device old reported new l =
    from false false old new reported _ l (said_mild responses.DeviceNotFound old)

loaded_mild : (k : Option AttachedDevice) (device : ℕ) (old : Equipped) (reported : LineOutcome) (new : Equipped)
    → LoadsKind k device old reported new → IsMild false false old (outcome new reported)
loaded_mild (Some kinds.Reader) device old reported new l =
    ipl_mild l.well old reported new l.says (ap (λ (d : DevicesValue). d.punched) l.rest)
    (ap (λ (d : DevicesValue). d.printed) l.rest)
loaded_mild (Some (kinds.Disk index)) device old reported new l =
    disk_loaded_mild index (slice_get (map reset_disk old.disks) index) device old reported new l
loaded_mild (Some kinds.Console) device old reported new l =
    from false false old new reported _ l (said_mild responses.DeviceNotFound old)
loaded_mild (Some kinds.Punch) device old reported new l =
    from false false old new reported _ l (said_mild responses.DeviceNotFound old)
loaded_mild (Some kinds.Printer) device old reported new l =
    from false false old new reported _ l (said_mild responses.DeviceNotFound old)
loaded_mild None device old reported new l =
    from false false old new reported _ l (said_mild responses.DeviceNotFound old)

-- a command that sends a message
abbrev pub command_sends : DeviceCommand → Bool
command_sends (commands.Message name text) = true
command_sends commands.QueryFiles = false
command_sends commands.QueryUsers = false
command_sends (commands.Spool device name) = false
command_sends (commands.Close device) = false
command_sends (commands.Purge file) = false

abbrev pub sends : Request → Bool
sends (Asks command) = command_sends command
sends LogsOn = false
sends LogsOff = false
sends Resets = false
sends Types = false
sends (Loads device) = false
sends (Alone asked) = false

obeyed_mild : (w : UserDirectory) (command : DeviceCommand) (old : Equipped) (reported : LineOutcome) (new : Equipped)
    → IsObeyed w command old reported new
    → IsMild (command_closes command) (command_sends command) old (outcome new reported)
obeyed_mild w commands.QueryFiles old reported new h =
    from false false old new reported _ h (files_mild old.devices.reader.decks old)
obeyed_mild w commands.QueryUsers old reported new h = from false false old new reported _ h (said_mild _ old)
obeyed_mild w (commands.Spool device name) old reported new h =
    from false false old new reported _ h
    (spool_where (is_punch (part_at old.devices device)) (target_of w name) device old)
obeyed_mild w (commands.Close device) old reported new h =
    from true false old new reported _ h (close_mild (part_at old.devices device) old)
obeyed_mild w (commands.Purge file) old reported new h = from false false old new reported _ h (purge_mild file old)
obeyed_mild w (commands.Message name text) old reported new h =
    from false true old new reported (outcome old reported) (ap (λ (e : Equipped). outcome e reported) h.0)
    (message_mild (user_of w.names name) w text reported old h.1)

pub mild : (q : Request) (w : UserDirectory) (typed : List ℕ) (old : Equipped) (reported : LineOutcome) (new : Equipped)
    → IsAnswered q w typed old reported new → IsMild (closes q) (sends q) old (outcome new reported)
mild LogsOn w typed old reported new h = from false false old new reported _ h (logon_mild old)
mild LogsOff w typed old reported new h = from true false old new reported _ h (logoff_mild old)
mild Resets w typed old reported new h = from false false old new reported _ h (reset_mild old)
mild Types w typed old reported new h =
    from false false old new reported _ h (typed_mild old.devices.places.console (cleaned typed) old)
mild (Loads device) w typed old reported new h =
    loaded_mild (kind_at old.devices old.disks device) device old reported new h
mild (Asks command) w typed old reported new h = obeyed_mild w command old reported new h
mild (Alone asked) w typed old reported new h = from false false old new reported _ h (alone_mild asked old)

true_or_false : (b : Bool) → (b ≡ true) ⊎ (b ≡ false)
true_or_false true = inl refl
true_or_false false = inr refl

-- ---- where memory was refused for what comes of a line

-- what is sent leaves its sender's machine
sent_is : (old : Equipped) (reported : LineOutcome) (new : Equipped) → is_sent reported ≡ true
    → SentSame old reported new → new ≡ old
sent_is old (Sent user line) new is same = same
sent_is old Silent new is same = cc
sent_is old (Said response) new is same = cc
sent_is old Files new is same = cc
sent_is old (Closed files) new is same = cc
sent_is old (LoggedOff files) new is same = cc

not_closed : (files : ClosedFiles) → files ≡ none_closed → HasClosed files → ⊥
not_closed files none h = elim (subst HasClosed none h) [ inl punched ↦ cc | inr printed ↦ cc ]

-- what CLOSE closes was open
place_open : (place : Option ℕ) (old new : Equipped) (reported : LineOutcome)
    → outcome new reported ≡ punch_answered place old → HasClosed (files_closed reported) → IsSome place
place_open None old new reported is closed =
    absurd (not_closed (files_closed reported) (ap (λ (o : Outcome). files_closed o.reported) is) closed)
place_open (Some place) old new reported is closed = refl

printed_open : (place : Option ℕ) (old new : Equipped) (reported : LineOutcome)
    → outcome new reported ≡ printer_answered place old → HasClosed (files_closed reported) → IsSome place
printed_open None old new reported is closed =
    absurd (not_closed (files_closed reported) (ap (λ (o : Outcome). files_closed o.reported) is) closed)
printed_open (Some place) old new reported is closed = refl

closed_open : (kind : Option AttachedDevice) (old new : Equipped) (reported : LineOutcome)
    → outcome new reported ≡ closed_at kind old → HasClosed (files_closed reported) → HasOpen kind old.devices
closed_open (Some kinds.Punch) old new reported is closed =
    place_open (open_files old.devices).punched old new reported is closed
closed_open (Some kinds.Printer) old new reported is closed =
    printed_open (open_files old.devices).printed old new reported is closed
closed_open (Some kinds.Console) old new reported is closed =
    not_closed (files_closed reported) (ap (λ (o : Outcome). files_closed o.reported) is) closed
closed_open (Some kinds.Reader) old new reported is closed =
    not_closed (files_closed reported) (ap (λ (o : Outcome). files_closed o.reported) is) closed
closed_open (Some (kinds.Disk index)) old new reported is closed =
    not_closed (files_closed reported) (ap (λ (o : Outcome). files_closed o.reported) is) closed
closed_open None old new reported is closed =
    not_closed (files_closed reported) (ap (λ (o : Outcome). files_closed o.reported) is) closed

not_both : {b : Bool} → b ≡ false → b ≡ true → ⊥
not_both off on = cc

-- a line that closed a file may take memory
closing_may : (q : Request) (w : UserDirectory) (typed : List ℕ) (old : Equipped) (reported : LineOutcome)
    (new : Equipped) → closes q ≡ true → IsAnswered q w typed old reported new → HasClosed (files_closed reported)
    → MayTakeMemory w q old
closing_may LogsOff w typed old reported new closing is closed =
    subst HasClosed (ap (λ (o : Outcome). files_closed o.reported) is) closed
closing_may (Asks (commands.Close device)) w typed old reported new closing is closed =
    closed_open (part_at old.devices device) old new reported is closed
closing_may (Asks commands.QueryFiles) w typed old reported new closing is closed = cc
closing_may (Asks commands.QueryUsers) w typed old reported new closing is closed = cc
closing_may (Asks (commands.Spool device name)) w typed old reported new closing is closed = cc
closing_may (Asks (commands.Purge file)) w typed old reported new closing is closed = cc
closing_may (Asks (commands.Message name text)) w typed old reported new closing is closed = cc
closing_may LogsOn w typed old reported new closing is closed = cc
closing_may Resets w typed old reported new closing is closed = cc
closing_may Types w typed old reported new closing is closed = cc
closing_may (Loads device) w typed old reported new closing is closed = cc
closing_may (Alone asked) w typed old reported new closing is closed = cc

-- what is sent is sent to a user who can receive it
sent_where : (on : Bool) (user : ℕ) (w : UserDirectory) (text : List ℕ) (reported : LineOutcome)
    → SendsWhere on user w text reported → is_sent reported ≡ true → on ≡ true
sent_where true user w text reported is sent = refl
sent_where false user w text reported is sent =
    absurd (not_both (ap (λ (o : LineOutcome). is_sent o) is) sent)

sent_to : (found : Option ℕ) (w : UserDirectory) (text : List ℕ) (reported : LineOutcome)
    → SendsTo found w text reported → is_sent reported ≡ true → CanReceive found w
sent_to None w text reported is sent =
    absurd (not_both (ap (λ (o : LineOutcome). is_sent o) is) sent)
sent_to (Some user) w text reported is sent = sent_where (is_on w user) user w text reported is sent

-- and one that sends
sending_may : (q : Request) (w : UserDirectory) (typed : List ℕ) (old : Equipped) (reported : LineOutcome)
    (new : Equipped) → sends q ≡ true → IsAnswered q w typed old reported new → is_sent reported ≡ true
    → MayTakeMemory w q old
sending_may (Asks (commands.Message name text)) w typed old reported new sending is sent =
    sent_to (user_of w.names name) w text reported is.1 sent
sending_may (Asks (commands.Close device)) w typed old reported new sending is sent = cc
sending_may (Asks commands.QueryFiles) w typed old reported new sending is sent = cc
sending_may (Asks commands.QueryUsers) w typed old reported new sending is sent = cc
sending_may (Asks (commands.Spool device name)) w typed old reported new sending is sent = cc
sending_may (Asks (commands.Purge file)) w typed old reported new sending is sent = cc
sending_may LogsOn w typed old reported new sending is sent = cc
sending_may LogsOff w typed old reported new sending is sent = cc
sending_may Resets w typed old reported new sending is sent = cc
sending_may Types w typed old reported new sending is sent = cc
sending_may (Loads device) w typed old reported new sending is sent = cc
sending_may (Alone asked) w typed old reported new sending is sent = cc

-- what closes or sends nothing takes none
may_mild : (q : Request) (w : UserDirectory) (typed : List ℕ) (old : Equipped) (reported : LineOutcome) (new : Equipped)
    → IsAnswered q w typed old reported new → IsMild (closes q) (sends q) old (outcome new reported)
    → NeedsMemory reported → MayTakeMemory w q old
may_mild q w typed old reported new is mild h = elim h [
  | inl sent ↦ elim (true_or_false (sends q)) [
    | inl sending ↦ sending_may q w typed old reported new sending is sent
    | inr silent ↦ absurd (not_both (mild.unsent silent) sent)
  ]
  | inr closed ↦ elim (true_or_false (closes q)) [
    | inl closing ↦ closing_may q w typed old reported new closing is closed
    | inr none ↦ absurd (not_closed (files_closed reported) (mild.none none) closed)
  ]
]

same_mild : (q : Request) (old : Equipped) (reported : LineOutcome) (new : Equipped) → closes q ≡ false
    → IsMild (closes q) (sends q) old (outcome new reported) → NeedsMemory reported → new ≡ old
same_mild q old reported new none mild h = elim h [
  | inl sent ↦ sent_is old reported new sent mild.sent
  | inr closed ↦ absurd (not_closed (files_closed reported) (mild.none none) closed)
]

-- what comes of a line takes memory only where the line may
pub follow_may : (w : UserDirectory) (typed : List ℕ) (old : Equipped) (reported : LineOutcome) (new : Equipped)
    → IsLine w typed old reported new → NeedsMemory reported → LineMay w typed old
follow_may w typed old reported new h needs =
    let q = requested typed old in may_mild q w typed old reported new h (mild q w typed old reported new h) needs

is_cut_parts : (b c : Bool) → (b || c) ≡ false → b ≡ false
is_cut_parts true c h = cc
is_cut_parts false c h = refl

-- and a line that is not cut short has changed nothing then
pub follow_same : (w : UserDirectory) (typed : List ℕ) (old : Equipped) (reported : LineOutcome) (new : Equipped)
    → is_cut (requested typed old) ≡ false → IsLine w typed old reported new → NeedsMemory reported → new ≡ old
follow_same w typed old reported new none h needs =
    let q = requested typed old in
    same_mild q old reported new (is_cut_parts (closes q) (is_ipl q) none) (mild q w typed old reported new h) needs

ipl_closes_none : (q : Request) → is_ipl q ≡ true → closes q ≡ false
ipl_closes_none (Loads device) is = refl
ipl_closes_none LogsOn is = cc
ipl_closes_none LogsOff is = cc
ipl_closes_none Resets is = cc
ipl_closes_none Types is = cc
ipl_closes_none (Asks command) is = cc
ipl_closes_none (Alone asked) is = cc

ipl_sends_none : (q : Request) → is_ipl q ≡ true → sends q ≡ false
ipl_sends_none (Loads device) is = refl
ipl_sends_none LogsOn is = cc
ipl_sends_none LogsOff is = cc
ipl_sends_none Resets is = cc
ipl_sends_none Types is = cc
ipl_sends_none (Asks command) is = cc
ipl_sends_none (Alone asked) is = cc

-- what comes of an IPL takes none
pub load_needs_none : (w : UserDirectory) (typed : List ℕ) (old : Equipped) (reported : LineOutcome) (new : Equipped)
    → is_ipl (requested typed old) ≡ true → IsLine w typed old reported new → NeedsMemory reported → ⊥
load_needs_none w typed old reported new is h needs =
    let q = requested typed old in
    let gentle = mild q w typed old reported new h in
    elim needs [
      | inl sent ↦ not_both (gentle.unsent (ipl_sends_none q is)) sent
      | inr closed ↦ not_closed (files_closed reported) (gentle.none (ipl_closes_none q is)) closed
    ]

-- ---- which files were closed

-- a device has closed one file at this place, or none
abbrev Gains : Option ℕ → List FileValue → List FileValue → Type 0
Gains None old new = new ≡ old
Gains (Some place) old new = (place ≡ length old) × (length new ≡ length old + 1)

record ClosesAs (old : Equipped) (o : Outcome) : Type 0 where
  pub punched : Gains (files_closed o.reported).punched old.devices.punched o.equipped.devices.punched
  pub printed : Gains (files_closed o.reported).printed old.devices.printed o.equipped.devices.printed

gains : (entries : List EntryValue) (closed : List FileValue) (target : Target)
    → Gains (place_of entries (length closed)) closed (closed_with closed target entries)
gains [] closed target = refl
gains (entry ∷ entries) closed target = (refl, length-append closed _)

punch_closes : (place : Option ℕ) (e : Equipped) → Gains place e.devices.punched (with_punch_closed e.devices).punched
    → ClosesAs e (punch_answered place e)
punch_closes None e h = record { punched = refl; printed = refl }
punch_closes (Some place) e h = record { punched = h; printed = refl }

printer_closes : (place : Option ℕ) (e : Equipped)
    → Gains place e.devices.printed (with_printer_closed e.devices).printed → ClosesAs e (printer_answered place e)
printer_closes None e h = record { punched = refl; printed = refl }
printer_closes (Some place) e h = record { punched = refl; printed = h }

close_closes : (kind : Option AttachedDevice) (e : Equipped) → ClosesAs e (closed_at kind e)
close_closes (Some kinds.Punch) e =
    punch_closes (open_files e.devices).punched e (gains e.devices.punch.entries e.devices.punched e.devices.target)
close_closes (Some kinds.Printer) e =
    printer_closes (open_files e.devices).printed e (gains e.devices.printer.entries e.devices.printed System)
close_closes (Some kinds.Console) e = record { punched = refl; printed = refl }
close_closes (Some kinds.Reader) e = record { punched = refl; printed = refl }
close_closes (Some (kinds.Disk index)) e = record { punched = refl; printed = refl }
close_closes None e = record { punched = refl; printed = refl }

logoff_closes : (e : Equipped) → ClosesAs e (logged_off e)
logoff_closes e = record {
  punched = gains e.devices.punch.entries e.devices.punched e.devices.target;
  printed = gains e.devices.printer.entries e.devices.printed System;
}

mild_closes : (sends : Bool) (old : Equipped) (o : Outcome) → IsMild false sends old o → ClosesAs old o
mild_closes sends old o mild = record {
  punched = subst (λ (files : ClosedFiles). Gains files.punched old.devices.punched o.equipped.devices.punched)
      (sym (mild.none refl)) (mild.punched refl);
  printed = subst (λ (files : ClosedFiles). Gains files.printed old.devices.printed o.equipped.devices.printed)
      (sym (mild.none refl)) (mild.printed refl);
}

from_closes : (old : Equipped) (o o' : Outcome) → o ≡ o' → ClosesAs old o' → ClosesAs old o
from_closes old o o' is h = subst (λ (x : Outcome). ClosesAs old x) (sym is) h

closes_as : (q : Request) (w : UserDirectory) (typed : List ℕ) (old : Equipped) (reported : LineOutcome)
    (new : Equipped) → IsAnswered q w typed old reported new → ClosesAs old (outcome new reported)
closes_as LogsOff w typed old reported new h =
    from_closes old (outcome new reported) (logged_off old) h (logoff_closes old)
closes_as (Asks (commands.Close device)) w typed old reported new h =
    from_closes old (outcome new reported) (close_answered device old) h (close_closes (part_at old.devices device) old)
closes_as (Asks commands.QueryFiles) w typed old reported new h =
    mild_closes false old (outcome new reported) (mild (Asks commands.QueryFiles) w typed old reported new h)
closes_as (Asks commands.QueryUsers) w typed old reported new h =
    mild_closes false old (outcome new reported) (mild (Asks commands.QueryUsers) w typed old reported new h)
closes_as (Asks (commands.Spool device name)) w typed old reported new h =
    mild_closes false old (outcome new reported) (mild (Asks (commands.Spool device name)) w typed old reported new h)
closes_as (Asks (commands.Purge file)) w typed old reported new h =
    mild_closes false old (outcome new reported) (mild (Asks (commands.Purge file)) w typed old reported new h)
closes_as (Asks (commands.Message name text)) w typed old reported new h =
    mild_closes true old (outcome new reported) (mild (Asks (commands.Message name text)) w typed old reported new h)
closes_as LogsOn w typed old reported new h =
    mild_closes false old (outcome new reported) (mild LogsOn w typed old reported new h)
closes_as Resets w typed old reported new h =
    mild_closes false old (outcome new reported) (mild Resets w typed old reported new h)
closes_as Types w typed old reported new h =
    mild_closes false old (outcome new reported) (mild Types w typed old reported new h)
closes_as (Loads device) w typed old reported new h =
    mild_closes false old (outcome new reported) (mild (Loads device) w typed old reported new h)
closes_as (Alone asked) w typed old reported new h =
    mild_closes false old (outcome new reported) (mild (Alone asked) w typed old reported new h)

stands_as : (place : Option ℕ) (old new : List FileValue) → Gains place old new → stands_in place new ≡ length old
stands_as None old new h = ap (λ (files : List FileValue). length files) h
stands_as (Some place) old new h = h.0

-- the place of a file that was closed is noted as that of one that has joined those of before
note_gained : (place : Option ℕ) (old new : List FileValue) (user : ℕ) (kind : ℕ → FileKind) → Gains place old new
    → note_at place user kind ≡ note_where (nat_lt (length old) (length new)) user (kind (length old))
note_gained None old new user kind h =
    let same : nat_lt (length old) (length new) ≡ false =
    grind (arith, nat_tests, ap (λ (files : List FileValue). length files) h) in rw same refl
note_gained (Some place) old new user kind h =
    let more : nat_lt (length old) (length new) ≡ true =
    lt-ltb (length old) (length new) (omega (arith, h.1)) in rw (more, h.0) refl

-- the files that a line says as closed: that of the punch is after those of before, and they are noted as what has
-- joined them
pub record Stands (old : Equipped) (files : ClosedFiles) (new : Equipped) : Type 0 where
  pub punched : stands_in files.punched new.devices.punched ≡ length old.devices.punched
  pub notes : (user : ℕ) → noted user files ≡ closed_by user old new

-- After a line the machine still stands as it says.
pub line_stands : (w : UserDirectory) (typed : List ℕ) (old : Equipped) (reported : LineOutcome) (new : Equipped)
    → IsLine w typed old reported new → Stands old (files_closed reported) new
line_stands w typed old reported new h =
    let c = closes_as (requested typed old) w typed old reported new h in
    let files = files_closed reported in
    record {
      punched = stands_as files.punched old.devices.punched new.devices.punched c.punched;
      notes = λ user.
          ap (λ (notes : List FileNote). notes ++ note_at files.printed user of_files.Printer)
          (note_gained files.punched old.devices.punched new.devices.punched user of_files.Punch c.punched)
          ∙ ap (λ (notes : List FileNote).
          note_where (nat_lt (length old.devices.punched) (length new.devices.punched)) user
          (of_files.Punch (length old.devices.punched)) ++ notes)
          (note_gained files.printed old.devices.printed new.devices.printed user of_files.Printer c.printed);
    }
