-- The devices of a machine stay, and each that works has a program, event by event.
use Rattle.std.proofs.Common.{◌≡◌, ◌≤◌, inl, inr, ℕ, zero, suc, Bool, true, false, List, [], ◌∷◌, Option, Some, None}
use Rattle.std.proofs.Common.{refl, sym, ap, subst, ◌∙◌, arith}
use Rattle.std.specs.Prelude.{if◌then◌else◌, ◌==◌, IsSome, is_some, map, slice_get}
use Rattle.unit_record.specs.Console.{has_room, wants_attention}
use Rattle.unit_record.specs.declared.output.Target.{Target}
use Rattle.s370_store.specs.Memory.{Memory, memory_of}
use Rattle.s370_walk.specs.declared.parts.Ending.{Ending}
use Rattle.s370_walk.specs.declared.parts.Ccw.{Ccw}
use Rattle.s370_channel.specs.declared.words.Caw.{Caw}
use Rattle.s370_channel.specs.Guest.{guest_text}
use Rattle.s370_channel.specs.Reading.{Reading}
use Rattle.s370_channel.specs.Start.{start_of, started_by}
use Rattle.s370_channel.specs.Words.{caw_of}
use Rattle.s370_cpu.specs.declared.conclude.Stop.{Stop}
use Rattle.s370_cpu.specs.declared.conclude.Stop.TheVariants.{Done, Program, Svc, InputOutput, Privileged, Absent}
use Rattle.s370_cpu.specs.Table.{unit}
use Rattle.s370_rows.specs.declared.ending.IoOperation.{IoOperation}
use Rattle.s370_rows.specs.declared.ending.IoOperation.TheVariants.{Start, Test, Halt, TestChannel}
use Rattle.s370_subchannels.specs.declared.subchannel.DeviceState.{DeviceState}
use Rattle.s370_subchannels.specs.declared.subchannel.DeviceState.TheVariants.{Idle, Working, Pending}
use Rattle.s370_subchannels.specs.declared.subchannel.Subchannel.{Subchannel}
use Rattle.s370_subchannels.specs.Answers.{Devices, device_answered, answered, address_word, started, start_answered}
use Rattle.s370_subchannels.specs.Answers.{test_answered, halt_answered}
use Rattle.s370_subchannels.specs.Programs.{program_ended, program_ended_at, program_of, start_in}
use Rattle.s370_subchannels.specs.Programs.{start_of as start_of_found, status_word}
use Rattle.s370_subchannels.specs.Starts.{works}
use Rattle.s370_subchannels.specs.Subchannels.{attended, attended_by, attending, begun, changed, ended, found, in_state}
use Rattle.s370_subchannels.specs.Subchannels.{last_started, next_start, reset as reset_list, reset_one, that_gives}
use Rattle.s370_subchannels.specs.Subchannels.{with_attention, with_state, withdrawn}
use Rattle.s370_intr.specs.declared.next.Next.{Next}
use Rattle.s370_intr.specs.declared.next.Next.TheVariants.{Stops, Accepts, AcceptsStatus, Instructs}
use Rattle.s370_intr.specs.InputOutput.{Configuration, devices_in}
use Rattle.s370_intr.specs.Units.{Core, configured, followed, instructed, look, unit_at}
use Rattle.s370_intr.specs.Run.{Run, looked, run as run_core}
use Rattle.cp_console.specs.Lines.{cleaned}
use Rattle.cp_console.specs.Responses.{is_panel, text_of}
use Rattle.cp_console.specs.declared.device_commands.DeviceCommand.{DeviceCommand}
use Rattle.cp_console.specs.declared.device_commands.DeviceCommand.TheVariants as commands
use Rattle.cp_console.specs.declared.responses.Response.{Response}
use Rattle.cp_console.specs.declared.responses.Response.TheVariants as responses
use Rattle.machine_panel.specs.DisplayStore.{changed as changed_by_store, displayed, stored}
use Rattle.machine_panel.specs.declared.machine.Mode.{Mode}
use Rattle.machine_panel.specs.declared.machine.Mode.TheVariants.{Off, Stopped, Running}
use Rattle.machine_panel.specs.Machine.{Machine, printed, reset}
use Rattle.machine_panel.specs.declared.line.PanelLine.{PanelLine}
use Rattle.machine_panel.specs.declared.line.PanelLine.TheVariants.{Nothing, Says, Stop as StopLine, Begin, External}
use Rattle.machine_panel.specs.declared.line.PanelLine.TheVariants.{Display, Store}
use Rattle.machine_panel.specs.Panel.{answered as answered_by_panel, line}
use Rattle.machine_panel.specs.Run.{halted, run, run_in}
use Rattle.machine_panel.specs.Tick.{ticked_in}
use Rattle.machine_channels.specs.Disks.{DiskAt, reset_disk}
use Rattle.machine_devices.specs.declared.line.LineOutcome.{LineOutcome}
use Rattle.machine_devices.specs.declared.line.LineOutcome.TheVariants.{Said}
use Rattle.machine_devices.specs.declared.places.AttachedDevice.{AttachedDevice}
use Rattle.machine_devices.specs.declared.places.AttachedDevice.TheVariants as kinds
use Rattle.machine_devices.specs.declared.request.Request.{Request}
use Rattle.machine_devices.specs.declared.request.Request.TheVariants.{LogsOn, LogsOff, Resets, Types, Loads, Asks}
use Rattle.machine_devices.specs.declared.request.Request.TheVariants.{Alone}
use Rattle.machine_devices.specs.Devices.{kind_at, part_at}
use Rattle.machine_devices.specs.Equipped.{Equipped}
use Rattle.machine_devices.specs.Life.{Event, Units, Serve, Line, Tick, Deck, Message, Purge, Leaves, Lives}
use Rattle.machine_devices.specs.Lines.{IsAnswered, IsObeyed, LoadsDisk, LoadsKind, LoadsReader, LoadsUnit, Outcome}
use Rattle.machine_devices.specs.Lines.{close_answered, closed_at, logged_off, logged_on, outcome, requested}
use Rattle.machine_devices.specs.Lines.{printer_answered, punch_answered, spool_answered, spooled_to, target_of}
use Rattle.machine_devices.specs.Lines.{typed_at, typed_where, was_reset}
use Rattle.machine_devices.specs.Loading.{is_good, left_by}
use Rattle.machine_devices.specs.Serve.{Serves, console_over, program_over}
use Rattle.machine_devices.specs.Spooling.{is_punch, open_files}
use Rattle.machine_devices.specs.Working.{AllGoOnHavingPrograms, AllHavePrograms, AllWorkSince, DeliveriesChangeNone}
use Rattle.machine_devices.specs.Working.{DevicesStay, HasProgram, NoneWorksAtFirst, StartsAreNumbered}
use Rattle.machine_devices.specs.Working.{WorksWithProgram}
use Rattle.machine_devices.specs.UserDirectory.{UserDirectory}
use Rattle.machine_devices.proofs.Started.{all_changed, all_later, all_reset, all_same, changed_twice, latest_reset}
use Rattle.machine_devices.proofs.Started.{latest_same, next_higher}

abbrev addresses_in : List Subchannel → List ℕ
addresses_in list = map (λ (s : Subchannel). s.address) list

-- the same devices, where all have programs all go on having them, and starts get the next number or a higher one
record Stays (xs ys : List Subchannel) : Type 0 where
  addresses : addresses_in ys ≡ addresses_in xs
  good : AllHavePrograms xs → AllHavePrograms ys
  later : next_start xs ≤ next_start ys
  since : (number : ℕ) → number ≤ next_start xs → AllWorkSince number xs ys

stays_same : (xs : List Subchannel) → Stays xs xs
stays_same xs = record {
  addresses = refl;
  good = λ h. h;
  later = omega arith;
  since = λ number h. all_same number xs;
}

stays_on : (xs ys zs : List Subchannel) → Stays xs ys → Stays ys zs → Stays xs zs
stays_on xs ys zs a b = record {
  addresses = b.addresses ∙ a.addresses;
  good = λ h. b.good (a.good h);
  later = omega (arith, a.later, b.later);
  since = λ number h. all_later number xs ys zs (a.since number h) (b.since number (omega (arith, h, a.later)));
}

-- ---- one device is changed

addresses_by : (b : Bool) (change : Subchannel → Subchannel) (s : Subchannel) (ss rest : List Subchannel)
    → (change s).address ≡ s.address → addresses_in rest ≡ addresses_in ss
    → addresses_in (if b then change s ∷ ss else s ∷ rest) ≡ addresses_in (s ∷ ss)
addresses_by true change s ss rest a r = ap (λ (x : ℕ). x ∷ addresses_in ss) a
addresses_by false change s ss rest a r = ap (λ (xs : List ℕ). s.address ∷ xs) r

changed_addresses : (device : ℕ) (change : Subchannel → Subchannel)
    → ((s : Subchannel) → (change s).address ≡ s.address) → (list : List Subchannel)
    → addresses_in (changed device change list) ≡ addresses_in list
changed_addresses device change a [] = refl
changed_addresses device change a (s ∷ ss) =
    addresses_by (s.address == device) change s ss (changed device change ss) (a s)
    (changed_addresses device change a ss)

good_by : (b : Bool) (change : Subchannel → Subchannel) (s : Subchannel) (ss rest : List Subchannel)
    → (HasProgram s.state → HasProgram (change s).state) → (AllHavePrograms ss → AllHavePrograms rest)
    → AllHavePrograms (s ∷ ss) → AllHavePrograms (if b then change s ∷ ss else s ∷ rest)
good_by true change s ss rest g r h = (g h.0, h.1)
good_by false change s ss rest g r h = (h.0, r h.1)

changed_good : (device : ℕ) (change : Subchannel → Subchannel)
    → ((s : Subchannel) → HasProgram s.state → HasProgram (change s).state) → (list : List Subchannel)
    → AllHavePrograms list → AllHavePrograms (changed device change list)
changed_good device change g [] h = tt
changed_good device change g (s ∷ ss) h =
    good_by (s.address == device) change s ss (changed device change ss) (g s) (changed_good device change g ss) h

-- a change of a device that starts nothing
record StartsNothing (change : Subchannel → Subchannel) : Type 0 where
  address : (s : Subchannel) → (change s).address ≡ s.address
  number : (s : Subchannel) → (change s).last_start ≡ s.last_start
  good : (s : Subchannel) → HasProgram s.state → HasProgram (change s).state
  worked : (s : Subchannel) → works (change s).state ≡ true → works s.state ≡ true

changed_stays : (device : ℕ) (change : Subchannel → Subchannel) → StartsNothing change → (list : List Subchannel)
    → Stays list (changed device change list)
changed_stays device change c list = record {
  addresses = changed_addresses device change c.address list;
  good = changed_good device change c.good list;
  later = (let same = latest_same device change c.number list in omega (arith, same));
  since = λ number h. all_changed number device change c.address (λ s e. inl (c.worked s e, c.number s)) list;
}

state_stays : (device : ℕ) (state : DeviceState) → HasProgram state → works state ≡ false → (list : List Subchannel)
    → Stays list (with_state device state list)
state_stays device state p w list = changed_stays device (in_state state) (record {
  address = λ s. refl;
  number = λ s. refl;
  good = λ s h. p;
  worked = λ s e. absurd (cc);
}) list

gives_stays : (device : ℕ) (gives : Bool) (list : List Subchannel) → Stays list (with_attention device gives list)
gives_stays device gives list = changed_stays device (that_gives gives) (record {
  address = λ s. refl;
  number = λ s. refl;
  good = λ s h. h;
  worked = λ s e. e;
}) list

-- the device works on a program, and its start has this number
abbrev starting : ℕ → ℕ → Subchannel → Subchannel
starting caw number s = last_started number (in_state (Working caw) s)

begun_stays : (device caw : ℕ) → IsSome (caw_of caw) → (list : List Subchannel) → Stays list (begun device caw list)
begun_stays device caw p list =
    let number = next_start list in
    subst (Stays list)
    (sym (changed_twice device (in_state (Working caw)) (last_started number) (λ s. refl) list))
    (record {
      addresses = changed_addresses device (starting caw number) (λ s. refl) list;
      good = changed_good device (starting caw number) (λ s h. p) list;
      later = next_higher device (starting caw number) list (λ s. refl);
      since = λ n h. all_changed n device (starting caw number) (λ s. refl) (λ s e. inr h) list;
    })

withdrawn_has : (gives : Bool) → HasProgram (withdrawn gives)
withdrawn_has true = tt
withdrawn_has false = tt

ended_has : (gives : Bool) (csw : ℕ) → HasProgram (ended gives csw)
ended_has true csw = tt
ended_has false csw = tt

withdrawn_works : (gives : Bool) → works (withdrawn gives) ≡ false
withdrawn_works true = refl
withdrawn_works false = refl

ended_works : (gives : Bool) (csw : ℕ) → works (ended gives csw) ≡ false
ended_works true csw = refl
ended_works false csw = refl

attending_works : (state : DeviceState) → works (attending state) ≡ works state
attending_works Idle = refl
attending_works (Working caw) = refl
attending_works (Pending csw) = refl

attending_has : (state : DeviceState) → HasProgram state → HasProgram (attending state)
attending_has Idle h = tt
attending_has (Working caw) h = h
attending_has (Pending csw) h = tt

-- what is found has a program
abbrev HasFound : Option Subchannel → Type 0
HasFound None = Unit {0}
HasFound (Some x) = HasProgram x.state

abbrev IsNone : Option Subchannel → Type 0
IsNone None = Unit {0}
IsNone (Some x) = ⊥

found_by : (b : Bool) (s t : Subchannel) (rest : Option Subchannel) → (rest ≡ Some t → HasProgram t.state)
    → HasProgram s.state → (if b then Some s else rest) ≡ Some t → HasProgram t.state
found_by true s t rest later p e = subst HasFound e p
found_by false s t rest later p e = later e

found_has : (device : ℕ) (list : List Subchannel) (t : Subchannel) → found device list ≡ Some t → AllHavePrograms list
    → HasProgram t.state
found_has device [] t e h = absurd (subst IsNone e tt)
found_has device (s ∷ ss) t e h =
    found_by (s.address == device) s t (found device ss) (λ later. found_has device ss t later h.1) h.0 e

-- attention at a device, whatever its state
abbrev attentive : Subchannel → Subchannel
attentive s = in_state (attending s.state) s

attentive_by : (b : Bool) (s t : Subchannel) (ss rest more : List Subchannel) (later : Option Subchannel)
    → (later ≡ Some s → rest ≡ more) → (if b then Some t else later) ≡ Some s
    → (if b then in_state (attending s.state) t ∷ ss else t ∷ rest) ≡ (if b then attentive t ∷ ss else t ∷ more)
attentive_by true s t ss rest more later h e = cc
attentive_by false s t ss rest more later h e = ap (λ (l : List Subchannel). t ∷ l) (h e)

attentive_at : (device : ℕ) (s : Subchannel) (list : List Subchannel) → found device list ≡ Some s
    → with_state device (attending s.state) list ≡ changed device attentive list
attentive_at device s [] e = absurd (cc)
attentive_at device s (t ∷ ts) e =
    attentive_by (t.address == device) s t ts (with_state device (attending s.state) ts) (changed device attentive ts)
    (found device ts) (attentive_at device s ts) e

attended_stays : (o : Option Subchannel) (device : ℕ) (list : List Subchannel) → found device list ≡ o
    → Stays list (attended_by o device list)
attended_stays None device list e = stays_same list
attended_stays (Some s) device list e =
    let between = with_state device (attending s.state) list in
    let attends : Stays list between = subst (Stays list) (sym (attentive_at device s list e))
    (changed_stays device attentive (record {
      address = λ t. refl;
      number = λ t. refl;
      good = λ t. attending_has t.state;
      worked = λ t e. sym (attending_works t.state) ∙ e;
    }) list) in
    stays_on list between (with_attention device true between) attends (gives_stays device true between)

reset_stays : (list : List Subchannel) → Stays list (reset_list list)
reset_stays [] = stays_same []
reset_stays (s ∷ ss) =
    let rest = reset_stays ss in
    record {
      addresses = ap (λ (xs : List ℕ). s.address ∷ xs) rest.addresses;
      good = λ h. (tt, rest.good h.1);
      later = (let same = latest_reset (s ∷ ss) in omega (arith, same));
      since = λ number h. all_reset number (s ∷ ss);
    }

reset_has : (list : List Subchannel) → AllHavePrograms (reset_list list)
reset_has [] = tt
reset_has (s ∷ ss) = (tt, reset_has ss)

ends_stays : (o : Option Subchannel) (device key : ℕ) (ending : Ending) (list : List Subchannel)
    → Stays list (program_ended_at o device key ending list)
ends_stays None device key ending list = stays_same list
ends_stays (Some s) device key ending list =
    let csw = status_word key ending in
    state_stays device (ended s.attention csw) (ended_has s.attention csw) (ended_works s.attention csw) list

ended_stays : (device key : ℕ) (ending : Ending) (list : List Subchannel)
    → Stays list (program_ended device key ending list)
ended_stays device key ending list = ends_stays (found device list) device key ending list

-- ---- what is answered

begins : (device : ℕ) (o : Option Caw) (d : Devices) → IsSome (caw_of (address_word d))
    → Stays d.subchannels (started device o d).left.subchannels
begins device None d p = stays_same d.subchannels
begins device (Some start) d p = begun_stays device (address_word d) p d.subchannels

starts : (device : ℕ) (c : Option Caw) (text : ℕ → Option Ccw) (d : Devices) → caw_of (address_word d) ≡ c
    → Stays d.subchannels (started device (start_of text c) d).left.subchannels
starts device None text d e = stays_same d.subchannels
starts device (Some caw) text d e = begins device (started_by (text caw.address) caw) d (subst IsSome (sym e) refl)

start_stays : (device : ℕ) (state : DeviceState) (d : Devices)
    → Stays d.subchannels (start_answered device state d).left.subchannels
start_stays device Idle d = starts device (caw_of (address_word d)) (guest_text (memory_of d.bytes d.keys)) d refl
start_stays device (Working caw) d = stays_same d.subchannels
start_stays device (Pending csw) d = stays_same d.subchannels

test_stays : (device : ℕ) (state : DeviceState) (d : Devices)
    → Stays d.subchannels (test_answered device state d).left.subchannels
test_stays device Idle d = stays_same d.subchannels
test_stays device (Working caw) d = stays_same d.subchannels
test_stays device (Pending csw) d = state_stays device Idle tt refl d.subchannels

halt_stays : (device : ℕ) (gives : Bool) (state : DeviceState) (d : Devices)
    → Stays d.subchannels (halt_answered device gives state d).left.subchannels
halt_stays device gives Idle d = stays_same d.subchannels
halt_stays device gives (Pending csw) d = stays_same d.subchannels
halt_stays device gives (Working caw) d =
    state_stays device (withdrawn gives) (withdrawn_has gives) (withdrawn_works gives) d.subchannels

device_stays : (operation : IoOperation) (device : ℕ) (o : Option Subchannel) (d : Devices)
    → Stays d.subchannels (device_answered operation device o d).left.subchannels
device_stays Start device None d = stays_same d.subchannels
device_stays Test device None d = stays_same d.subchannels
device_stays Halt device None d = stays_same d.subchannels
device_stays TestChannel device None d = stays_same d.subchannels
device_stays Start device (Some s) d = start_stays device s.state d
device_stays Test device (Some s) d = test_stays device s.state d
device_stays Halt device (Some s) d = halt_stays device s.attention s.state d
device_stays TestChannel device (Some s) d = stays_same d.subchannels

answer_stays : (operation : IoOperation) (device : ℕ) (d : Devices)
    → Stays d.subchannels (answered operation device d).left.subchannels
answer_stays Start device d = device_stays Start device (found device d.subchannels) d
answer_stays Test device d = device_stays Test device (found device d.subchannels) d
answer_stays Halt device d = device_stays Halt device (found device d.subchannels) d
answer_stays TestChannel device d = stays_same d.subchannels

-- ---- units and runs

followed_stays : (stop : Stop) (c : Configuration) → Stays c.subchannels (followed stop c).subchannels
followed_stays Done c = stays_same c.subchannels
followed_stays (Program code ilc) c = stays_same c.subchannels
followed_stays (Svc n ilc) c = stays_same c.subchannels
followed_stays (InputOutput operation device) c = answer_stays operation device (devices_in c)
followed_stays (Privileged i ilc) c = stays_same c.subchannels
followed_stays (Absent page) c = stays_same c.subchannels

instructed_stays : (c : Configuration) → Stays c.subchannels (instructed c).subchannels
instructed_stays c = let r = (unit c.processor).ran in followed_stays r.stop (record c { processor = r.state })

unit_stays : (l : Next) (c : Core) → Stays c.subchannels (unit_at l c).subchannels
unit_stays (Stops reason) c = stays_same c.subchannels
unit_stays (Accepts taken) c = stays_same c.subchannels
unit_stays (AcceptsStatus status) c = state_stays status.device Idle tt refl c.subchannels
unit_stays Instructs c = instructed_stays (configured c)

looked_stays : (l : Next) (c : Core) (rest : Run) → Stays c.subchannels rest.core.subchannels
    → Stays c.subchannels (looked l c rest).core.subchannels
looked_stays (Stops reason) c rest k = stays_same c.subchannels
looked_stays (Accepts taken) c rest k = k
looked_stays (AcceptsStatus status) c rest k = k
looked_stays Instructs c rest k = k

run_stays : (n : ℕ) (c : Core) → Stays c.subchannels (run_core n c).core.subchannels
run_stays zero c = stays_same c.subchannels
run_stays (suc n) c =
    let next = unit_at (look c) c in
    looked_stays (look c) c (run_core n next)
    (stays_on c.subchannels next.subchannels (run_core n next).core.subchannels (unit_stays (look c) c)
    (run_stays n next))

halted_same : (notice : Option Response) (m : Machine) → (halted notice m).core.subchannels ≡ m.core.subchannels
halted_same None m = refl
halted_same (Some response) m = refl

runs_in : (mode : Mode) (n : ℕ) (m : Machine) → Stays m.core.subchannels (run_in mode n m).machine.core.subchannels
runs_in Running n m =
    let r = run_in Running n m in
    subst (Stays m.core.subchannels) (sym (halted_same r.notice (record m { core = (run_core n m.core).core })))
    (run_stays n m.core)
runs_in Stopped n m = stays_same m.core.subchannels
runs_in Off n m = stays_same m.core.subchannels

ticked_same : (mode : Mode) (m : Machine) → (ticked_in mode m).core.subchannels ≡ m.core.subchannels
ticked_same Running m = refl
ticked_same Stopped m = refl
ticked_same Off m = refl

-- ---- machines

abbrev MachineStays : Machine → Machine → Type 0
MachineStays m n = Stays m.core.subchannels n.core.subchannels

as_stays : (old new given : Machine) → new ≡ given → MachineStays old given → MachineStays old new
as_stays old new given e h = subst (MachineStays old) (sym e) h

same_list : (old new : Machine) → new.core.subchannels ≡ old.core.subchannels → MachineStays old new
same_list old new e = subst (Stays old.core.subchannels) (sym e) (stays_same old.core.subchannels)

module _ (reads : Reading) where
  ends : (device key : ℕ) (ending : Ending) (bytes : List ℕ) (old new : Machine)
      → new ≡ program_over device key ending old bytes → MachineStays old new
  ends device key ending bytes old new e =
      as_stays old new (program_over device key ending old bytes) e (ended_stays device key ending old.core.subchannels)

  serves : (k : Option AttachedDevice) (start : Option Caw) (device : ℕ) (old : Equipped) (done : Bool) (new : Equipped)
      → Serves reads k start device old done new → MachineStays old.machine new.machine
  serves None start device old done new s =
      as_stays old.machine new.machine old.machine (ap (λ (e : Equipped). e.machine) s.1)
      (stays_same old.machine.core.subchannels)
  serves (Some kind) None device old done new s =
      as_stays old.machine new.machine old.machine (ap (λ (e : Equipped). e.machine) s.1)
      (stays_same old.machine.core.subchannels)
  serves (Some kinds.Console) (Some start) device old done new s =
      let r = s.1 in
      let list = old.machine.core.subchannels in
      let given = with_attention device (wants_attention r.console) list in
      as_stays old.machine new.machine
      (console_over device start.key r.ending r.console old.machine new.machine.core.processor.bytes) r.left
      (stays_on list given (program_ended device start.key r.ending given)
      (gives_stays device (wants_attention r.console) list) (ended_stays device start.key r.ending given))
  serves (Some kinds.Reader) (Some start) device old done new s =
      ends device start.key s.1.0.ending new.machine.core.processor.bytes old.machine new.machine s.1.0.left
  serves (Some kinds.Punch) (Some start) device old done new s =
      ends device start.key s.1.0.ending new.machine.core.processor.bytes old.machine new.machine s.1.0.left
  serves (Some kinds.Printer) (Some start) device old done new s =
      ends device start.key s.1.0.ending new.machine.core.processor.bytes old.machine new.machine s.1.0.left
  serves (Some (kinds.Disk index)) (Some start) device old done new s =
      ends device start.key s.1.ending new.machine.core.processor.bytes old.machine new.machine s.1.left

-- ---- lines

answered_same : (shown : Bool) (m : Machine) (text : List ℕ)
    → (if shown then printed m text else m).core.subchannels ≡ m.core.subchannels
answered_same true m text = refl
answered_same false m text = refl

says_same : (reply : Response) (m : Machine) → (answered_by_panel reply m).machine.core.subchannels ≡ m.core.subchannels
says_same reply m = answered_same (is_panel reply) m (text_of reply)

line_same : (asked : PanelLine) (m : Machine) → (line asked m).machine.core.subchannels ≡ m.core.subchannels
line_same Nothing m = refl
line_same (Says response) m = refl
line_same StopLine m = refl
line_same (Begin address) m = refl
line_same External m = refl
line_same (Display place) m = says_same (displayed place m.core.processor) m
line_same (Store change) m =
    says_same (stored change m.core.processor)
    (record m { core = record m.core { processor = changed_by_store change m.core.processor } })

abbrev EquippedStays : Equipped → Equipped → Type 0
EquippedStays old new = MachineStays old.machine new.machine

told_stays : (old new : Equipped) (reported : LineOutcome) (o : Outcome) → outcome new reported ≡ o
    → EquippedStays old o.equipped → EquippedStays old new
told_stays old new reported o e h =
    as_stays old.machine new.machine o.equipped.machine (ap (λ (x : Outcome). x.equipped.machine) e) h

typed_in : (b : Bool) (device : ℕ) (text : List ℕ) (old : Equipped)
    → EquippedStays old (typed_where b device text old).equipped
typed_in true device text old =
    attended_stays (found device old.machine.core.subchannels) device old.machine.core.subchannels refl
typed_in false device text old = stays_same old.machine.core.subchannels

types : (place : Option ℕ) (text : List ℕ) (old : Equipped) → EquippedStays old (typed_at place text old).equipped
types None text old = stays_same old.machine.core.subchannels
types (Some device) text old = typed_in (has_room old.devices.console) device text old

left_same : (well : Bool) (device : ℕ) (m : Machine) (bytes : List ℕ)
    → (left_by well device m bytes).core.subchannels ≡ m.core.subchannels
left_same true device m bytes = refl
left_same false device m bytes = refl

loads : (well : Bool) (device : ℕ) (old new : Machine) (bytes : List ℕ) → new ≡ left_by well device (reset old) bytes
    → MachineStays old new
loads well device old new bytes e =
    subst (Stays old.core.subchannels)
    (sym (ap (λ (m : Machine). m.core.subchannels) e ∙ left_same well device (reset old) bytes))
    (reset_stays old.core.subchannels)

disk_loaded : (index : ℕ) (o : Option DiskAt) (device : ℕ) (old : Equipped) (reported : LineOutcome) (new : Equipped)
    → LoadsDisk index o device old reported new → EquippedStays old new
disk_loaded index (Some disk) device old reported new l =
    loads (is_good l.loaded.ending) device old.machine new.machine l.loaded.bytes l.loaded.left
disk_loaded index None device old reported new l =
    told_stays old new reported _ l (stays_same old.machine.core.subchannels)

loaded : (k : Option AttachedDevice) (device : ℕ) (old : Equipped) (reported : LineOutcome) (new : Equipped)
    → LoadsKind k device old reported new → EquippedStays old new
loaded (Some kinds.Reader) device old reported new l =
    loads (is_good l.loaded.ending) device old.machine new.machine l.loaded.bytes l.loaded.left
loaded (Some (kinds.Disk index)) device old reported new l =
    disk_loaded index (slice_get (map reset_disk old.disks) index) device old reported new l
loaded (Some kinds.Console) device old reported new l =
    told_stays old new reported _ l (stays_same old.machine.core.subchannels)
loaded (Some kinds.Punch) device old reported new l =
    told_stays old new reported _ l (stays_same old.machine.core.subchannels)
loaded (Some kinds.Printer) device old reported new l =
    told_stays old new reported _ l (stays_same old.machine.core.subchannels)
loaded None device old reported new l = told_stays old new reported _ l (stays_same old.machine.core.subchannels)

spooled_for : (o : Option Target) (device : ℕ) (e : Equipped) → EquippedStays e (spooled_to o device e).equipped
spooled_for None device e = stays_same e.machine.core.subchannels
spooled_for (Some target) device e = stays_same e.machine.core.subchannels

spools_where : (b : Bool) (w : UserDirectory) (device : ℕ) (name : List ℕ) (e : Equipped) (other : LineOutcome)
    → EquippedStays e (if b then spooled_to (target_of w name) device e else outcome e other).equipped
spools_where true w device name e other = spooled_for (target_of w name) device e
spools_where false w device name e other = stays_same e.machine.core.subchannels

closes_punch : (place : Option ℕ) (e : Equipped) → EquippedStays e (punch_answered place e).equipped
closes_punch None e = stays_same e.machine.core.subchannels
closes_punch (Some place) e = stays_same e.machine.core.subchannels

closes_printer : (place : Option ℕ) (e : Equipped) → EquippedStays e (printer_answered place e).equipped
closes_printer None e = stays_same e.machine.core.subchannels
closes_printer (Some place) e = stays_same e.machine.core.subchannels

closes : (kind : Option AttachedDevice) (e : Equipped) → EquippedStays e (closed_at kind e).equipped
closes (Some kinds.Console) e = stays_same e.machine.core.subchannels
closes (Some kinds.Reader) e = stays_same e.machine.core.subchannels
closes (Some kinds.Punch) e = closes_punch (open_files e.devices).punched e
closes (Some kinds.Printer) e = closes_printer (open_files e.devices).printed e
closes (Some (kinds.Disk index)) e = stays_same e.machine.core.subchannels
closes None e = stays_same e.machine.core.subchannels

obeys : (w : UserDirectory) (command : DeviceCommand) (old : Equipped) (reported : LineOutcome) (new : Equipped)
    → IsObeyed w command old reported new → EquippedStays old new
obeys w commands.QueryFiles old reported new o =
    told_stays old new reported _ o (stays_same old.machine.core.subchannels)
obeys w commands.QueryUsers old reported new o =
    told_stays old new reported _ o (stays_same old.machine.core.subchannels)
obeys w (commands.Spool device name) old reported new o =
    told_stays old new reported (spool_answered w device name old) o
    (spools_where (is_punch (part_at old.devices device)) w device name old (Said responses.DeviceNotFound))
obeys w (commands.Close device) old reported new o =
    told_stays old new reported (close_answered device old) o (closes (part_at old.devices device) old)
obeys w (commands.Purge file) old reported new o =
    told_stays old new reported _ o (stays_same old.machine.core.subchannels)
obeys w (commands.Message name text) old reported new o =
    as_stays old.machine new.machine old.machine (ap (λ (e : Equipped). e.machine) o.0)
    (stays_same old.machine.core.subchannels)

answers : (r : Request) (w : UserDirectory) (typed : List ℕ) (old : Equipped) (reported : LineOutcome) (new : Equipped)
    → IsAnswered r w typed old reported new → EquippedStays old new
answers LogsOn w typed old reported new a =
    told_stays old new reported (logged_on old) a (reset_stays old.machine.core.subchannels)
answers LogsOff w typed old reported new a =
    told_stays old new reported (logged_off old) a (reset_stays old.machine.core.subchannels)
answers Resets w typed old reported new a =
    told_stays old new reported (was_reset old) a (reset_stays old.machine.core.subchannels)
answers Types w typed old reported new a =
    told_stays old new reported (typed_at old.devices.places.console (cleaned typed) old) a
    (types old.devices.places.console (cleaned typed) old)
answers (Loads device) w typed old reported new a =
    loaded (kind_at old.devices old.disks device) device old reported new a
answers (Asks command) w typed old reported new a = obeys w command old reported new a
answers (Alone asked) w typed old reported new a =
    told_stays old new reported _ a
    (same_list old.machine (line asked old.machine).machine (line_same asked old.machine))

-- ---- events

leaves : (reads : Reading) (event : Event) (old new : Equipped) → Leaves reads event old new → EquippedStays old new
leaves reads (Units count) old new l =
    as_stays old.machine new.machine (run count old.machine).machine l.0 (runs_in old.machine.mode count old.machine)
leaves reads (Serve device) old new l =
    serves reads (kind_at old.devices old.disks device) (program_of device old.machine.core.subchannels) device old l.0
    new l.1
leaves reads (Line world typed) old new l = answers (requested typed old) world typed old l.0 new l.1
leaves reads Tick old new l =
    same_list old.machine new.machine
    (ap (λ (m : Machine). m.core.subchannels) l.0 ∙ ticked_same old.machine.mode old.machine)
leaves reads (Deck deck) old new l =
    as_stays old.machine new.machine old.machine (ap (λ (e : Equipped). e.machine) l)
    (stays_same old.machine.core.subchannels)
leaves reads (Message text) old new l =
    same_list old.machine new.machine (ap (λ (e : Equipped). e.machine.core.subchannels) l)
leaves reads (Purge id) old new l =
    as_stays old.machine new.machine old.machine (ap (λ (e : Equipped). e.machine) l)
    (stays_same old.machine.core.subchannels)

lives : (reads : Reading) (events : List Event) (first last : Equipped) → Lives reads events first last
    → EquippedStays first last
lives reads [] first last l =
    as_stays first.machine last.machine first.machine (ap (λ (e : Equipped). e.machine) l)
    (stays_same first.machine.core.subchannels)
lives reads (event ∷ events) first last l =
    stays_on first.machine.core.subchannels l.0.machine.core.subchannels last.machine.core.subchannels
    (leaves reads event first l.0 l.1) (lives reads events l.0 last l.2)

-- At first no device has a program.
pub none_works : NoneWorksAtFirst
none_works m list = reset_has list

-- Each device that works has a program after each step.
pub go_on_having : AllGoOnHavingPrograms
go_on_having reads events first last l h = (lives reads events first last l).good h

-- The devices of a machine stay.
pub devices_stay : DevicesStay
devices_stay reads events first last l = (lives reads events first last l).addresses

-- A device that is started gets the next number or a higher one.
pub are_numbered : StartsAreNumbered
are_numbered reads events first last l =
    (lives reads events first last l).since (next_start first.machine.core.subchannels) (omega arith)

-- What is delivered changes no subchannel.
pub deliveries_change_none : DeliveriesChangeNone
deliveries_change_none reads [] first last d l = ap (λ (e : Equipped). e.machine.core.subchannels) l
deliveries_change_none reads (Units count ∷ events) first last d l = absurd d
deliveries_change_none reads (Serve device ∷ events) first last d l = absurd d
deliveries_change_none reads (Line world typed ∷ events) first last d l = absurd d
deliveries_change_none reads (Tick ∷ events) first last d l = absurd d
deliveries_change_none reads (Deck deck ∷ events) first last d l =
    deliveries_change_none reads events l.0 last d l.2 ∙ ap (λ (e : Equipped). e.machine.core.subchannels) l.1
deliveries_change_none reads (Message text ∷ events) first last d l =
    deliveries_change_none reads events l.0 last d l.2 ∙ ap (λ (e : Equipped). e.machine.core.subchannels) l.1
deliveries_change_none reads (Purge id ∷ events) first last d l = absurd d

-- ---- what is served

works_in : (state : DeviceState) → HasProgram state → is_some (start_in state) ≡ works state
works_in Idle h = refl
works_in (Working caw) h = h
works_in (Pending csw) h = refl

-- A device that is served as working has a program.
pub works_with : WorksWithProgram
works_with device list s h e =
    ap (λ (o : Option Subchannel). is_some (start_of_found o)) e ∙ works_in s.state (found_has device list s e h)
