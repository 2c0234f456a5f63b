-- Units of operation: an instruction with the interruption or the answer that it ends in, or the
-- acceptance of external conditions, or of a status of a device. GA22-7000, "Interruptions",
-- "Program Interruption", "Supervisor-Call Interruption", "External Interruption" and "Input/Output
-- Interruption".
use Rattle.std.specs.Prelude.{◌≡◌, ℕ, ◌-◌, ◌/◌, ◌%◌, ◌^◌, ◌==◌, if◌then◌else◌, Bool, true, false}
use Rattle.std.specs.Prelude.{not, ◌&&◌, ◌||◌, List, length, slice_index, bit_or, Option, Some}
use Rattle.std.specs.Prelude.{None, Result, Ok, Err, ⊤, ◌⊎◌}
use Rattle.s370_psw.specs.Fields.{Fields, enables_external}
use Rattle.s370_psw.specs.ProgramCode.{program_number}
use Rattle.s370_store.specs.Access.{IsAbsent}
use Rattle.s370_store.specs.declared.Page.{Page}
use Rattle.s370_rows.specs.declared.cpu.Cpu.{Cpu}
use Rattle.s370_rows.specs.State.{State}
use Rattle.s370_cpu.specs.declared.conclude.Stop.{Stop}
use Rattle.s370_cpu.specs.declared.conclude.Stop.TheVariants.{Done, Program, Svc, InputOutput}
use Rattle.s370_cpu.specs.declared.conclude.Stop.TheVariants.{Privileged, Absent}
use Rattle.s370_cpu.specs.Fetch.{Asks}
use Rattle.s370_cpu.specs.Table.{unit}
use Rattle.s370_subchannels.specs.declared.subchannel.Status.{Status}
use Rattle.s370_subchannels.specs.declared.subchannel.Subchannel.{Subchannel}
use Rattle.s370_subchannels.specs.Subchannels.{first_status}
use Rattle.s370_intr.specs.declared.class.Class.{Class}
use Rattle.s370_intr.specs.declared.class.Class.TheVariants.{Program as ProgramClass}
use Rattle.s370_intr.specs.declared.class.Class.TheVariants.{SupervisorCall, External}
use Rattle.s370_intr.specs.declared.next.Next.{Next}
use Rattle.s370_intr.specs.declared.next.Next.TheVariants.{Stops, Accepts, AcceptsStatus, Instructs}
use Rattle.s370_intr.specs.declared.next.Reason.TheVariants.{EcMode, Wait, DisabledWait}
use Rattle.s370_intr.specs.declared.pending.Pending.{Pending}
use Rattle.s370_intr.specs.InputOutput.{AskNeeds, Configuration, answered, configuration_of}
use Rattle.s370_intr.specs.InputOutput.{presented}
use Rattle.s370_intr.specs.Swap.{swapped}

-- a processor with its storage, the external conditions that are pending, and the subchannels of
-- its devices
pub record Core : Type 0 where
  pub processor : State
  pub pending : Pending
  pub subchannels : List Subchannel

-- the processor with these conditions pending and these subchannels
abbrev pub core_of : State → Pending → List Subchannel → Core
core_of processor pending subchannels =
    record { processor = processor; pending = pending; subchannels = subchannels }

-- what instructions and the statuses of devices change of it
abbrev pub configured : Core → Configuration
configured c = configuration_of c.processor c.subchannels

-- the core with another processor and other subchannels
abbrev pub with_configuration : Core → Configuration → Core
with_configuration c configuration =
    record c { processor = configuration.processor; subchannels = configuration.subchannels }

-- ---- external conditions

-- bit k of control register 0
abbrev pub has_subclass : Cpu → ℕ → Bool
has_subclass cpu k = slice_index cpu.control 0 / 2 ^ (31 - k) % 2 == 1

-- the conditions that are enabled: all by bit 7 of the PSW, and the timer by bit 24 of control
-- register 0, the interrupt key by bit 25
abbrev pub enabled_of : Cpu → Pending → Pending
enabled_of cpu p = record {
  timer = p.timer && (enables_external cpu.psw && has_subclass cpu 24);
  key = p.key && (enables_external cpu.psw && has_subclass cpu 25);
}

-- the interruption code of conditions that are taken together: their codes are joined by OR
abbrev pub external_code : Pending → ℕ
external_code p = bit_or (if p.timer then 0x80 else 0) (if p.key then 0x40 else 0)

-- whether a condition is pending
abbrev pub is_any : Pending → Bool
is_any p = p.timer || p.key

-- what is pending after some conditions were taken
abbrev pub without : Pending → Pending → Pending
without p taken = record { timer = p.timer && not taken.timer; key = p.key && not taken.key }

-- ---- the look before a unit

-- a wait stops the processor where no mask lets it end
abbrev pub waits : Fields → Next
waits psw = if psw.wait then (if psw.system_mask == 0 then Stops DisabledWait else Stops Wait)
    else Instructs

-- a status of a device comes before a wait
abbrev pub offered : Option Status → Fields → Next
offered None psw = waits psw
offered (Some status) psw = AcceptsStatus status

-- what a running processor does next: it stops at a PSW of extended control mode; else it accepts
-- the external conditions that are enabled; else the status of the lowest device that waits on a
-- channel that is enabled; else it waits; else it does an instruction
abbrev pub look : Core → Next
look c =
    let psw = c.processor.cpu.psw in
    let enabled = enabled_of c.processor.cpu c.pending in
    if psw.extended then Stops EcMode
    else (if is_any enabled then Accepts enabled
    else offered (first_status psw c.subchannels) psw)

-- ---- a unit

-- the program is interrupted
abbrev pub interrupted : Configuration → Class → ℕ → ℕ → Configuration
interrupted c class code ilc = record c { processor = swapped c.processor class code ilc }

-- what a stop is followed by: a program that is interrupted, and one that calls the supervisor,
-- have their program status words swapped; one that asks a device is answered; no other stop is
-- followed by anything
abbrev pub followed : Stop → Configuration → Configuration
followed Done c = c
followed (Program code ilc) c = interrupted c ProgramClass (program_number code) ilc
followed (Svc n ilc) c = interrupted c SupervisorCall n ilc
followed (InputOutput operation device) c = answered operation device c
followed (Privileged i ilc) c = c
followed (Absent page) c = c

-- an instruction, and what its stop is followed by
abbrev pub instructed : Configuration → Configuration
instructed c = let r = (unit c.processor).ran in followed r.stop (record c { processor = r.state })

-- these external conditions are taken
abbrev pub accepted : Pending → Core → Core
accepted taken c = record
    c {
      processor = swapped c.processor External (external_code taken) 0;
      pending = without c.pending taken;
    }

-- the unit that a look says
abbrev pub unit_at : Next → Core → Core
unit_at (Stops reason) c = c
unit_at (Accepts taken) c = accepted taken c
unit_at (AcceptsStatus status) c = with_configuration c (presented status (configured c))
unit_at Instructs c = with_configuration c (instructed (configured c))

-- ---- the pages that a unit needs

-- an interruption needs page 0, where all program status words are, and an answer the pages of what
-- it loads and stores
abbrev pub FollowNeeds : Stop → Configuration → ℕ → Type 0
FollowNeeds Done c page = ⊥
FollowNeeds (Program code ilc) c page = page ≡ 0
FollowNeeds (Svc n ilc) c page = page ≡ 0
FollowNeeds (InputOutput operation device) c page = AskNeeds operation device c page
FollowNeeds (Privileged i ilc) c page = ⊥
FollowNeeds (Absent other) c page = ⊥

-- an instruction needs the pages that its stages ask for, and those that what follows it needs
abbrev pub InstructionNeeds : Configuration → ℕ → Type 0
InstructionNeeds c page =
    let u = unit c.processor in Asks c.processor u.stages page
    ⊎ FollowNeeds u.ran.stop (record c { processor = u.ran.state }) page

-- what a processor does next needs the page
abbrev pub NeedsAt : Next → Core → ℕ → Type 0
NeedsAt (Stops reason) c page = ⊥
NeedsAt (Accepts taken) c page = page ≡ 0
NeedsAt (AcceptsStatus status) c page = page ≡ 0
NeedsAt Instructs c page = InstructionNeeds (configured c) page

-- the next unit of a running processor needs this page
abbrev pub Needs : Core → ℕ → Type 0
Needs c page = NeedsAt (look c) c page

-- ---- what the code may answer

-- what is wanted; or, with nothing changed, a page that this needs and that is not present
abbrev pub Meets : Configuration → (ℕ → Type 0) → (ℕ → Bool) → Configuration → Result ⊤ Page
    → Configuration → Type 0
Meets wanted needs present old (Ok _) new = new ≡ wanted
Meets wanted needs present old (Err page) new =
    (new ≡ old) × IsAbsent (length old.processor.bytes) present page.0 × needs page.0

-- an instruction that was carried out with what its stop is followed by, if so; else nothing has
-- changed
abbrev pub IsDoneIf : Bool → Configuration → Configuration → Type 0
IsDoneIf true old new = new ≡ instructed old
IsDoneIf false old new = new ≡ old

-- what a stop is followed by
abbrev pub MeetsFollowed : Stop → (ℕ → Bool) → Configuration → Result ⊤ Page → Configuration
    → Type 0
MeetsFollowed stop present old result new =
    Meets (followed stop old) (FollowNeeds stop old) present old result new

-- an instruction, and what its stop is followed by
abbrev pub MeetsInstruction : (ℕ → Bool) → Configuration → Result ⊤ Page → Configuration → Type 0
MeetsInstruction present old result new =
    Meets (instructed old) (InstructionNeeds old) present old result new

-- the acceptance of a status
abbrev pub MeetsPresented : Status → (ℕ → Bool) → Configuration → Result ⊤ Page → Configuration
    → Type 0
MeetsPresented status present old result new =
    Meets (presented status old) (λ page. page ≡ 0) present old result new

-- the registers as they were are kept next to a stop after which a page may be missing though page
-- 0 is there
abbrev pub IsSaved : Stop → Cpu → Cpu → Type 0
IsSaved (InputOutput operation device) old spare = spare ≡ old
IsSaved _ old spare = Unit {0}

-- a unit; or, with nothing changed, a page that it needs and that is not present
abbrev pub MeetsUnitAt : Next → (ℕ → Bool) → Core → Result ⊤ Page → Core → Type 0
MeetsUnitAt l present old (Ok _) new = new ≡ unit_at l old
MeetsUnitAt l present old (Err page) new =
    (new ≡ old) × IsAbsent (length old.processor.bytes) present page.0 × NeedsAt l old page.0
