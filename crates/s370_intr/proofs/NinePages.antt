-- The pages that a unit needs are in one list: by the table of today eight at most, since no instruction of two ranges
-- is ever interrupted.
use Rattle.std.proofs.Common.{◌≡◌, ℕ, zero, suc, ◌+◌, ◌*◌, ◌<◌, ◌≤◌, ◌⊎◌, [], ◌∷◌, Option, Some, None, sym, subst}
use Rattle.std.proofs.Common.{arith, inl, inr}
use Rattle.std.proofs.lemmas.Bool.{cases_eq}
use Rattle.std.proofs.lemmas.List.Elements.{All-nil, All-cons}
use Rattle.s370_store.specs.Access.{Test}
use Rattle.s370_store.specs.declared.Access.TheVariants.{Fetch}
use Rattle.s370_rows.specs.declared.ending.IoOperation.{IoOperation}
use Rattle.s370_rows.specs.declared.ending.IoOperation.TheVariants.{Start, Test as TestDevice, Halt, TestChannel}
use Rattle.s370_cpu.specs.declared.conclude.Stop.{Stop}
use Rattle.s370_cpu.specs.declared.conclude.Stop.TheVariants.{Done, Program, Svc, InputOutput, Privileged, Absent}
use Rattle.s370_cpu.specs.Fetch.{Asks}
use Rattle.s370_cpu.specs.Table.{unit}
use Rattle.s370_cpu.specs.Laws.{AreAtMost}
use Rattle.s370_cpu.proofs.FewPages.{at_most, at_most_of, none_at_all, either_at_most, touched, operand_pages}
use Rattle.s370_cpu.proofs.FewPages.{unit_asks}
use Rattle.s370_subchannels.specs.declared.subchannel.DeviceState.{DeviceState}
use Rattle.s370_subchannels.specs.declared.subchannel.DeviceState.TheVariants.{Idle, Working, Pending}
use Rattle.s370_subchannels.specs.declared.subchannel.Subchannel.{Subchannel}
use Rattle.s370_subchannels.specs.Subchannels.{found}
use Rattle.s370_subchannels.specs.Answers.{Devices, DeviceNeeds, StartNeeds, TestNeeds, HaltNeeds, NamesFirst}
use Rattle.s370_intr.specs.declared.next.Next.{Next}
use Rattle.s370_intr.specs.declared.next.Next.TheVariants.{Stops, Accepts, AcceptsStatus, Instructs}
use Rattle.s370_intr.specs.declared.next.Reason.{Reason}
use Rattle.s370_intr.specs.declared.next.Reason.TheVariants.{Stopped, Count, EcMode, Wait, DisabledWait, FramesOut}
use Rattle.s370_intr.specs.InputOutput.{Configuration, devices_in}
use Rattle.s370_intr.specs.Units.{Core, look, configured, FollowNeeds, InstructionNeeds, Needs, NeedsAt}
use Rattle.s370_intr.specs.Run.{run, RunNeeds}
use Rattle.s370_intr.specs.Laws.{NinePages, NinePagesEach}

-- ---- what follows an instruction

no_page : AreAtMost 0 (λ page. ⊥)
no_page = none_at_all (λ page. ⊥) (λ page h. h)

-- Page 0 is one page.
pub page_0 : AreAtMost 1 (λ page. page ≡ 0)
page_0 = record { pages = 0 ∷ []; few = omega arith; all = λ page e. (0, omega arith, sym e) }

names_first : (caw : _) → AreAtMost 2 (NamesFirst caw)
names_first None = at_most 0 2 (λ page. ⊥) (omega arith) no_page
names_first (Some caw) =
    let P : Test → Type 0 = λ t. t.count ≤ 256 in
    let t : Test = record { access = Fetch; start = caw.address; count = 8 } in
    touched (t ∷ []) (All-cons P t [] (omega arith) (All-nil P))

start_needs : (state : DeviceState) (d : Devices) → AreAtMost 3 (StartNeeds state d)
start_needs Idle d = either_at_most 1 2 (λ page. page ≡ 0) (NamesFirst _) page_0 (names_first _)
start_needs (Working caw) d = at_most 0 3 (λ page. ⊥) (omega arith) no_page
start_needs (Pending csw) d = at_most 0 3 (λ page. ⊥) (omega arith) no_page

test_needs : (state : DeviceState) → AreAtMost 3 (TestNeeds state)
test_needs Idle = at_most 0 3 (λ page. ⊥) (omega arith) no_page
test_needs (Working caw) = at_most 0 3 (λ page. ⊥) (omega arith) no_page
test_needs (Pending csw) = at_most 1 3 (λ page. page ≡ 0) (omega arith) page_0

halt_needs : (state : DeviceState) → AreAtMost 3 (HaltNeeds state)
halt_needs Idle = at_most 0 3 (λ page. ⊥) (omega arith) no_page
halt_needs (Working caw) = at_most 1 3 (λ page. page ≡ 0) (omega arith) page_0
halt_needs (Pending csw) = at_most 0 3 (λ page. ⊥) (omega arith) no_page

device_needs : (operation : IoOperation) (s : Option Subchannel) (d : Devices) → AreAtMost 3 (DeviceNeeds operation s d)
device_needs operation None d = at_most 0 3 (λ page. ⊥) (omega arith) no_page
device_needs Start (Some s) d = start_needs s.state d
device_needs TestDevice (Some s) d = test_needs s.state
device_needs Halt (Some s) d = halt_needs s.state
device_needs TestChannel (Some s) d = at_most 0 3 (λ page. ⊥) (omega arith) no_page

abbrev follow_pages : Stop → ℕ
follow_pages Done = 0
follow_pages (Program code ilc) = 1
follow_pages (Svc n ilc) = 1
follow_pages (InputOutput operation device) = 3
follow_pages (Privileged i ilc) = 0
follow_pages (Absent page) = 0

follow_needs : (stop : Stop) (c : Configuration) → AreAtMost (follow_pages stop) (FollowNeeds stop c)
follow_needs Done c = no_page
follow_needs (Program code ilc) c = page_0
follow_needs (Svc n ilc) c = page_0
follow_needs (InputOutput operation device) c = device_needs operation (found device c.subchannels) (devices_in c)
follow_needs (Privileged i ilc) c = no_page
follow_needs (Absent page) c = no_page

-- ---- units

-- what follows is in the place of operands
in_place : (stop : Stop) → operand_pages stop + follow_pages stop ≤ 4
in_place Done = omega arith
in_place (Program code ilc) = omega arith
in_place (Svc n ilc) = omega arith
in_place (InputOutput operation device) = omega arith
in_place (Privileged i ilc) = omega arith
in_place (Absent page) = omega arith

instruction_needs : (c : Configuration) → AreAtMost 8 (InstructionNeeds c)
instruction_needs c =
    let u = unit c.processor in
    let stop = u.ran.stop in
    let left : Configuration = record c { processor = u.ran.state } in
    let both = either_at_most (4 + operand_pages stop) (follow_pages stop) (Asks c.processor u.stages)
    (FollowNeeds stop left) (unit_asks c.processor) (follow_needs stop left) in
    at_most ((4 + operand_pages stop) + follow_pages stop) 8 (InstructionNeeds c) (omega (arith, in_place stop)) both

-- A unit needs at most eight pages.
pub eight_pages : (l : Next) (c : Core) → AreAtMost 8 (NeedsAt l c)
eight_pages (Stops reason) c = at_most 0 8 (λ page. ⊥) (omega arith) no_page
eight_pages (Accepts taken) c = at_most 1 8 (λ page. page ≡ 0) (omega arith) page_0
eight_pages (AcceptsStatus status) c = at_most 1 8 (λ page. page ≡ 0) (omega arith) page_0
eight_pages Instructs c = instruction_needs (configured c)

-- A unit with its interruption needs at most nine pages.
pub nine_pages : NinePages
nine_pages c = at_most 8 9 (Needs c) (omega arith) (eight_pages (look c) c)

-- ---- runs

-- one of the first n units needs it
abbrev NeededBefore : Core → ℕ → ℕ → Type 0
NeededBefore c n page = (k : ℕ) × (k < n) × Needs (run k c).core page

one_of_more : (c : Core) (n page : ℕ) → NeededBefore c (suc n) page → Needs (run n c).core page ⊎ NeededBefore c n page
one_of_more c n page (k, l, need) = elim (cases_eq k n) [
  | inl e ↦ inl (subst (λ (j : ℕ). Needs (run j c).core page) e need)
  | inr differs ↦ inr (k, omega (arith, l, differs), need)
]

needed_before : (c : Core) (n : ℕ) → AreAtMost (9 * n) (NeededBefore c n)
needed_before c zero = none_at_all (NeededBefore c 0) (λ page h. omega (arith, h.1))
needed_before c (suc n) =
    let last = (run n c).core in
    let both = either_at_most 9 (9 * n) (Needs last) (NeededBefore c n) (nine_pages last) (needed_before c n) in
    at_most (9 + 9 * n) (9 * suc n) (NeededBefore c (suc n)) (omega arith)
    (at_most_of (9 + 9 * n) (λ page. Needs last page ⊎ NeededBefore c n page) (NeededBefore c (suc n))
    (one_of_more c n) both)

needed_by : (c : Core) (units page : ℕ) (reason : Reason) → (reason ≡ FramesOut → ⊥) → RunNeeds c units reason page
    → NeededBefore c units page
needed_by c units page reason other (k, inl l, need) = (k, l, need)
needed_by c units page reason other (k, inr h, need) = absurd (other h.1)

needed_with : (c : Core) (units page : ℕ) (reason : Reason) → RunNeeds c units reason page
    → NeededBefore c (1 + units) page
needed_with c units page reason (k, inl l, need) = (k, omega (arith, l), need)
needed_with c units page reason (k, inr h, need) = (k, omega (arith, h.0), need)

needed_whole : (c : Core) (units : ℕ) (reason : Reason) → (reason ≡ FramesOut → ⊥)
    → AreAtMost (9 * units) (RunNeeds c units reason)
needed_whole c units reason other =
    at_most_of (9 * units) (NeededBefore c units) (RunNeeds c units reason)
    (λ page h. needed_by c units page reason other h) (needed_before c units)

-- Each unit of a run needs at most nine pages.
pub nine_pages_each : NinePagesEach
nine_pages_each c units Stopped = needed_whole c units Stopped (λ e. cc)
nine_pages_each c units Count = needed_whole c units Count (λ e. cc)
nine_pages_each c units EcMode = needed_whole c units EcMode (λ e. cc)
nine_pages_each c units Wait = needed_whole c units Wait (λ e. cc)
nine_pages_each c units DisabledWait = needed_whole c units DisabledWait (λ e. cc)
nine_pages_each c units FramesOut =
    at_most_of (9 * (1 + units)) (NeededBefore c (1 + units)) (RunNeeds c units FramesOut)
    (λ page h. needed_with c units page FramesOut h) (needed_before c (1 + units))
