-- A frequent instruction that is done: its row, its rights, and the unit that it makes.
use Rattle.std.proofs.Common.{◌≡◌, ℕ, Bool, true, false, List, Option, Some, None, Result, Ok, Err, refl, sym, ◌∙◌, ap}
use Rattle.std.proofs.Common.{subst}
use Rattle.std.specs.Prelude.{◌&&◌, if◌then◌else◌}
use Rattle.s370_psw.specs.declared.ProgramCode.{ProgramCode}
use Rattle.s370_rows.specs.Ending.{GoesOn}
use Rattle.s370_rows.specs.declared.cpu.Cpu.{Cpu}
use Rattle.s370_rows.specs.declared.ending.Completion.{Completion}
use Rattle.s370_rows.specs.declared.ending.Completion.TheVariants.{Done, Branch, Again, Interrupted, SupervisorCall}
use Rattle.s370_rows.specs.declared.ending.Completion.TheVariants.{InputOutput}
use Rattle.s370_rows.specs.declared.instruction.Instruction.{Instruction}
use Rattle.s370_rows.specs.declared.place.Place.{Place}
use Rattle.s370_rows.specs.Branches.{branches}
use Rattle.s370_rows.specs.Registers.{Ended}
use Rattle.s370_rows.specs.State.{State}
use Rattle.s370_rows.specs.Rows.{Left, MeetsRow, Outcome, Row, Stored, after, fault_of, outcome_of, over, unless}
use Rattle.s370_cpu.specs.declared.conclude.Stop.TheVariants.{Done as DoneStop}
use Rattle.s370_bytes.specs.Long.{long_moved}
use Rattle.s370_cpu.specs.Laws.{rights_of}
use Rattle.s370_cpu.specs.Held.{MeetsAtOnce, MeetsSteady, StepsOrStays}
use Rattle.s370_cpu.specs.Table.{row_of, unit}
use Rattle.s370_cpu.specs.Unit.{Carries, MeetsUnit, Stopped, place_at, stopped}
use Rattle.s370_cpu.proofs.Units.{carried_meets, whole_meets}

-- what is left, the processor goes on after, and it changes no rights
pub record IsQuiet (m : State) (l : Left) : Type 0 where
  pub goes_on : GoesOn l.ending
  pub rights : rights_of (after m l) ≡ rights_of m

abbrev pub LeavesQuiet : State → Result Left ProgramCode → Type 0
LeavesQuiet m (Ok l) = IsQuiet m l
LeavesQuiet m (Err code) = Unit {0}

abbrev GoesOnQuietly : State → Completion → State → Type 0
GoesOnQuietly m ending m' = GoesOn ending × (rights_of m' ≡ rights_of m)

abbrev IsQuietOutcome : State → Result Outcome ProgramCode → Type 0
IsQuietOutcome m (Ok o) = GoesOnQuietly m o.ending o.state
IsQuietOutcome m (Err code) = Unit {0}

quiet_outcome : (m : State) (refused fault : Option ProgramCode) (leaves : Result Left ProgramCode)
    → LeavesQuiet m leaves → IsQuietOutcome m (outcome_of m (unless refused (unless fault leaves)))
quiet_outcome m None None (Ok l) h = (h.goes_on, h.rights)
quiet_outcome m None None (Err code) h = tt
quiet_outcome m None (Some code) leaves h = tt
quiet_outcome m (Some code) fault leaves h = tt

-- a row that is quiet, where it was carried out
pub quick_done : (r : Row) (present : ℕ → Bool) (m : State) (ending : Completion) (m' : State) → LeavesQuiet m r.leaves
    → MeetsRow r present m (Ok ending) m' → MeetsSteady r present m (Some ending) m'
quick_done r present m ending m' h e =
    let q : GoesOnQuietly m ending m' = subst (λ (x : Result Outcome ProgramCode). IsQuietOutcome m x) e
    (quiet_outcome m r.refused (fault_of m r.tests) r.leaves h) in
    (e, q.0, q.1)

-- A row that leaves rights and storage as they were is quick.
pub quick_of : (r : Row) (present : ℕ → Bool) (m : State) (answer : Option Completion) (m' : State)
    → LeavesQuiet m r.leaves → MeetsAtOnce r present m answer m' → MeetsSteady r present m answer m'
quick_of r present m None m' h e = e
quick_of r present m (Some ending) m' h e = quick_done r present m ending m' h e

-- A branch goes on in the loop, taken or not.
pub branches_go_on : (b : Bool) (target : ℕ) → GoesOn (branches b target)
branches_go_on true target = tt
branches_go_on false target = tt

-- An overflow whose mask is zero goes on in the loop.
pub no_overflow : (b c : Bool) (code : ProgramCode) → c ≡ false → GoesOn (if b && c then Interrupted code else Done)
no_overflow true c code e = rw e tt
no_overflow false c code e = tt

-- a part of a long move goes on, or is the last
part_quiet : (m : State) (b : Bool) (x y : Cpu) (ss : List Stored) → rights_of (record m { cpu = x }) ≡ rights_of m
    → rights_of (record m { cpu = y }) ≡ rights_of m → (let e : Ended = if b then
    (record { ending = Done; cpu = x }) else (record { ending = Again; cpu = y }) in
    IsQuiet m (record { ending = e.ending; cpu = e.cpu; stores = ss; keyed = None }))
part_quiet m true x y ss h k = record { goes_on = tt; rights = h }
part_quiet m false x y ss h k = record { goes_on = tt; rights = k }

-- Either of two quiet rows is quiet.
pub either_quiet : (m : State) (b : Bool) (r s : Row) → LeavesQuiet m r.leaves → LeavesQuiet m s.leaves
    → LeavesQuiet m (if b then r else s).leaves
either_quiet m true r s h k = h
either_quiet m false r s h k = k

-- A row that changes registers alone is quiet.
pub over_quiet : (m : State) (cpu : Cpu) → rights_of (record m { cpu = cpu }) ≡ rights_of m
    → LeavesQuiet m (Ok (over (record { ending = Done; cpu = cpu })))
over_quiet m cpu h = record { goes_on = tt; rights = h }

-- A long move is quiet.
pub long_quiet : (m : State) (i : Instruction) → LeavesQuiet m (long_moved m i).leaves
long_quiet m i = search (either_quiet, over_quiet, part_quiet)

-- ---- the unit

went : (m : State) (place : Place) (ending : Completion) (cpu' : Cpu) (m' : State)
    → stopped (Ok ending) place m'.cpu ≡ record { stop = DoneStop; cpu = cpu' } → GoesOn ending
    → rights_of (record m' { cpu = cpu' }) ≡ rights_of m'
went m place Done cpu' m' e h = rw (sym (ap (λ (s : Stopped). s.cpu) e)) refl
went m place (Branch a) cpu' m' e h = rw (sym (ap (λ (s : Stopped). s.cpu) e)) refl
went m place Again cpu' m' e h = rw (sym (ap (λ (s : Stopped). s.cpu) e)) refl
went m place (Interrupted code) cpu' m' e h = absurd h
went m place (SupervisorCall n) cpu' m' e h = absurd h
went m place (InputOutput operation device) cpu' m' e h = absurd h

pub quick_rights : (m : State) (place : Place) (r : Row) (present : ℕ → Bool) (ending : Completion) (cpu' : Cpu)
    (m' : State) → MeetsSteady r present m (Some ending) m' → stopped
    (Ok ending) place m'.cpu ≡ record { stop = DoneStop; cpu = cpu' }
    → rights_of (record m' { cpu = cpu' }) ≡ rights_of m
quick_rights m place r present ending cpu' m' q e = went m place ending cpu' m' e q.1 ∙ q.2

-- A quick row is a unit of the machine.
pub quick_unit : (m : State) (ilc : ℕ) (i : Instruction) (ending : Completion) (cpu' : Cpu) (present : ℕ → Bool)
    (m' : State) → Carries m ilc i → MeetsRow (row_of m (place_at m ilc) i) present m (Ok ending) m'
    → stopped (Ok ending) (place_at m ilc) m'.cpu ≡ record { stop = DoneStop; cpu = cpu' }
    → MeetsUnit (unit m) present m DoneStop (record m' { cpu = cpu' })
quick_unit m ilc i ending cpu' present m' c h e =
    let s = stopped (Ok ending) (place_at m ilc) m'.cpu in
    subst (λ (t : Stopped). MeetsUnit (unit m) present m t.stop (record m' { cpu = t.cpu })) e
    (whole_meets row_of m ilc i s.stop (record m' { cpu = s.cpu }) present c
    (carried_meets row_of present m (place_at m ilc) i (Ok ending) m' h))

-- A quick row is a step that says where the next instruction is.
pub quick_step : (m : State) (place : Place) (i : Instruction) (ending : Completion) (cpu' : Cpu) (present : ℕ → Bool)
    (m' : State) (went : Option ℕ) → Carries m place.ilc i → place ≡ place_at m place.ilc
    → MeetsSteady (row_of m place i) present m (Some ending) m'
    → stopped (Ok ending) place m'.cpu ≡ record { stop = DoneStop; cpu = cpu' } → went ≡ Some cpu'.psw.address
    → StepsOrStays present m went (record m' { cpu = cpu' })
quick_step m place i ending cpu' present m' went carries here quick e address =
    let row_here : MeetsRow (row_of m (place_at m place.ilc) i) present m (Ok ending) m' = subst
    (λ (p : Place). MeetsRow (row_of m p i) present m (Ok ending) m') here quick.0 in
    let stop_here : stopped (Ok ending) (place_at m place.ilc) m'.cpu ≡ record { stop = DoneStop; cpu = cpu' } = subst
    (λ (p : Place). stopped (Ok ending) p m'.cpu ≡ record { stop = DoneStop; cpu = cpu' }) here e in
    let step : StepsOrStays present m (Some cpu'.psw.address) (record m' { cpu = cpu' }) = record {
      done = quick_unit m place.ilc i ending cpu' present m' carries row_here stop_here;
      next = refl;
      still = tt;
      rights = quick_rights m place (row_of m place i) present ending cpu' m' quick e;
    } in
    subst (λ (o : Option ℕ). StepsOrStays present m o (record m' { cpu = cpu' })) (sym address) step
