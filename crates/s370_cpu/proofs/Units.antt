-- From what a fetch and a row answer to what the unit answers, whatever the table has.
use Rattle.std.proofs.Common.{◌≡◌, ℕ, Bool, false, length, List, [], ◌∷◌, ◌++◌, Result, Ok, Err, refl, sym, subst, inl}
use Rattle.std.proofs.Common.{inr}
use Rattle.s370_psw.specs.declared.ProgramCode.{ProgramCode}
use Rattle.s370_store.specs.Access.{Test, IsAbsent}
use Rattle.s370_store.specs.declared.Page.{Page}
use Rattle.s370_rows.specs.declared.cpu.Cpu.{Cpu}
use Rattle.s370_rows.specs.declared.instruction.Instruction.{Instruction}
use Rattle.s370_rows.specs.declared.place.Place.{Place}
use Rattle.s370_rows.specs.declared.ending.Completion.{Completion}
use Rattle.s370_rows.specs.declared.ending.Completion.TheVariants.{Done, Branch, Again, Interrupted, SupervisorCall}
use Rattle.s370_rows.specs.declared.ending.Completion.TheVariants.{InputOutput}
use Rattle.s370_rows.specs.declared.ending.Refusal.{Refusal}
use Rattle.s370_rows.specs.declared.ending.Refusal.TheVariants.{Program as Suppressed, Absent as Missing}
use Rattle.s370_rows.specs.State.{State}
use Rattle.s370_rows.specs.Rows.{Row, MeetsRow}
use Rattle.s370_cpu.specs.declared.conclude.Stop.{Stop}
use Rattle.s370_cpu.specs.declared.conclude.Stop.TheVariants.{Done as DoneStop, Program, Svc, InputOutput as Asked}
use Rattle.s370_cpu.specs.declared.conclude.Stop.TheVariants.{Privileged, Absent}
use Rattle.s370_cpu.specs.Fetch.{Asks, fetched, halfwords_of, MeetsFetch}
use Rattle.s370_cpu.specs.Execute.{executed}
use Rattle.s370_cpu.specs.Unit.{Unit as WholeUnit, Carries, MeetsUnit, Stopped, stopped, carried, place_at}
use Rattle.s370_cpu.specs.Unit.{unit_executed, unit_fetched, unit_over}
use Rattle.s370_cpu.specs.declared.opcodes.Control.{Control}
use Rattle.s370_cpu.specs.declared.opcodes.Opcode.{Opcode}
use Rattle.s370_cpu.specs.declared.opcodes.Opcode.TheVariants.{Supervised}
use Rattle.s370_cpu.specs.Control.{control_row}
use Rattle.s370_cpu.specs.Opcodes.{opcode_at}
use Rattle.s370_rows.specs.declared.ending.IoOperation.{IoOperation}
use Rattle.s370_cpu.proofs.Asking.{never_asks}
use Rattle.s370_cpu.specs.Table.{MeetsStep, is_supervised, row_named, row_of, supervised, unit}

pub asks_left : (m : State) (ss ts : List (List Test)) (page : ℕ) → Asks m ss page → Asks m (ss ++ ts) page
asks_left m [] ts page h = absurd h
asks_left m (s ∷ ss) ts page (inl x) = inl x
asks_left m (s ∷ ss) ts page (inr x) = inr (asks_left m ss ts page x)

pub asks_right : (m : State) (ss ts : List (List Test)) (page : ℕ) → Asks m ts page → Asks m (ss ++ ts) page
asks_right m [] ts page h = h
asks_right m (s ∷ ss) ts page h = inr (asks_right m ss ts page h)

-- the stages of a unit have those of its fetches
asks_executed : (rows : State → Place → Instruction → Row) (m : State) (ss : List (List Test)) (place : Place)
    (r : Result Instruction ProgramCode) (page : ℕ) → Asks m ss page
    → Asks m (unit_executed rows m ss place r).stages page
asks_executed rows m ss place (Err code) page h = h
asks_executed rows m ss place (Ok i) page h = asks_left m ss (carried rows m place i).stages page h

asks_fetched : (rows : State → Place → Instruction → Row) (m : State) (ss : List (List Test))
    (r : Result Instruction ProgramCode) (page : ℕ) → Asks m ss page → Asks m (unit_fetched rows m ss r).stages page
asks_fetched rows m ss (Err code) page h = h
asks_fetched rows m ss (Ok i) page h =
    let x = executed m i in asks_executed rows m (ss ++ x.stages) (place_at m (halfwords_of i.opcode)) x.result page
    (asks_left m ss x.stages page h)

-- a row that meets its definition, and is concluded, makes the rest of a unit
pub carried_meets : (rows : State → Place → Instruction → Row) (present : ℕ → Bool) (m : State) (place : Place)
    (i : Instruction) (outcome : Result Completion Refusal) (m' : State)
    → MeetsRow (rows m place i) present m outcome m' → (let s = stopped outcome place m'.cpu in
    MeetsUnit (carried rows m place i) present m s.stop (record m' { cpu = s.cpu }))
carried_meets rows present m place i (Ok Done) m' h = rw h
carried_meets rows present m place i (Ok (Branch a)) m' h = rw h
carried_meets rows present m place i (Ok Again) m' h = rw h
carried_meets rows present m place i (Ok (Interrupted code)) m' h = rw h
carried_meets rows present m place i (Ok (SupervisorCall n)) m' h = rw h
carried_meets rows present m place i (Ok (InputOutput operation device)) m' h = rw h
carried_meets rows present m place i (Err (Suppressed code)) m' h = rw (h.0, h.1)
carried_meets rows present m place i (Err (Missing page)) m' h = (h.0, h.1, inl h.3)

-- stages that passed before do no harm
more_stages : (ss : List (List Test)) (u : WholeUnit) (present : ℕ → Bool) (m : State) (stop : Stop) (m' : State)
    → MeetsUnit u present m stop m' → MeetsUnit (record { stages = ss ++ u.stages; ran = u.ran }) present m stop m'
more_stages ss u present m DoneStop m' h = h
more_stages ss u present m (Program code ilc) m' h = h
more_stages ss u present m (Svc n ilc) m' h = h
more_stages ss u present m (Asked operation device) m' h = h
more_stages ss u present m (Privileged i ilc) m' h = h
more_stages ss u present m (Absent page) m' h = (h.0, h.1, asks_right m ss u.stages page.0 h.2)

-- from the rest of a unit to the whole
pub whole_meets : (rows : State → Place → Instruction → Row) (m : State) (ilc : ℕ) (i : Instruction) (stop : Stop)
    (m' : State) (present : ℕ → Bool) → Carries m ilc i → MeetsUnit
    (carried rows m (place_at m ilc) i) present m stop m' → MeetsUnit (unit_over rows m) present m stop m'
whole_meets rows m ilc i stop m' present c u =
    let f = fetched m m.cpu.psw.address in
    let x = executed m c.first in
    let ss = f.stages ++ x.stages in
    let u1 : MeetsUnit (unit_executed rows m ss (place_at m ilc) (Ok i)) present m stop m' = more_stages ss
    (carried rows m (place_at m ilc) i) present m stop m' u in
    let u2 : MeetsUnit (unit_executed rows m ss (place_at m ilc) x.result) present m stop m' = subst
    (λ (r : Result Instruction ProgramCode). MeetsUnit (unit_executed rows m ss (place_at m ilc) r) present m stop
    m') (sym c.execute) u1 in
    let u3 : MeetsUnit (unit_fetched rows m f.stages (Ok c.first)) present m stop m' = subst
    (λ (n : ℕ). MeetsUnit (unit_executed rows m ss (place_at m n) x.result) present m stop m') c.length_code u2 in
    subst (λ (r : Result Instruction ProgramCode). MeetsUnit (unit_fetched rows m f.stages r) present m stop m')
    (sym c.fetch) u3

-- the target of EX can't be fetched
refused : (rows : State → Place → Instruction → Row) (m : State) (ss : List (List Test)) (first : Instruction)
    (present : ℕ → Bool) (refusal : Refusal) (place : Place) → MeetsFetch (executed m first) m present (Err refusal)
    → (let s = stopped (Err refusal) place m.cpu in MeetsUnit
    (unit_executed rows m (ss ++ (executed m first).stages) place (executed m first).result) present m s.stop
    (record m { cpu = s.cpu }))
refused rows m ss first present (Suppressed code) place h =
    subst (λ (r : Result Instruction ProgramCode). let s = stopped (Err (Suppressed code)) place m.cpu in
    MeetsUnit (unit_executed rows m (ss ++ (executed m first).stages) place r) present m s.stop
    (record m { cpu = s.cpu })) (sym h) refl
refused rows m ss first present (Missing page) place h =
    let x = executed m first in
    (refl, h.0, asks_executed rows m (ss ++ x.stages) place x.result page.0 (asks_right m ss x.stages page.0 h.1))

-- a unit that can't fetch the target of EX
pub target_refused : (rows : State → Place → Instruction → Row) (m : State) (first : Instruction) (ilc : ℕ) (present : ℕ
    → Bool) (refusal : Refusal) → (fetched m m.cpu.psw.address).result ≡ Ok first → ilc ≡ halfwords_of first.opcode
    → MeetsFetch (executed m first) m present (Err refusal) → (let s = stopped (Err refusal) (place_at m ilc) m.cpu in
    MeetsUnit (unit_over rows m) present m s.stop (record m { cpu = s.cpu }))
target_refused rows m first ilc present refusal e1 e2 h =
    let f = fetched m m.cpu.psw.address in
    let x = executed m first in
    let s = stopped (Err refusal) (place_at m ilc) m.cpu in
    let u1 : MeetsUnit (unit_executed rows m (f.stages ++ x.stages) (place_at m ilc) x.result) present m s.stop
    (record m { cpu = s.cpu }) = refused rows m f.stages first present refusal (place_at m ilc) h in
    let u2 : MeetsUnit (unit_fetched rows m f.stages (Ok first)) present m s.stop (record m { cpu = s.cpu }) = subst
    (λ (n : ℕ). MeetsUnit (unit_executed rows m (f.stages ++ x.stages) (place_at m n) x.result) present m s.stop
    (record m { cpu = s.cpu })) e2 u1 in
    subst (λ (r : Result Instruction ProgramCode). MeetsUnit (unit_fetched rows m f.stages r) present m s.stop
    (record m { cpu = s.cpu })) (sym e1) u2

-- ---- what `step` answers

-- a row asks no device
abbrev NoneAsked : Result Completion Refusal → Type 0
NoneAsked outcome = (operation : IoOperation) (device : ℕ) → outcome ≡ Ok (InputOutput operation device) → ⊥

-- what is concluded is never handed back
concluded_step : (outcome : Result Completion Refusal) (place : Place) (cpu : Cpu) (present : ℕ → Bool) (m m' : State)
    → NoneAsked outcome → (let s = stopped outcome place cpu in MeetsUnit (unit m) present m s.stop m'
    → MeetsStep present m s.stop m')
concluded_step (Ok Done) place cpu present m m' none h = h
concluded_step (Ok (Branch a)) place cpu present m m' none h = h
concluded_step (Ok Again) place cpu present m m' none h = h
concluded_step (Ok (Interrupted code)) place cpu present m m' none h = h
concluded_step (Ok (SupervisorCall n)) place cpu present m m' none h = h
concluded_step (Ok (InputOutput operation device)) place cpu present m m' none h = absurd (none operation device refl)
concluded_step (Err (Suppressed code)) place cpu present m m' none h = h
concluded_step (Err (Missing page)) place cpu present m m' none h = h

row_asks_none : (m : State) (place : Place) (i : Instruction) (present : ℕ → Bool) (outcome : Result Completion Refusal)
    (m' : State) → is_supervised (opcode_at i.opcode) ≡ false → MeetsRow (row_of m place i) present m outcome m'
    → NoneAsked outcome
row_asks_none m place i present outcome m' plain h = λ operation device e. (
    never_asks m m' place i operation device plain (subst (λ (o : Result Completion Refusal). MeetsRow
    (row_of m place i) present m o m') e h))

-- a unit whose row was carried out
pub row_steps : (m : State) (ilc : ℕ) (i : Instruction) (stop : Stop) (cpu' : Cpu) (present : ℕ → Bool)
    (outcome : Result Completion Refusal) (m' : State) → is_supervised (opcode_at i.opcode) ≡ false → Carries m ilc i
    → MeetsRow (row_of m (place_at m ilc) i) present m outcome m'
    → stopped outcome (place_at m ilc) m'.cpu ≡ record { stop = stop; cpu = cpu' }
    → MeetsStep present m stop (record m' { cpu = cpu' })
row_steps m ilc i stop cpu' present outcome m' plain c h e =
    let none = row_asks_none m (place_at m ilc) i present outcome m' plain h in
    let s = stopped outcome (place_at m ilc) m'.cpu in
    let u : MeetsUnit (unit m) present m s.stop (record m' { cpu = s.cpu }) = whole_meets row_of m ilc i s.stop
    (record m' { cpu = s.cpu }) present c (carried_meets row_of present m (place_at m ilc) i outcome m' h) in
    subst (λ (t : Stopped). MeetsStep present m t.stop (record m' { cpu = t.cpu })) e
    (concluded_step outcome (place_at m ilc) m'.cpu present m (record m' { cpu = s.cpu }) none u)

-- a unit that can't fetch the target of EX
pub target_steps : (m : State) (first : Instruction) (ilc : ℕ) (stop : Stop) (cpu' : Cpu) (present : ℕ → Bool)
    (refusal : Refusal) → (fetched m m.cpu.psw.address).result ≡ Ok first → ilc ≡ halfwords_of first.opcode
    → MeetsFetch (executed m first) m present (Err refusal) → stopped (Err refusal)
    (place_at m ilc) m.cpu ≡ record { stop = stop; cpu = cpu' } → MeetsStep present m stop (record m { cpu = cpu' })
target_steps m first ilc stop cpu' present refusal e1 e2 h e =
    let s = stopped (Err refusal) (place_at m ilc) m.cpu in
    subst (λ (t : Stopped). MeetsStep present m t.stop (record m { cpu = t.cpu })) e
    (concluded_step (Err refusal) (place_at m ilc) m.cpu present m (record m { cpu = s.cpu })
    (λ operation device x. cc) (target_refused row_of m first ilc present refusal e1 e2 h))

-- the rest of a unit whose instruction was handed back
pub supervised_meets : (m : State) (ilc : ℕ) (i : Instruction) (control : Control) (stop : Stop) (cpu' : Cpu)
    (present : ℕ → Bool) (outcome : Result Completion Refusal) (m' : State) → opcode_at i.opcode ≡ Supervised control
    → MeetsRow (control_row control m i) present m outcome m'
    → stopped outcome (place_at m ilc) m'.cpu ≡ record { stop = stop; cpu = cpu' }
    → MeetsUnit (supervised m i ilc) present m stop (record m' { cpu = cpu' })
supervised_meets m ilc i control stop cpu' present outcome m' named h e =
    let row : MeetsRow (row_of m (place_at m ilc) i) present m outcome m' = subst
    (λ (op : Opcode). MeetsRow (row_named op m (place_at m ilc) i) present m outcome m') (sym named) h in
    subst (λ (t : Stopped). MeetsUnit (supervised m i ilc) present m t.stop (record m' { cpu = t.cpu })) e
    (carried_meets row_of present m (place_at m ilc) i outcome m' row)

-- an instruction that was handed back, and carried out by `supervise`, makes the unit
pub handed_back : (m m1 m' : State) (i : Instruction) (ilc : ℕ) (stop : Stop) (present : ℕ → Bool)
    → MeetsStep present m (Privileged i ilc) m1 → MeetsUnit (carried row_of m1 (place_at m1 ilc) i) present m1 stop m'
    → MeetsUnit (unit m) present m stop m'
handed_back m m1 m' i ilc stop present h u =
    whole_meets row_of m ilc i stop m' present h.2 (subst (λ (s : State). MeetsUnit
    (carried row_of s (place_at s ilc) i) present s stop m') h.0 u)
