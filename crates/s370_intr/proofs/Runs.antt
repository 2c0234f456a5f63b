-- A run of units done, and what comes after it.
use Rattle.std.proofs.Common.{◌≡◌, ℕ, ◌+◌, ◌-◌, ◌<◌, ◌≤◌, zero, suc, Bool, true, false, Option, None, Some, length}
use Rattle.std.proofs.Common.{replicate, List, [], ◌∷◌, ◌++◌, refl, sym, ◌∙◌, ap, arith, subst}
use Rattle.std.specs.Prelude.{if◌then◌else◌, ◌==◌, not}
use Rattle.s370_intr.specs.declared.pending.Pending.{Pending}
use Rattle.s370_intr.specs.declared.next.Next.{Next}
use Rattle.s370_intr.specs.declared.next.Next.TheVariants.{Stops, Accepts, AcceptsStatus, Instructs}
use Rattle.s370_intr.specs.declared.next.Reason.{Reason}
use Rattle.s370_intr.specs.declared.next.Reason.TheVariants.{Stopped, Count, EcMode, Wait, DisabledWait, FramesOut}
use Rattle.s370_psw.specs.Fields.{Fields}
use Rattle.s370_subchannels.specs.declared.subchannel.Status.{Status}
use Rattle.s370_subchannels.specs.Subchannels.{first_status}
use Rattle.s370_rows.specs.declared.cpu.Cpu.{Cpu}
use Rattle.s370_rows.specs.State.{State}
use Rattle.s370_subchannels.specs.declared.subchannel.Subchannel.{Subchannel}
use Rattle.s370_store.specs.Blocks.{MayAccess}
use Rattle.s370_store.specs.Memory.{Memory}
use Rattle.s370_store.specs.declared.Access.{Access}
use Rattle.s370_store.specs.declared.block.Block.{Block}
use Rattle.s370_rows.specs.declared.held.HeldBlock.{HeldBlock}
use Rattle.s370_rows.specs.Reach.{AreHeld, IsHeld}
use Rattle.s370_cpu.specs.Held.{StepsOrStays}
use Rattle.s370_cpu.specs.declared.conclude.Stop.TheVariants.{Done}
use Rattle.s370_cpu.specs.Laws.{Rights, rights_of}
use Rattle.s370_cpu.specs.Table.{unit}
use Rattle.s370_cpu.specs.Unit.{Ran}
use Rattle.s370_cpu.specs.Held.{DoesUnits}
use Rattle.s370_intr.specs.InputOutput.{Configuration, configuration_of}
use Rattle.s370_intr.specs.Units.{Core, core_of, followed, instructed, look, offered, unit_at, with_configuration}
use Rattle.s370_intr.specs.Units.{enabled_of, is_any, Needs, NeedsAt}
use Rattle.s370_intr.specs.Run.{Run, run, looked, one_more, AllNeeded, EachBrings, IsFetched, IsLacking, IsCut}
use Rattle.s370_intr.specs.Run.{DoesInstructions, TellsRun}

abbrev pub all_done : ℕ → Core → Run
all_done k c = record { core = c; units = k; reason = Count }

-- the look says that there is a unit
abbrev pub Goes : Next → Type 0
Goes (Stops reason) = ⊥
Goes (Accepts taken) = Unit {0}
Goes (AcceptsStatus status) = Unit {0}
Goes Instructs = Unit {0}

same_run : (c c' : Core) (units units' : ℕ) (reason reason' : Reason) → c ≡ c' → units ≡ units' → reason ≡ reason'
    → (let r : Run = record { core = c; units = units; reason = reason } in
    r ≡ record { core = c'; units = units'; reason = reason' })
same_run c c' units units' reason reason' a b d = rw (a, b, d) refl

-- where a run of one unit more was done whole, its first unit was, and so was the rest
one_less : (c' : Core) (k : ℕ) (rest : Run) → one_more rest ≡ all_done (suc k) c' → rest ≡ all_done k c'
one_less c' k rest e =
    let u : rest.units ≡ k = omega (arith, ap (λ (r : Run). r.units) e) in
    same_run rest.core c' rest.units k rest.reason Count (ap (λ (r : Run). r.core) e) u (ap (λ (r : Run). r.reason) e)

rest_done : (l : Next) (c c' : Core) (k : ℕ) (rest : Run) → looked l c rest ≡ all_done (suc k) c' → Goes l
    × (rest ≡ all_done k c')
rest_done (Stops reason) c c' k rest e = absurd (omega (arith, ap (λ (r : Run). r.units) e))
rest_done (Accepts taken) c c' k rest e = (tt, one_less c' k rest e)
rest_done (AcceptsStatus status) c c' k rest e = (tt, one_less c' k rest e)
rest_done Instructs c c' k rest e = (tt, one_less c' k rest e)

goes_on : (l : Next) (c : Core) (rest : Run) → Goes l → looked l c rest ≡ one_more rest
goes_on (Stops reason) c rest h = absurd h
goes_on (Accepts taken) c rest h = refl
goes_on (AcceptsStatus status) c rest h = refl
goes_on Instructs c rest h = refl

-- one unit more
pub does_more : (k : ℕ) (c c' c'' : Core) → run k c ≡ all_done k c' → Goes (look c') → c'' ≡ unit_at (look c') c'
    → run (k + 1) c ≡ all_done (k + 1) c''
does_more zero c c' c'' e h u =
    let same : c ≡ c' = ap (λ (r : Run). r.core) e in
    let h1 : Goes (look c) = subst (λ (x : Core). Goes (look x)) (sym same) h in
    let u1 : unit_at (look c) c ≡ c'' = subst (λ (x : Core). unit_at (look x) x ≡ c'') (sym same) (sym u) in
    goes_on (look c) c (run 0 (unit_at (look c) c)) h1 ∙ ap (λ (x : Core). all_done 1 x) u1
does_more (suc k) c c' c'' e h u =
    let first = rest_done (look c) c c' k (run k (unit_at (look c) c)) e in
    let more = does_more k (unit_at (look c) c) c' c'' first.1 h u in
    let g : run (suc k + 1) c ≡ looked (look c) c (run (k + 1) (unit_at (look c) c)) =
    (let a : suc k + 1 ≡ suc (k + 1) = omega arith in rw a refl) in
    g ∙ goes_on (look c) c (run (k + 1) (unit_at (look c) c)) first.0 ∙ ap one_more more
    ∙ ap (λ (n : ℕ). all_done n c'') (omega arith)

-- so many units more
pub does_many : (k n : ℕ) (c c' c'' : Core) → run k c ≡ all_done k c' → run n c' ≡ all_done n c''
    → run (k + n) c ≡ all_done (k + n) c''
does_many zero n c c' c'' e h =
    let same : c' ≡ c = sym (ap (λ (r : Run). r.core) e) in
    let all : run n c ≡ all_done n c'' = subst (λ (x : Core). run n x ≡ all_done n c'') same h in
    let a : zero + n ≡ n = omega arith in rw a all
does_many (suc k) n c c' c'' e h =
    let first = rest_done (look c) c c' k (run k (unit_at (look c) c)) e in
    let more = does_many k n (unit_at (look c) c) c' c'' first.1 h in
    let g : run (suc k + n) c ≡ looked (look c) c (run (k + n) (unit_at (look c) c)) =
    (let a : suc k + n ≡ suc (k + n) = omega arith in rw a refl) in
    g ∙ goes_on (look c) c (run (k + n) (unit_at (look c) c)) first.0 ∙ ap one_more more
    ∙ ap (λ (x : ℕ). all_done x c'') (omega arith)

stops_here : (l : Next) (c : Core) (rest : Run) (reason : Reason) → l ≡ Stops reason
    → looked l c rest ≡ record { core = c; units = 0; reason = reason }
stops_here l c rest reason e = rw e refl

-- no more than these, for this reason
pub does_no_more : (k n : ℕ) (c c' : Core) (reason : Reason) → run k c ≡ all_done k c' → k < n → look c' ≡ Stops reason
    → run n c ≡ record { core = c'; units = k; reason = reason }
does_no_more k zero c c' reason e l h = absurd (omega arith)
does_no_more zero (suc n) c c' reason e l h =
    let same : c ≡ c' = ap (λ (r : Run). r.core) e in
    stops_here (look c) c (run n (unit_at (look c) c)) reason (ap look same ∙ h)
    ∙ ap (λ (x : Core). record { core = x; units = 0; reason = reason }) same
does_no_more (suc k) (suc n) c c' reason e l h =
    let first = rest_done (look c) c c' k (run k (unit_at (look c) c)) e in
    let more = does_no_more k n (unit_at (look c) c) c' reason first.1 (omega arith) h in
    goes_on (look c) c (run n (unit_at (look c) c)) first.0 ∙ ap one_more more
    ∙ ap (λ (u : ℕ). record { core = c'; units = u; reason = reason }) (omega arith)

-- ---- the pages that a run needs

-- If pages of both lists are needed, those of the lists together are.
pub all_needed : (needs : ℕ → Type 0) (xs ys : List ℕ) → AllNeeded needs xs → AllNeeded needs ys
    → AllNeeded needs (xs ++ ys)
all_needed needs [] ys a b = b
all_needed needs (x ∷ xs) ys a b = (a.0, all_needed needs xs ys a.1 b)

-- Pages that are needed are needed where more is.
pub more_needs : (needs others : ℕ → Type 0) (xs : List ℕ) → ((page : ℕ) → needs page → others page)
    → AllNeeded needs xs → AllNeeded others xs
more_needs needs others [] f a = tt
more_needs needs others (x ∷ xs) f a = (f x a.0, more_needs needs others xs f a.1)

-- what units bring, and units after them
pub each_on : (old : Core) (unit : ℕ) (before after : List (List ℕ)) → EachBrings old unit before
    → EachBrings old (length before + unit) after → EachBrings old unit (before ++ after)
each_on old unit [] after a b = subst (λ (n : ℕ). EachBrings old n after) (omega arith) b
each_on old unit (pages ∷ before) after a b = (
  a.0,
  a.1,
  each_on old (suc unit) before after a.2
      (subst (λ (n : ℕ). EachBrings old n after) (omega arith) b),
)

-- units that bring nothing
pub each_none : (old : Core) (unit n : ℕ) → EachBrings old unit (replicate n [])
each_none old unit zero = tt
each_none old unit (suc n) = (tt, omega arith, each_none old (suc unit) n)

-- a run, and the next unit
pub each_more : (old c : Core) (k : ℕ) (units : List (List ℕ)) (pages : List ℕ) → run k old ≡ all_done k c
    → EachBrings old 0 units → length units ≡ k → AllNeeded (NeedsAt (look c) c) pages → length pages ≤ 9
    → EachBrings old 0 (units ++ pages ∷ [])
each_more old c k units pages e each many needed few =
    let here : length units + 0 ≡ k = omega (arith, many) in
    let needs : AllNeeded (Needs (run k old).core) pages = subst (λ (r : Run). AllNeeded (Needs r.core) pages)
    (sym e) needed in
    each_on old 0 units (pages ∷ []) each (subst (λ (n : ℕ). EachBrings old n (pages ∷ [])) (sym here) (needs, few, tt))

-- ---- what a run says

-- what is not a stop is a unit
pub not_stopped : (l : Next) → ((reason : Reason) → l ≡ Stops reason → ⊥) → Goes l
not_stopped (Stops reason) f = absurd (f reason refl)
not_stopped (Accepts taken) f = tt
not_stopped (AcceptsStatus status) f = tt
not_stopped Instructs f = tt

waits_for_frames : (wait : Bool) (disabled : Bool) → (if wait then
    (if disabled then Stops DisabledWait else Stops Wait) else Instructs) ≡ Stops FramesOut → ⊥
waits_for_frames true true e = cc
waits_for_frames true false e = cc
waits_for_frames false disabled e = cc

offered_for_frames : (o : Option Status) (psw : Fields) → offered o psw ≡ Stops FramesOut → ⊥
offered_for_frames None psw e = waits_for_frames psw.wait (psw.system_mask == 0) e
offered_for_frames (Some status) psw e = cc

-- no look stops for lack of frames
looks_for_frames : (extended any : Bool) (taken : Pending) (other : Next) → (other ≡ Stops FramesOut → ⊥)
    → (if extended then Stops EcMode else (if any then Accepts taken else other)) ≡ Stops FramesOut → ⊥
looks_for_frames true any taken other n e = cc
looks_for_frames false true taken other n e = cc
looks_for_frames false false taken other n e = n e

-- a run that stops by itself
pub tells_stop : (k n : ℕ) (c c' : Core) (reason : Reason) (is_short : ℕ → Type 0) → run k c ≡ all_done k c' → k < n
    → look c' ≡ Stops reason → TellsRun n c (record { core = c'; units = k; reason = reason }) is_short
tells_stop k n c c' Stopped is_short e l h = does_no_more k n c c' Stopped e l h
tells_stop k n c c' Count is_short e l h = does_no_more k n c c' Count e l h
tells_stop k n c c' EcMode is_short e l h = does_no_more k n c c' EcMode e l h
tells_stop k n c c' Wait is_short e l h = does_no_more k n c c' Wait e l h
tells_stop k n c c' DisabledWait is_short e l h = does_no_more k n c c' DisabledWait e l h
tells_stop k n c c' FramesOut is_short e l h =
    let psw = c'.processor.cpu.psw in
    let enabled = enabled_of c'.processor.cpu c'.pending in
    absurd (looks_for_frames psw.extended (is_any enabled) enabled (offered (first_status psw c'.subchannels) psw)
    (offered_for_frames (first_status psw c'.subchannels) psw) h)

-- a run that needs an absent page
pub tells_cut : (k n : ℕ) (first c new : Core) (l : Next) (is_short : ℕ → Type 0) → run k first ≡ all_done k c → k < n
    → l ≡ look c → new ≡ c → IsLacking (NeedsAt l c) (length c.processor.bytes) is_short
    → TellsRun n first (record { core = new; units = k; reason = FramesOut }) is_short
tells_cut k n first c new l is_short e less same kept h =
    let lacking : IsLacking (Needs c) (length c.processor.bytes) is_short = subst
    (λ (x : Next). IsLacking (NeedsAt x c) (length c.processor.bytes) is_short) same h in
    let cut : IsCut n first (record { core = c; units = k; reason = FramesOut }) is_short = record {
      done = e;
      fewer = less;
      lacking = lacking;
    } in
    subst (λ (x : Core). IsCut n first (record { core = x; units = k; reason = FramesOut }) is_short) (sym kept) cut

-- ---- an instruction that is done, and changes no rights

first_status_same : (psw psw' : Fields) (list : List Subchannel) → psw'.system_mask ≡ psw.system_mask
    → first_status psw' list ≡ first_status psw list
first_status_same psw psw' [] e = refl
first_status_same psw psw' (s ∷ ss) e = rw (e, first_status_same psw psw' ss e) refl

offered_same : (o : Option Status) (psw psw' : Fields) → psw'.wait ≡ psw.wait → psw'.system_mask ≡ psw.system_mask
    → offered o psw' ≡ offered o psw
offered_same None psw psw' w e = rw (w, e) refl
offered_same (Some status) psw psw' w e = refl

enabled_same : (cpu cpu' : Cpu) (pending : Pending) → cpu'.control ≡ cpu.control
    → cpu'.psw.system_mask ≡ cpu.psw.system_mask → enabled_of cpu' pending ≡ enabled_of cpu pending
enabled_same cpu cpu' pending c e = rw (c, e) refl

said_same : (extended extended' : Bool) (taken taken' : Pending) (other other' : Next) → extended' ≡ extended
    → taken' ≡ taken → other' ≡ other → (if extended' then Stops EcMode else
    (if is_any taken' then Accepts taken' else other')) ≡ (if extended then Stops EcMode else
    (if is_any taken then Accepts taken else other))
said_same extended extended' taken taken' other other' x t o = rw (x, t, o) refl

-- the look before the next unit says the same
pub looks_same : (m m' : State) (pending : Pending) (list : List Subchannel) → rights_of m' ≡ rights_of m
    → look (core_of m' pending list) ≡ look (core_of m pending list)
looks_same m m' pending list e =
    let psw = m.cpu.psw in
    let psw' = m'.cpu.psw in
    let mask : psw'.system_mask ≡ psw.system_mask = ap (λ (r : Rights). r.system_mask) e in
    let wait : psw'.wait ≡ psw.wait = ap (λ (r : Rights). r.wait) e in
    let control : m'.cpu.control ≡ m.cpu.control = ap (λ (r : Rights). r.control) e in
    let status = ap (λ (o : Option Status). offered o psw') (first_status_same psw psw' list mask)
    ∙ offered_same (first_status psw list) psw psw' wait mask in
    said_same psw.extended psw'.extended (enabled_of m.cpu pending) (enabled_of m'.cpu pending) _ _
    (ap (λ (r : Rights). r.extended) e) (enabled_same m.cpu m'.cpu pending control mask) status

-- A unit that is done is one instruction of the core.
pub done_unit : (m m' : State) (pending : Pending) (list : List Subchannel)
    → (unit m).ran ≡ record { stop = Done; state = m' } → core_of m' pending list ≡ unit_at Instructs
    (core_of m pending list)
done_unit m m' pending list e = sym (ap (λ (r : Ran). with_configuration (core_of m pending list)
    (followed r.stop (configuration_of r.state list))) e)

-- units that are done one after another
pub units_done : (n : ℕ) (present : ℕ → Bool) (m m' : State) (pending : Pending) (list : List Subchannel)
    → DoesUnits n present m m' → look (core_of m pending list) ≡ Instructs
    → (run n (core_of m pending list) ≡ all_done n (core_of m' pending list))
    × (look (core_of m' pending list) ≡ Instructs)
units_done zero present m m' pending list same e = (
  ap (λ (x : State). all_done 0 (core_of x pending list)) (sym same),
  ap (λ (x : State). look (core_of x pending list)) same ∙ e,
)
units_done (suc n) present m m' pending list (next, done, rights, rest) e =
    let c = core_of m pending list in
    let step : core_of next pending list ≡ unit_at (look c) c = rw e (done_unit m next pending list done) in
    let more = units_done n present next m' pending list rest (looks_same m next pending list rights ∙ e) in (
      goes_on (look c) c (run n (unit_at (look c) c)) (subst Goes (sym e) tt)
          ∙ ap one_more (ap (run n) (sym step) ∙ more.0) ∙ ap (λ (k : ℕ). all_done k (core_of m' pending list))
          (omega arith),
      more.1,
    )

-- ---- an instruction that is carried out whole

-- What is not false is true.
pub is_so : (b : Bool) → not b ≡ false → b ≡ true
is_so true e = refl
is_so false e = cc

-- A run of one instruction is that instruction.
pub one_instruction : (c c' : Core) → look c ≡ Instructs → c' ≡ unit_at Instructs c → run 1 c ≡ all_done 1 c'
one_instruction c c' e u = does_more 0 c c c' refl (subst Goes (sym e) tt) (rw e u)

-- A unit that ends with the instruction is a run of one instruction.
pub one_unit : (m m' : State) (pending : Pending) (list : List Subchannel) → look (core_of m pending list) ≡ Instructs
    → (unit m).ran ≡ record { stop = Done; state = m' }
    → run 1 (core_of m pending list) ≡ all_done 1 (core_of m' pending list)
one_unit m m' pending list e done = one_instruction (core_of m pending list) (core_of m' pending list) e
    (done_unit m m' pending list done)

-- The core after an instruction is that of its configuration.
pub instructed_core : (m m' : State) (pending : Pending) (list list' : List Subchannel)
    → configuration_of m' list' ≡ instructed (configuration_of m list)
    → core_of m' pending list' ≡ unit_at Instructs (core_of m pending list)
instructed_core m m' pending list list' e = ap (λ (x : Configuration). with_configuration (core_of m pending list) x) e

-- Equal configurations have the same core.
pub same_core : (m m' : State) (pending : Pending) (list list' : List Subchannel)
    → configuration_of m' list' ≡ configuration_of m list → core_of m' pending list' ≡ core_of m pending list
same_core m m' pending list list' e = ap (λ (x : Configuration). with_configuration (core_of m pending list) x) e

-- what may be accessed in a block, may be as long as size, keys and pages are the same
pub still_accesses : {access : Access} {size size' : ℕ} {keys keys' : List ℕ} {present present' : ℕ → Bool}
    (key first : ℕ) → size' ≡ size → keys' ≡ keys → present' ≡ present → MayAccess access size keys present key first
    → MayAccess access size' keys' present' key first
still_accesses key first s k p h = record {
  aligned = h.aligned;
  inside = rw s h.inside;
  passed = rw k h.passed;
  here = rw p h.here;
}

held_still : {access : Access} {is_placed is_placed' : Block → Type 0} {m m' : Memory} {present present' : ℕ → Bool}
    (key : ℕ) (block : Block) → ((b : Block) → is_placed b → is_placed' b) → length m'.bytes ≡ length m.bytes
    → m'.keys ≡ m.keys → present' ≡ present → IsHeld access is_placed m present key block
    → IsHeld access is_placed' m' present' key block
held_still key block moves s k p h = record {
  far = h.far;
  may_access = λ low. still_accesses key block.first s k p (h.may_access low);
  placed = λ low. moves block (h.placed low);
}

-- what is held for operands stays so, where no block moves and no key changes
pub still_held : {is_placed is_placed' : Block → Type 0} {m m' : Memory} {present present' : ℕ → Bool} (key : ℕ)
    (held : HeldBlock) → ((b : Block) → is_placed b → is_placed' b) → length m'.bytes ≡ length m.bytes
    → m'.keys ≡ m.keys → present' ≡ present → AreHeld is_placed m present key held
    → AreHeld is_placed' m' present' key held
still_held key held moves s k p h = record {
  fetched = held_still key held.fetched moves s k p h.fetched;
  previous = held_still key held.previous moves s k p h.previous;
  stored = held_still key held.stored moves s k p h.stored;
}

-- a block from which instructions are fetched still is one, where no block moves and no key changes
pub still_fetched : {is_placed is_placed' : Block → Type 0} {m m' : Memory} {present present' : ℕ → Bool}
    (key : ℕ) (block : Block) → (is_placed block → is_placed' block) → length m'.bytes ≡ length m.bytes
    → m'.keys ≡ m.keys → present' ≡ present → IsFetched is_placed m present key block
    → IsFetched is_placed' m' present' key block
still_fetched key block moves s k p h = record {
  low = h.low;
  may_fetch = still_accesses key block.first s k p h.may_fetch;
  placed = moves h.placed;
}

-- A step that says where the next instruction is, was done.
pub stepped_to : (present : ℕ → Bool) (m m' : State) (went : Option ℕ) (next : ℕ) → went ≡ Some next
    → StepsOrStays present m went m' → StepsOrStays present m (Some next) m'
stepped_to present m m' went next e h = subst (λ (o : Option ℕ). StepsOrStays present m o m') e h

-- A step that does not say it, changed nothing.
pub left_out : (present : ℕ → Bool) (m m' : State) (went : Option ℕ) → went ≡ None → StepsOrStays present m went m'
    → m' ≡ m
left_out present m m' went e h = (subst (λ (o : Option ℕ). StepsOrStays present m o m') e h).still

-- Instructions, and one more.
pub and_one_more : (n : ℕ) (first m m' : State) (present : ℕ → Bool) (next : ℕ) → DoesInstructions n first m
    → StepsOrStays present m (Some next) m' → DoesInstructions (n + 1) first m'
and_one_more n first m m' present next before h pending list e =
    let b = before pending list e in
    let step : core_of m' pending list ≡ unit_at (look (core_of m pending list)) (core_of m pending list) =
    rw b.1 (done_unit m m' pending list h.done) in (
      does_more n (core_of first pending list) (core_of m pending list) (core_of m' pending list) b.0
          (subst Goes (sym b.1) tt) step,
      looks_same m m' pending list h.rights ∙ b.1,
    )

-- of those that were left, one fewer
pub and_one_left : (limit left : ℕ) (first m m' : State) (present : ℕ → Bool) (next : ℕ) → 0 < left → left ≤ limit
    → DoesInstructions (limit - left) first m → StepsOrStays present m (Some next) m'
    → DoesInstructions (limit - (left - 1)) first m'
and_one_left limit left first m m' present next some within before h =
    subst (λ (n : ℕ). DoesInstructions n first m') (omega arith)
    (and_one_more (limit - left) first m m' present next before h)

-- Instructions, after which nothing changed.
pub and_no_more : (n : ℕ) (first m m' : State) → DoesInstructions n first m → m' ≡ m → DoesInstructions n first m'
and_no_more n first m m' before same = subst (λ (x : State). DoesInstructions n first x) (sym same) before
