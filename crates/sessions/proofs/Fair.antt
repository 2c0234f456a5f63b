-- The queue and the line of a session go on as calls of the dispatcher, and so they are fair.
use Rattle.std.proofs.Common.{◌≡◌, ◌+◌, ◌⊎◌, inl, inr, ◌&&◌, ℕ, zero, suc, Bool, true, false, eqb, List, [], ◌∷◌, ◌++◌}
use Rattle.std.proofs.Common.{Option, Some, None, refl, ap, sym, ◌∙◌, subst, arith, rules, tests}
use Rattle.std.specs.Prelude.{◌==◌, if◌then◌else◌}
use Rattle.s370_subchannels.specs.Starts.{is_started, works}
use Rattle.s370_subchannels.specs.Subchannels.{next_start}
use Rattle.s370_subchannels.specs.declared.subchannel.Subchannel.{Subchannel}
use Rattle.cp_dispatch.specs.Turns.{IsDealt as IsTurn, StandsWithin, at_end, without}
use Rattle.cp_dispatch.specs.Fairness.{Call, Deal, Come, Go, HasTurn, IsCalls, IsFair, IsReadyThroughout, deals}
use Rattle.cp_dispatch.specs.Policy.{IsFairPolicy, always, is_of, same_program, same_user}
use Rattle.cp_dispatch.specs.declared.program.Program.{Program}
use Rattle.session_script.specs.Script.{EventValue, Run, Serve}
use Rattle.session_script.specs.Users.{has_device}
use Rattle.sessions.specs.Installed.{Installation, Installed, subchannels_at}
use Rattle.sessions.specs.Schedule.{Act, Applies, AreDone, Entry, Answered, Dealt, Idle, IsDone, Passed, Scene, Serves}
use Rattle.sessions.specs.Schedule.{Slices, in_order, is_before, is_joining, is_user_on, joined, line_since, queue_with}
use Rattle.sessions.specs.Schedule.{ready_in, slice_units, started_since, user_said, with_joining, withdrawn}
use Rattle.sessions.specs.Fair.{HasDealt, IsDealt, IsReadyFor, IsWaiting, ServesAreFair, SlicesAreFair, StaysReady}
use Rattle.sessions.specs.Fair.{StaysWaiting, StillWorks, serves, slices}

-- ---- calls one after another

-- calls that one who is in a line lives through, of which so many are deals, each of which says an event where it is
-- his
record Calls {X : Type 0} (same : X → X → Bool) (one : X) (old new : List X) (turns : ℕ) (Has : Type 0) : Type 0 where
  pub calls : List (Call X)
  pub run : IsCalls same old calls new
  pub ready : IsReadyThroughout same one calls
  pub dealt : deals calls ≡ turns
  pub reported : HasTurn one calls → Has

-- he has had his turn, or has lived through calls
abbrev Lived : {X : Type 0} → (X → X → Bool) → X → List X → List X → ℕ → Type 0 → Type 0
Lived same one old new turns Has = Has ⊎ Calls same one old new turns Has

later : {A X : Type 0} (same : X → X → Bool) (one : X) (old new : List X) (turns : ℕ) (Has : Type 0)
    → Lived same one old new turns Has → Lived same one old new turns (A ⊎ Has)
later same one old new turns Has (inl h) = inl (inr h)
later same one old new turns Has (inr c) =
    inr (record { calls = c.calls; run = c.run; ready = c.ready; dealt = c.dealt; reported = λ t. inr (c.reported t) })

none : {X : Type 0} (same : X → X → Bool) (one : X) (old new : List X) → old ≡ new → Lived same one old new 0 ⊥
none same one old new e = inr (record { calls = []; run = e; ready = tt; dealt = refl; reported = λ t. t })

-- the line is another by name alone
by_name : {X : Type 0} (same : X → X → Bool) (one : X) (old mid new : List X) (turns : ℕ) (Has : Type 0) → mid ≡ old
    → Lived same one mid new turns Has → Lived same one old new turns Has
by_name {X} same one old mid new turns Has e h = subst (λ (l : List X). Lived same one l new turns Has) e h

comes : {X : Type 0} (same : X → X → Bool) (one other : X) (old new : List X) (turns : ℕ) (Has : Type 0)
    → same other one ≡ false → Lived same one (at_end (same other) other old) new turns Has
    → Lived same one old new turns Has
comes same one other old new turns Has e (inl h) = inl h
comes same one other old new turns Has e (inr c) =
    inr (record {
      calls = Come other ∷ c.calls;
      run = c.run;
      ready = (e, c.ready);
      dealt = c.dealt;
      reported = c.reported;
    })

goes : {X : Type 0} (same : X → X → Bool) (one other : X) (old new : List X) (turns : ℕ) (Has : Type 0)
    → same other one ≡ false → Lived same one (without (same other) old) new turns Has
    → Lived same one old new turns Has
goes same one other old new turns Has e (inl h) = inl h
goes same one other old new turns Has e (inr c) =
    inr (record {
      calls = Go other ∷ c.calls;
      run = c.run;
      ready = (e, c.ready);
      dealt = c.dealt;
      reported = c.reported;
    })

one_of : {A B C D : Type 0} → (A → C) → (B → D) → A ⊎ B → C ⊎ D
one_of f g (inl a) = inl (f a)
one_of f g (inr b) = inr (g b)

-- one deal more
deals_one : {A X : Type 0} (same : X → X → Bool) (one : X) (is_ready : X → Bool) (taken : Option X)
    (old mid new : List X) (turns : ℕ) (Has : Type 0) → IsTurn is_ready old taken mid → is_ready one ≡ true
    → ((taken ≡ Some one) → A) → Lived same one mid new turns Has → Lived same one old new (turns + 1) (A ⊎ Has)
deals_one same one is_ready taken old mid new turns Has dealt ready reported (inl h) = inl (inr h)
deals_one same one is_ready taken old mid new turns Has dealt ready reported (inr c) = inr (record {
  calls = Deal is_ready taken ∷ c.calls;
  run = (mid, dealt, c.run);
  ready = (ready, c.ready);
  dealt = ap (λ (n : ℕ). n + 1) c.dealt;
  reported = λ t. one_of reported c.reported t;
})

-- who is near enough has had his turn
had : {X : Type 0} (same : X → X → Bool) (one : X) (old new : List X) (turns : ℕ) (Has : Type 0) → IsFair same
    → StandsWithin one old turns → Lived same one old new turns Has → Has
had same one old new turns Has fair near (inl h) = h
had same one old new turns Has fair near (inr c) =
    c.reported (fair one old new c.calls c.run c.ready (subst (StandsWithin one old) (sym c.dealt) near))

-- ---- users

differs : (b : Bool) → (b ≡ true → ⊥) → b ≡ false
differs true h = absurd (h refl)
differs false h = refl

same_number : (u user : ℕ) → (u == user) ≡ true → u ≡ user
same_number u user e = search (rules, tests, e)

-- an event of a user leaves another in the queue, and one who stays on
queue_lived : (u user : ℕ) (was is : Bool) (old new : List ℕ) (turns : ℕ) (Has : Type 0) → (u ≡ user → is ≡ was)
    → Lived same_user user (queue_with u was is old) new turns Has → Lived same_user user old new turns Has
queue_lived u user false false old new turns Has stays h = h
queue_lived u user false true old new turns Has stays h =
    comes same_user user u old new turns Has (differs (same_user u user) (λ e. cc (stays (same_number u user e)))) h
queue_lived u user true false old new turns Has stays h =
    goes same_user user u old new turns Has (differs (same_user u user) (λ e. cc (stays (same_number u user e)))) h
queue_lived u user true true old new turns Has stays h = h

some_same : {X : Type 0} (x y : X) → Some x ≡ Some y → x ≡ y
some_same x y e = cc

-- of an act the users' queue lives through its calls
users_step : {W : Type 0} (i : Installation W) (user : ℕ) (act : Act) (more : List Act) (old next new : Scene W)
    (entry : Entry W) (entries : List (Entry W)) → IsDone i act entry old next → IsReadyFor i user act old next
    → Lived same_user user next.lines.users new.lines.users (slices more) (HasDealt (Run user slice_units) entries)
    → Lived same_user user old.lines.users new.lines.users (slices (act ∷ more))
    (HasDealt (Run user slice_units) (entry ∷ entries))
users_step {W} i user (Applies said) more old next new (Answered step) entries d ready h =
    let u = user_said said in
    let was = is_user_on (i.seen old.world) u in
    let stays : u ≡ user → is_user_on (i.seen step.left) u ≡ was = λ e.
    subst (λ (v : ℕ). is_user_on (i.seen step.left) v ≡ is_user_on (i.seen old.world) v) (sym e)
    (subst (λ (s : Scene W). is_user_on (i.seen s.world) user ≡ is_user_on (i.seen old.world) user) d.left (ready e)) in
    later same_user user old.lines.users new.lines.users (slices more) (HasDealt (Run user slice_units) entries)
    (queue_lived u user was (is_user_on (i.seen step.left) u) old.lines.users new.lines.users (slices more)
    (HasDealt (Run user slice_units) entries) stays
    (by_name same_user user (queue_with u was (is_user_on (i.seen step.left) u) old.lines.users) next.lines.users
    new.lines.users (slices more) (HasDealt (Run user slice_units) entries)
    (ap (λ (s : Scene W). s.lines.users) d.left) h))
users_step i user (Applies said) more old next new (Dealt step) entries d ready h = absurd d
users_step i user (Applies said) more old next new Passed entries d ready h = absurd d
users_step i user (Applies said) more old next new Idle entries d ready h = absurd d
users_step i user Slices more old next new (Answered step) entries d ready h = absurd d
users_step {W} i user Slices more old next new (Dealt step) entries d ready h =
    deals_one same_user user (ready_in (i.seen old.world)) (Some d.user) old.lines.users d.queue new.lines.users
    (slices more) (HasDealt (Run user slice_units) entries) d.dealt ready
    (λ e. d.slice ∙ ap (λ (u : ℕ). Run u slice_units) (some_same d.user user e))
    (by_name same_user user d.queue next.lines.users new.lines.users (slices more)
    (HasDealt (Run user slice_units) entries) (ap (λ (s : Scene W). s.lines.users) d.left) h)
users_step {W} i user Slices more old next new Passed entries d ready h =
    deals_one same_user user (ready_in (i.seen old.world)) None old.lines.users old.lines.users new.lines.users
    (slices more) (HasDealt (Run user slice_units) entries) d.dealt ready
    (λ e. cc e)
    (by_name same_user user old.lines.users next.lines.users new.lines.users (slices more)
    (HasDealt (Run user slice_units) entries) (ap (λ (s : Scene W). s.lines.users) d.left) h)
users_step i user Slices more old next new Idle entries d ready h = absurd d
users_step i user Serves more old next new (Answered step) entries d ready h = absurd d
users_step {W} i user Serves more old next new (Dealt step) entries d ready h =
    later same_user user old.lines.users new.lines.users (slices more) (HasDealt (Run user slice_units) entries)
    (by_name same_user user old.lines.users next.lines.users new.lines.users (slices more)
    (HasDealt (Run user slice_units) entries) (ap (λ (s : Scene W). s.lines.users) d.left) h)
users_step {W} i user Serves more old next new Passed entries d ready h =
    later same_user user old.lines.users new.lines.users (slices more) (HasDealt (Run user slice_units) entries)
    (by_name same_user user old.lines.users next.lines.users new.lines.users (slices more)
    (HasDealt (Run user slice_units) entries) (ap (λ (s : Scene W). s.lines.users) d.left) h)
users_step {W} i user Serves more old next new Idle entries d ready h =
    later same_user user old.lines.users new.lines.users (slices more) (HasDealt (Run user slice_units) entries)
    (by_name same_user user old.lines.users next.lines.users new.lines.users (slices more)
    (HasDealt (Run user slice_units) entries) (ap (λ (s : Scene W). s.lines.users) d.left) h)

users_lived : {W : Type 0} (i : Installation W) (user : ℕ) (all : List Act) (old new : Scene W)
    (entries : List (Entry W)) (done : AreDone i all old entries new) → StaysReady i user all old entries new done
    → Lived same_user user old.lines.users new.lines.users (slices all) (HasDealt (Run user slice_units) entries)
users_lived {W} i user [] old new [] done stays =
    none same_user user old.lines.users new.lines.users (ap (λ (s : Scene W). s.lines.users) (sym done))
users_lived i user [] old new (entry ∷ entries) done stays = absurd done
users_lived i user (act ∷ more) old new [] done stays = absurd done
users_lived i user (act ∷ more) old new (entry ∷ entries) done (inl h) = inl (inl h)
users_lived i user (act ∷ more) old new (entry ∷ entries) done (inr h) =
    users_step i user act more old done.0 new entry entries done.1 h.0
    (users_lived i user more done.0 new entries done.2 h.1)

-- Users are dealt fair slices.
pub slices_are_fair : IsFairPolicy → {W : Type 0} (i : Installation W) → SlicesAreFair i
slices_are_fair fair i user all old new entries done stays near =
    had same_user user old.lines.users new.lines.users (slices all) (HasDealt (Run user slice_units) entries)
    fair.slices near (users_lived i user all old new entries done stays)

-- ---- programs

no_and : (a b : Bool) → (a ≡ true → b ≡ false) → (a && b) ≡ false
no_and false b h = refl
no_and true b h = h refl

both_true : (a b : Bool) → (a && b) ≡ true → a ≡ true
both_true true b e = refl
both_true false b e = cc e

-- a program of none of these devices of a user
abbrev AreOthers : ℕ → Program → List Subchannel → Type 0
AreOthers u program [] = Unit {0}
AreOthers u program (d ∷ ds) = (is_of u d.address program ≡ false) × AreOthers u program ds

-- where it is of this user, its device works on
abbrev Stays : ℕ → Program → ℕ → List Subchannel → Type 0
Stays u program number ds = (program.user == u) ≡ true → StillWorks program.device number ds

rest_stays : (u : ℕ) (program : Program) (number : ℕ) (d : Subchannel) (ds : List Subchannel)
    → Stays u program number (d ∷ ds) → Stays u program number ds
rest_stays u program number d ds h = λ e. (h e).1

-- a device that does not work, or was started since, is another
other_idle : (u : ℕ) (program : Program) (number : ℕ) (d : Subchannel) (ds : List Subchannel)
    → Stays u program number (d ∷ ds) → works d.state ≡ false → is_of u d.address program ≡ false
other_idle u program number d ds h idle =
    no_and (program.user == u) (program.device == d.address)
    (λ e. differs (program.device == d.address) (λ f. cc (((h e).0 f).0, idle)))

other_started : (u : ℕ) (program : Program) (number : ℕ) (d : Subchannel) (ds : List Subchannel)
    → Stays u program number (d ∷ ds) → is_started number d ≡ true → is_of u d.address program ≡ false
other_started u program number d ds h started =
    no_and (program.user == u) (program.device == d.address)
    (λ e. differs (program.device == d.address) (λ f. cc (((h e).0 f).1, started)))

withdrawn_one : (u : ℕ) (program : Program) (d : Subchannel) (b : Bool) (line new : List Program) (turns : ℕ)
    (Has : Type 0) → (b ≡ false → is_of u d.address program ≡ false)
    → Lived same_program program (if b then line else without (is_of u d.address) line) new turns Has
    → Lived same_program program line new turns Has
withdrawn_one u program d true line new turns Has other h = h
withdrawn_one u program d false line new turns Has other h =
    goes same_program program (record { user = u; device = d.address }) line new turns Has (other refl) h

withdrawn_lived : (u : ℕ) (program : Program) (number : ℕ) (ds : List Subchannel) (line new : List Program) (turns : ℕ)
    (Has : Type 0) → Stays u program number ds
    → Lived same_program program (withdrawn u ds line) new turns Has → Lived same_program program line new turns Has
withdrawn_lived u program number [] line new turns Has stays h = h
withdrawn_lived u program number (d ∷ ds) line new turns Has stays h =
    withdrawn_one u program d (works d.state) line new turns Has (other_idle u program number d ds stays)
    (withdrawn_lived u program number ds (if works d.state then line else without (is_of u d.address) line) new turns
    Has (rest_stays u program number d ds stays) h)

joined_lived : (u : ℕ) (program : Program) (ds : List Subchannel) (line new : List Program) (turns : ℕ) (Has : Type 0)
    → AreOthers u program ds
    → Lived same_program program (joined u ds line) new turns Has → Lived same_program program line new turns Has
joined_lived u program [] line new turns Has others h = h
joined_lived u program (d ∷ ds) line new turns Has others h =
    comes same_program program (record { user = u; device = d.address }) line new turns Has others.0
    (joined_lived u program ds (at_end (is_of u d.address) (record { user = u; device = d.address }) line) new turns Has
    others.1 h)

others_if : (u : ℕ) (program : Program) (b : Bool) (one other : List Subchannel) → (b ≡ true → AreOthers u program one)
    → AreOthers u program other → AreOthers u program (if b then one else other)
others_if u program true one other h k = h refl
others_if u program false one other h k = k

in_order_others : (u : ℕ) (program : Program) (d : Subchannel) (ds : List Subchannel)
    → is_of u d.address program ≡ false → AreOthers u program ds → AreOthers u program (in_order d ds)
in_order_others u program d [] e h = (e, tt)
in_order_others u program d (x ∷ xs) e h =
    others_if u program (is_before d x) (d ∷ x ∷ xs) (x ∷ in_order d xs) (λ _. (e, h))
    (h.0, in_order_others u program d xs e h.1)

joining_others : (s : Installed) (u number : ℕ) (program : Program) (sorted ds : List Subchannel)
    → AreOthers u program sorted → Stays u program number ds → AreOthers u program (with_joining s u number sorted ds)
joining_others s u number program sorted [] h stays = h
joining_others s u number program sorted (d ∷ ds) h stays =
    joining_others s u number program (if is_joining s u number d then in_order d sorted else sorted) ds
    (others_if u program (is_joining s u number d) (in_order d sorted) sorted
    (λ e. in_order_others u program d sorted
    (other_started u program number d ds stays (both_true (is_started number d) (has_device s.users u d.address) e))
    h) h)
    (rest_stays u program number d ds stays)

-- where a machine has gone on, a program that waits on lives through what is withdrawn and started
line_lived : (s : Installed) (u number : ℕ) (program : Program) (line new : List Program) (turns : ℕ) (Has : Type 0)
    → Stays u program number (subchannels_at s u)
    → Lived same_program program (line_since s u number line) new turns Has
    → Lived same_program program line new turns Has
line_lived s u number program line new turns Has stays h =
    let ds = subchannels_at s u in
    withdrawn_lived u program number ds line new turns Has stays
    (joined_lived u program (started_since s u number) (withdrawn u ds line) new turns Has
    (joining_others s u number program [] ds tt stays) h)

-- an act has left it waiting
stays_of : {W : Type 0} (i : Installation W) (program : Program) (u : ℕ) (old next : Scene W) (left : W)
    → next.world ≡ left → IsWaiting i program old next
    → Stays u program (next_start (subchannels_at (i.seen old.world) u)) (subchannels_at (i.seen left) u)
stays_of {W} i program u old next left is h = λ e.
    let user : program.user ≡ u = same_number program.user u e in
    subst (λ (v : ℕ). StillWorks program.device (next_start (subchannels_at (i.seen old.world) v))
    (subchannels_at (i.seen left) v)) user
    (subst (λ (w : W). StillWorks program.device (next_start (subchannels_at (i.seen old.world) program.user))
    (subchannels_at (i.seen w) program.user)) is h)

programs_step : {W : Type 0} (i : Installation W) (program : Program) (act : Act) (more : List Act)
    (old next new : Scene W) (entry : Entry W) (entries : List (Entry W)) → IsDone i act entry old next
    → IsWaiting i program old next
    → Lived same_program program next.lines.programs new.lines.programs (serves more)
    (HasDealt (Serve program.user program.device) entries)
    → Lived same_program program old.lines.programs new.lines.programs (serves (act ∷ more))
    (HasDealt (Serve program.user program.device) (entry ∷ entries))
programs_step {W} i program (Applies said) more old next new (Answered step) entries d waits h =
    let u = user_said said in
    let s = i.seen step.left in
    let number = next_start (subchannels_at (i.seen old.world) u) in
    let Has = HasDealt {W = W} (Serve program.user program.device) entries in
    later same_program program old.lines.programs new.lines.programs (serves more) Has
    (line_lived s u number program old.lines.programs new.lines.programs (serves more) Has
    (stays_of i program u old next step.left (ap (λ (z : Scene W). z.world) d.left) waits)
    (by_name same_program program (line_since s u number old.lines.programs) next.lines.programs new.lines.programs
    (serves more) Has (ap (λ (z : Scene W). z.lines.programs) d.left) h))
programs_step i program (Applies said) more old next new (Dealt step) entries d waits h = absurd d
programs_step i program (Applies said) more old next new Passed entries d waits h = absurd d
programs_step i program (Applies said) more old next new Idle entries d waits h = absurd d
programs_step i program Slices more old next new (Answered step) entries d waits h = absurd d
programs_step {W} i program Slices more old next new (Dealt step) entries d waits h =
    let s = i.seen step.left in
    let number = next_start (subchannels_at (i.seen old.world) d.user) in
    let Has = HasDealt {W = W} (Serve program.user program.device) entries in
    later same_program program old.lines.programs new.lines.programs (serves more) Has
    (line_lived s d.user number program old.lines.programs new.lines.programs (serves more) Has
    (stays_of i program d.user old next step.left (ap (λ (z : Scene W). z.world) d.left) waits)
    (by_name same_program program (line_since s d.user number old.lines.programs) next.lines.programs new.lines.programs
    (serves more) Has (ap (λ (z : Scene W). z.lines.programs) d.left) h))
programs_step {W} i program Slices more old next new Passed entries d waits h =
    let Has = HasDealt {W = W} (Serve program.user program.device) entries in
    later same_program program old.lines.programs new.lines.programs (serves more) Has
    (by_name same_program program old.lines.programs next.lines.programs new.lines.programs (serves more) Has
    (ap (λ (z : Scene W). z.lines.programs) d.left) h)
programs_step i program Slices more old next new Idle entries d waits h = absurd d
programs_step i program Serves more old next new (Answered step) entries d waits h = absurd d
programs_step {W} i program Serves more old next new (Dealt step) entries d waits h =
    let s = i.seen step.left in
    let u = d.program.user in
    let number = next_start (subchannels_at (i.seen old.world) u) in
    let Has = HasDealt {W = W} (Serve program.user program.device) entries in
    deals_one same_program program always (Some d.program) old.lines.programs d.turned new.lines.programs (serves more)
    Has d.dealt refl
    (λ e. d.served ∙ ap (λ (p : Program). Serve p.user p.device) (some_same d.program program e))
    (line_lived s u number program d.turned new.lines.programs (serves more) Has
    (stays_of i program u old next step.left (ap (λ (z : Scene W). z.world) d.left) waits)
    (by_name same_program program (line_since s u number d.turned) next.lines.programs new.lines.programs (serves more)
    Has (ap (λ (z : Scene W). z.lines.programs) d.left) h))
programs_step {W} i program Serves more old next new Passed entries d waits h =
    let Has = HasDealt {W = W} (Serve program.user program.device) entries in
    deals_one same_program program always None old.lines.programs old.lines.programs new.lines.programs (serves more)
    Has d.dealt refl (λ e. cc e)
    (by_name same_program program old.lines.programs next.lines.programs new.lines.programs (serves more) Has
    (ap (λ (z : Scene W). z.lines.programs) d.left) h)
programs_step {W} i program Serves more old next new Idle entries d waits h =
    let Has = HasDealt {W = W} (Serve program.user program.device) entries in
    deals_one same_program program always None old.lines.programs old.lines.programs new.lines.programs (serves more)
    Has d.dealt refl (λ e. cc e)
    (by_name same_program program old.lines.programs next.lines.programs new.lines.programs (serves more) Has
    (ap (λ (z : Scene W). z.lines.programs) d.left) h)

programs_lived : {W : Type 0} (i : Installation W) (program : Program) (all : List Act) (old new : Scene W)
    (entries : List (Entry W)) (done : AreDone i all old entries new) → StaysWaiting i program all old entries new done
    → Lived same_program program old.lines.programs new.lines.programs (serves all)
    (HasDealt (Serve program.user program.device) entries)
programs_lived {W} i program [] old new [] done stays =
    none same_program program old.lines.programs new.lines.programs (ap (λ (s : Scene W). s.lines.programs) (sym done))
programs_lived i program [] old new (entry ∷ entries) done stays = absurd done
programs_lived i program (act ∷ more) old new [] done stays = absurd done
programs_lived i program (act ∷ more) old new (entry ∷ entries) done (inl h) = inl (inl h)
programs_lived i program (act ∷ more) old new (entry ∷ entries) done (inr h) =
    programs_step i program act more old done.0 new entry entries done.1 h.0
    (programs_lived i program more done.0 new entries done.2 h.1)

-- Programs are served fairly.
pub serves_are_fair : IsFairPolicy → {W : Type 0} (i : Installation W) → ServesAreFair i
serves_are_fair fair i program all old new entries done stays near =
    had same_program program old.lines.programs new.lines.programs (serves all)
    (HasDealt (Serve program.user program.device) entries) fair.serves near
    (programs_lived i program all old new entries done stays)
