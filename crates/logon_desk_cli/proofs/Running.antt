-- Events that happen one after another.
use Rattle.std.proofs.Common.{◌≡◌, ℕ, ◌+◌, ◌-◌, ◌<◌, ◌≤◌, suc, zero, Bool, true, false, cond, List, [], ◌∷◌, ◌++◌}
use Rattle.std.proofs.Common.{length, refl, ap, sym, ◌∙◌, arith, subst}
use Rattle.std.proofs.lemmas.List.{append_assoc, append-nil, get_or_past}
use Rattle.logon_desk.specs.Connection.{gone}
use Rattle.logon_desk.specs.Desk.{Desk, Does, Event, IsStep, Step, Takes, Wakes, connection_at, quietly, step}
use Rattle.logon_desk.specs.Desk.{wake_by}
use Rattle.logon_desk.specs.declared.connection.Connection.{Connection}
use Rattle.logon_desk.specs.declared.output.DeskAction.{DeskAction}
use Rattle.logon_desk.specs.History.{after}
use Rattle.logon_desk_cli.specs.Histories.{onto}
use Rattle.logon_desk_cli.specs.Answered.{AreEvents}
use Rattle.logon_desk_cli.specs.declared.frame.Frame.{Frame}
use Rattle.logon_desk_cli.specs.Events.{MakesRoomFor, all_served, given, run, served, served_from, takes, takes_next}

pub run-desk : (d : Desk) (first second : List Event) → (run d (first ++ second)).desk
    ≡ (run (run d first).desk second).desk
run-desk d [] second = refl
run-desk d (event ∷ first) second = run-desk (step d event).desk first second

pub run-outputs : (d : Desk) (first second : List Event)
    → (run d (first ++ second)).outputs ≡ (run d first).outputs ++ (run (run d first).desk second).outputs
run-outputs d [] second = refl
run-outputs d (event ∷ first) second =
    ap (λ (more : List DeskAction). (step d event).outputs ++ more) (run-outputs (step d event).desk first second)
    ∙ sym (append_assoc (step d event).outputs (run (step d event).desk first).outputs
    (run (run (step d event).desk first).desk second).outputs)

-- some events, and then others
pub does-then : (d : Desk) (first second : List Event) (before between after : List DeskAction) (e new : Desk)
    → Does (run d first) before e between → Does (run e second) between new after → Does (run d (first ++ second))
    before new after
does-then d first second before between after e new one two =
    let desk-is : new ≡ (run d (first ++ second)).desk = cc (run-desk d first second, one.0, two.0) in
    let outputs-are : after ≡ before ++ (run d (first ++ second)).outputs =
    cc (
      run-outputs d first second,
      one.0,
      one.1,
      two.1,
      append_assoc before (run d first).outputs (run (run d first).desk second).outputs,
    ) in
    (desk-is, outputs-are)

-- An event that the desk does is a history of one event.
pub does-one : (d : Desk) (event : Event) (before after : List DeskAction) (new : Desk)
    → IsStep d event before new after → Does (run d (event ∷ [])) before new after
does-one d event before after new is =
    (is.0, is.1 ∙ ap (λ (more : List DeskAction). before ++ more) (sym (append-nil (step d event).outputs)))

pub does-nothing : (d : Desk) (out : List DeskAction) → Does (run d []) out d out
does-nothing d out = (refl, sym (append-nil out))

-- where the rest of the events happens, the whole has been done
abbrev pub Leads : Step → List DeskAction → Desk → List DeskAction → List Event → Type 0
Leads whole before d out rest = ((run d rest).desk ≡ whole.desk)
    × (out ++ (run d rest).outputs ≡ before ++ whole.outputs)

pub leads-on : (whole : Step) (before out after : List DeskAction) (d new : Desk) (here rest : List Event)
    → Leads whole before d out (here ++ rest) → Does (run d here) out new after → Leads whole before new after rest
leads-on whole before out after d new here rest leads does =
    let desk-is : (run new rest).desk ≡ whole.desk = cc (run-desk d here rest, leads.0, does.0) in
    let outputs-are : after ++ (run new rest).outputs ≡ before ++ whole.outputs =
    cc (
      run-outputs d here rest,
      leads.1,
      does.0,
      does.1,
      append_assoc out (run d here).outputs (run (run d here).desk rest).outputs,
    ) in
    (desk-is, outputs-are)

pub leads-end : (whole : Step) (before out : List DeskAction) (d : Desk) → Leads whole before d out []
    → Does whole before d
    out
leads-end whole before out d leads = (leads.0, sym (append-nil out) ∙ leads.1)

-- bytes that are taken at a place

takes-yes : (most : ℕ) (d : Desk) (c now : ℕ) → takes_next d c ≡ true
    → takes (suc most) d c now ≡ Takes c now ∷ takes most (step d (Takes c now)).desk c now
unfolding takes
takes-yes most d c now is =
    ap (λ (b : Bool). cond b (Takes c now ∷ takes most (step d (Takes c now)).desk c now) []) is

takes-no : (most : ℕ) (d : Desk) (c now : ℕ) → takes_next d c ≡ false → takes most d c now ≡ []
unfolding takes
takes-no zero d c now is = refl
takes-no (suc most) d c now is =
    ap (λ (b : Bool). cond b (Takes c now ∷ takes most (step d (Takes c now)).desk c now) []) is

takes-none : (d : Desk) (c now : ℕ) → takes zero d c now ≡ []
unfolding takes
takes-none d c now = refl

-- A byte that is taken, and the rest of the turn, are the whole turn.
pub taken-more : (whole : Step) (before out after : List DeskAction) (d new : Desk) (most i c now : ℕ) → i < most
    → takes_next d c ≡ true
    → Leads whole before d out (takes (most - i) d c now) → IsStep d (Takes c now) out new after
    → Leads whole before new after (takes (most - (i + 1)) new c now)
taken-more whole before out after d new most i c now inside takes-one leads is =
    let fewer : most - i ≡ suc (most - (i + 1)) = omega arith in
    let rest : List Event = takes (most - (i + 1)) (step d (Takes c now)).desk c now in
    let same : takes (most - i) d c now ≡ (Takes c now ∷ []) ++ rest =
    ap (λ (n : ℕ). takes n d c now) fewer ∙ takes-yes (most - (i + 1)) d c now takes-one in
    let on : Leads whole before new after rest =
    leads-on whole before out after d new (Takes c now ∷ []) rest
    (subst (λ (events : List Event). Leads whole before d out events) same leads)
    (does-one d (Takes c now) out after new is) in
    subst (λ (e : Desk). Leads whole before new after (takes (most - (i + 1)) e c now)) (sym is.0) on

-- A turn ends where nothing more may be taken.
pub taken-stop : (whole : Step) (before out : List DeskAction) (d : Desk) (most c now : ℕ) → takes_next d c ≡ false
    → Leads whole before d out (takes most d c now) → Does whole before d out
taken-stop whole before out d most c now stops leads =
    leads-end whole before out d
    (subst (λ (events : List Event). Leads whole before d out events) (takes-no most d c now stops) leads)

-- A turn ends after its most bytes.
pub taken-end : (whole : Step) (before out : List DeskAction) (d : Desk) (left c now : ℕ) → left ≡ 0
    → Leads whole before d out (takes left d c now) → Does whole before d out
taken-end whole before out d left c now none leads =
    leads-end whole before out d
    (subst (λ (events : List Event). Leads whole before d out events)
    (ap (λ (n : ℕ). takes n d c now) none ∙ takes-none d c now) leads)

-- places that are served

-- nothing is due at a place that the desk has not
pub wakes-nowhere : (d : Desk) (c now : ℕ) (out : List DeskAction) → length d.connections ≤ c
    → IsStep d (Wakes c now) out d
    out
wakes-nowhere d c now out past =
    let none : connection_at d c ≡ gone = get_or_past d.connections c gone past in
    let quiet : step d (Wakes c now) ≡ quietly d = ap (λ (x : Connection). wake_by d c x x.stage now) none in
    (ap (λ (s : Step). s.desk) (sym quiet), sym (append-nil out) ∙ ap (λ (s : Step). out ++ s.outputs) (sym quiet))

served-first : (places : ℕ) (d : Desk) (c now : ℕ)
    → served_from (suc places) d c now ≡ served d c now ++ served_from places (run d (served d c now)).desk (c + 1) now
unfolding served_from
served-first places d c now = refl

served-none : (d : Desk) (c now : ℕ) → served_from zero d c now ≡ []
unfolding served_from
served-none d c now = refl

-- A place that is served, and the rest of the places, are the whole round.
pub served-more : (whole : Step) (before out after : List DeskAction) (d new : Desk) (places c now : ℕ) → c < places
    → Leads whole before d out (served_from (places - c) d c now) → Does (run d (served d c now)) out new after
    → Leads whole before new after (served_from (places - (c + 1)) new (c + 1) now)
served-more whole before out after d new places c now inside leads does =
    let fewer : places - c ≡ suc (places - (c + 1)) = omega arith in
    let rest : List Event = served_from (places - (c + 1)) (run d (served d c now)).desk (c + 1) now in
    let same : served_from (places - c) d c now ≡ served d c now ++ rest =
    ap (λ (n : ℕ). served_from n d c now) fewer ∙ served-first (places - (c + 1)) d c now in
    let on : Leads whole before new after rest =
    leads-on whole before out after d new (served d c now) rest
    (subst (λ (events : List Event). Leads whole before d out events) same leads) does in
    subst (λ (e : Desk). Leads whole before new after (served_from (places - (c + 1)) e (c + 1) now)) (sym does.0) on

-- A round ends after its last place.
pub served-end : (whole : Step) (before out : List DeskAction) (d : Desk) (left c now : ℕ) → left ≡ 0
    → Leads whole before d out (served_from left d c now) → Does whole before d out
served-end whole before out d left c now none leads =
    leads-end whole before out d
    (subst (λ (events : List Event). Leads whole before d out events)
    (ap (λ (n : ℕ). served_from n d c now) none ∙ served-none d c now) leads)

-- room is made for a frame, its event happens, and all places are served
pub events-of : (d roomy given-to new : Desk) (now : ℕ) (frame : Frame) (before first between after : List DeskAction)
    → (room : List Event) × MakesRoomFor d frame room × Does (run d room) before roomy first
    → Does (run roomy (given roomy now frame)) first given-to between
    → Does (run given-to (all_served given-to now)) between new after
    → (events : List Event) × AreEvents d now frame events × Does (run d events) before new after
events-of d roomy given-to new now frame before first between after made gives serves =
    let room : List Event = made.0 in
    let gives-there : Does (run roomy (given (run d room).desk now frame)) first given-to between =
    subst (λ (e : Desk). Does (run roomy (given e now frame)) first given-to between) made.2.0 gives in
    let start : List Event = room ++ given (run d room).desk now frame in
    let started : Does (run d start) before given-to between =
    does-then d room (given (run d room).desk now frame) before first between roomy given-to made.2 gives-there in
    let serves-there : Does (run given-to (all_served (run d start).desk now)) between new after =
    subst (λ (e : Desk). Does (run given-to (all_served e now)) between new after) started.0 serves in
    let events : List Event = start ++ all_served (run d start).desk now in
    let are : AreEvents d now frame events =
    record { room = room; makes_room = made.1; first = start; is_given = refl; happen = refl } in (
      events,
      are,
      does-then d start (all_served (run d start).desk now) before between after given-to new started
          serves-there,
    )

-- The events of a line are appended to the history before it.
pub is-history : (d : Desk) (earlier events : List Event)
    → (run (after d earlier) events).desk ≡ after d (onto events earlier)
is-history d earlier [] = refl
is-history d earlier (event ∷ more) = is-history d (event ∷ earlier) more
