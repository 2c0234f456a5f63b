-- The serve queue of a session has the programs of the devices that work, each once, whatever is done.
use Rattle.std.proofs.Common.{◌≡◌, ◌∙◌, ◌<◌, ◌≤◌, ◌&&◌, ◌||◌, ◌⊎◌, inl, inr, ℕ, zero, suc, Bool, true, false, not, eqb}
use Rattle.std.proofs.Common.{List, [], ◌∷◌, Option, Some, None, length, map, refl, sym, ap, subst, arith}
use Rattle.std.specs.Prelude.{◌==◌, if◌then◌else◌, nat_le, nat_lt}
use Rattle.std.specs.List.{list_any}
use Rattle.std.proofs.lemmas.Bool.{cases_lt}
use Rattle.std.proofs.lemmas.Bool.Decides.{eqb_tells, nat_tests}
use Rattle.std.proofs.lemmas.List.{get_or_past, length-map}
use Rattle.s370_subchannels.specs.Starts.{is_started, works}
use Rattle.s370_subchannels.specs.Subchannels.{AreAbove, AreAscending, found, next_start}
use Rattle.s370_subchannels.specs.declared.subchannel.Subchannel.{Subchannel}
use Rattle.cp_dispatch.specs.Policy.{HasJust, IsFairPolicy, always, is_of, same_program}
use Rattle.cp_dispatch.specs.Turns.{at_end, without}
use Rattle.cp_dispatch.specs.declared.program.Program.{Program}
use Rattle.cp_dispatch.proofs.Who.{Tells, came, dealt, nobody, stays, went}
use Rattle.machine_devices.specs.Working.{AllWorkSince, WorksSince}
use Rattle.machine_devices.specs.declared.reply.Reply.{Reply}
use Rattle.session_script.specs.Script.{EventValue, Run, Serve}
use Rattle.session_script.specs.Users.{KnownUser, has_device}
use Rattle.sessions.specs.Installed.{Installation, Installed, subchannels_at}
use Rattle.sessions.specs.Queued.{BeginsWithWhatWorks, KeepsWhatWorks, ServeQueueIsWhatWorks, ServesReachAll}
use Rattle.sessions.specs.Queued.{StartsItsOwn, is_at_work, is_working}
use Rattle.sessions.specs.Fair.{serves}
use Rattle.sessions.specs.Schedule.{Act, Applies, AreDone, Entry, Answered, Dealt, Idle, IsDone, Passed, Scene, Serves}
use Rattle.sessions.specs.Schedule.{Slices, first_line, in_order, is_before, is_joining, joined, line_after, line_since}
use Rattle.sessions.specs.Schedule.{slice_units, started_since, user_said, with_joining, withdrawn}
use Rattle.sessions.proofs.Fair.{serves_are_fair}
use Rattle.sessions.proofs.Queued.{stands_within}

-- ---- programs

one_program : (p q : Program) → q.user ≡ p.user → q.device ≡ p.device → p ≡ q
one_program p q u d =
    ap (λ (user : ℕ). record { user = user; device = p.device }) (sym u)
    ∙ ap (λ (device : ℕ). record { user = q.user; device = device }) (sym d)

program_tells : Tells same_program
program_tells p q = elim (eqb_tells q.user p.user) [
  | inl user ↦ elim (eqb_tells q.device p.device) [
    | inl device ↦ inl (rw (user.0, device.0) refl, one_program p q user.1 device.1)
    | inr not ↦ inr (rw (user.0, not.0) refl, λ e. not.1 (sym (ap (λ (r : Program). r.device) e)))
  ]
  | inr not ↦ inr (rw not.0 refl, λ e. not.1 (sym (ap (λ (r : Program). r.user) e)))
]

-- the program of a device of a user
abbrev of_device : ℕ → Subchannel → Program
of_device user d = record { user = user; device = d.address }

itself : (p : Program) → same_program p p ≡ true
itself p = elim (program_tells p p) [
  | inl is ↦ is.0
  | inr not ↦ absurd (not.1 refl)
]

-- ---- what is withdrawn

-- the program is of a device of the user that is such
abbrev is_such : (Subchannel → Bool) → ℕ → List Subchannel → Program → Bool
is_such such user ds p = list_any (λ d. such d && same_program (of_device user d) p) ds

abbrev is_idle : Subchannel → Bool
is_idle d = not (works d.state)

-- those who were there, but for these
abbrev but : (Program → Bool) → (Program → Bool) → Program → Bool
but was gone p = was p && not (gone p)

and_none : (b : Bool) → (b && false) ≡ false
and_none true = refl
and_none false = refl

and_all : (b : Bool) → (b && true) ≡ b
and_all true = refl
and_all false = refl

but_twice : (a b c : Bool) → (a && not (b || c)) ≡ ((a && not b) && not c)
but_twice true true c = refl
but_twice true false c = refl
but_twice false b c = refl

withdrawn_one : (b : Bool) (user : ℕ) (d : Subchannel) (was : Program → Bool) (line : List Program) → works d.state ≡ b
    → HasJust same_program was line
    → HasJust same_program (but was (λ p. is_idle d && same_program (of_device user d) p))
    (if b then line else without (is_of user d.address) line)
withdrawn_one true user d was line e h =
    stays same_program program_tells was _ line (λ p. rw e (and_all (was p))) h
withdrawn_one false user d was line e h =
    let one = of_device user d in
    went same_program program_tells was _ one line (rw (e, itself one) (and_none (was one)))
    (λ p other. elim (program_tells one p) [
      | inl is ↦ absurd (other (sym is.1))
      | inr not ↦ rw (e, not.0) (and_all (was p))
    ]) h

withdrawn_all : (user : ℕ) (ds : List Subchannel) (was : Program → Bool) (line : List Program)
    → HasJust same_program was line
    → HasJust same_program (but was (is_such is_idle user ds)) (withdrawn user ds line)
withdrawn_all user [] was line h = stays same_program program_tells was _ line (λ p. and_all (was p)) h
withdrawn_all user (d ∷ ds) was line h =
    let one : Program → Bool = λ p. is_idle d && same_program (of_device user d) p in
    let next = if works d.state then line else without (is_of user d.address) line in
    stays same_program program_tells (but (but was one) (is_such is_idle user ds)) _ (withdrawn user ds next)
    (λ p. but_twice (was p) (one p) (is_such is_idle user ds p))
    (withdrawn_all user ds (but was one) next (withdrawn_one (works d.state) user d was line refl h))

-- ---- what joins

-- those who were there, and these
abbrev and_these : (Program → Bool) → (Program → Bool) → Program → Bool
and_these was more p = was p || more p

or_none : (b : Bool) → (b || false) ≡ b
or_none true = refl
or_none false = refl

or_all : (b : Bool) → (b || true) ≡ true
or_all true = refl
or_all false = refl

or_twice : (a b c : Bool) → (a || (b || c)) ≡ ((a || b) || c)
or_twice true b c = refl
or_twice false b c = refl

-- the program is of one of these devices of the user
abbrev is_one_of : ℕ → List Subchannel → Program → Bool
is_one_of user ds p = list_any (λ d. same_program (of_device user d) p) ds

joined_all : (user : ℕ) (ds : List Subchannel) (was : Program → Bool) (line : List Program)
    → HasJust same_program was line
    → HasJust same_program (and_these was (is_one_of user ds)) (joined user ds line)
joined_all user [] was line h = stays same_program program_tells was _ line (λ p. or_none (was p)) h
joined_all user (d ∷ ds) was line h =
    let one = of_device user d in
    let more : Program → Bool = and_these was (same_program one) in
    let next = at_end (same_program one) one line in
    let joins : HasJust same_program more next =
    came same_program program_tells was more one line (rw (itself one) (or_all (was one)))
    (λ p other. elim (program_tells one p) [
      | inl is ↦ absurd (other (sym is.1))
      | inr not ↦ rw not.0 (or_none (was p))
    ]) h in
    stays same_program program_tells (and_these more (is_one_of user ds)) _ (joined user ds next)
    (λ p. or_twice (was p) (same_program one p) (is_one_of user ds p))
    (joined_all user ds more next joins)

any_if : (b : Bool) (q : Subchannel → Bool) (one other : List Subchannel) (t : Bool) → list_any q one ≡ t
    → list_any q other ≡ t → list_any q (if b then one else other) ≡ t
any_if true q one other t e f = e
any_if false q one other t e f = f

exchanged : (a b c : Bool) → (a || (b || c)) ≡ (b || (a || c))
exchanged true true c = refl
exchanged true false c = refl
exchanged false b c = refl

any_in_order : (q : Subchannel → Bool) (d : Subchannel) (xs : List Subchannel)
    → list_any q (in_order d xs) ≡ (q d || list_any q xs)
any_in_order q d [] = refl
any_in_order q d (x ∷ xs) =
    any_if (is_before d x) q (d ∷ x ∷ xs) (x ∷ in_order d xs) (q d || (q x || list_any q xs)) refl
    (ap (λ (b : Bool). q x || b) (any_in_order q d xs) ∙ exchanged (q x) (q d) (list_any q xs))

joining_one : (b : Bool) (q : Subchannel → Bool) (d : Subchannel) (sorted : List Subchannel)
    → list_any q (if b then in_order d sorted else sorted) ≡ (list_any q sorted || (b && q d))
joining_one true q d sorted = any_in_order q d sorted ∙ swapped (q d) (list_any q sorted)
  where
    swapped : (a b : Bool) → (a || b) ≡ (b || a)
    swapped true true = refl
    swapped true false = refl
    swapped false true = refl
    swapped false false = refl
joining_one false q d sorted = sym (or_none (list_any q sorted))

any_joining : (s : Installed) (user number : ℕ) (q : Subchannel → Bool) (sorted ds : List Subchannel)
    → list_any q (with_joining s user number sorted ds)
    ≡ (list_any q sorted || list_any (λ d. is_joining s user number d && q d) ds)
any_joining s user number q sorted [] = sym (or_none (list_any q sorted))
any_joining s user number q sorted (d ∷ ds) =
    let joins = is_joining s user number d in
    let more = list_any (λ d. is_joining s user number d && q d) ds in
    any_joining s user number q (if joins then in_order d sorted else sorted) ds
    ∙ (ap (λ (b : Bool). b || more) (joining_one joins q d sorted)
    ∙ sym (or_twice (list_any q sorted) (joins && q d) more))

-- ---- the line where a machine has gone on

-- those who were in the line, without those that do not work, and with those that have joined it
abbrev since : Installed → ℕ → ℕ → (Program → Bool) → Program → Bool
since s user number was p = (was p && not (is_such is_idle user (subchannels_at s user) p))
    || is_such (is_joining s user number) user (subchannels_at s user) p

since_all : (s : Installed) (user number : ℕ) (was : Program → Bool) (line : List Program)
    → HasJust same_program was line → HasJust same_program (since s user number was) (line_since s user number line)
since_all s user number was line h =
    let ds = subchannels_at s user in
    let left = but was (is_such is_idle user ds) in
    let started = started_since s user number in
    stays same_program program_tells (and_these left (is_one_of user started)) _ (line_since s user number line)
    (λ p. ap (λ (b : Bool). left p || b)
    (sym (any_joining s user number (λ d. same_program (of_device user d) p) [] ds)))
    (joined_all user started left (withdrawn user ds line) (withdrawn_all user ds was line h))

-- ---- the program of another user

none_such : (such : Subchannel → Bool) (user : ℕ) (p : Program) → (p.user == user) ≡ false → (ds : List Subchannel)
    → is_such such user ds p ≡ false
none_such such user p e [] = refl
none_such such user p e (d ∷ ds) = rw (e, none_such such user p e ds) (or_none (such d && false) ∙ and_none (such d))

since_other : (s : Installed) (user number : ℕ) (was : Program → Bool) (p : Program) → (p.user == user) ≡ false
    → since s user number was p ≡ was p
since_other s user number was p e =
    let ds = subchannels_at s user in
    rw (none_such is_idle user p e ds, none_such (is_joining s user number) user p e ds)
    (or_none (was p && true) ∙ and_all (was p))

-- ---- the device of this address

-- what is said of the device that was found
abbrev of_found : (Subchannel → Bool) → Option Subchannel → Bool
of_found such None = false
of_found such (Some s) = such s

none_above : (such : Subchannel → Bool) (device low : ℕ) (ds : List Subchannel) → device ≤ low → AreAbove low ds
    → list_any (λ d. such d && (device == d.address)) ds ≡ false
none_above such device low [] h a = refl
none_above such device low (d ∷ ds) h a =
    let other : (device == d.address) ≡ false = grind (arith, nat_tests, h, a.0) in
    rw (other, none_above such device d.address ds (omega (arith, h, a.0)) a.1)
    (or_none (such d && false) ∙ and_none (such d))

rest_ascends : (low : ℕ) (ds : List Subchannel) → AreAbove low ds → AreAscending ds
rest_ascends low [] a = tt
rest_ascends low (d ∷ ds) a = a.1

found_by : (b : Bool) (such : Subchannel → Bool) (device : ℕ) (d : Subchannel) (ds : List Subchannel)
    → (d.address == device) ≡ b → AreAbove d.address ds
    → list_any (λ d. such d && (device == d.address)) ds ≡ of_found such (found device ds)
    → ((such d && (device == d.address)) || list_any (λ d. such d && (device == d.address)) ds)
    ≡ of_found such (if b then Some d else found device ds)
found_by true such device d ds e a h =
    let here : (device == d.address) ≡ true = grind (arith, nat_tests, e) in
    let low : device ≤ d.address = grind (arith, nat_tests, e) in
    rw (here, none_above such device d.address ds low a) (or_none (such d && true) ∙ and_all (such d))
found_by false such device d ds e a h =
    let other : (device == d.address) ≡ false = grind (arith, nat_tests, e) in
    ap (λ (b : Bool). (such d && b) || list_any (λ d. such d && (device == d.address)) ds) other
    ∙ (ap (λ (b : Bool). b || list_any (λ d. such d && (device == d.address)) ds) (and_none (such d)) ∙ h)

any_found : (such : Subchannel → Bool) (device : ℕ) (ds : List Subchannel) → AreAscending ds
    → list_any (λ d. such d && (device == d.address)) ds ≡ of_found such (found device ds)
any_found such device [] a = refl
any_found such device (d ∷ ds) a =
    found_by (d.address == device) such device d ds refl a
    (any_found such device ds (rest_ascends d.address ds a))

any_agrees : (p q : Subchannel → Bool) → ((d : Subchannel) → p d ≡ q d) → (ds : List Subchannel)
    → list_any p ds ≡ list_any q ds
any_agrees p q agree [] = refl
any_agrees p q agree (d ∷ ds) =
    ap (λ (b : Bool). b || list_any p ds) (agree d) ∙ ap (λ (b : Bool). q d || b) (any_agrees p q agree ds)

own_such : (such : Subchannel → Bool) (device user : ℕ) (ds : List Subchannel) → AreAscending ds
    → is_such such user ds (record { user = user; device = device }) ≡ of_found such (found device ds)
own_such such device user ds a =
    let here : (user == user) ≡ true = grind (arith, nat_tests) in
    any_agrees (λ d. such d && ((user == user) && (device == d.address))) (λ d. such d && (device == d.address))
    (λ d. rw here refl) ds ∙ any_found such device ds a

known_by : (b : Bool) (users : List KnownUser) (user number device : ℕ) (d : Subchannel) → (device == d.address) ≡ b
    → ((is_started number d && has_device users user d.address) && (device == d.address))
    ≡ ((is_started number d && has_device users user device) && (device == d.address))
known_by true users user number device d e =
    let address : device ≡ d.address = grind (arith, nat_tests, e) in
    ap (λ (a : ℕ). (is_started number d && has_device users user a) && (device == d.address)) (sym address)
known_by false users user number device d e =
    rw e (and_none (is_started number d && has_device users user d.address)
    ∙ sym (and_none (is_started number d && has_device users user device)))

own_joining : (s : Installed) (user number device : ℕ) → AreAscending (subchannels_at s user)
    → is_such (is_joining s user number) user (subchannels_at s user) (record { user = user; device = device })
    ≡ of_found (λ d. is_started number d && has_device s.users user device) (found device (subchannels_at s user))
own_joining s user number device a =
    let ds = subchannels_at s user in
    let here : (user == user) ≡ true = grind (arith, nat_tests) in
    any_agrees (λ d. is_joining s user number d && ((user == user) && (device == d.address)))
    (λ d. (is_started number d && has_device s.users user device) && (device == d.address))
    (λ d. rw here (known_by (device == d.address) s.users user number device d refl)) ds
    ∙ any_found (λ d. is_started number d && has_device s.users user device) device ds a

-- ---- a device before and after an event

abbrev FoundSince : ℕ → Option Subchannel → Option Subchannel → Type 0
FoundSince number None None = Unit {0}
FoundSince number None (Some y) = ⊥
FoundSince number (Some x) None = ⊥
FoundSince number (Some x) (Some y) = WorksSince number x y

both_by : (b : Bool) (number : ℕ) (x y : Subchannel) (o p : Option Subchannel) → WorksSince number x y
    → FoundSince number o p → FoundSince number (if b then Some x else o) (if b then Some y else p)
both_by true number x y o p w f = w
both_by false number x y o p w f = f

found_since : (number device : ℕ) (olds news : List Subchannel) → AllWorkSince number olds news
    → FoundSince number (found device olds) (found device news)
found_since number device [] [] w = tt
found_since number device [] (y ∷ ys) w = absurd w
found_since number device (x ∷ xs) [] w = absurd w
found_since number device (x ∷ xs) (y ∷ ys) w =
    let same : (y.address == device) ≡ (x.address == device) = ap (λ (a : ℕ). a == device) w.0 in
    subst (λ (b : Bool). FoundSince number (found device (x ∷ xs)) (if b then Some y else found device ys)) (sym same)
    (both_by (x.address == device) number x y (found device xs) (found device ys) w.1
    (found_since number device xs ys w.2))

idle_now : (known was c : Bool) → (((known && was) && false) || ((false && c) && known)) ≡ (known && false)
idle_now true true c = refl
idle_now true false c = refl
idle_now false was c = refl

at_work : (known was c : Bool) → (was ≡ true) ⊎ (c ≡ true)
    → (((known && was) && true) || ((true && c) && known)) ≡ (known && true)
at_work true true c h = refl
at_work true false true h = refl
at_work true false false (inl e) = absurd (cc)
at_work true false false (inr e) = absurd (cc)
at_work false was true h = refl
at_work false was false h = refl

one_of : (number : ℕ) (x y : Subchannel)
    → ((works x.state ≡ true) × (y.last_start ≡ x.last_start)) ⊎ (number ≤ y.last_start)
    → (works x.state ≡ true) ⊎ (nat_le number y.last_start ≡ true)
one_of number x y (inl h) = inl h.0
one_of number x y (inr h) = inr (grind (arith, nat_tests, h))

works_by : (b known : Bool) (number : ℕ) (x y : Subchannel) → works y.state ≡ b → WorksSince number x y
    → (((known && works x.state) && not (not (works y.state))) || (is_started number y && known))
    ≡ (known && works y.state)
works_by true known number x y e w =
    rw e (at_work known (works x.state) (nat_le number y.last_start) (one_of number x y (w e)))
works_by false known number x y e w = rw e (idle_now known (works x.state) (nat_le number y.last_start))

found_works : (known : Bool) (number : ℕ) (o p : Option Subchannel) → FoundSince number o p
    → (((known && is_working o) && not (of_found is_idle p)) || of_found (λ d. is_started number d && known) p)
    ≡ (known && is_working p)
found_works known number None None f = rw (and_none known) refl
found_works known number None (Some y) f = absurd f
found_works known number (Some x) None f = absurd f
found_works known number (Some x) (Some y) f = works_by (works y.state) known number x y refl f

-- ---- events

-- those in the serve queue after an event are those that work then
since_event : (old new : Installed) (user : ℕ) → new.users ≡ old.users
    → ((other : ℕ) → (other ≡ user → ⊥) → subchannels_at new other ≡ subchannels_at old other)
    → AllWorkSince (next_start (subchannels_at old user)) (subchannels_at old user) (subchannels_at new user)
    → AreAscending (subchannels_at new user) → (p : Program)
    → since new user (next_start (subchannels_at old user)) (is_at_work old) p ≡ is_at_work new p
since_event old new user users others own ascends p = elim (eqb_tells p.user user) [
  | inl is ↦ subst (λ (q : Program).
      since new user (next_start (subchannels_at old user)) (is_at_work old) q ≡ is_at_work new q)
      (one_program (record { user = user; device = p.device }) p is.1 refl)
      (own_works p.device)
  | inr not ↦ since_other new user (next_start (subchannels_at old user)) (is_at_work old) p not.0
      ∙ (ap (λ (us : List KnownUser). has_device us p.user p.device
      && is_working (found p.device (subchannels_at old p.user))) (sym users)
      ∙ ap (λ (ds : List Subchannel). has_device new.users p.user p.device && is_working (found p.device ds))
      (sym (others p.user not.1)))
]
  where
    own_works : (device : ℕ)
        → since new user (next_start (subchannels_at old user)) (is_at_work old)
        (record { user = user; device = device })
        ≡ is_at_work new (record { user = user; device = device })
    own_works device =
        let number = next_start (subchannels_at old user) in
        let was = found device (subchannels_at old user) in
        let is = found device (subchannels_at new user) in
        let known = has_device new.users user device in
        ap (λ (us : List KnownUser). ((has_device us user device && is_working was)
        && not (is_such is_idle user (subchannels_at new user) (record { user = user; device = device })))
        || is_such (is_joining new user number) user (subchannels_at new user)
        (record { user = user; device = device })) (sym users)
        ∙ (ap (λ (b : Bool). ((known && is_working was) && not b)
        || is_such (is_joining new user number) user (subchannels_at new user)
        (record { user = user; device = device })) (own_such is_idle device user (subchannels_at new user) ascends)
        ∙ (ap (λ (b : Bool). ((known && is_working was) && not (of_found is_idle is)) || b)
        (own_joining new user number device ascends)
        ∙ found_works known number was is
        (found_since number device (subchannels_at old user) (subchannels_at new user) own)))

above_since : (number low : ℕ) (olds news : List Subchannel) → AllWorkSince number olds news → AreAbove low olds
    → AreAbove low news
above_since number low [] [] w a = tt
above_since number low [] (y ∷ ys) w a = absurd w
above_since number low (x ∷ xs) [] w a = absurd w
above_since number low (x ∷ xs) (y ∷ ys) w a = (
  omega (arith, w.0, a.0),
  subst (λ (n : ℕ). AreAbove n ys) (sym w.0) (above_since number x.address xs ys w.2 a.1),
)

ascends_since : (number : ℕ) (olds news : List Subchannel) → AllWorkSince number olds news → AreAscending olds
    → AreAscending news
ascends_since number [] [] w a = tt
ascends_since number [] (y ∷ ys) w a = absurd w
ascends_since number (x ∷ xs) [] w a = absurd w
ascends_since number (x ∷ xs) (y ∷ ys) w a =
    subst (λ (n : ℕ). AreAbove n ys) (sym w.0) (above_since number x.address xs ys w.2 a)

module _ {W : Type 0} (i : Installation W) (law : StartsItsOwn i) where
  -- what an event leaves of a serve queue that is right is right
  after_event : (old : W) (said : EventValue) (reply : Reply) (new : W) (queue : List Program)
      → i.Happens old said reply new → ServeQueueIsWhatWorks (i.seen old) queue
      → ServeQueueIsWhatWorks (i.seen new) (line_after (i.seen old) (i.seen new) (user_said said) queue)
  after_event old said reply new queue h q =
      let user = user_said said in
      let was = i.seen old in
      let is = i.seen new in
      let number = next_start (subchannels_at was user) in
      let own = law.own old said reply new h in
      let ascends : (other : ℕ) → AreAscending (subchannels_at is other) = λ other. elim (eqb_tells other user) [
        | inl same ↦ subst (λ (u : ℕ). AreAscending (subchannels_at is u)) (sym same.1)
            (ascends_since number (subchannels_at was user) (subchannels_at is user) own (q.ascending user))
        | inr not ↦ subst AreAscending (sym (law.others old said reply new h other not.1)) (q.ascending other)
      ] in
      record {
        ascending = ascends;
        working = stays same_program program_tells (since is user number (is_at_work was)) (is_at_work is)
            (line_since is user number queue)
            (λ p. sym (since_event was is user (law.users old said reply new h) (law.others old said reply new h) own
            (ascends user) p))
            (since_all is user number (is_at_work was) queue q.working);
      }

  one_step : (act : Act) (entry : Entry W) (old new : Scene W) → IsDone i act entry old new
      → ServeQueueIsWhatWorks (i.seen old.world) old.lines.programs
      → ServeQueueIsWhatWorks (i.seen new.world) new.lines.programs
  one_step (Applies said) (Answered step) old new d h =
      subst (λ (s : Scene W). ServeQueueIsWhatWorks (i.seen s.world) s.lines.programs) (sym d.left)
      (after_event old.world said step.reply step.left old.lines.programs d.happened h)
  one_step (Applies said) (Dealt step) old new d h = absurd d
  one_step (Applies said) Passed old new d h = absurd d
  one_step (Applies said) Idle old new d h = absurd d
  one_step Slices (Answered step) old new d h = absurd d
  one_step Slices (Dealt step) old new d h =
      subst (λ (s : Scene W). ServeQueueIsWhatWorks (i.seen s.world) s.lines.programs) (sym d.left)
      (after_event old.world (Run d.user slice_units) step.reply step.left old.lines.programs d.happened h)
  one_step Slices Passed old new d h =
      subst (λ (s : Scene W). ServeQueueIsWhatWorks (i.seen s.world) s.lines.programs) (sym d.left) h
  one_step Slices Idle old new d h = absurd d
  one_step Serves (Answered step) old new d h = absurd d
  one_step Serves (Dealt step) old new d h =
      let turned : ServeQueueIsWhatWorks (i.seen old.world) d.turned = record {
        ascending = h.ascending;
        working = dealt same_program program_tells (is_at_work (i.seen old.world)) always old.lines.programs
            (Some d.program) d.turned d.dealt h.working;
      } in
      subst (λ (s : Scene W). ServeQueueIsWhatWorks (i.seen s.world) s.lines.programs) (sym d.left)
      (after_event old.world (Serve d.program.user d.program.device) step.reply step.left d.turned d.happened turned)
  one_step Serves Passed old new d h =
      subst (λ (s : Scene W). ServeQueueIsWhatWorks (i.seen s.world) s.lines.programs) (sym d.left) h
  one_step Serves Idle old new d h =
      subst (λ (s : Scene W). ServeQueueIsWhatWorks (i.seen s.world) s.lines.programs) (sym d.left) h

  -- Whatever is done, what works is in the serve queue.
  pub keeps_work : KeepsWhatWorks i
  keeps_work [] old new [] d h =
      subst (λ (s : Scene W). ServeQueueIsWhatWorks (i.seen s.world) s.lines.programs) (sym d) h
  keeps_work [] old new (entry ∷ entries) d h = absurd d
  keeps_work (act ∷ all) old new [] d h = absurd d
  keeps_work (act ∷ all) old new (entry ∷ entries) d h =
      keeps_work all d.0 new entries d.2 (one_step act entry old d.0 d.1 h)

-- ---- at first

-- a program of the first users works
abbrev below : Installed → ℕ → Program → Bool
below s n p = is_at_work s p && nat_lt p.user n

first_found : (known : Bool) (o : Option Subchannel)
    → of_found (λ d. is_started 0 d && known) o ≡ ((known && is_working o) && true)
first_found known None = sym (and_all (known && false) ∙ and_none known)
first_found known (Some s) =
    let least : nat_le 0 s.last_start ≡ true = grind (arith, nat_tests) in rw least (ordered (works s.state) known)
  where
    ordered : (a b : Bool) → ((a && true) && b) ≡ ((b && a) && true)
    ordered true true = refl
    ordered true false = refl
    ordered false true = refl
    ordered false false = refl

first_own : (s : Installed) (n device : ℕ) → AreAscending (subchannels_at s n)
    → since s n 0 (below s n) (record { user = n; device = device })
    ≡ below s (suc n) (record { user = n; device = device })
first_own s n device a =
    let p : Program = record { user = n; device = device } in
    let past : nat_lt n n ≡ false = grind (arith, nat_tests) in
    let less : nat_lt n (suc n) ≡ true = grind (arith, nat_tests) in
    ap (λ (b : Bool). ((is_at_work s p && b) && not (is_such is_idle n (subchannels_at s n) p))
    || is_such (is_joining s n 0) n (subchannels_at s n) p) past
    ∙ (ap (λ (b : Bool). (b && not (is_such is_idle n (subchannels_at s n) p))
    || is_such (is_joining s n 0) n (subchannels_at s n) p) (and_none (is_at_work s p))
    ∙ (own_joining s n 0 device a
    ∙ (first_found (has_device s.users n device) (found device (subchannels_at s n))
    ∙ ap (λ (b : Bool). is_at_work s p && b) (sym less))))

first_all : (s : Installed) → ((user : ℕ) → AreAscending (subchannels_at s user)) → (n : ℕ)
    → HasJust same_program (below s n) (first_line s n)
first_all s a zero = nobody same_program program_tells (below s 0)
    (λ p. (let none : nat_lt p.user 0 ≡ false = grind (arith, nat_tests) in
    ap (λ (b : Bool). is_at_work s p && b) none ∙ and_none (is_at_work s p)))
first_all s a (suc n) =
    stays same_program program_tells (since s n 0 (below s n)) (below s (suc n)) (line_since s n 0 (first_line s n))
    (λ p. sym (elim (eqb_tells p.user n) [
      | inl is ↦ subst (λ (q : Program). since s n 0 (below s n) q ≡ below s (suc n) q)
          (one_program (record { user = n; device = p.device }) p is.1 refl) (first_own s n p.device (a n))
      | inr not ↦ since_other s n 0 (below s n) p not.0
          ∙ (let same : nat_lt p.user n ≡ nat_lt p.user (suc n) = grind (arith, nat_tests, not.0) in
          ap (λ (b : Bool). is_at_work s p && b) same)
    ]))
    (since_all s n 0 (below s n) (first_line s n) (first_all s a n))

-- whom scripts do not know has no device
unknown_past : (users : List KnownUser) (user device : ℕ) → length users ≤ user → has_device users user device ≡ false
unknown_past users user device past =
    ap (λ (ds : List ℕ). list_any (λ d. d == device) ds)
    (get_or_past (map (λ one. one.devices) users) user [] (omega (arith, past, length-map users (λ one. one.devices))))

-- A session begins with the programs of the devices that work in its serve queue.
pub begins_with_work : BeginsWithWhatWorks
begins_with_work s a = record {
  ascending = a;
  working = stays same_program program_tells (below s (length s.users)) (is_at_work s) (first_line s (length s.users))
      (λ p. elim (cases_lt p.user (length s.users)) [
        | inl less ↦ (let is : nat_lt p.user (length s.users) ≡ true = grind (arith, nat_tests) in
            sym (ap (λ (b : Bool). is_at_work s p && b) is ∙ and_all (is_at_work s p)))
        | inr past ↦ (let none = unknown_past s.users p.user p.device (omega (arith, past)) in
            rw none refl)
      ])
      (first_all s a (length s.users));
}

-- Of as many serves as programs are there, each that stays waiting has one.
pub serves_reach_all : IsFairPolicy → {W : Type 0} (i : Installation W) → ServesReachAll i
serves_reach_all fair i program all old new entries done queue works waits enough =
    serves_are_fair fair i program all old new entries done waits
    (stands_within same_program program_tells program old.lines.programs (serves all)
    (queue.working.who program ∙ works) enough)
