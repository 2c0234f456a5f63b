-- Guesses at one name from one address take turns, and hold back no others.
use Rattle.std.proofs.Common.{◌≡◌, ◌≢◌, ◌⊎◌, inl, inr, ◌<◌, ◌≤◌, ◌+◌, ◌&&◌, ℕ, Bool, true, false, not, eqb, leb, ltb}
use Rattle.std.proofs.Common.{cond, List, [], ◌∷◌, ◌++◌, length, get_or, set, Option, Some, None}
use Rattle.std.proofs.Common.{refl, ap, sym, ◌∙◌, subst, arith, get_or-set_other, get_or-set_same}
use Rattle.std.specs.Prelude.{count_by}
use Rattle.std.specs.List.{AllByRecursion}
use Rattle.std.proofs.lemmas.Bool.{lt-ltb, ltb-true, le-ltb}
use Rattle.std.proofs.lemmas.Bool.Decides.{eqb_tells, leb_tells}
use Rattle.std.proofs.lemmas.List.{get_or_default, get_or_past, set_past, set-set}
use Rattle.std.proofs.lemmas.Slice.Eq.{bytes_eq-Decides}
use Rattle.std.specs.Str.{bytes_eq}
use Rattle.user_names.specs.Users.{user_of}
use Rattle.logon_desk.specs.Connection.{after_line, again, gone, opened, refused}
use Rattle.terminal_lines.specs.Decoder.{after_byte}
use Rattle.logon_desk.specs.Desk.{Answers, Closes, Comes, Desk, Event, Finishes, Keeps, Opens, Prints, Step, Takes}
use Rattle.logon_desk.specs.Desk.{Turns, Wakes, account_of, after_decoded, after_first, after_pause, answer_by, asking}
use Rattle.logon_desk.specs.Desk.{comes_to, connection_at, ended, is_taking, is_terminal, is_turn, judged_as, line_by}
use Rattle.logon_desk.specs.Desk.{logon_line, names, new_desk, quietly, same_guess, step, wake_by, with_connection}
use Rattle.logon_desk.specs.Guesses.{asked_of, holds_back, last_of, remembered, wait_of}
use Rattle.logon_desk.specs.History.{after, meaning}
use Rattle.logon_desk.specs.Laws.{GoesBefore, HappensBy, IsElsewhere}
use Rattle.logon_desk.specs.Turns.{goes_before, is_behind, is_earlier, is_held}
use Rattle.logon_desk.specs.declared.connection.Connection.{Connection}
use Rattle.logon_desk.specs.declared.connection.Stage.{Stage}
use Rattle.logon_desk.specs.declared.connection.Stage.TheVariants.{Gone, Naming, Asking, Waiting, Judged, Refused, On}
use Rattle.logon_desk.specs.declared.guesses.GuessedName.{GuessedName}
use Rattle.terminal_lines.specs.declared.decoder.Decoded.{Decoded}
use Rattle.terminal_lines.specs.declared.decoder.Decoded.TheVariants.{Nothing, Line, Declines, AreYouThere}
use Rattle.logon_desk.specs.declared.output.DeskAction.TheVariants.{Asks}
use Rattle.terminal_lines.specs.declared.words.Guess.{Guess}
use Rattle.terminal_lines.specs.declared.words.Said.{Said}
use Rattle.terminal_lines.specs.declared.words.Said.TheVariants.{Both, Name, Word, Other}
use Rattle.logon_desk.proofs.Guessing.{asked_briefly, asked_holds, asked_others, found_count, none_count}
use Rattle.logon_desk.proofs.Guessing.{right_count}
use Rattle.logon_desk.proofs.Hearing.{arrives, not_both, rest_of, taking_open, vacant, within}
use Rattle.logon_desk.proofs.On.{both_true, eqb_is, eqb_self}

-- what an event makes of the guesses that are remembered

come_guesses : (d : Desk) (c : ℕ) (x : Connection) (stage : Stage) (now : ℕ)
    → (comes_to d c x stage now).guesses ≡ d.guesses
come_guesses d c x Gone now = refl
come_guesses d c x Naming now = refl
come_guesses d c x (Asking name) now = refl
come_guesses d c x (Waiting guess) now = refl
come_guesses d c x (Judged guess) now = refl
come_guesses d c x Refused now = refl
come_guesses d c x (On user) now = refl

line_guesses : (d : Desk) (c : ℕ) (stage : Stage) (line : List ℕ) (now : ℕ)
    → (line_by d c stage line now).desk.guesses ≡ d.guesses
line_guesses d c Gone line now = come_guesses d c (connection_at d c)
    (after_line (connection_at d c).stage (meaning line)).stage now
line_guesses d c Naming line now = come_guesses d c (connection_at d c)
    (after_line (connection_at d c).stage (meaning line)).stage now
line_guesses d c (Asking name) line now = come_guesses d c (connection_at d c)
    (after_line (connection_at d c).stage (meaning line)).stage now
line_guesses d c (Waiting guess) line now = come_guesses d c (connection_at d c)
    (after_line (connection_at d c).stage (meaning line)).stage now
line_guesses d c (Judged guess) line now = come_guesses d c (connection_at d c)
    (after_line (connection_at d c).stage (meaning line)).stage now
line_guesses d c Refused line now = come_guesses d c (connection_at d c)
    (after_line (connection_at d c).stage (meaning line)).stage now
line_guesses d c (On user) line now = refl

decoded_guesses : (d : Desk) (c : ℕ) (decoded : Decoded) (now : ℕ)
    → (after_decoded d c decoded now).desk.guesses ≡ d.guesses
decoded_guesses d c Nothing now = refl
decoded_guesses d c (Line line) now = line_guesses d c (connection_at d c).stage line now
decoded_guesses d c (Declines command option) now = refl
decoded_guesses d c AreYouThere now = refl

first_guesses : (d : Desk) (c : ℕ) (waiting : List ℕ) (now : ℕ)
    → (after_first d c waiting now).desk.guesses ≡ d.guesses
first_guesses d c [] now = refl
first_guesses d c (byte ∷ rest) now =
    decoded_guesses (with_connection d c (rest_of (connection_at d c) byte rest)) c
    (after_byte (connection_at d c).decoder byte).decoded now

takes_guesses : (d : Desk) (c now : ℕ) (takes : Bool)
    → (cond takes (after_first d c (connection_at d c).waiting now) (quietly d)).desk.guesses ≡ d.guesses
takes_guesses d c now true = first_guesses d c (connection_at d c).waiting now
takes_guesses d c now false = refl

comes_guesses : (d : Desk) (k : ℕ) (bytes : List ℕ) (fits : Bool)
    → (cond fits (quietly (with_connection d k (record (connection_at d k) {
      waiting =
          (connection_at d k).waiting ++ bytes;
    }))) (ended d k [])).desk.guesses ≡ d.guesses
comes_guesses d k bytes true = refl
comes_guesses d k bytes false = refl

-- as many hold back the next guess at this name from this address as before, or fewer
abbrev HoldsNoMore : Desk → List ℕ → ℕ → ℕ → Desk → Type 0
HoldsNoMore d name address later new =
    count_by (holds_back name address later) new.guesses ≤ count_by (holds_back name address later) d.guesses

holds_same : (d new : Desk) (name : List ℕ) (address later : ℕ) → new.guesses ≡ d.guesses
    → HoldsNoMore d name address later new
holds_same d new name address later e =
    let same = ap (λ (l : List GuessedName). count_by (holds_back name address later) l) e in omega arith

holds_either : (d : Desk) (name : List ℕ) (address later : ℕ) (s t : Step) (b : Bool)
    → HoldsNoMore d name address later s.desk → HoldsNoMore d name address later t.desk
    → HoldsNoMore d name address later (cond b s t).desk
holds_either d name address later s t true h k = h
holds_either d name address later s t false h k = k

-- the host is asked about no guess that would hold back this one
abbrev Asked : Desk → List ℕ → ℕ → ℕ → ℕ → ℕ → Type 0
Asked d name address later k now = (guess : Guess) → (connection_at d k).stage ≡ Waiting guess
    → count_by (holds_back name address later) (asked_of d.guesses guess.name (connection_at d k).address now)
    ≤ count_by (holds_back name address later) d.guesses

wakes_hold : (d : Desk) (name : List ℕ) (address later k now : ℕ) (stage : Stage) → (connection_at d k).stage ≡ stage
    → Asked d name address later k now
    → HoldsNoMore d name address later (wake_by d k (connection_at d k) stage now).desk
wakes_hold d name address later k now Gone e asked = omega arith
wakes_hold d name address later k now Naming e asked =
    holds_either d name address later _ (quietly d) (leb (connection_at d k).patience.deadline now)
    (omega arith) (omega arith)
wakes_hold d name address later k now (Asking asks) e asked =
    holds_either d name address later _ (quietly d) (leb (connection_at d k).patience.deadline now)
    (omega arith) (omega arith)
wakes_hold d name address later k now (Waiting guess) e asked =
    holds_either d name address later (asking d k (connection_at d k) guess now) (quietly d)
    (is_turn d (connection_at d k) guess now) (asked guess e) (omega arith)
wakes_hold d name address later k now (Judged guess) e asked = omega arith
wakes_hold d name address later k now Refused e asked =
    holds_either d name address later (after_pause d k (connection_at d k) now) (quietly d)
    (leb (connection_at d k).patience.due now)
    (holds_either d name address later _ _ (leb 3 (connection_at d k).patience.tries) (omega arith) (omega arith))
    (omega arith)
wakes_hold d name address later k now (On user) e asked =
    holds_either d name address later (quietly d) _ (is_terminal (account_of d user).terminal k)
    (omega arith) (omega arith)

judged_hold : (d : Desk) (name : List ℕ) (address later k : ℕ) (guess : Guess) (who : Option ℕ) (is_right : Bool)
    (now : ℕ) → HoldsNoMore d name address later (judged_as d k guess who is_right now).desk
judged_hold d name address later k guess None is_right now = omega arith
judged_hold d name address later k guess (Some user) true now = right_count d.guesses guess.name name
    (connection_at d k).address address now later
judged_hold d name address later k guess (Some user) false now = omega arith

answers_hold : (d : Desk) (name : List ℕ) (address later k : ℕ) (guess : Guess) (is_right : Bool) (now : ℕ)
    (stage : Stage) → HoldsNoMore d name address later (answer_by d k stage guess is_right now).desk
answers_hold d name address later k guess is_right now Gone = omega arith
answers_hold d name address later k guess is_right now Naming = omega arith
answers_hold d name address later k guess is_right now (Asking asked) = omega arith
answers_hold d name address later k guess is_right now (Waiting other) = omega arith
answers_hold d name address later k guess is_right now (Judged other) =
    holds_either d name address later (judged_as d k guess (user_of (names d) guess.name) is_right now) (quietly d)
    (same_guess other guess)
    (judged_hold d name address later k guess (user_of (names d) guess.name) is_right now) (omega arith)
answers_hold d name address later k guess is_right now Refused = omega arith
answers_hold d name address later k guess is_right now (On user) = omega arith

abbrev AskedBy : Desk → List ℕ → ℕ → ℕ → Event → Type 0
AskedBy d name address later (Opens k from now) = Unit {0}
AskedBy d name address later (Comes k bytes) = Unit {0}
AskedBy d name address later (Takes k now) = Unit {0}
AskedBy d name address later (Wakes k now) = Asked d name address later k now
AskedBy d name address later (Answers k guess is_right now) = Unit {0}
AskedBy d name address later (Closes k) = Unit {0}
AskedBy d name address later (Prints user line) = Unit {0}
AskedBy d name address later (Keeps user line) = Unit {0}
AskedBy d name address later (Turns user is_on is_running) = Unit {0}
AskedBy d name address later (Finishes user) = Unit {0}

holds_step : (d : Desk) (event : Event) (name : List ℕ) (address later : ℕ) → AskedBy d name address later event
    → HoldsNoMore d name address later (step d event).desk
holds_step d (Opens k from now) name address later asked = omega arith
holds_step d (Comes k bytes) name address later asked = holds_same d (step d (Comes k bytes)).desk name address later
    (comes_guesses d k bytes (leb (length (connection_at d k).waiting + length bytes) 4096))
holds_step d (Takes k now) name address later asked = holds_same d (step d (Takes k now)).desk name address later
    (takes_guesses d k now (is_taking d k (connection_at d k).stage))
holds_step d (Wakes k now) name address later asked =
    wakes_hold d name address later k now (connection_at d k).stage refl asked
holds_step d (Answers k guess is_right now) name address later asked =
    answers_hold d name address later k guess is_right now (connection_at d k).stage
holds_step d (Closes k) name address later asked = omega arith
holds_step d (Prints user line) name address later asked = omega arith
holds_step d (Keeps user line) name address later asked = omega arith
holds_step d (Turns user is_on is_running) name address later asked = omega arith
holds_step d (Finishes user) name address later asked = omega arith

elsewhere_asked : (d : Desk) (event : Event) (name : List ℕ) (address later : ℕ) → IsElsewhere d name address event
    → AskedBy d name address later event
elsewhere_asked d (Opens k from now) name address later h = tt
elsewhere_asked d (Comes k bytes) name address later h = tt
elsewhere_asked d (Takes k now) name address later h = tt
elsewhere_asked d (Wakes k now) name address later h =
    λ guess e. asked_others d.guesses guess.name name (connection_at d k).address address now later (h guess e)
elsewhere_asked d (Answers k guess is_right now) name address later h = tt
elsewhere_asked d (Closes k) name address later h = tt
elsewhere_asked d (Prints user line) name address later h = tt
elsewhere_asked d (Keeps user line) name address later h = tt
elsewhere_asked d (Turns user is_on is_running) name address later h = tt
elsewhere_asked d (Finishes user) name address later h = tt

-- A guess holds back none at another name, and none from another address.
pub others : (d : Desk) (event : Event) (name : List ℕ) (address later : ℕ) → IsElsewhere d name address event
    → is_held (step d event).desk.guesses name address later ≡ true → is_held d.guesses name address later ≡ true
others d event name address later h held =
    let fewer = holds_step d event name address later (elsewhere_asked d event name address later h) in
    let some = ltb-true 0 (count_by (holds_back name address later) (step d event).desk.guesses) held in
    lt-ltb 0 (count_by (holds_back name address later) d.guesses) (omega arith)

-- nobody is held back for longer than four seconds

by_asked : (d : Desk) (event : Event) (name : List ℕ) (address now : ℕ) → HappensBy now event
    → AskedBy d name address (now + 4000) event
by_asked d (Opens k from time) name address now h = tt
by_asked d (Comes k bytes) name address now h = tt
by_asked d (Takes k time) name address now h = tt
by_asked d (Wakes k time) name address now h =
    λ guess e. asked_briefly d.guesses guess.name name (connection_at d k).address address time (now + 4000)
    (omega arith)
by_asked d (Answers k guess is_right time) name address now h = tt
by_asked d (Closes k) name address now h = tt
by_asked d (Prints user line) name address now h = tt
by_asked d (Keeps user line) name address now h = tt
by_asked d (Turns user is_on is_running) name address now h = tt
by_asked d (Finishes user) name address now h = tt

brief_count : (users : List (List ℕ)) (size : ℕ) (events : List Event) (name : List ℕ) (address now : ℕ)
    → AllByRecursion (HappensBy now) events
    → count_by (holds_back name address (now + 4000)) (after (new_desk users size) events).guesses ≡ 0
brief_count users size [] name address now h = refl
brief_count users size (event ∷ earlier) name address now h =
    let d = after (new_desk users size) earlier in
    let before = brief_count users size earlier name address now h.1 in
    let fewer = holds_step d event name address (now + 4000) (by_asked d event name address now h.0) in
    omega arith

-- Nobody is held back for longer than four seconds.
pub briefly : (users : List (List ℕ)) (size : ℕ) (events : List Event) (name : List ℕ) (address now : ℕ)
    → AllByRecursion (HappensBy now) events
    → is_held (after (new_desk users size) events).guesses name address (now + 4000) ≡ false
briefly users size events name address now h =
    let none = brief_count users size events name address now h in
    le-ltb 0 (count_by (holds_back name address (now + 4000)) (after (new_desk users size) events).guesses)
    (omega arith)

-- the host is asked in turn

not_true : (b : Bool) → not b ≡ true → b ≡ false
not_true true h = absurd (not_both false h refl)
not_true false h = refl

asks_only : (d : Desk) (c now : ℕ) (guess : Guess) (b : Bool)
    → (cond b (asking d c (connection_at d c) guess now) (quietly d)).outputs ≡ Asks c guess ∷ [] → b ≡ true
asks_only d c now guess true h = refl
asks_only d c now guess false h = absurd cc

-- The host is asked about none that is held back, and each holds back the next one.
pub apart : (d : Desk) (c now later : ℕ) (guess : Guess) → (connection_at d c).stage ≡ Waiting guess
    → (step d (Wakes c now)).outputs ≡ Asks c guess ∷ []
    → later < now + wait_of (remembered (last_of d.guesses guess.name (connection_at d c).address).until now)
    → (is_held d.guesses guess.name (connection_at d c).address now ≡ false)
    × (is_held (step d (Wakes c now)).desk.guesses guess.name (connection_at d c).address later ≡ true)
apart d c now later guess stage asked soon =
    let x = connection_at d c in
    let turn : is_turn d x guess now ≡ true = asks_only d c now guess (is_turn d x guess now)
    (sym (ap (λ (s : Stage). (wake_by d c x s now).outputs) stage) ∙ asked) in
    let both = both_true (not (is_held d.guesses guess.name x.address now))
    (not (is_behind d.connections guess.name x.address x.patience.due)) turn in
    let done : (step d (Wakes c now)).desk.guesses ≡ asked_of d.guesses guess.name x.address now =
    ap (λ (s : Stage). (wake_by d c x s now).desk.guesses) stage
    ∙ ap (λ (b : Bool). (cond b (asking d c x guess now) (quietly d)).desk.guesses) turn in (
      not_true (is_held d.guesses guess.name x.address now) both.0,
      ap (λ (l : List GuessedName). is_held l guess.name x.address later) done
          ∙ lt-ltb 0 (count_by (holds_back guess.name x.address later)
          (asked_of d.guesses guess.name x.address now))
          (asked_holds d.guesses guess.name x.address now later soon),
    )

either_asks : (d e : Desk) (c now : ℕ) (guess : Guess) (a b : Bool) → a ≡ b
    → (cond a (asking d c (connection_at d c) guess now) (quietly d)).outputs
    ≡ (cond b (asking e c (connection_at e c) guess now) (quietly e)).outputs
either_asks d e c now guess true true same = refl
either_asks d e c now guess true false same = absurd cc
either_asks d e c now guess false true same = absurd cc
either_asks d e c now guess false false same = refl

-- The question to the host does not depend on the users.
pub whoever : (d e : Desk) (c now : ℕ) (guess : Guess) → d.connections ≡ e.connections → d.guesses ≡ e.guesses
    → (connection_at d c).stage ≡ Waiting guess → (step d (Wakes c now)).outputs ≡ (step e (Wakes c now)).outputs
whoever d e c now guess same kept stage =
    let F : List Connection → List GuessedName → Bool =
    λ l g. not (is_held g guess.name (get_or l c gone).address now)
    && not (is_behind l guess.name (get_or l c gone).address (get_or l c gone).patience.due) in
    let there : (connection_at e c).stage ≡ Waiting guess =
    ap (λ (l : List Connection). (get_or l c gone).stage) (sym same) ∙ stage in
    let turn : is_turn d (connection_at d c) guess now ≡ is_turn e (connection_at e c) guess now =
    ap (λ (l : List Connection). F l d.guesses) same ∙ ap (F e.connections) kept in
    ap (λ (s : Stage). (wake_by d c (connection_at d c) s now).outputs) stage
    ∙ either_asks d e c now guess (is_turn d (connection_at d c) guess now)
    (is_turn e (connection_at e c) guess now) turn
    ∙ sym (ap (λ (s : Stage). (wake_by e c (connection_at e c) s now).outputs) there)

-- what goes before a guess

-- a guess goes before this one, as its connection has it
abbrev Rival : List ℕ → ℕ → ℕ → Connection → Type 0
Rival name address since x = (second : Guess) × (second.name ≡ name) × (x.address ≡ address)
    × ((x.stage ≡ Judged second) ⊎ ((x.stage ≡ Waiting second) × (x.patience.due < since)))

rival_by : (stage : Stage) (name : List ℕ) (address since : ℕ) (x : Connection) → x.stage ≡ stage
    → x.address ≡ address → is_earlier stage name x.patience.due since ≡ true → Rival name address since x
rival_by Gone name address since x e from h = absurd (not_both false h refl)
rival_by Naming name address since x e from h = absurd (not_both false h refl)
rival_by (Asking asked) name address since x e from h = absurd (not_both false h refl)
rival_by (Waiting second) name address since x e from h =
    let both = both_true (bytes_eq second.name name) (ltb x.patience.due since) h in (
      second,
      (bytes_eq-Decides second.name name).0 both.0,
      from,
      inr (e, ltb-true x.patience.due since both.1),
    )
rival_by (Judged second) name address since x e from h = (
  second,
  (bytes_eq-Decides second.name name).0 h,
  from,
  inl e,
)
rival_by Refused name address since x e from h = absurd (not_both false h refl)
rival_by (On user) name address since x e from h = absurd (not_both false h refl)

rival : (name : List ℕ) (address since : ℕ) (x : Connection) → goes_before name address since x ≡ true
    → Rival name address since x
rival name address since x h =
    let both = both_true (eqb x.address address) (is_earlier x.stage name x.patience.due since) h in
    rival_by x.stage name address since x refl (eqb_is x.address address both.0) both.1

and_is : (a b : Bool) → a ≡ true → b ≡ true → (a && b) ≡ true
and_is true b h k = k
and_is false b h k = absurd (not_both false h refl)

no_by : (b : Bool) → (b ≡ true → ⊥) → b ≡ false
no_by true h = absurd (h refl)
no_by false h = refl

turn_by : (held behind : Bool) → held ≡ false → behind ≡ false → (not held && not behind) ≡ true
turn_by true behind h k = absurd (not_both true refl h)
turn_by false true h k = absurd (not_both true refl k)
turn_by false false h k = refl

-- The host is asked about a guess that nothing goes before, and that none holds back.
pub asks : (d : Desk) (c now : ℕ) (guess : Guess) → (connection_at d c).stage ≡ Waiting guess
    → is_held d.guesses guess.name (connection_at d c).address now ≡ false
    → ((other : ℕ) → GoesBefore d c guess other → ⊥)
    → (step d (Wakes c now)).outputs ≡ Asks c guess ∷ []
asks d c now guess stage held none =
    let x = connection_at d c in
    let count = none_count (goes_before guess.name x.address x.patience.due) d.connections
    (λ k e w. no_by (goes_before guess.name x.address x.patience.due (get_or d.connections k e))
    (λ h. none k (subst (λ (y : Connection). Rival guess.name x.address x.patience.due y)
    (get_or_default d.connections k e gone w)
    (rival guess.name x.address x.patience.due (get_or d.connections k e) h)))) in
    let behind : is_behind d.connections guess.name x.address x.patience.due ≡ false =
    le-ltb 0 (count_by (goes_before guess.name x.address x.patience.due) d.connections) (omega arith) in
    ap (λ (s : Stage). (wake_by d c x s now).outputs) stage
    ∙ ap (λ (b : Bool). (cond b (asking d c x guess now) (quietly d)).outputs)
    (turn_by (is_held d.guesses guess.name x.address now)
    (is_behind d.connections guess.name x.address x.patience.due) held behind)

-- two guesses at one name from one address are never judged at once

abbrev Alone : List Connection → Type 0
Alone xs = (c other : ℕ) (guess second : Guess) → (get_or xs c gone).stage ≡ Judged guess
    → (get_or xs other gone).stage ≡ Judged second → guess.name ≡ second.name
    → (get_or xs c gone).address ≡ (get_or xs other gone).address → c ≡ other

-- a connection that comes to a place is being judged only if it was, or if no guess is judged that is like its own
abbrev Fits : List Connection → ℕ → Connection → Type 0
Fits xs k y = (guess : Guess) → y.stage ≡ Judged guess → (y.address ≡ (get_or xs k gone).address)
    × (((get_or xs k gone).stage ≡ Judged guess)
    ⊎ ((since : ℕ) × (is_behind xs guess.name (get_or xs k gone).address since ≡ false)))

within_by : (xs : List Connection) (k : ℕ) (guess : Guess) → (get_or xs k gone).stage ≡ Judged guess
    → ((leb (length xs) k ≡ true) × (length xs ≤ k)) ⊎ ((leb (length xs) k ≡ false) × (k < length xs)) → k < length xs
within_by xs k guess e (inl w) =
    let past : get_or xs k gone ≡ gone = get_or_past xs k gone w.1 in
    absurd (let no : Gone ≡ Judged guess = ap (λ (x : Connection). x.stage) (sym past) ∙ e in cc (no))
within_by xs k guess e (inr w) = w.1

behind_by : (xs : List Connection) (k : ℕ) (second : Guess) (name : List ℕ) (address since : ℕ)
    → (get_or xs k gone).stage ≡ Judged second → second.name ≡ name → (get_or xs k gone).address ≡ address
    → is_behind xs name address since ≡ true
behind_by xs k second name address since stage named from =
    let x = get_or xs k gone in
    let near : eqb x.address address ≡ true = ap (λ (a : ℕ). eqb a address) from ∙ eqb_self address in
    let earlier : is_earlier x.stage name x.patience.due since ≡ true =
    ap (λ (s : Stage). is_earlier s name x.patience.due since) stage ∙ (bytes_eq-Decides second.name name).1 named in
    lt-ltb 0 (count_by (goes_before name address since) xs)
    (found_count (goes_before name address since) xs k gone
    (within_by xs k second stage (leb_tells (length xs) k))
    (and_is (eqb x.address address) (is_earlier x.stage name x.patience.due since) near earlier))

come_by_one : (xs : List Connection) (k other : ℕ) (guess second : Guess) → Alone xs
    → (get_or xs other gone).stage ≡ Judged second → guess.name ≡ second.name
    → (get_or xs k gone).address ≡ (get_or xs other gone).address
    → ((get_or xs k gone).stage ≡ Judged guess)
    ⊎ ((since : ℕ) × (is_behind xs guess.name (get_or xs k gone).address since ≡ false)) → k ≡ other
come_by_one xs k other guess second was e named from (inl judged) = was k other guess second judged e named from
come_by_one xs k other guess second was e named from (inr turn) =
    absurd (not_both (is_behind xs guess.name (get_or xs k gone).address turn.0)
    (behind_by xs other second guess.name (get_or xs k gone).address turn.0 e (sym named) (sym from)) turn.1)

-- one that comes and one that was there
come_alone : (xs : List Connection) (k other : ℕ) (y : Connection) (guess second : Guess) → Alone xs → Fits xs k y
    → y.stage ≡ Judged guess → (get_or xs other gone).stage ≡ Judged second → guess.name ≡ second.name
    → y.address ≡ (get_or xs other gone).address → k ≡ other
come_alone xs k other y guess second was fits stage e named from =
    let f = fits guess stage in come_by_one xs k other guess second was e named (sym f.0 ∙ from) f.1

alone_near : (xs : List Connection) (k c other : ℕ) (y : Connection) (guess second : Guess) → k < length xs → Alone xs
    → Fits xs k y → ((eqb k c ≡ true) × (k ≡ c)) ⊎ ((eqb k c ≡ false) × (k ≢ c))
    → ((eqb k other ≡ true) × (k ≡ other)) ⊎ ((eqb k other ≡ false) × (k ≢ other))
    → (get_or (set xs k y) c gone).stage ≡ Judged guess → (get_or (set xs k y) other gone).stage ≡ Judged second
    → guess.name ≡ second.name → (get_or (set xs k y) c gone).address ≡ (get_or (set xs k y) other gone).address
    → c ≡ other
alone_near xs k c other y guess second near was fits (inl v) (inl w) e f named from = sym v.1 ∙ w.1
alone_near xs k c other y guess second near was fits (inl v) (inr w) e f named from =
    let here : get_or (set xs k y) c gone ≡ y = ap (λ (n : ℕ). get_or (set xs k y) n gone) (sym v.1)
    ∙ get_or-set_same xs k y gone near in
    let there : get_or (set xs k y) other gone ≡ get_or xs other gone =
    get_or-set_other xs k other y gone (λ s. w.1 (sym s)) in
    sym v.1 ∙ come_alone xs k other y guess second was fits (ap (λ (x : Connection). x.stage) (sym here) ∙ e)
    (ap (λ (x : Connection). x.stage) (sym there) ∙ f) named
    (ap (λ (x : Connection). x.address) (sym here) ∙ from ∙ ap (λ (x : Connection). x.address) there)
alone_near xs k c other y guess second near was fits (inr v) (inl w) e f named from =
    let here : get_or (set xs k y) other gone ≡ y = ap (λ (n : ℕ). get_or (set xs k y) n gone) (sym w.1)
    ∙ get_or-set_same xs k y gone near in
    let there : get_or (set xs k y) c gone ≡ get_or xs c gone = get_or-set_other xs k c y gone (λ s. v.1 (sym s)) in
    sym (come_alone xs k c y second guess was fits (ap (λ (x : Connection). x.stage) (sym here) ∙ f)
    (ap (λ (x : Connection). x.stage) (sym there) ∙ e) (sym named)
    (ap (λ (x : Connection). x.address) (sym here) ∙ sym from ∙ ap (λ (x : Connection). x.address) there)) ∙ w.1
alone_near xs k c other y guess second near was fits (inr v) (inr w) e f named from =
    let here : get_or (set xs k y) c gone ≡ get_or xs c gone = get_or-set_other xs k c y gone (λ s. v.1 (sym s)) in
    let there : get_or (set xs k y) other gone ≡ get_or xs other gone =
    get_or-set_other xs k other y gone (λ s. w.1 (sym s)) in
    was c other guess second (ap (λ (x : Connection). x.stage) (sym here) ∙ e)
    (ap (λ (x : Connection). x.stage) (sym there) ∙ f) named
    (ap (λ (x : Connection). x.address) (sym here) ∙ from ∙ ap (λ (x : Connection). x.address) there)

alone_set_by : (xs : List Connection) (k : ℕ) (y : Connection) → Alone xs → Fits xs k y
    → ((leb (length xs) k ≡ true) × (length xs ≤ k)) ⊎ ((leb (length xs) k ≡ false) × (k < length xs))
    → Alone (set xs k y)
alone_set_by xs k y was fits (inl w) = subst (λ (l : List Connection). Alone l) (sym (set_past xs k y w.1)) was
alone_set_by xs k y was fits (inr w) =
    λ c other guess second e f named from. alone_near xs k c other y guess second w.1 was fits (eqb_tells k c)
    (eqb_tells k other) e f named from

alone_set : (xs : List Connection) (k : ℕ) (y : Connection) → Alone xs → Fits xs k y → Alone (set xs k y)
alone_set xs k y was fits = alone_set_by xs k y was fits (leb_tells (length xs) k)

alone_gone : (xs : List Connection) (k : ℕ) → Alone xs → Alone (set xs k gone)
alone_gone xs k was = alone_set xs k gone was (λ guess e. absurd (cc (e)))

alone_either : (s t : Step) (b : Bool) → Alone s.desk.connections → Alone t.desk.connections
    → Alone (cond b s t).desk.connections
alone_either s t true h k = h
alone_either s t false h k = k

-- the same connection, with other bytes
fits_same : (xs : List Connection) (k : ℕ) (y : Connection) → y.stage ≡ (get_or xs k gone).stage
    → y.address ≡ (get_or xs k gone).address → Fits xs k y
fits_same xs k y stage address = λ guess e. (address, inl (sym stage ∙ e))

come_by : (d : Desk) (k : ℕ) (bytes : List ℕ) (fits : Bool) → Alone d.connections
    → Alone (cond fits (quietly (with_connection d k (record (connection_at d k) {
      waiting =
          (connection_at d k).waiting ++ bytes;
    }))) (ended d k [])).desk.connections
come_by d k bytes true was =
    let y : Connection = record (connection_at d k) { waiting = (connection_at d k).waiting ++ bytes } in
    alone_set d.connections k y was (fits_same d.connections k y refl refl)
come_by d k bytes false was = alone_gone d.connections k was

same_judged : (other guess : Guess) → Judged guess ≡ Judged other → other ≡ guess
same_judged other guess e = cc

ask_alone : (d : Desk) (k now : ℕ) (guess : Guess) (b : Bool) → is_turn d (connection_at d k) guess now ≡ b
    → Alone d.connections
    → Alone (cond b (asking d k (connection_at d k) guess now) (quietly d)).desk.connections
ask_alone d k now guess true turn was =
    let x = connection_at d k in
    let both = both_true (not (is_held d.guesses guess.name x.address now))
    (not (is_behind d.connections guess.name x.address x.patience.due)) turn in
    alone_set d.connections k (record x { stage = Judged guess }) was (λ other e. (
      refl,
      inr (
        x.patience.due,
        ap (λ (s : Guess). is_behind d.connections s.name x.address x.patience.due) (same_judged other guess e)
            ∙ not_true (is_behind d.connections guess.name x.address x.patience.due) both.1,
      ),
    ))
ask_alone d k now guess false turn was = was

wake_alone : (d : Desk) (k now : ℕ) (stage : Stage) → Alone d.connections
    → Alone (wake_by d k (connection_at d k) stage now).desk.connections
wake_alone d k now Gone was = was
wake_alone d k now Naming was = alone_either _ (quietly d) (leb (connection_at d k).patience.deadline now)
    (alone_gone d.connections k was) was
wake_alone d k now (Asking name) was = alone_either _ (quietly d) (leb (connection_at d k).patience.deadline now)
    (alone_gone d.connections k was) was
wake_alone d k now (Waiting guess) was = ask_alone d k now guess (is_turn d (connection_at d k) guess now) refl was
wake_alone d k now (Judged guess) was = was
wake_alone d k now Refused was =
    alone_either (after_pause d k (connection_at d k) now) (quietly d) (leb (connection_at d k).patience.due now)
    (alone_either _ _ (leb 3 (connection_at d k).patience.tries) (alone_gone d.connections k was)
    (alone_set d.connections k (record (connection_at d k) {
      stage = Naming;
      patience = again (connection_at d k).patience now;
    }) was (λ guess e. absurd (cc (e))))) was
wake_alone d k now (On user) was = alone_either (quietly d) _ (is_terminal (account_of d user).terminal k) was
    (alone_gone d.connections k was)

judge_alone : (d : Desk) (k : ℕ) (guess : Guess) (who : Option ℕ) (is_right : Bool) (now : ℕ) → Alone d.connections
    → Alone (judged_as d k guess who is_right now).desk.connections
judge_alone d k guess None is_right now was = alone_set d.connections k (record (connection_at d k) {
  stage = Refused;
  patience = refused (connection_at d k).patience now;
}) was (λ guess e. absurd (cc (e)))
judge_alone d k guess (Some user) true now was = alone_set d.connections k (record (connection_at d k) {
  stage = On user;
}) was (λ guess e. absurd (cc (e)))
judge_alone d k guess (Some user) false now was = alone_set d.connections k (record (connection_at d k) {
  stage = Refused;
  patience = refused (connection_at d k).patience now;
}) was (λ guess e. absurd (cc (e)))

answer_alone : (d : Desk) (k : ℕ) (guess : Guess) (is_right : Bool) (now : ℕ) (stage : Stage) → Alone d.connections
    → Alone (answer_by d k stage guess is_right now).desk.connections
answer_alone d k guess is_right now Gone was = was
answer_alone d k guess is_right now Naming was = was
answer_alone d k guess is_right now (Asking name) was = was
answer_alone d k guess is_right now (Waiting other) was = was
answer_alone d k guess is_right now (Judged other) was =
    alone_either (judged_as d k guess (user_of (names d) guess.name) is_right now) (quietly d) (same_guess other guess)
    (judge_alone d k guess (user_of (names d) guess.name) is_right now was) was
answer_alone d k guess is_right now Refused was = was
answer_alone d k guess is_right now (On user) was = was

-- no line makes a guess judged
no_judging : (stage : Stage) (said : Said) (guess : Guess) → (stage ≡ Naming)
    ⊎ ((name : List ℕ) × (stage ≡ Asking name)) → (after_line stage said).stage ≡ Judged guess → ⊥
no_judging Naming (Both other) guess logs e = cc
no_judging Naming (Name name) guess logs e = cc
no_judging Naming (Word word) guess logs e = cc
no_judging Naming Other guess logs e = cc
no_judging (Asking name) (Word password) guess logs e = cc
no_judging (Asking name) (Both other) guess logs e = cc
no_judging (Asking name) (Name other) guess logs e = cc
no_judging (Asking name) Other guess logs e = cc
no_judging Gone said guess (inl h) e = cc (h)
no_judging Gone said guess (inr h) e = cc (h.1)
no_judging (Waiting other) said guess (inl h) e = cc (h)
no_judging (Waiting other) said guess (inr h) e = cc (h.1)
no_judging (Judged other) said guess (inl h) e = cc (h)
no_judging (Judged other) said guess (inr h) e = cc (h.1)
no_judging Refused said guess (inl h) e = cc (h)
no_judging Refused said guess (inr h) e = cc (h.1)
no_judging (On other) said guess (inl h) e = cc (h)
no_judging (On other) said guess (inr h) e = cc (h.1)

logon_alone : (d : Desk) (k byte : ℕ) (rest line : List ℕ) (now : ℕ) → Alone d.connections
    → ((connection_at d k).stage ≡ Naming) ⊎ ((name : List ℕ) × ((connection_at d k).stage ≡ Asking name))
    → Alone (logon_line (with_connection d k (rest_of (connection_at d k) byte rest)) k
    (rest_of (connection_at d k) byte rest) line now).desk.connections
logon_alone d k byte rest line now was logs =
    let x = connection_at d k in
    let x1 = rest_of x byte rest in
    let a = arrives (with_connection d k x1) k x1 (after_line x.stage (meaning line)).stage now in
    let once : (comes_to (with_connection d k x1) k x1 (after_line x.stage (meaning line)).stage now).connections ≡ set
    d.connections k a.there = a.set_there ∙ set-set d.connections k x1 a.there in
    subst (λ (l : List Connection). Alone l) (sym once)
    (alone_set d.connections k a.there was (λ guess e.
    absurd (no_judging x.stage (meaning line) guess logs (sym a.stage_is ∙ e))))

rest_alone : (d : Desk) (k byte : ℕ) (rest : List ℕ) → Alone d.connections
    → Alone (set d.connections k (rest_of (connection_at d k) byte rest))
rest_alone d k byte rest was = alone_set d.connections k (rest_of (connection_at d k) byte rest) was
    (fits_same d.connections k (rest_of (connection_at d k) byte rest) refl refl)

line_alone : (d : Desk) (k byte : ℕ) (rest line : List ℕ) (now : ℕ) (stage : Stage) → Alone d.connections
    → (connection_at d k).stage ≡ stage → is_taking d k stage ≡ true
    → connection_at (with_connection d k (rest_of (connection_at d k) byte rest)) k ≡ rest_of
    (connection_at d k) byte rest
    → Alone (line_by (with_connection d k (rest_of (connection_at d k) byte rest)) k stage line now).desk.connections
line_alone d k byte rest line now Gone was e takes same = absurd (not_both false takes refl)
line_alone d k byte rest line now Naming was e takes same =
    subst (λ (x : Connection). Alone (logon_line (with_connection d k (rest_of (connection_at d k) byte rest)) k x line
    now).desk.connections) (sym same) (logon_alone d k byte rest line now was (inl e))
line_alone d k byte rest line now (Asking name) was e takes same =
    subst (λ (x : Connection). Alone (logon_line (with_connection d k (rest_of (connection_at d k) byte rest)) k x line
    now).desk.connections) (sym same) (logon_alone d k byte rest line now was (inr (name, e)))
line_alone d k byte rest line now (Waiting guess) was e takes same = absurd (not_both false takes refl)
line_alone d k byte rest line now (Judged guess) was e takes same = absurd (not_both false takes refl)
line_alone d k byte rest line now Refused was e takes same = absurd (not_both false takes refl)
line_alone d k byte rest line now (On user) was e takes same = rest_alone d k byte rest was

decoded_alone : (d : Desk) (k byte : ℕ) (rest : List ℕ) (now : ℕ) (decoded : Decoded) → Alone d.connections
    → is_taking d k (connection_at d k).stage ≡ true
    → connection_at (with_connection d k (rest_of (connection_at d k) byte rest)) k ≡ rest_of
    (connection_at d k) byte rest
    → Alone (after_decoded (with_connection d k (rest_of (connection_at d k) byte rest)) k decoded now).desk.connections
decoded_alone d k byte rest now Nothing was takes same = rest_alone d k byte rest was
decoded_alone d k byte rest now (Line line) was takes same =
    subst (λ (x : Connection). Alone (line_by (with_connection d k (rest_of (connection_at d k) byte rest)) k x.stage
    line now).desk.connections) (sym same)
    (line_alone d k byte rest line now (connection_at d k).stage was refl takes same)
decoded_alone d k byte rest now (Declines command option) was takes same = rest_alone d k byte rest was
decoded_alone d k byte rest now AreYouThere was takes same = rest_alone d k byte rest was

first_alone : (d : Desk) (k now : ℕ) (waiting : List ℕ) → Alone d.connections
    → is_taking d k (connection_at d k).stage ≡ true → Alone (after_first d k waiting now).desk.connections
first_alone d k now [] was takes = was
first_alone d k now (byte ∷ rest) was takes =
    decoded_alone d k byte rest now (after_byte (connection_at d k).decoder byte).decoded was takes
    (get_or-set_same d.connections k (rest_of (connection_at d k) byte rest) gone
    (within d k (taking_open d k (connection_at d k).stage takes)))

take_alone : (d : Desk) (k now : ℕ) (takes : Bool) → Alone d.connections
    → is_taking d k (connection_at d k).stage ≡ takes
    → Alone (cond takes (after_first d k (connection_at d k).waiting now) (quietly d)).desk.connections
take_alone d k now true was e = first_alone d k now (connection_at d k).waiting was e
take_alone d k now false was e = was

alone_step : (d : Desk) (event : Event) → Alone d.connections → Alone (step d event).desk.connections
alone_step d (Opens k address now) was = alone_set d.connections k (opened address now) was (λ guess e. absurd (cc (e)))
alone_step d (Comes k bytes) was = come_by d k bytes (leb (length (connection_at d k).waiting + length bytes) 4096) was
alone_step d (Takes k now) was = take_alone d k now (is_taking d k (connection_at d k).stage) was refl
alone_step d (Wakes k now) was = wake_alone d k now (connection_at d k).stage was
alone_step d (Answers k guess is_right now) was = answer_alone d k guess is_right now (connection_at d k).stage was
alone_step d (Closes k) was = alone_gone d.connections k was
alone_step d (Prints user line) was = was
alone_step d (Keeps user line) was = was
alone_step d (Turns user is_on is_running) was = was
alone_step d (Finishes user) was = was

vacant_alone : (size : ℕ) → Alone (new_desk [] size).connections
vacant_alone size = λ c other guess second e f named from.
    absurd (let no : Gone ≡ Judged guess = ap (λ (x : Connection). x.stage) (sym (vacant size c)) ∙ e in cc (no))

alone_after : (users : List (List ℕ)) (size : ℕ) (events : List Event)
    → Alone (after (new_desk users size) events).connections
alone_after users size [] = vacant_alone size
alone_after users size (event ∷ earlier) = alone_step (after (new_desk users size) earlier) event
    (alone_after users size earlier)

-- Two guesses at one name from one address are never judged at once.
pub alone : (users : List (List ℕ)) (size : ℕ) (events : List Event) (c other : ℕ) (guess second : Guess)
    → (connection_at (after (new_desk users size) events) c).stage ≡ Judged guess
    → (connection_at (after (new_desk users size) events) other).stage ≡ Judged second → guess.name ≡ second.name
    → (connection_at (after (new_desk users size) events) c).address
    ≡ (connection_at (after (new_desk users size) events) other).address → c ≡ other
alone users size events = alone_after users size events
