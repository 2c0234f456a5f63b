-- Whoever is on is on by the name and the password that he gave.
use Rattle.std.proofs.Common.{◌≡◌, ◌≢◌, ◌⊎◌, inl, inr, ◌<◌, ◌≤◌, ◌+◌, ◌&&◌, ◌||◌, ℕ, Bool, true, false, not, eqb, leb}
use Rattle.std.proofs.Common.{cond, List, [], ◌∷◌, ◌++◌, length, get_or, set, map, zero, suc, Option, Some, None, refl}
use Rattle.std.proofs.Common.{ap, sym, ◌∙◌, subst, get_or-set_other, get_or-set_same}
use Rattle.std.proofs.lemmas.Bool.Decides.{eqb_tells, leb_tells}
use Rattle.std.proofs.lemmas.List.{get_or_past, set_past, set-set}
use Rattle.std.proofs.lemmas.Slice.Eq.{bytes_eq-Decides}
use Rattle.std.specs.Str.{bytes_eq}
use Rattle.user_names.specs.Users.{user_of}
use Rattle.logon_desk.specs.Connection.{after_line, again, gone, opened, refused}
use Rattle.terminal_lines.specs.Decoder.{after_byte}
use Rattle.logon_desk.specs.Desk.{Answers, Closes, Comes, Desk, Event, Finishes, Keeps, Opens, Prints, Step, Takes}
use Rattle.logon_desk.specs.Desk.{Turns, Wakes, account_of, after_decoded, after_first, after_pause}
use Rattle.logon_desk.specs.Desk.{answer_by, comes_to, connection_at, ended, is_gone, is_on_at, is_taking}
use Rattle.logon_desk.specs.Desk.{is_terminal, is_user, judged_as, line_by, logon_line, names, new_desk, nobody}
use Rattle.logon_desk.specs.Desk.{asking, is_turn, quietly, same_guess, step, wake_by, with_connection}
use Rattle.logon_desk.specs.History.{Gives, IsOnBy, LogsOn, Stays, after, arrived, meaning}
use Rattle.logon_desk.specs.History.{reading_of}
use Rattle.logon_desk.specs.declared.account.Account.{Account}
use Rattle.logon_desk.specs.declared.connection.Connection.{Connection}
use Rattle.logon_desk.specs.declared.connection.Stage.{Stage}
use Rattle.logon_desk.specs.declared.connection.Stage.TheVariants.{Gone, Naming, Asking, Waiting, Judged, Refused, On}
use Rattle.terminal_lines.specs.declared.decoder.Decoded.{Decoded}
use Rattle.terminal_lines.specs.declared.decoder.Decoded.TheVariants.{Nothing, Line, Declines, AreYouThere}
use Rattle.terminal_lines.specs.declared.words.Guess.{Guess}
use Rattle.terminal_lines.specs.declared.words.Said.{Said}
use Rattle.terminal_lines.specs.declared.words.Said.TheVariants.{Both, Name, Word, Other}
use Rattle.logon_desk.proofs.Hearing.{arrives, heard, not_both, rest_of, taking_open, vacant, within}
use Rattle.logon_desk.proofs.Reading.{Heard, at_one}

-- the stages of connections

-- he was on at the connection before, too
abbrev Before : Desk → ℕ → ℕ → Desk → Type 0
Before d c user new = (connection_at new c).stage ≡ On user → (connection_at d c).stage ≡ On user

before_set : (d : Desk) (k c user : ℕ) (y : Connection) → (y.stage ≡ On user → (connection_at d k).stage ≡ On user)
    → (get_or (set d.connections k y) c gone).stage ≡ On user → (connection_at d c).stage ≡ On user
before_set d k c user y here =
    at_one (λ (x : Connection). x.stage ≡ On user → (connection_at d c).stage ≡ On user) d.connections k c y
    (λ e. absurd cc)
    (λ same e. subst (λ (n : ℕ). (connection_at d n).stage ≡ On user) same (here e)) (λ _ e. e)

before_gone : (d : Desk) (k c user : ℕ) → (get_or (set d.connections k gone) c gone).stage ≡ On user
    → (connection_at d c).stage ≡ On user
before_gone d k c user = before_set d k c user gone (λ e. absurd cc)

comes_before : (d : Desk) (k c user : ℕ) (bytes : List ℕ) (fits : Bool)
    → Before d c user (cond fits (quietly (with_connection d k
    (record (connection_at d k) { waiting = (connection_at d k).waiting ++ bytes }))) (ended d k [])).desk
comes_before d k c user bytes true = before_set d k c user (record
    (connection_at d k) { waiting = (connection_at d k).waiting ++ bytes }) (λ e. e)
comes_before d k c user bytes false = before_gone d k c user

either_before : (d : Desk) (c user : ℕ) (s t : Step) (b : Bool) → Before d c user s.desk → Before d c user t.desk
    → Before d c user (cond b s t).desk
either_before d c user s t true h k = h
either_before d c user s t false h k = k

wakes_before : (d : Desk) (k c user now : ℕ) (stage : Stage)
    → Before d c user (wake_by d k (connection_at d k) stage now).desk
wakes_before d k c user now Gone = λ e. e
wakes_before d k c user now Naming = either_before d c user _ (quietly d)
    (leb (connection_at d k).patience.deadline now) (before_gone d k c user) (λ e. e)
wakes_before d k c user now (Asking name) = either_before d c user _ (quietly d)
    (leb (connection_at d k).patience.deadline now) (before_gone d k c user) (λ e. e)
wakes_before d k c user now (Waiting guess) =
    either_before d c user (asking d k (connection_at d k) guess now) (quietly d)
    (is_turn d (connection_at d k) guess now)
    (before_set d k c user (record (connection_at d k) { stage = Judged guess }) (λ e. absurd cc)) (λ e. e)
wakes_before d k c user now (Judged guess) = λ e. e
wakes_before d k c user now Refused =
    either_before d c user (after_pause d k (connection_at d k) now) (quietly d)
    (leb (connection_at d k).patience.due now)
    (either_before d c user _ _ (leb 3 (connection_at d k).patience.tries) (before_gone d k c user)
    (before_set d k c user (record (connection_at d k) {
      stage = Naming;
      patience = again (connection_at d k).patience now;
    }) (λ e. absurd cc))) (λ e. e)
wakes_before d k c user now (On other) = either_before d c user (quietly d) _
    (is_terminal (account_of d other).terminal k) (λ e. e) (before_gone d k c user)

-- no line alone lets anybody on
no_logon : (stage : Stage) (said : Said) (user : ℕ) → (stage ≡ Naming) ⊎ ((name : List ℕ) × (stage ≡ Asking name))
    → (after_line stage said).stage ≡ On user → ⊥
no_logon Naming (Both guess) user logs e = cc
no_logon Naming (Name name) user logs e = cc
no_logon Naming (Word word) user logs e = cc
no_logon Naming Other user logs e = cc
no_logon (Asking name) (Word password) user logs e = cc
no_logon (Asking name) (Both guess) user logs e = cc
no_logon (Asking name) (Name other) user logs e = cc
no_logon (Asking name) Other user logs e = cc
no_logon Gone said user (inl h) e = cc (h)
no_logon Gone said user (inr h) e = cc (h.1)
no_logon (Waiting guess) said user (inl h) e = cc (h)
no_logon (Waiting guess) said user (inr h) e = cc (h.1)
no_logon (Judged guess) said user (inl h) e = cc (h)
no_logon (Judged guess) said user (inr h) e = cc (h.1)
no_logon Refused said user (inl h) e = cc (h)
no_logon Refused said user (inr h) e = cc (h.1)
no_logon (On other) said user (inl h) e = cc (h)
no_logon (On other) said user (inr h) e = cc (h.1)

logon_before : (d : Desk) (k c user byte : ℕ) (rest line : List ℕ) (now : ℕ) → ((connection_at d k).stage ≡ Naming)
    ⊎ ((name : List ℕ) × ((connection_at d k).stage ≡ Asking name))
    → Before d c user (logon_line (with_connection d k (rest_of (connection_at d k) byte rest)) k
    (rest_of (connection_at d k) byte rest) line now).desk
logon_before d k c user byte rest line now logs =
    let x = connection_at d k in
    let x1 = rest_of x byte rest in
    let a = arrives (with_connection d k x1) k x1 (after_line x.stage (meaning line)).stage now in
    let once : (comes_to (with_connection d k x1) k x1 (after_line x.stage (meaning line)).stage now).connections ≡ set
    d.connections k a.there = a.set_there ∙ set-set d.connections k x1 a.there in
    subst (λ (l : List Connection). (get_or l c gone).stage ≡ On user → (connection_at d c).stage ≡ On user) (sym once)
    (before_set d k c user a.there (λ e. absurd (no_logon x.stage (meaning line) user logs (sym a.stage_is ∙ e))))

line_before : (d : Desk) (k c user byte : ℕ) (rest line : List ℕ) (now : ℕ) (stage : Stage)
    → (connection_at d k).stage ≡ stage → is_taking d k stage ≡ true
    → connection_at (with_connection d k (rest_of (connection_at d k) byte rest)) k ≡ rest_of
    (connection_at d k) byte rest
    → Before d c user (line_by (with_connection d k (rest_of (connection_at d k) byte rest)) k stage line now).desk
line_before d k c user byte rest line now Gone e takes same = absurd (not_both false takes refl)
line_before d k c user byte rest line now Naming e takes same =
    subst (λ (x : Connection). Before d c user (logon_line (with_connection d k (rest_of (connection_at d k) byte rest))
    k x line now).desk) (sym same) (logon_before d k c user byte rest line now (inl e))
line_before d k c user byte rest line now (Asking name) e takes same =
    subst (λ (x : Connection). Before d c user (logon_line (with_connection d k (rest_of (connection_at d k) byte rest))
    k x line now).desk) (sym same) (logon_before d k c user byte rest line now (inr (name, e)))
line_before d k c user byte rest line now (Waiting guess) e takes same = absurd (not_both false takes refl)
line_before d k c user byte rest line now (Judged guess) e takes same = absurd (not_both false takes refl)
line_before d k c user byte rest line now Refused e takes same = absurd (not_both false takes refl)
line_before d k c user byte rest line now (On other) e takes same = before_set d k c user
    (rest_of (connection_at d k) byte rest) (λ h. h)

decoded_before : (d : Desk) (k c user byte : ℕ) (rest : List ℕ) (now : ℕ) (decoded : Decoded)
    → is_taking d k (connection_at d k).stage ≡ true
    → connection_at (with_connection d k (rest_of (connection_at d k) byte rest)) k ≡ rest_of
    (connection_at d k) byte rest
    → Before d c user (after_decoded (with_connection d k (rest_of (connection_at d k) byte rest)) k decoded now).desk
decoded_before d k c user byte rest now Nothing takes same = before_set d k c user
    (rest_of (connection_at d k) byte rest) (λ h. h)
decoded_before d k c user byte rest now (Line line) takes same =
    subst (λ (x : Connection). Before d c user (line_by (with_connection d k (rest_of (connection_at d k) byte rest)) k
    x.stage line now).desk) (sym same)
    (line_before d k c user byte rest line now (connection_at d k).stage refl takes same)
decoded_before d k c user byte rest now (Declines command option) takes same = before_set d k c user
    (rest_of (connection_at d k) byte rest) (λ h. h)
decoded_before d k c user byte rest now AreYouThere takes same = before_set d k c user
    (rest_of (connection_at d k) byte rest) (λ h. h)

first_before : (d : Desk) (k c user now : ℕ) (waiting : List ℕ) → is_taking d k (connection_at d k).stage ≡ true
    → Before d c user (after_first d k waiting now).desk
first_before d k c user now [] takes = λ e. e
first_before d k c user now (byte ∷ rest) takes =
    decoded_before d k c user byte rest now (after_byte (connection_at d k).decoder byte).decoded takes
    (get_or-set_same d.connections k (rest_of (connection_at d k) byte rest) gone
    (within d k (taking_open d k (connection_at d k).stage takes)))

takes_before : (d : Desk) (k c user now : ℕ) (takes : Bool) → is_taking d k (connection_at d k).stage ≡ takes
    → Before d c user (cond takes (after_first d k (connection_at d k).waiting now) (quietly d)).desk
takes_before d k c user now true e = first_before d k c user now (connection_at d k).waiting e
takes_before d k c user now false e = λ h. h

-- the event opens or closes another connection, if any
abbrev NotReset : ℕ → Event → Type 0
NotReset c (Opens other address now) = other ≢ c
NotReset c (Comes other bytes) = Unit {0}
NotReset c (Takes other now) = Unit {0}
NotReset c (Wakes other now) = Unit {0}
NotReset c (Answers other guess is_right now) = Unit {0}
NotReset c (Closes other) = other ≢ c
NotReset c (Prints user line) = Unit {0}
NotReset c (Keeps user line) = Unit {0}
NotReset c (Turns user is_on is_running) = Unit {0}
NotReset c (Finishes user) = Unit {0}

abbrev Was : Desk → ℕ → ℕ → Event → Type 0
Was d c user event = (((connection_at d c).stage ≡ On user) × NotReset c event) ⊎ LogsOn d c user event

same_user : (user other : ℕ) → On user ≡ On other → user ≡ other
same_user user other e = cc

same_some : (user other : ℕ) → Some user ≡ Some other → user ≡ other
same_some user other e = cc

reset_set : (d : Desk) (k c user : ℕ) (y : Connection) (event : Event) → (y.stage ≡ On user → ⊥)
    → (k ≢ c → NotReset c event) → (get_or (set d.connections k y) c gone).stage ≡ On user → Was d c user event
reset_set d k c user y event here other =
    at_one (λ (x : Connection). x.stage ≡ On user → Was d c user event) d.connections k c y (λ e. absurd cc)
    (λ _ e. absurd (here e)) (λ differs e. inl (e, other differs))

judged_was : (d : Desk) (k c user : ℕ) (guess other : Guess) (who : Option ℕ) (is_right : Bool) (now : ℕ)
    → (connection_at d k).stage ≡ Judged other → other ≡ guess → user_of (names d) guess.name ≡ who
    → (connection_at (judged_as d k guess who is_right now).desk c).stage ≡ On user
    → Was d c user (Answers k guess is_right now)
judged_was d k c user guess other None is_right now stage same found =
    reset_set d k c user (record (connection_at d k) {
      stage = Refused;
      patience = refused (connection_at d k).patience now;
    }) (Answers k guess is_right now) (λ e. cc) (λ _. tt)
judged_was d k c user guess other (Some who) false now stage same found =
    reset_set d k c user (record (connection_at d k) {
      stage = Refused;
      patience = refused (connection_at d k).patience now;
    }) (Answers k guess false now) (λ e. cc) (λ _. tt)
judged_was d k c user guess other (Some who) true now stage same found =
    at_one (λ (x : Connection). x.stage ≡ On user → Was d c user (Answers k guess true now)) d.connections k c
    (record (connection_at d k) { stage = On who }) (λ e. absurd cc)
    (λ there e. inr (record {
      guess = guess;
      now = now;
      answer = ap (λ (n : ℕ). Answers n guess true now) there;
      judged = subst (λ (n : ℕ). (connection_at d n).stage ≡ Judged guess) there (stage
          ∙ ap (λ (g : Guess). Judged g) same);
      his = found ∙ ap (λ (n : ℕ). Some n) (same_user who user e);
    }))
    (λ differs e. inl (e, tt))

-- Two conditions that hold together hold each.
pub both_true : (a b : Bool) → (a && b) ≡ true → (a ≡ true) × (b ≡ true)
both_true true true h = (refl, refl)
both_true true false h = absurd cc
both_true false b h = absurd cc

-- Guesses that are compared as the same are equal.
pub guesses_same : (one other : Guess) → same_guess one other ≡ true → one ≡ other
guesses_same one other h =
    let both = both_true (bytes_eq one.name other.name) (bytes_eq one.password other.password) h in
    let name : one.name ≡ other.name = (bytes_eq-Decides one.name other.name).0 both.0 in
    let password : one.password ≡ other.password = (bytes_eq-Decides one.password other.password).0 both.1 in
    ap (λ (n : List ℕ). record { name = n; password = one.password }) name
    ∙ ap (λ (p : List ℕ). record { name = other.name; password = p }) password

same_was : (d : Desk) (k c user : ℕ) (guess other : Guess) (is_right : Bool) (now : ℕ) (is_same : Bool)
    → same_guess other guess ≡ is_same → (connection_at d k).stage ≡ Judged other
    → (connection_at (cond is_same (judged_as d k guess (user_of (names d) guess.name) is_right now) (quietly d)).desk
    c).stage ≡ On user → Was d c user (Answers k guess is_right now)
same_was d k c user guess other is_right now true same stage = judged_was d k c user guess other
    (user_of (names d) guess.name) is_right now stage (guesses_same other guess same) refl
same_was d k c user guess other is_right now false same stage = λ e. inl (e, tt)

answers_was : (d : Desk) (k c user : ℕ) (guess : Guess) (is_right : Bool) (now : ℕ) (stage : Stage)
    → (connection_at d k).stage ≡ stage → (connection_at (answer_by d k stage guess is_right now).desk c).stage ≡ On
    user
    → Was d c user (Answers k guess is_right now)
answers_was d k c user guess is_right now Gone e h = inl (h, tt)
answers_was d k c user guess is_right now Naming e h = inl (h, tt)
answers_was d k c user guess is_right now (Asking name) e h = inl (h, tt)
answers_was d k c user guess is_right now (Waiting other) e h = inl (h, tt)
answers_was d k c user guess is_right now (Judged other) e h = same_was d k c user guess other is_right now
    (same_guess other guess) refl e h
answers_was d k c user guess is_right now Refused e h = inl (h, tt)
answers_was d k c user guess is_right now (On other) e h = inl (h, tt)

-- whoever has logged on at a connection had before, and the event opens and closes it not, or logs on there
was_on : (d : Desk) (event : Event) (c user : ℕ) → (connection_at (step d event).desk c).stage ≡ On user
    → Was d c user event
was_on d (Opens k address now) c user = reset_set d k c user (opened address now) (Opens k address now) (λ e. cc)
    (λ differs. differs)
was_on d (Comes k bytes) c user = λ h. inl (
  comes_before d k c user bytes
      (leb (length (connection_at d k).waiting + length bytes) 4096) h,
  tt,
)
was_on d (Takes k now) c user = λ h. inl (
  takes_before d k c user now (is_taking d k (connection_at d k).stage) refl h,
  tt,
)
was_on d (Wakes k now) c user = λ h. inl (wakes_before d k c user now (connection_at d k).stage h, tt)
was_on d (Answers k guess is_right now) c user = answers_was d k c user guess is_right now
    (connection_at d k).stage refl
was_on d (Closes k) c user = reset_set d k c user gone (Closes k) (λ e. cc) (λ differs. differs)
was_on d (Prints other line) c user = λ h. inl (h, tt)
was_on d (Keeps other line) c user = λ h. inl (h, tt)
was_on d (Turns other is_on is_running) c user = λ h. inl (h, tt)
was_on d (Finishes other) c user = λ h. inl (h, tt)

-- the accounts

account_by : (P : Account → Type 0) (xs : List Account) (k user : ℕ) (y : Account) → P nobody → (k ≡ user → P y)
    → (k ≢ user → P (get_or xs user nobody))
    → ((eqb k user ≡ true) × (k ≡ user)) ⊎ ((eqb k user ≡ false) × (k ≢ user))
    → ((leb (length xs) k ≡ true) × (length xs ≤ k)) ⊎ ((leb (length xs) k ≡ false) × (k < length xs))
    → P (get_or (set xs k y) user nobody)
account_by P xs k user y none here there (inl w) (inl far) =
    subst P (sym (ap (λ (l : List Account). get_or l user nobody) (set_past xs k y far.1)
    ∙ get_or_past xs user nobody (subst (λ (n : ℕ). length xs ≤ n) w.1 far.1))) none
account_by P xs k user y none here there (inl w) (inr near) =
    subst P (sym (ap (λ (n : ℕ). get_or (set xs k y) n nobody) (sym w.1) ∙ get_or-set_same xs k y nobody near.1))
    (here w.1)
account_by P xs k user y none here there (inr w) far =
    let differs : user ≢ k = λ e. w.1 (sym e) in subst P (sym (get_or-set_other xs k user y nobody differs)) (there w.1)

pub at_account : (P : Account → Type 0) (xs : List Account) (k user : ℕ) (y : Account) → P nobody → (k ≡ user → P y)
    → (k ≢ user → P (get_or xs user nobody)) → P (get_or (set xs k y) user nobody)
at_account P xs k user y none here there = account_by P xs k user y none here there (eqb_tells k user)
    (leb_tells (length xs) k)

-- what an event does to the accounts: nothing, or it sets one of them
pub record Sets (d : Desk) (new : Desk) (who : ℕ) (there : Account) : Type 0 where
  pub set_there : new.accounts ≡ set d.accounts who there

either_accounts : (d : Desk) (s t : Step) (b : Bool) → s.desk.accounts ≡ d.accounts → t.desk.accounts ≡ d.accounts
    → (cond b s t).desk.accounts ≡ d.accounts
either_accounts d s t true h k = h
either_accounts d s t false h k = k

-- Waking a connection changes no account.
pub wakes_accounts : (d : Desk) (k now : ℕ) (stage : Stage) →
    (wake_by d k (connection_at d k) stage now).desk.accounts ≡ d.accounts
wakes_accounts d k now Gone = refl
wakes_accounts d k now Naming = either_accounts d _ (quietly d)
    (leb (connection_at d k).patience.deadline now) refl refl
wakes_accounts d k now (Asking name) = either_accounts d _ (quietly d)
    (leb (connection_at d k).patience.deadline now) refl refl
wakes_accounts d k now (Waiting guess) = either_accounts d (asking d k (connection_at d k) guess now) (quietly d)
    (is_turn d (connection_at d k) guess now) refl refl
wakes_accounts d k now (Judged guess) = refl
wakes_accounts d k now Refused =
    either_accounts d (after_pause d k (connection_at d k) now) (quietly d) (leb (connection_at d k).patience.due now)
    (either_accounts d _ _ (leb 3 (connection_at d k).patience.tries) refl refl) refl
wakes_accounts d k now (On other) = either_accounts d (quietly d) _
    (is_terminal (account_of d other).terminal k) refl refl

come_accounts : (d : Desk) (c : ℕ) (x : Connection) (stage : Stage) (now : ℕ)
    → (comes_to d c x stage now).accounts ≡ d.accounts
come_accounts d c x Gone now = refl
come_accounts d c x Naming now = refl
come_accounts d c x (Asking name) now = refl
come_accounts d c x (Waiting guess) now = refl
come_accounts d c x (Judged guess) now = refl
come_accounts d c x Refused now = refl
come_accounts d c x (On user) now = refl

-- a byte that is taken makes no account another one's, but that a line of his is being done
abbrev pub Busy : List Account → List Account → Type 0
Busy old new = (new ≡ old) ⊎ ((who : ℕ) × (new ≡ set old who (record (get_or old who nobody) { is_busy = true })))

line_accounts : (d : Desk) (c : ℕ) (stage : Stage) (line : List ℕ) (now : ℕ)
    → Busy d.accounts (line_by d c stage line now).desk.accounts
line_accounts d c Gone line now = inl (come_accounts d c (connection_at d c)
    (after_line (connection_at d c).stage (meaning line)).stage now)
line_accounts d c Naming line now = inl (come_accounts d c (connection_at d c)
    (after_line (connection_at d c).stage (meaning line)).stage now)
line_accounts d c (Asking name) line now = inl (come_accounts d c (connection_at d c)
    (after_line (connection_at d c).stage (meaning line)).stage now)
line_accounts d c (Waiting guess) line now = inl (come_accounts d c (connection_at d c)
    (after_line (connection_at d c).stage (meaning line)).stage now)
line_accounts d c (Judged guess) line now = inl (come_accounts d c (connection_at d c)
    (after_line (connection_at d c).stage (meaning line)).stage now)
line_accounts d c Refused line now = inl (come_accounts d c (connection_at d c)
    (after_line (connection_at d c).stage (meaning line)).stage now)
line_accounts d c (On user) line now = inr (user, refl)

decoded_accounts : (d : Desk) (c : ℕ) (decoded : Decoded) (now : ℕ)
    → Busy d.accounts (after_decoded d c decoded now).desk.accounts
decoded_accounts d c Nothing now = inl refl
decoded_accounts d c (Line line) now = line_accounts d c (connection_at d c).stage line now
decoded_accounts d c (Declines command option) now = inl refl
decoded_accounts d c AreYouThere now = inl refl

first_accounts : (d : Desk) (c : ℕ) (waiting : List ℕ) (now : ℕ)
    → Busy d.accounts (after_first d c waiting now).desk.accounts
first_accounts d c [] now = inl refl
first_accounts d c (byte ∷ rest) now =
    decoded_accounts (with_connection d c (rest_of (connection_at d c) byte rest)) c
    (after_byte (connection_at d c).decoder byte).decoded now

-- Taking the next bytes of a connection changes accounts only as one that is busy.
pub takes_accounts : (d : Desk) (c now : ℕ) (takes : Bool) → Busy d.accounts
    (cond takes (after_first d c (connection_at d c).waiting now) (quietly d)).desk.accounts
takes_accounts d c now true = first_accounts d c (connection_at d c).waiting now
takes_accounts d c now false = inl refl

-- an answer changes no account but that of who logs on
abbrev pub Logged : Desk → Event → List Account → Type 0
Logged d event new = (new ≡ d.accounts) ⊎ ((c who : ℕ) × LogsOn d c who event
    × (new ≡ set d.accounts who (record (account_of d who) {
      terminal = Some c;
      is_busy = (account_of d who).is_busy || not (account_of d who).is_on;
    })))

judged_accounts : (d : Desk) (k : ℕ) (guess other : Guess) (who : Option ℕ) (is_right : Bool) (now : ℕ)
    → (connection_at d k).stage ≡ Judged other → other ≡ guess → user_of (names d) guess.name ≡ who
    → Logged d (Answers k guess is_right now) (judged_as d k guess who is_right now).desk.accounts
judged_accounts d k guess other None is_right now stage same found = inl refl
judged_accounts d k guess other (Some who) false now stage same found = inl refl
judged_accounts d k guess other (Some who) true now stage same found =
    inr (
      k,
      who,
      record {
        guess = guess;
        now = now;
        answer = refl;
        judged = stage
            ∙ ap (λ (g : Guess). Judged g) same;
        his = found;
      },
      refl,
    )

same_accounts : (d : Desk) (k : ℕ) (guess other : Guess) (is_right : Bool) (now : ℕ) (is_same : Bool)
    → same_guess other guess ≡ is_same → (connection_at d k).stage ≡ Judged other
    → Logged d (Answers k guess is_right now) (cond is_same (judged_as d k guess
    (user_of (names d) guess.name) is_right now) (quietly d)).desk.accounts
same_accounts d k guess other is_right now true same stage = judged_accounts d k guess other
    (user_of (names d) guess.name) is_right now stage (guesses_same other guess same) refl
same_accounts d k guess other is_right now false same stage = inl refl

-- An answer to a guess changes accounts only by logging its user on.
pub answers_accounts : (d : Desk) (k : ℕ) (guess : Guess) (is_right : Bool) (now : ℕ) (stage : Stage)
    → (connection_at d k).stage ≡ stage → Logged d (Answers k guess is_right now)
    (answer_by d k stage guess is_right now).desk.accounts
answers_accounts d k guess is_right now Gone e = inl refl
answers_accounts d k guess is_right now Naming e = inl refl
answers_accounts d k guess is_right now (Asking name) e = inl refl
answers_accounts d k guess is_right now (Waiting other) e = inl refl
answers_accounts d k guess is_right now (Judged other) e = same_accounts d k guess other is_right now
    (same_guess other guess) refl e
answers_accounts d k guess is_right now Refused e = inl refl
answers_accounts d k guess is_right now (On other) e = inl refl

-- Bytes that come for a connection change no account.
pub comes_accounts : (d : Desk) (k : ℕ) (bytes : List ℕ) (fits : Bool)
    → (cond fits (quietly (with_connection d k (record (connection_at d k) {
      waiting =
          (connection_at d k).waiting ++ bytes;
    }))) (ended d k [])).desk.accounts ≡ d.accounts
comes_accounts d k bytes true = refl
comes_accounts d k bytes false = refl

-- the names stay

same_names : (people : List Account) (who : ℕ) (y : Account) → y.name ≡ (get_or people who nobody).name
    → map (λ (a : Account). a.name) (set people who y) ≡ map (λ (a : Account). a.name) people
same_names [] who y h = refl
same_names (a ∷ people) zero y h = ap (λ (n : List ℕ). n ∷ map (λ (b : Account). b.name) people) h
same_names (a ∷ people) (suc who) y h = ap (λ (l : List (List ℕ)). a.name ∷ l) (same_names people who y h)

busy_names : (old new : List Account) → Busy old new → map (λ (a : Account). a.name) new ≡ map
    (λ (a : Account). a.name) old
busy_names old new (inl e) = ap (λ (l : List Account). map (λ (a : Account). a.name) l) e
busy_names old new (inr e) = ap (λ (l : List Account). map (λ (a : Account). a.name) l) e.1
    ∙ same_names old e.0 (record (get_or old e.0 nobody) { is_busy = true }) refl

logged_names : (d : Desk) (event : Event) (new : List Account) → Logged d event new
    → map (λ (a : Account). a.name) new ≡ names d
logged_names d event new (inl e) = ap (λ (l : List Account). map (λ (a : Account). a.name) l) e
logged_names d event new (inr e) = ap (λ (l : List Account). map (λ (a : Account). a.name) l) e.3
    ∙ same_names d.accounts e.1 _ refl

names_step : (d : Desk) (event : Event) → names (step d event).desk ≡ names d
names_step d (Opens k address now) = refl
names_step d (Comes k bytes) = ap (λ (l : List Account). map (λ (a : Account). a.name) l)
    (comes_accounts d k bytes (leb (length (connection_at d k).waiting + length bytes) 4096))
names_step d (Takes k now) = busy_names d.accounts _ (takes_accounts d k now (is_taking d k (connection_at d k).stage))
names_step d (Wakes k now) = ap (λ (l : List Account). map (λ (a : Account). a.name) l)
    (wakes_accounts d k now (connection_at d k).stage)
names_step d (Answers k guess is_right now) = logged_names d (Answers k guess is_right now) _
    (answers_accounts d k guess is_right now (connection_at d k).stage refl)
names_step d (Closes k) = refl
names_step d (Prints user line) = refl
names_step d (Keeps user line) = same_names d.accounts user _ refl
names_step d (Turns user is_on is_running) = same_names d.accounts user _ refl
names_step d (Finishes user) = same_names d.accounts user _ refl

-- The names of users stay, whatever happens.
pub names_stay : (first : Desk) (events : List Event) → names (after first events) ≡ names first
names_stay first [] = refl
names_stay first (event ∷ earlier) = names_step (after first earlier) event ∙ names_stay first earlier

-- the terminals of users

abbrev NotOff : ℕ → Event → Type 0
NotOff user (Opens other address now) = Unit {0}
NotOff user (Comes other bytes) = Unit {0}
NotOff user (Takes other now) = Unit {0}
NotOff user (Wakes other now) = Unit {0}
NotOff user (Answers other guess is_right now) = Unit {0}
NotOff user (Closes other) = Unit {0}
NotOff user (Prints other line) = Unit {0}
NotOff user (Keeps other line) = Unit {0}
NotOff user (Turns other true is_running) = Unit {0}
NotOff user (Turns other false is_running) = other ≢ user
NotOff user (Finishes other) = Unit {0}

abbrev Had : Desk → ℕ → ℕ → Event → Type 0
Had d c user event = ((is_terminal (account_of d user).terminal c ≡ true) × NotOff user event) ⊎ LogsOn d c user event

abbrev HasNow : Desk → ℕ → ℕ → Event → List Account → Type 0
HasNow d c user event new = is_terminal (get_or new user nobody).terminal c ≡ true → Had d c user event

had_same : (d : Desk) (c user : ℕ) (event : Event) (new : List Account) → NotOff user event → new ≡ d.accounts
    → HasNow d c user event new
had_same d c user event new off e h = inl (
  subst (λ (l : List Account). is_terminal
      (get_or l user nobody).terminal c ≡ true) e h,
  off,
)

had_set : (d : Desk) (c user who : ℕ) (y : Account) (event : Event) → (who ≢ user → NotOff user event)
    → (who ≡ user → is_terminal y.terminal c ≡ true → Had d c user event) → HasNow d c user event (set d.accounts who y)
had_set d c user who y event off here =
    at_account (λ (a : Account). is_terminal a.terminal c ≡ true → Had d c user event) d.accounts who user y
    (λ h. absurd (not_both false h refl)) here (λ differs h. inl (h, off differs))

had_who : (d : Desk) (c user who : ℕ) (event : Event) → NotOff user event → who ≡ user
    → is_terminal (account_of d who).terminal c ≡ true → Had d c user event
had_who d c user who event off same h = inl (
  subst (λ (n : ℕ). is_terminal (account_of d n).terminal c ≡ true) same h,
  off,
)

had_busy : (d : Desk) (c user : ℕ) (event : Event) (new : List Account) → NotOff user event → Busy d.accounts new
    → HasNow d c user event new
had_busy d c user event new off (inl e) = had_same d c user event new off e
had_busy d c user event new off (inr e) =
    subst (λ (l : List Account). HasNow d c user event l) (sym e.1)
    (had_set d c user e.0 (record (account_of d e.0) { is_busy = true }) event (λ _. off)
    (λ same h. had_who d c user e.0 event off same h))

-- Numbers that are compared as equal are equal.
pub eqb_is : (a b : ℕ) → eqb a b ≡ true → a ≡ b
eqb_is a b h = elim (eqb_tells a b) [ inl w ↦ w.1 | inr w ↦ absurd (not_both (eqb a b) h w.0) ]

moved_on : (d : Desk) (k c who user : ℕ) (event : Event) → k ≡ c → who ≡ user → LogsOn d k who event
    → LogsOn d c user event
moved_on d k c who user event here same l = subst (λ (n : ℕ). LogsOn d n user event) here
    (subst (λ (u : ℕ). LogsOn d k u event) same l)

had_logged : (d : Desk) (c user : ℕ) (event : Event) (new : List Account) → NotOff user event → Logged d event new
    → HasNow d c user event new
had_logged d c user event new off (inl e) = had_same d c user event new off e
had_logged d c user event new off (inr e) =
    subst (λ (l : List Account). HasNow d c user event l) (sym e.3)
    (had_set d c user e.1 (record (account_of d e.1) {
      terminal = Some e.0;
      is_busy = (account_of d e.1).is_busy || not (account_of d e.1).is_on;
    }) event (λ _. off)
    (λ same h. inr (moved_on d e.0 c e.1 user event (eqb_is e.0 c h) same e.2)))

turned_off : (t : Option ℕ) (c : ℕ) (b : Bool) → is_terminal (cond b t None) c ≡ true → (is_terminal t c ≡ true)
    × (b ≡ true)
turned_off t c true h = (h, refl)
turned_off t c false h = absurd (not_both false h refl)

had_turned : (d : Desk) (c user who : ℕ) (is_on is_running : Bool)
    → HasNow d c user (Turns who is_on is_running) (step d (Turns who is_on is_running)).desk.accounts
had_turned d c user who true is_running = had_set d c user who _ (Turns who true is_running) (λ _. tt)
    (λ same h. had_who d c user who (Turns who true is_running) tt same h)
had_turned d c user who false is_running = had_set d c user who _ (Turns who false is_running) (λ differs. differs)
    (λ same h. absurd (not_both false h refl))

-- a terminal that a user has he had before, and his machine is not switched off, or he logs on there
had_terminal : (d : Desk) (event : Event) (c user : ℕ) → HasNow d c user event (step d event).desk.accounts
had_terminal d (Opens k address now) c user = had_same d c user (Opens k address now) _ tt refl
had_terminal d (Comes k bytes) c user = had_same d c user (Comes k bytes) _ tt
    (comes_accounts d k bytes (leb (length (connection_at d k).waiting + length bytes) 4096))
had_terminal d (Takes k now) c user = had_busy d c user (Takes k now) _ tt
    (takes_accounts d k now (is_taking d k (connection_at d k).stage))
had_terminal d (Wakes k now) c user = had_same d c user (Wakes k now) _ tt
    (wakes_accounts d k now (connection_at d k).stage)
had_terminal d (Answers k guess is_right now) c user = had_logged d c user (Answers k guess is_right now) _ tt
    (answers_accounts d k guess is_right now (connection_at d k).stage refl)
had_terminal d (Closes k) c user = had_same d c user (Closes k) _ tt refl
had_terminal d (Prints other line) c user = had_same d c user (Prints other line) _ tt refl
had_terminal d (Keeps other line) c user = had_set d c user other _ (Keeps other line) (λ _. tt)
    (λ same h. had_who d c user other (Keeps other line) tt same h)
had_terminal d (Turns other is_on is_running) c user = had_turned d c user other is_on is_running
had_terminal d (Finishes other) c user =
    had_set d c user other _ (Finishes other) (λ _. tt) (λ same h. had_who d c user other (Finishes other) tt same
    (turned_off (account_of d other).terminal c (account_of d other).is_on h).0)

-- whoever is on

stays_both : (c user : ℕ) (event : Event) → NotReset c event → NotOff user event → Stays c user event
stays_both c user (Opens other address now) r o = r
stays_both c user (Comes other bytes) r o = tt
stays_both c user (Takes other now) r o = tt
stays_both c user (Wakes other now) r o = tt
stays_both c user (Answers other guess is_right now) r o = tt
stays_both c user (Closes other) r o = r
stays_both c user (Prints other line) r o = tt
stays_both c user (Keeps other line) r o = tt
stays_both c user (Turns other true is_running) r o = tt
stays_both c user (Turns other false is_running) r o = o
stays_both c user (Finishes other) r o = tt

-- A stage of this user's is that of being logged on.
pub is_user_on : (stage : Stage) (user : ℕ) → is_user stage user ≡ true → stage ≡ On user
is_user_on Gone user h = absurd (not_both false h refl)
is_user_on Naming user h = absurd (not_both false h refl)
is_user_on (Asking name) user h = absurd (not_both false h refl)
is_user_on (Waiting guess) user h = absurd (not_both false h refl)
is_user_on (Judged guess) user h = absurd (not_both false h refl)
is_user_on Refused user h = absurd (not_both false h refl)
is_user_on (On other) user h = ap (λ (n : ℕ). On n) (eqb_is other user h)

eqb_self_by : (n : ℕ) → ((eqb n n ≡ true) × (n ≡ n)) ⊎ ((eqb n n ≡ false) × (n ≢ n)) → eqb n n ≡ true
eqb_self_by n (inl w) = w.0
eqb_self_by n (inr w) = absurd (w.1 refl)

-- A number is compared as equal to itself.
pub eqb_self : (n : ℕ) → eqb n n ≡ true
eqb_self n = eqb_self_by n (eqb_tells n n)

on_user_is : (stage : Stage) (user : ℕ) → stage ≡ On user → is_user stage user ≡ true
on_user_is stage user h = ap (λ (s : Stage). is_user s user) h ∙ eqb_self user

and_true : (a b : Bool) → a ≡ true → b ≡ true → (a && b) ≡ true
and_true true true h k = refl
and_true true false h k = k
and_true false b h k = h

abbrev WasOn : Desk → ℕ → ℕ → Event → Type 0
WasOn d c user event = ((is_on_at d c user ≡ true) × Stays c user event) ⊎ LogsOn d c user event

on_by_both : (d : Desk) (c user : ℕ) (event : Event) → Was d c user event → Had d c user event → WasOn d c user event
on_by_both d c user event (inl w) (inl h) = inl (
  and_true (is_user (connection_at d c).stage user)
      (is_terminal (account_of d user).terminal c) (on_user_is (connection_at d c).stage user w.0) h.0,
  stays_both c user event w.1 h.1,
)
on_by_both d c user event (inl w) (inr l) = inr l
on_by_both d c user event (inr l) h = inr l

on_step : (d : Desk) (event : Event) (c user : ℕ) → is_on_at (step d event).desk c user ≡ true → WasOn d c user event
on_step d event c user h =
    let both = both_true (is_user (connection_at (step d event).desk c).stage user)
    (is_terminal (account_of (step d event).desk user).terminal c) h in
    on_by_both d c user event (was_on d event c user (is_user_on
    (connection_at (step d event).desk c).stage user both.0)) (had_terminal d event c user both.1)

judged_gives : (x : Connection) (came : List ℕ) (guess : Guess) (h : Heard x came) → x.stage ≡ Judged guess
    → Gives (reading_of h.taken).lines guess
judged_gives x came guess h stage = subst (λ (s : Stage). Rattle.logon_desk.proofs.Reading.IsSaid s
    (reading_of h.taken).lines) stage h.said

logs_on_by : (users : List (List ℕ)) (size : ℕ) (event : Event) (earlier : List Event) (c user : ℕ)
    → LogsOn (after (new_desk users size) earlier) c user event → IsOnBy (new_desk users size) c user (event ∷ earlier)
logs_on_by users size event earlier c user l =
    let d = after (new_desk users size) earlier in
    let h = heard users size earlier c (ap is_gone l.judged) in
    record {
      later = [];
      earlier = earlier;
      guess = l.guess;
      now = l.now;
      split = ap (λ (e : Event). e ∷ earlier) l.answer;
      his = ap (λ (n : List (List ℕ)). user_of n l.guess.name) (sym (names_stay (new_desk users size) earlier)) ∙ l.his;
      taken = h.taken;
      waiting = (connection_at d c).waiting;
      came = h.split;
      gives = judged_gives (connection_at d c) (arrived c earlier) l.guess h l.judged;
      since = tt;
    }

further : (first : Desk) (c user : ℕ) (event : Event) (earlier : List Event) → Stays c user event
    → IsOnBy first c user earlier → IsOnBy first c user (event ∷ earlier)
further first c user event earlier stays w = record {
  later = event ∷ w.later;
  earlier = w.earlier;
  guess = w.guess;
  now = w.now;
  split = ap (λ l. event ∷ l) w.split;
  his = w.his;
  taken = w.taken;
  waiting = w.waiting;
  came = w.came;
  gives = w.gives;
  since = (stays, w.since);
}

on_by_step : (users : List (List ℕ)) (size : ℕ) (event : Event) (earlier : List Event) (c user : ℕ)
    → (is_on_at (after (new_desk users size) earlier) c user ≡ true → IsOnBy (new_desk users size) c user earlier)
    → WasOn (after (new_desk users size) earlier) c user event → IsOnBy (new_desk users size) c user (event ∷ earlier)
on_by_step users size event earlier c user before (inl w) = further (new_desk users size) c user event earlier w.1
    (before w.0)
on_by_step users size event earlier c user before (inr l) = logs_on_by users size event earlier c user l

-- whoever is on is on by the name and the password that he gave
pub on_by : (users : List (List ℕ)) (size : ℕ) (events : List Event) (c user : ℕ)
    → is_on_at (after (new_desk users size) events) c user ≡ true → IsOnBy (new_desk users size) c user events
on_by users size [] c user h =
    let both = both_true (is_user (connection_at (new_desk users size) c).stage user)
    (is_terminal (account_of (new_desk users size) user).terminal c) h in
    absurd (not_both false (ap (λ (x : Connection). is_user x.stage user) (sym (vacant size c)) ∙ both.0) refl)
on_by users size (event ∷ earlier) c user h = on_by_step users size event earlier c user
    (on_by users size earlier c user) (on_step (after (new_desk users size) earlier) event c user h)
