-- The promises of the desk.
use Rattle.std.proofs.Common.{◌≡◌, ◌≢◌, ◌⊎◌, inl, inr, ◌<◌, ◌≤◌, ◌+◌, ◌&&◌, ◌||◌, ℕ, Bool, true, false, not, eqb, leb}
use Rattle.std.proofs.Common.{cond, List, [], ◌∷◌, ◌++◌, length, get_or, set, map, take, zero, suc, Option, Some, None}
use Rattle.std.proofs.Common.{refl, ap, sym, ◌∙◌, subst, arith, get_or-set_other, get_or-set_same, length-take}
use Rattle.std.proofs.lemmas.Bool.Decides.{eqb_tells}
use Rattle.std.proofs.lemmas.List.{length-map, set-set}
use Rattle.std.proofs.lemmas.List.Quantifiers.{position-Some}
use Rattle.std.proofs.lemmas.Slice.Eq.{bytes_eq-Decides}
use Rattle.std.specs.Str.{bytes_eq}
use Rattle.std.specs.List.{AllByRecursion}
use Rattle.user_names.specs.Users.{user_of}
use Rattle.logon_desk.specs.Account.{last_lines, new_account}
use Rattle.logon_desk.specs.Connection.{after_line, gone, refused}
use Rattle.terminal_lines.specs.Decoder.{after_byte, printable}
use Rattle.logon_desk.specs.Desk.{Answers, Closes, Comes, Desk, Event, Finishes, Keeps, Opens, Prints, Step, Takes}
use Rattle.logon_desk.specs.Desk.{Turns, Wakes, account_of, after_decoded, after_first, after_pause, answer_by}
use Rattle.logon_desk.specs.Desk.{answered, asking, comes_to, connection_at, ended, greeting, is_gone, is_on_at}
use Rattle.logon_desk.specs.Desk.{is_taking}
use Rattle.logon_desk.specs.Desk.{is_terminal, is_turn, is_user, judged_as, leaving, line_by, logged_on, logon_command}
use Rattle.logon_desk.specs.Desk.{logon_line, names, new_desk, nobody, notices, quietly, same_guess, shows_at, shown}
use Rattle.logon_desk.specs.Desk.{step, terminal_by, typed_line, wake_by, with_connection, wrong_guess}
use Rattle.logon_desk.specs.History.{LogsOn, after, arrived, kept_by, kept_of, meaning, reading_of}
use Rattle.terminal_lines.specs.Script.{script_line}
use Rattle.logon_desk.specs.Laws.{HasAuthority, HasBounds, HasSecrets, IsAt, IsComplete, IsIn, IsIsolated, May}
use Rattle.logon_desk.specs.Laws.{TakesTurns, WaitsBriefly}
use Rattle.logon_desk.specs.declared.account.Account.{Account}
use Rattle.logon_desk.specs.declared.account.KeptLine.{KeptLine}
use Rattle.logon_desk.specs.declared.connection.Connection.{Connection}
use Rattle.logon_desk.specs.declared.connection.Stage.{Stage}
use Rattle.logon_desk.specs.declared.connection.Stage.TheVariants.{Gone, Naming, Asking, Waiting, Judged, Refused, On}
use Rattle.terminal_lines.specs.declared.decoder.Decoded.{Decoded}
use Rattle.terminal_lines.specs.declared.decoder.Decoded.TheVariants.{Nothing, Line, Declines as Refuses, AreYouThere}
use Rattle.logon_desk.specs.declared.output.JournalEntry.TheVariants.{IsBack, Leaves}
use Rattle.logon_desk.specs.declared.output.Notice.{Notice}
use Rattle.logon_desk.specs.declared.output.Notice.TheVariants.{Reconnected}
use Rattle.logon_desk.specs.declared.output.DeskAction.{DeskAction}
use Rattle.logon_desk.specs.declared.output.DeskAction.TheVariants.{Says, Shows, ShowsAgain, Types}
use Rattle.logon_desk.specs.declared.output.DeskAction.TheVariants.{Ends, Notes}
use Rattle.terminal_lines.specs.declared.words.Guess.{Guess}
use Rattle.logon_desk.proofs.Bounds.{few, kept_few, short}
use Rattle.logon_desk.proofs.Hearing.{arrives, heard, not_both, rest_of, taking_open, within}
use Rattle.logon_desk.proofs.On.{Busy, Logged, answers_accounts, both_true, comes_accounts, eqb_is, eqb_self}
use Rattle.logon_desk.proofs.On.{guesses_same, is_user_on, names_stay, on_by, takes_accounts, wakes_accounts}
use Rattle.logon_desk.proofs.Rivals.{alone, apart, asks, briefly, others, whoever}

abbrev AllMay : Desk → Event → List DeskAction → Type 0
AllMay d event outputs = AllByRecursion (May d event) outputs

may_either : (d : Desk) (event : Event) (s t : Step) (b : Bool) → AllMay d event s.outputs → AllMay d event t.outputs
    → AllMay d event (cond b s t).outputs
may_either d event s t true h k = h
may_either d event s t false h k = k

may_farewell : (d : Desk) (event : Event) (c : ℕ) (t : Option ℕ) → IsAt c event
    → AllMay d event (Rattle.logon_desk.specs.Desk.farewell c t ++ Ends c ∷ [])
may_farewell d event c None at = (at, tt)
may_farewell d event c (Some other) at = (at, (at, tt))

may_wake : (d : Desk) (k now : ℕ) (stage : Stage) → (connection_at d k).stage ≡ stage
    → AllMay d (Wakes k now) (wake_by d k (connection_at d k) stage now).outputs
may_wake d k now Gone e = tt
may_wake d k now Naming e = may_either d (Wakes k now) _ (quietly d) (leb (connection_at d k).patience.deadline now)
    (refl, (refl, tt)) tt
may_wake d k now (Asking name) e = may_either d (Wakes k now) _ (quietly d)
    (leb (connection_at d k).patience.deadline now) (refl, (refl, tt)) tt
may_wake d k now (Waiting guess) e = may_either d (Wakes k now) (asking d k (connection_at d k) guess now) (quietly d)
    (is_turn d (connection_at d k) guess now)
    ((refl, e), tt) tt
may_wake d k now (Judged guess) e = tt
may_wake d k now Refused e =
    may_either d (Wakes k now) (after_pause d k (connection_at d k) now) (quietly d)
    (leb (connection_at d k).patience.due now)
    (may_either d (Wakes k now) _ _ (leb 3 (connection_at d k).patience.tries) (refl, (refl, tt)) (refl, tt)) tt
may_wake d k now (On user) e =
    may_either d (Wakes k now) (quietly d) _ (is_terminal (account_of d user).terminal k) tt
    (may_farewell d (Wakes k now) k (account_of d user).terminal refl)

may_leave : (d : Desk) (k user : ℕ) (b : Bool) → AllMay d (Closes k)
    (cond b (Notes (Leaves user k) ∷ []) [] ++ Ends k ∷ [])
may_leave d k user true = (tt, (refl, tt))
may_leave d k user false = (refl, tt)

may_close : (d : Desk) (k : ℕ) (stage : Stage) → AllMay d (Closes k) (leaving d k stage ++ Ends k ∷ [])
may_close d k Gone = (refl, tt)
may_close d k Naming = (refl, tt)
may_close d k (Asking name) = (refl, tt)
may_close d k (Waiting guess) = (refl, tt)
may_close d k (Judged guess) = (refl, tt)
may_close d k Refused = (refl, tt)
may_close d k (On user) = may_leave d k user (is_terminal (account_of d user).terminal k)

-- lines that are shown

and_is : (a b : Bool) → a ≡ true → b ≡ true → (a && b) ≡ true
and_is true b h k = k
and_is false b h k = absurd (not_both false h refl)

on_terminal : (d : Desk) (c user : ℕ) → is_user (connection_at d c).stage user ≡ true
    → (account_of d user).terminal ≡ Some c → is_on_at d c user ≡ true
on_terminal d c user on terminal = and_is (is_user (connection_at d c).stage user)
    (is_terminal (account_of d user).terminal c) on (ap (λ (t : Option ℕ). is_terminal t c) terminal ∙ eqb_self c)

may_show_at : (d : Desk) (c user : ℕ) (line : List ℕ) (b : Bool) → is_user (connection_at d c).stage user ≡ b
    → (account_of d user).terminal ≡ Some c → AllMay d (Prints user line) (shows_at user (cond b (Some c) None) line)
may_show_at d c user line true on terminal = ((on_terminal d c user on terminal, line, refl, refl), tt)
may_show_at d c user line false on terminal = tt

may_show : (d : Desk) (user : ℕ) (line : List ℕ) (t : Option ℕ) → (account_of d user).terminal ≡ t
    → AllMay d (Prints user line) (shows_at user (terminal_by d user t) line)
may_show d user line None terminal = tt
may_show d user line (Some c) terminal = may_show_at d c user line
    (is_user (connection_at d c).stage user) refl terminal

-- lines that are shown again

more_in : (line first : KeptLine) (rest : List KeptLine) → IsIn line rest → IsIn line (first ∷ rest)
more_in line first rest h = inr h

may_again : (d : Desk) (event : Event) (c user : ℕ) (lines : List KeptLine) → LogsOn d c user event
    → ((line : KeptLine) → IsIn line lines → IsIn line (account_of d user).kept)
    → AllMay d event (map (λ (line : KeptLine). ShowsAgain c user line) lines)
may_again d event c user [] l kept = tt
may_again d event c user (line ∷ rest) l kept = (
  (l, kept line (inl refl)),
  may_again d event c user rest l (λ other h. kept other (inr h)),
)

may_greet : (d : Desk) (c user : ℕ) (guess : Guess) (now : ℕ) (b : Bool) → LogsOn d c user (Answers c guess true now)
    → AllMay d (Answers c guess true now)
    (cond b (Notes (Rattle.logon_desk.specs.declared.output.JournalEntry.TheVariants.LogsOn user c) ∷ Types user
    logon_command ∷ [])
    (Notes (IsBack user c) ∷ Says c Reconnected ∷ map (λ (line : KeptLine). ShowsAgain c user line)
    (account_of d user).kept))
may_greet d c user guess now true l = (tt, (inr (c, l, refl), tt))
may_greet d c user guess now false l = (
  tt,
  (
    refl,
    may_again d (Answers c guess true now) c user
        (account_of d user).kept l (λ line h. h),
  ),
)

may_judge : (d : Desk) (k : ℕ) (guess other : Guess) (who : Option ℕ) (is_right : Bool) (now : ℕ)
    → (connection_at d k).stage ≡ Judged other → other ≡ guess → user_of (names d) guess.name ≡ who
    → AllMay d (Answers k guess is_right now) (judged_as d k guess who is_right now).outputs
may_judge d k guess other None is_right now stage same found = (tt, tt)
may_judge d k guess other (Some who) false now stage same found = (tt, tt)
may_judge d k guess other (Some who) true now stage same found =
    may_greet d k who guess now (not (account_of d who).is_on && not (account_of d who).is_busy)
    (record {
      guess = guess;
      now = now;
      answer = refl;
      judged = stage
          ∙ ap (λ (g : Guess). Judged g) same;
      his = found;
    })

may_same : (d : Desk) (k : ℕ) (guess other : Guess) (is_right : Bool) (now : ℕ) (is_same : Bool)
    → same_guess other guess ≡ is_same → (connection_at d k).stage ≡ Judged other
    → AllMay d (Answers k guess is_right now) (cond is_same (judged_as d k guess
    (user_of (names d) guess.name) is_right now) (quietly d)).outputs
may_same d k guess other is_right now true same stage = may_judge d k guess other
    (user_of (names d) guess.name) is_right now stage (guesses_same other guess same) refl
may_same d k guess other is_right now false same stage = tt

may_answer : (d : Desk) (k : ℕ) (guess : Guess) (is_right : Bool) (now : ℕ) (stage : Stage)
    → (connection_at d k).stage ≡ stage → AllMay d (Answers k guess is_right now)
    (answer_by d k stage guess is_right now).outputs
may_answer d k guess is_right now Gone e = tt
may_answer d k guess is_right now Naming e = tt
may_answer d k guess is_right now (Asking name) e = tt
may_answer d k guess is_right now (Waiting other) e = tt
may_answer d k guess is_right now (Judged other) e = may_same d k guess other is_right now
    (same_guess other guess) refl e
may_answer d k guess is_right now Refused e = tt
may_answer d k guess is_right now (On other) e = tt

-- bytes that are taken

may_notice : (d : Desk) (k now : ℕ) (notice : Option Notice) → AllMay d (Takes k now) (notices k notice)
may_notice d k now None = tt
may_notice d k now (Some notice) = (refl, tt)

first_true : (a b : Bool) → (a && b) ≡ true → a ≡ true
first_true true b h = refl
first_true false b h = h

is_taking_on : (d : Desk) (k user : ℕ) → is_taking d k (On user) ≡ true
    → is_terminal (account_of d user).terminal k ≡ true
is_taking_on d k user h = first_true (is_terminal (account_of d user).terminal k) (not (account_of d user).is_busy) h

may_line : (d : Desk) (k now byte : ℕ) (rest line : List ℕ) (stage : Stage) → (connection_at d k).stage ≡ stage
    → is_taking d k stage ≡ true → (connection_at d k).waiting ≡ byte ∷ rest
    → (after_byte (connection_at d k).decoder byte).decoded ≡ Line line
    → AllMay d (Takes k now) (line_by (with_connection d k (rest_of (connection_at d k) byte rest)) k stage line
    now).outputs
may_line d k now byte rest line Gone e takes waits whole = absurd (not_both false takes refl)
may_line d k now byte rest line Naming e takes waits whole = may_notice d k now _
may_line d k now byte rest line (Asking name) e takes waits whole = may_notice d k now _
may_line d k now byte rest line (Waiting guess) e takes waits whole = absurd (not_both false takes refl)
may_line d k now byte rest line (Judged guess) e takes waits whole = absurd (not_both false takes refl)
may_line d k now byte rest line Refused e takes waits whole = absurd (not_both false takes refl)
may_line d k now byte rest line (On user) e takes waits whole = (
  inl (record {
    c = k;
    now = now;
    byte = byte;
    rest = rest;
    takes = refl;
    is_on = and_is (is_user (connection_at d k).stage user) (is_terminal (account_of d user).terminal k)
        (ap (λ (s : Stage). is_user s user) e ∙ eqb_self user) (is_taking_on d k user takes);
    waits = waits;
    typed = line;
    whole = whole;
    script = refl;
  }),
  tt,
)

may_decode : (d : Desk) (k now byte : ℕ) (rest : List ℕ) (decoded : Decoded)
    → is_taking d k (connection_at d k).stage ≡ true → (connection_at d k).waiting ≡ byte ∷ rest
    → (after_byte (connection_at d k).decoder byte).decoded ≡ decoded
    → connection_at (with_connection d k (rest_of (connection_at d k) byte rest)) k ≡ rest_of
    (connection_at d k) byte rest
    → AllMay d (Takes k now) (after_decoded (with_connection d k (rest_of (connection_at d k) byte rest)) k decoded
    now).outputs
may_decode d k now byte rest Nothing takes waits whole same = tt
may_decode d k now byte rest (Line line) takes waits whole same =
    subst (λ (x : Connection). AllMay d (Takes k now) (line_by
    (with_connection d k (rest_of (connection_at d k) byte rest)) k x.stage line now).outputs) (sym same)
    (may_line d k now byte rest line (connection_at d k).stage refl takes waits whole)
may_decode d k now byte rest (Refuses command option) takes waits whole same = (refl, tt)
may_decode d k now byte rest AreYouThere takes waits whole same = (refl, tt)

same_there : (d : Desk) (k byte : ℕ) (rest : List ℕ) → is_gone (connection_at d k).stage ≡ false
    → connection_at (with_connection d k (rest_of (connection_at d k) byte rest)) k ≡ rest_of
    (connection_at d k) byte rest
same_there d k byte rest is_open = get_or-set_same d.connections k (rest_of (connection_at d k) byte rest) gone
    (within d k is_open)

may_first : (d : Desk) (k now : ℕ) (waiting : List ℕ) → is_taking d k (connection_at d k).stage ≡ true
    → (connection_at d k).waiting ≡ waiting → AllMay d (Takes k now) (after_first d k waiting now).outputs
may_first d k now [] takes waits = tt
may_first d k now (byte ∷ rest) takes waits =
    may_decode d k now byte rest (after_byte (connection_at d k).decoder byte).decoded takes waits refl
    (same_there d k byte rest (taking_open d k (connection_at d k).stage takes))

may_take : (d : Desk) (k now : ℕ) (takes : Bool) → is_taking d k (connection_at d k).stage ≡ takes
    → AllMay d (Takes k now) (cond takes (after_first d k (connection_at d k).waiting now) (quietly d)).outputs
may_take d k now true e = may_first d k now (connection_at d k).waiting e refl
may_take d k now false e = tt

may_come : (d : Desk) (k : ℕ) (bytes : List ℕ) (fits : Bool)
    → AllMay d (Comes k bytes) (cond fits (quietly (with_connection d k
    (record (connection_at d k) { waiting = (connection_at d k).waiting ++ bytes }))) (ended d k [])).outputs
may_come d k bytes true = tt
may_come d k bytes false = (refl, tt)

does : (d : Desk) (event : Event) → AllMay d event (step d event).outputs
does d (Opens k address now) = (refl, tt)
does d (Comes k bytes) = may_come d k bytes (leb (length (connection_at d k).waiting + length bytes) 4096)
does d (Takes k now) = may_take d k now (is_taking d k (connection_at d k).stage) refl
does d (Wakes k now) = may_wake d k now (connection_at d k).stage refl
does d (Answers k guess is_right now) = may_answer d k guess is_right now (connection_at d k).stage refl
does d (Closes k) = may_close d k (connection_at d k).stage
does d (Prints user line) = may_show d user line (account_of d user).terminal refl
does d (Keeps user line) = tt
does d (Turns user is_on is_running) = tt
does d (Finishes user) = tt

-- each line of the transcript is shown where its user is on

terminal_is : (t : Option ℕ) (c : ℕ) → is_terminal t c ≡ true → t ≡ Some c
terminal_is None c h = absurd (not_both false h refl)
terminal_is (Some other) c h = ap (λ (n : ℕ). Some n) (eqb_is other c h)

shows : (d : Desk) (c user : ℕ) (line : List ℕ) → is_on_at d c user ≡ true
    → (step d (Prints user line)).outputs ≡ Shows c user (shown line) ∷ []
shows d c user line h =
    let both = both_true (is_user (connection_at d c).stage user) (is_terminal (account_of d user).terminal c) h in
    ap (λ (t : Option ℕ). shows_at user (terminal_by d user t) line) (terminal_is (account_of d user).terminal c both.1)
    ∙ ap (λ (b : Bool). shows_at user (cond b (Some c) None) line) both.0

-- each line of who is on is typed

takes_on : (d : Desk) (c user : ℕ) → (connection_at d c).stage ≡ On user
    → is_terminal (account_of d user).terminal c ≡ true → (account_of d user).is_busy ≡ false
    → is_taking d c (connection_at d c).stage ≡ true
takes_on d c user stage terminal busy =
    ap (λ (s : Stage). is_taking d c s) stage ∙ and_is (is_terminal (account_of d user).terminal c)
    (not (account_of d user).is_busy) terminal (ap not busy)

types : (d : Desk) (c user now byte : ℕ) (rest line : List ℕ) → is_on_at d c user ≡ true
    → (account_of d user).is_busy ≡ false → (connection_at d c).waiting ≡ byte ∷ rest
    → (after_byte (connection_at d c).decoder byte).decoded ≡ Line line
    → (step d (Takes c now)).outputs ≡ Types user (script_line (account_of d user).is_running line) ∷ []
types d c user now byte rest line h busy waits whole =
    let both = both_true (is_user (connection_at d c).stage user) (is_terminal (account_of d user).terminal c) h in
    let stage : (connection_at d c).stage ≡ On user = is_user_on (connection_at d c).stage user both.0 in
    let takes = takes_on d c user stage both.1 busy in
    let x1 = rest_of (connection_at d c) byte rest in
    let d1 : Desk = with_connection d c x1 in
    ap (λ (b : Bool). (cond b (after_first d c (connection_at d c).waiting now) (quietly d)).outputs) takes
    ∙ ap (λ (w : List ℕ). (after_first d c w now).outputs) waits
    ∙ ap (λ (e : Decoded). (after_decoded d1 c e now).outputs) whole
    ∙ ap (λ (x : Connection). (line_by d1 c x.stage line now).outputs) (same_there d c byte rest (ap is_gone stage))
    ∙ ap (λ (s : Stage). (line_by d1 c s line now).outputs) stage

-- the bytes that have come

reads : (users : List (List ℕ)) (size : ℕ) (events : List Event) (c : ℕ)
    → is_gone (connection_at (after (new_desk users size) events) c).stage ≡ false
    → (taken : List ℕ) × (arrived c events ≡ taken ++ (connection_at (after (new_desk users size) events) c).waiting)
    × ((connection_at (after (new_desk users size) events) c).decoder ≡ (reading_of taken).typed)
reads users size events c is_open = let h = heard users size events c is_open in (h.taken, h.split, h.typed)

-- an answer that lets somebody on

bytes_self : (xs : List ℕ) → bytes_eq xs xs ≡ true
bytes_self xs = (bytes_eq-Decides xs xs).1 refl

guess_self : (guess : Guess) → same_guess guess guess ≡ true
guess_self guess = and_is (bytes_eq guess.name guess.name) (bytes_eq guess.password guess.password)
    (bytes_self guess.name) (bytes_self guess.password)

judged_step : (d : Desk) (c : ℕ) (guess : Guess) (is_right : Bool) (now : ℕ) → (connection_at d c).stage ≡ Judged guess
    → step d (Answers c guess is_right now) ≡ judged_as d c guess (user_of (names d) guess.name) is_right now
judged_step d c guess is_right now stage =
    ap (λ (s : Stage). answer_by d c s guess is_right now) stage
    ∙ ap (λ (b : Bool). cond b (judged_as d c guess (user_of (names d) guess.name) is_right now) (quietly d))
    (guess_self guess)

on_step : (d : Desk) (c user : ℕ) (event : Event) (l : LogsOn d c user event)
    → step d event ≡ logged_on d c l.guess user l.now
on_step d c user event l =
    ap (λ (e : Event). step d e) l.answer ∙ judged_step d c l.guess true l.now l.judged
    ∙ ap (λ (u : Option ℕ). judged_as d c l.guess u true l.now) l.his

again : (d : Desk) (c user : ℕ) (event : Event) → LogsOn d c user event → (account_of d user).is_on ≡ true
    → (step d event).outputs ≡ Notes (IsBack user c) ∷ Says c Reconnected ∷ map
    (λ (line : KeptLine). ShowsAgain c user line) (account_of d user).kept
again d c user event l is_on =
    ap (λ (s : Step). s.outputs) (on_step d c user event l)
    ∙ ap (λ (b : Bool). cond (not b && not (account_of d user).is_busy)
    (Notes (Rattle.logon_desk.specs.declared.output.JournalEntry.TheVariants.LogsOn user c) ∷ Types user
    logon_command ∷ [])
    (Notes (IsBack user c) ∷ Says c Reconnected ∷ map (λ (line : KeptLine). ShowsAgain c user line)
    (account_of d user).kept)) is_on

wrong_desk : (d : Desk) (c : ℕ) (guess : Guess) (who : Option ℕ) (is_right : Bool) (now : ℕ) → (is_right ≡ false)
    ⊎ (who ≡ None) → (judged_as d c guess who is_right now).desk ≡ (wrong_guess d c None now).desk
wrong_desk d c guess None is_right now h = refl
wrong_desk d c guess (Some who) false now h = refl
wrong_desk d c guess (Some who) true now (inl h) = absurd (not_both true refl h)
wrong_desk d c guess (Some who) true now (inr h) = absurd (cc (h))

alike : (d : Desk) (c : ℕ) (guess : Guess) (is_right : Bool) (now : ℕ) → (connection_at d c).stage ≡ Judged guess
    → (is_right ≡ false) ⊎ (user_of (names d) guess.name ≡ None)
    → (step d (Answers c guess is_right now)).desk ≡ with_connection d c
    (record (connection_at d c) { stage = Refused; patience = refused (connection_at d c).patience now })
alike d c guess is_right now stage h = ap (λ (s : Step). s.desk) (judged_step d c guess is_right now stage)
    ∙ wrong_desk d c guess (user_of (names d) guess.name) is_right now h

lets_on : (d : Desk) (c user now : ℕ) (guess : Guess) → (connection_at d c).stage ≡ Judged guess
    → user_of (names d) guess.name ≡ Some user → is_on_at (step d (Answers c guess true now)).desk c user ≡ true
lets_on d c user now guess stage his =
    let l : LogsOn d c user (Answers c guess true now) = record {
      guess = guess;
      now = now;
      answer = refl;
      judged = stage;
      his = his;
    } in
    let there : user < length d.accounts = omega (
      arith,
      (position-Some (bytes_eq guess.name) (names d) user [] his).0,
      length-map d.accounts (λ (a : Account). a.name),
    ) in
    let x : Connection = record (connection_at d c) { stage = On user } in
    let y : Account = record (account_of d user) {
      terminal = Some c;
      is_busy = (account_of d user).is_busy || not (account_of d user).is_on;
    } in
    let at = get_or-set_same d.connections c x gone (within d c (ap is_gone stage)) in
    let has = get_or-set_same d.accounts user y nobody there in
    ap (λ (s : Step). is_on_at s.desk c user) (on_step d c user (Answers c guess true now) l)
    ∙ and_is (is_user (get_or (set d.connections c x) c gone).stage user)
    (is_terminal (get_or (set d.accounts user y) user nobody).terminal c)
    (ap (λ (z : Connection). is_user z.stage user) at ∙ eqb_self user)
    (ap (λ (z : Account). is_terminal z.terminal c) has ∙ eqb_self c)

-- a guess waits from now on

abbrev IsSoon : Connection → ℕ → Type 0
IsSoon x now = (guess : Guess) → x.stage ≡ Waiting guess → x.patience.due ≡ now

-- a stage at which bytes are taken is none at which a guess waits
taking_soon : (d : Desk) (k now : ℕ) (x : Connection) (stage : Stage) → x.stage ≡ stage → is_taking d k stage ≡ true
    → IsSoon x now
taking_soon d k now x Gone e takes guess h = absurd (not_both false takes refl)
taking_soon d k now x Naming e takes guess h = absurd (cc (e, h))
taking_soon d k now x (Asking name) e takes guess h = absurd (cc (e, h))
taking_soon d k now x (Waiting other) e takes guess h = absurd (not_both false takes refl)
taking_soon d k now x (Judged other) e takes guess h = absurd (not_both false takes refl)
taking_soon d k now x Refused e takes guess h = absurd (not_both false takes refl)
taking_soon d k now x (On user) e takes guess h = absurd (cc (e, h))

rest_soon : (d : Desk) (k now byte : ℕ) (rest : List ℕ) → is_taking d k (connection_at d k).stage ≡ true
    → IsSoon (connection_at (with_connection d k (rest_of (connection_at d k) byte rest)) k) now
rest_soon d k now byte rest takes =
    subst (λ (x : Connection). IsSoon x now) (sym (same_there d k byte rest
    (taking_open d k (connection_at d k).stage takes)))
    (taking_soon d k now (rest_of (connection_at d k) byte rest) (connection_at d k).stage refl takes)

logon_soon : (d : Desk) (k now byte : ℕ) (rest line : List ℕ) → is_gone (connection_at d k).stage ≡ false
    → IsSoon (connection_at (logon_line (with_connection d k (rest_of (connection_at d k) byte rest)) k
    (rest_of (connection_at d k) byte rest) line now).desk k) now
logon_soon d k now byte rest line is_open =
    let x = connection_at d k in
    let x1 = rest_of x byte rest in
    let a = arrives (with_connection d k x1) k x1 (after_line x.stage (meaning line)).stage now in
    let once : (comes_to (with_connection d k x1) k x1 (after_line x.stage (meaning line)).stage now).connections ≡ set
    d.connections k a.there = a.set_there ∙ set-set d.connections k x1 a.there in
    subst (λ (y : Connection). IsSoon y now) (sym (ap (λ (l : List Connection). get_or l k gone) once
    ∙ get_or-set_same d.connections k a.there gone (within d k is_open))) a.soon

line_soon : (d : Desk) (k now byte : ℕ) (rest line : List ℕ) (stage : Stage) → (connection_at d k).stage ≡ stage
    → is_taking d k stage ≡ true
    → connection_at (with_connection d k (rest_of (connection_at d k) byte rest)) k ≡ rest_of
    (connection_at d k) byte rest
    → IsSoon (connection_at (line_by (with_connection d k (rest_of (connection_at d k) byte rest)) k stage line
    now).desk k) now
line_soon d k now byte rest line Gone e takes same = absurd (not_both false takes refl)
line_soon d k now byte rest line Naming e takes same =
    subst (λ (x : Connection). IsSoon (connection_at (logon_line
    (with_connection d k (rest_of (connection_at d k) byte rest)) k x line now).desk k) now) (sym same)
    (logon_soon d k now byte rest line (ap is_gone e))
line_soon d k now byte rest line (Asking name) e takes same =
    subst (λ (x : Connection). IsSoon (connection_at (logon_line
    (with_connection d k (rest_of (connection_at d k) byte rest)) k x line now).desk k) now) (sym same)
    (logon_soon d k now byte rest line (ap is_gone e))
line_soon d k now byte rest line (Waiting guess) e takes same = absurd (not_both false takes refl)
line_soon d k now byte rest line (Judged guess) e takes same = absurd (not_both false takes refl)
line_soon d k now byte rest line Refused e takes same = absurd (not_both false takes refl)
line_soon d k now byte rest line (On user) e takes same = rest_soon d k now byte rest
    (ap (λ (s : Stage). is_taking d k s) e ∙ takes)

decoded_soon : (d : Desk) (k now byte : ℕ) (rest : List ℕ) (decoded : Decoded)
    → is_taking d k (connection_at d k).stage ≡ true
    → connection_at (with_connection d k (rest_of (connection_at d k) byte rest)) k ≡ rest_of
    (connection_at d k) byte rest
    → IsSoon (connection_at (after_decoded (with_connection d k (rest_of (connection_at d k) byte rest)) k decoded
    now).desk k) now
decoded_soon d k now byte rest Nothing takes same = rest_soon d k now byte rest takes
decoded_soon d k now byte rest (Line line) takes same =
    subst (λ (x : Connection). IsSoon (connection_at (line_by
    (with_connection d k (rest_of (connection_at d k) byte rest)) k x.stage line now).desk k) now) (sym same)
    (line_soon d k now byte rest line (connection_at d k).stage refl takes same)
decoded_soon d k now byte rest (Refuses command option) takes same = rest_soon d k now byte rest takes
decoded_soon d k now byte rest AreYouThere takes same = rest_soon d k now byte rest takes

first_soon : (d : Desk) (k now : ℕ) (waiting : List ℕ) → is_taking d k (connection_at d k).stage ≡ true
    → IsSoon (connection_at (after_first d k waiting now).desk k) now
first_soon d k now [] takes = taking_soon d k now (connection_at d k) (connection_at d k).stage refl takes
first_soon d k now (byte ∷ rest) takes =
    decoded_soon d k now byte rest (after_byte (connection_at d k).decoder byte).decoded takes
    (same_there d k byte rest (taking_open d k (connection_at d k).stage takes))

waits : (d : Desk) (c now : ℕ) (guess : Guess) → is_taking d c (connection_at d c).stage ≡ true
    → (connection_at (step d (Takes c now)).desk c).stage ≡ Waiting guess
    → (connection_at (step d (Takes c now)).desk c).patience.due ≡ now
waits d c now guess takes =
    subst (λ (b : Bool). (connection_at (cond b (after_first d c (connection_at d c).waiting now) (quietly d)).desk
    c).stage ≡ Waiting guess
    → (connection_at (cond b (after_first d c (connection_at d c).waiting now) (quietly d)).desk c).patience.due ≡ now)
    (sym takes) (first_soon d c now (connection_at d c).waiting takes guess)

-- the lines that are kept

account_in : (P : Account → Type 0) (xs : List Account) (k user : ℕ) (y : Account) → user < length xs → (k ≡ user → P y)
    → (k ≢ user → P (get_or xs user nobody))
    → ((eqb k user ≡ true) × (k ≡ user)) ⊎ ((eqb k user ≡ false) × (k ≢ user)) → P (get_or (set xs k y) user nobody)
account_in P xs k user y there here other (inl w) =
    subst P (sym (ap (λ (n : ℕ). get_or (set xs k y) n nobody) (sym w.1)
    ∙ get_or-set_same xs k y nobody (subst (λ (n : ℕ). n < length xs) (sym w.1) there))) (here w.1)
account_in P xs k user y there here other (inr w) =
    let differs : user ≢ k = λ e. w.1 (sym e) in subst P (sym (get_or-set_other xs k user y nobody differs)) (other w.1)

kept_same : (xs : List Account) (k user : ℕ) (y : Account) → user < length xs → y.kept ≡ (get_or xs k nobody).kept
    → (get_or (set xs k y) user nobody).kept ≡ (get_or xs user nobody).kept
kept_same xs k user y there h =
    account_in (λ (a : Account). a.kept ≡ (get_or xs user nobody).kept) xs k user y there (λ same. h
    ∙ ap (λ (n : ℕ). (get_or xs n nobody).kept) same) (λ _. refl) (eqb_tells k user)

kept_busy : (old new : List Account) (user : ℕ) → user < length old → Busy old new
    → (get_or new user nobody).kept ≡ (get_or old user nobody).kept
kept_busy old new user there (inl e) = ap (λ (l : List Account). (get_or l user nobody).kept) e
kept_busy old new user there (inr e) = ap (λ (l : List Account). (get_or l user nobody).kept) e.1
    ∙ kept_same old e.0 user _ there refl

kept_logged : (d : Desk) (event : Event) (new : List Account) (user : ℕ) → user < length d.accounts → Logged d event new
    → (get_or new user nobody).kept ≡ (account_of d user).kept
kept_logged d event new user there (inl e) = ap (λ (l : List Account). (get_or l user nobody).kept) e
kept_logged d event new user there (inr e) = ap (λ (l : List Account). (get_or l user nobody).kept) e.3
    ∙ kept_same d.accounts e.1 user _ there refl

-- the lines of one user are changed
kept_changed : (xs : List Account) (k user : ℕ) (y : Account) (change : List KeptLine → List KeptLine)
    → user < length xs → y.kept ≡ change (get_or xs k nobody).kept
    → ((eqb k user ≡ true) × (k ≡ user)) ⊎ ((eqb k user ≡ false) × (k ≢ user))
    → (get_or (set xs k y) user nobody).kept ≡ cond (eqb k user) (change (get_or xs user nobody).kept)
    (get_or xs user nobody).kept
kept_changed xs k user y change there h (inl w) =
    ap (λ (n : ℕ). (get_or (set xs k y) n nobody).kept) (sym w.1)
    ∙ ap (λ (a : Account). a.kept) (get_or-set_same xs k y nobody
    (subst (λ (n : ℕ). n < length xs) (sym w.1) there)) ∙ h
    ∙ ap (λ (n : ℕ). change (get_or xs n nobody).kept) w.1 ∙ ap
    (λ (b : Bool). cond b (change (get_or xs user nobody).kept) (get_or xs user nobody).kept) (sym w.0)
kept_changed xs k user y change there h (inr w) =
    let differs : user ≢ k = λ e. w.1 (sym e) in
    ap (λ (a : Account). a.kept) (get_or-set_other xs k user y nobody differs)
    ∙ ap (λ (b : Bool). cond b (change (get_or xs user nobody).kept) (get_or xs user nobody).kept) (sym w.0)

kept_turned : (d : Desk) (other user : ℕ) (is_on is_running : Bool) → user < length d.accounts
    → (account_of (step d (Turns other is_on is_running)).desk user).kept ≡ kept_by user (Turns other is_on is_running)
    (account_of d user).kept
kept_turned d other user true is_running there = kept_same d.accounts other user _ there refl
kept_turned d other user false is_running there = kept_changed d.accounts other user _ (λ _. []) there refl
    (eqb_tells other user)

kept_step : (d : Desk) (event : Event) (user : ℕ) → user < length d.accounts
    → (account_of (step d event).desk user).kept ≡ kept_by user event (account_of d user).kept
kept_step d (Opens k address now) user there = refl
kept_step d (Comes k bytes) user there = ap (λ (l : List Account). (get_or l user nobody).kept)
    (comes_accounts d k bytes (leb (length (connection_at d k).waiting + length bytes) 4096))
kept_step d (Takes k now) user there = kept_busy d.accounts _ user there
    (takes_accounts d k now (is_taking d k (connection_at d k).stage))
kept_step d (Wakes k now) user there = ap (λ (l : List Account). (get_or l user nobody).kept)
    (wakes_accounts d k now (connection_at d k).stage)
kept_step d (Answers k guess is_right now) user there = kept_logged d (Answers k guess is_right now) _ user there
    (answers_accounts d k guess is_right now (connection_at d k).stage refl)
kept_step d (Closes k) user there = refl
kept_step d (Prints other line) user there = refl
kept_step d (Keeps other line) user there =
    kept_changed d.accounts other user _ (λ kept. last_lines
    (kept ++ record { minute = shown line.minute; text = shown line.text } ∷ [])) there refl (eqb_tells other user)
kept_step d (Turns other is_on is_running) user there = kept_turned d other user is_on is_running there
kept_step d (Finishes other) user there = kept_same d.accounts other user _ there refl

-- as many users as there were
users_stay : (users : List (List ℕ)) (size : ℕ) (events : List Event)
    → length (after (new_desk users size) events).accounts ≡ length users
users_stay users size events =
    sym (length-map (after (new_desk users size) events).accounts (λ (a : Account). a.name))
    ∙ ap length (names_stay (new_desk users size) events)
    ∙ length-map (map new_account users) (λ (a : Account). a.name) ∙ length-map users new_account

new_kept : (users : List (List ℕ)) (user : ℕ) → (get_or (map new_account users) user nobody).kept ≡ []
new_kept [] user = refl
new_kept (name ∷ rest) zero = refl
new_kept (name ∷ rest) (suc user) = new_kept rest user

keeps : (users : List (List ℕ)) (size : ℕ) (events : List Event) (user : ℕ) → user < length users
    → (account_of (after (new_desk users size) events) user).kept ≡ kept_of user events
keeps users size [] user there = new_kept users user
keeps users size (event ∷ earlier) user there =
    kept_step (after (new_desk users size) earlier) event user (omega (arith, users_stay users size earlier))
    ∙ ap (kept_by user event) (keeps users size earlier user there)

short_shown : (line : List ℕ) → length (shown line) ≤ 1024
short_shown line = omega (arith, length-map (take 1024 line) printable, length-take 1024 line)

-- A line for a user comes only from a connection that gave his name and password.
pub authority : HasAuthority
authority = record { on = on_by }

-- A connection is given the desk's own texts and the lines of its user alone.
pub isolation : IsIsolated
isolation = record { does = does }

-- Each line of a user reaches the connection that is on, once and in order.
pub completeness : IsComplete
completeness = record { shows = shows; types = types; reads = reads; keeps = keeps; again = again }

-- No byte of a password reaches the journal, a script or another connection.
pub secrets : HasSecrets
secrets = record { alike = alike; whoever = whoever }

-- Guesses at one name from one address take turns, and hold back no others.
pub turns : TakesTurns
turns = record { alone = alone; apart = apart; others = others }

-- A guess waits only for those at its name from its address, and for the last of them at most four seconds.
pub waiting : WaitsBriefly
waiting = record { waits = waits; asks = asks; briefly = briefly; lets_on = lets_on }

-- What is kept of connections and users has a constant bound.
pub bounds : HasBounds
bounds = record { few_wait = few; short = short; few_kept = kept_few; short_shown = short_shown }
