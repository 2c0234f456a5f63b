-- What is kept for a connection and a user has bounds.
use Rattle.std.proofs.Common.{◌≡◌, ◌≤◌, ◌+◌, ◌-◌, ◌&&◌, ◌||◌, ◌==◌, ℕ, Bool, true, false, not, eqb}
use Rattle.std.proofs.Common.{leb, ltb, cond, List, [], ◌∷◌, ◌++◌, fold, length, get_or, set, take, drop}
use Rattle.std.proofs.Common.{Option, Some, None, refl, ap, sym, ◌∙◌, subst, arith, get_or-set_same}
use Rattle.std.proofs.Common.{length-append, length-drop, length-take}
use Rattle.std.proofs.lemmas.Bool.{leb-true, ltb-false, ltb-true}
use Rattle.std.proofs.lemmas.List.{set-set}
use Rattle.logon_desk.specs.Account.{last_lines}
use Rattle.logon_desk.specs.Connection.{after_line, again, gone, opened, refused}
use Rattle.terminal_lines.specs.Decoder.{AfterByte, after_byte, after_character, after_command, after_expected}
use Rattle.terminal_lines.specs.Decoder.{printable, with_character}
use Rattle.logon_desk.specs.Desk.{Answers, Closes, Comes, Desk, Event, Finishes, Keeps, Opens, Prints, Step, Takes}
use Rattle.logon_desk.specs.Desk.{Turns, Wakes, account_of, after_decoded, after_first, after_pause, answer_by}
use Rattle.logon_desk.specs.Desk.{comes_to, connection_at, ended, is_taking, is_terminal, judged_as, line_by}
use Rattle.logon_desk.specs.Desk.{logon_line, names, new_desk, quietly, same_guess, step, wake_by}
use Rattle.logon_desk.specs.Desk.{asking, is_turn, with_connection}
use Rattle.logon_desk.specs.History.{Reading, after, kept_by, kept_of, meaning, read_byte, reading_of}
use Rattle.terminal_lines.specs.Typed.{Typed}
use Rattle.logon_desk.specs.declared.account.KeptLine.{KeptLine}
use Rattle.logon_desk.specs.declared.connection.Connection.{Connection}
use Rattle.logon_desk.specs.declared.connection.Stage.{Stage}
use Rattle.logon_desk.specs.declared.connection.Stage.TheVariants.{Gone, Naming, Asking, Waiting, Judged, Refused, On}
use Rattle.terminal_lines.specs.declared.decoder.Decoded.{Decoded}
use Rattle.terminal_lines.specs.declared.decoder.Decoded.TheVariants.{Nothing, Line, Declines, AreYouThere}
use Rattle.terminal_lines.specs.declared.decoder.Expects.{Expects}
use Rattle.terminal_lines.specs.declared.decoder.Expects.TheVariants.{Text, Command, Option as AnOption, Parameter}
use Rattle.terminal_lines.specs.declared.decoder.Expects.TheVariants.{ParameterEnd}
use Rattle.terminal_lines.specs.declared.words.Guess.{Guess}
use Rattle.user_names.specs.Users.{user_of}
use Rattle.logon_desk.proofs.Hearing.{arrives, rest_of, taking_open, vacant, within}
use Rattle.logon_desk.proofs.Reading.{at_one}

-- bytes that wait

abbrev IsFew : Connection → Type 0
IsFew x = length x.waiting ≤ 4096

abbrev Few : Desk → ℕ → Desk → Type 0
Few d c new = ((k : ℕ) → IsFew (connection_at d k)) → IsFew (connection_at new c)

few_set : (d : Desk) (k c : ℕ) (y : Connection) → (((n : ℕ) → IsFew (connection_at d n)) → IsFew y)
    → Few d c (with_connection d k y)
few_set d k c y here few = at_one IsFew d.connections k c y (omega arith) (λ _. here few) (λ _. few c)

few_gone : (d : Desk) (k c : ℕ) → Few d c (with_connection d k gone)
few_gone d k c = few_set d k c gone (λ _. omega arith)

few_either : (d : Desk) (c : ℕ) (s t : Step) (b : Bool) → Few d c s.desk → Few d c t.desk → Few d c (cond b s t).desk
few_either d c s t true h k = h
few_either d c s t false h k = k

few_comes : (d : Desk) (k c : ℕ) (bytes : List ℕ) (fits : Bool)
    → leb (length (connection_at d k).waiting + length bytes) 4096 ≡ fits
    → Few d c (cond fits (quietly (with_connection d k (record
    (connection_at d k) { waiting = (connection_at d k).waiting ++ bytes }))) (ended d k [])).desk
few_comes d k c bytes true h =
    few_set d k c (record (connection_at d k) { waiting = (connection_at d k).waiting ++ bytes })
    (λ _. omega (
      arith,
      length-append (connection_at d k).waiting bytes,
      leb-true (length (connection_at d k).waiting + length bytes) 4096 h,
    ))
few_comes d k c bytes false h = few_gone d k c

few_wake : (d : Desk) (k c now : ℕ) (stage : Stage) → Few d c (wake_by d k (connection_at d k) stage now).desk
few_wake d k c now Gone = λ few. few c
few_wake d k c now Naming = few_either d c _ (quietly d) (leb (connection_at d k).patience.deadline now)
    (few_gone d k c) (λ few. few c)
few_wake d k c now (Asking name) = few_either d c _ (quietly d) (leb (connection_at d k).patience.deadline now)
    (few_gone d k c) (λ few. few c)
few_wake d k c now (Waiting guess) =
    few_either d c (asking d k (connection_at d k) guess now) (quietly d) (is_turn d (connection_at d k) guess now)
    (few_set d k c (record (connection_at d k) { stage = Judged guess }) (λ few. few k)) (λ few. few c)
few_wake d k c now (Judged guess) = λ few. few c
few_wake d k c now Refused =
    few_either d c (after_pause d k (connection_at d k) now) (quietly d) (leb (connection_at d k).patience.due now)
    (few_either d c _ _ (leb 3 (connection_at d k).patience.tries) (few_gone d k c)
    (few_set d k c (record (connection_at d k) { stage = Naming; patience = again (connection_at d k).patience now })
    (λ few. few k))) (λ few. few c)
few_wake d k c now (On user) = few_either d c (quietly d) _ (is_terminal (account_of d user).terminal k) (λ few. few c)
    (few_gone d k c)

few_judged : (d : Desk) (k c : ℕ) (guess : Guess) (who : Option ℕ) (is_right : Bool) (now : ℕ)
    → Few d c (judged_as d k guess who is_right now).desk
few_judged d k c guess None is_right now = few_set d k c (record
    (connection_at d k) { stage = Refused; patience = refused (connection_at d k).patience now }) (λ few. few k)
few_judged d k c guess (Some who) true now = few_set d k c (record (connection_at d k) { stage = On who })
    (λ few. few k)
few_judged d k c guess (Some who) false now = few_set d k c (record
    (connection_at d k) { stage = Refused; patience = refused (connection_at d k).patience now }) (λ few. few k)

few_answer : (d : Desk) (k c : ℕ) (guess : Guess) (is_right : Bool) (now : ℕ) (stage : Stage)
    → Few d c (answer_by d k stage guess is_right now).desk
few_answer d k c guess is_right now Gone = λ few. few c
few_answer d k c guess is_right now Naming = λ few. few c
few_answer d k c guess is_right now (Asking name) = λ few. few c
few_answer d k c guess is_right now (Waiting other) = λ few. few c
few_answer d k c guess is_right now (Judged other) =
    few_either d c (judged_as d k guess (user_of (names d) guess.name) is_right now) (quietly d)
    (same_guess other guess) (few_judged d k c guess (user_of (names d) guess.name) is_right now) (λ few. few c)
few_answer d k c guess is_right now Refused = λ few. few c
few_answer d k c guess is_right now (On user) = λ few. few c

few_rest : (x : Connection) (byte : ℕ) (rest : List ℕ) → x.waiting ≡ byte ∷ rest → IsFew x → length rest ≤ 4096
few_rest x byte rest waits few = omega (arith, few, ap length waits)

few_logon : (d : Desk) (k c byte : ℕ) (rest line : List ℕ) (now : ℕ) → (connection_at d k).waiting ≡ byte ∷ rest
    → Few d c (logon_line (with_connection d k (rest_of (connection_at d k) byte rest)) k
    (rest_of (connection_at d k) byte rest) line now).desk
few_logon d k c byte rest line now waits =
    let x = connection_at d k in
    let x1 = rest_of x byte rest in
    let a = arrives (with_connection d k x1) k x1 (after_line x.stage (meaning line)).stage now in
    let once : (comes_to (with_connection d k x1) k x1 (after_line x.stage (meaning line)).stage now).connections ≡ set
    d.connections k a.there = a.set_there ∙ set-set d.connections k x1 a.there in
    subst (λ (l : List Connection). ((n : ℕ) → IsFew (connection_at d n)) → IsFew (get_or l c gone)) (sym once)
    (few_set d k c a.there (λ few. subst (λ (w : List ℕ). length w ≤ 4096) (sym a.waiting_is)
    (few_rest x byte rest waits (few k))))

few_quiet : (d : Desk) (k c byte : ℕ) (rest : List ℕ) → (connection_at d k).waiting ≡ byte ∷ rest
    → Few d c (with_connection d k (rest_of (connection_at d k) byte rest))
few_quiet d k c byte rest waits = few_set d k c (rest_of (connection_at d k) byte rest)
    (λ few. few_rest (connection_at d k) byte rest waits (few k))

few_line : (d : Desk) (k c byte : ℕ) (rest line : List ℕ) (now : ℕ) (stage : Stage)
    → (connection_at d k).waiting ≡ byte ∷ rest
    → connection_at (with_connection d k (rest_of (connection_at d k) byte rest)) k ≡ rest_of
    (connection_at d k) byte rest
    → Few d c (line_by (with_connection d k (rest_of (connection_at d k) byte rest)) k stage line now).desk
few_line d k c byte rest line now (On user) waits same = few_quiet d k c byte rest waits
few_line d k c byte rest line now stage waits same =
    subst (λ (x : Connection). Few d c (logon_line (with_connection d k (rest_of (connection_at d k) byte rest)) k x
    line now).desk) (sym same) (few_logon d k c byte rest line now waits)

few_decoded : (d : Desk) (k c byte : ℕ) (rest : List ℕ) (now : ℕ) (decoded : Decoded)
    → (connection_at d k).waiting ≡ byte ∷ rest
    → connection_at (with_connection d k (rest_of (connection_at d k) byte rest)) k ≡ rest_of
    (connection_at d k) byte rest
    → Few d c (after_decoded (with_connection d k (rest_of (connection_at d k) byte rest)) k decoded now).desk
few_decoded d k c byte rest now Nothing waits same = few_quiet d k c byte rest waits
few_decoded d k c byte rest now (Line line) waits same =
    few_line d k c byte rest line now (connection_at (with_connection d k (rest_of (connection_at d k) byte rest))
    k).stage waits same
few_decoded d k c byte rest now (Declines command option) waits same = few_quiet d k c byte rest waits
few_decoded d k c byte rest now AreYouThere waits same = few_quiet d k c byte rest waits

few_first : (d : Desk) (k c now : ℕ) (waiting : List ℕ) → is_taking d k (connection_at d k).stage ≡ true
    → (connection_at d k).waiting ≡ waiting → Few d c (after_first d k waiting now).desk
few_first d k c now [] takes waits = λ few. few c
few_first d k c now (byte ∷ rest) takes waits =
    few_decoded d k c byte rest now (after_byte (connection_at d k).decoder byte).decoded waits
    (get_or-set_same d.connections k (rest_of (connection_at d k) byte rest) gone
    (within d k (taking_open d k (connection_at d k).stage takes)))

few_take : (d : Desk) (k c now : ℕ) (takes : Bool) → is_taking d k (connection_at d k).stage ≡ takes
    → Few d c (cond takes (after_first d k (connection_at d k).waiting now) (quietly d)).desk
few_take d k c now true e = few_first d k c now (connection_at d k).waiting e refl
few_take d k c now false e = λ few. few c

few_step : (d : Desk) (event : Event) (c : ℕ) → Few d c (step d event).desk
few_step d (Opens k address now) c = few_set d k c (opened address now) (λ _. omega arith)
few_step d (Comes k bytes) c = few_comes d k c bytes (leb (length (connection_at d k).waiting + length bytes) 4096) refl
few_step d (Takes k now) c = few_take d k c now (is_taking d k (connection_at d k).stage) refl
few_step d (Wakes k now) c = few_wake d k c now (connection_at d k).stage
few_step d (Answers k guess is_right now) c = few_answer d k c guess is_right now (connection_at d k).stage
few_step d (Closes k) c = few_gone d k c
few_step d (Prints user line) c = λ few. few c
few_step d (Keeps user line) c = λ few. few c
few_step d (Turns user is_on is_running) c = λ few. few c
few_step d (Finishes user) c = λ few. few c

-- Few bytes of a connection wait, whatever was sent.
pub few : (users : List (List ℕ)) (size : ℕ) (events : List Event) (c : ℕ)
    → IsFew (connection_at (after (new_desk users size) events) c)
few users size [] c = subst IsFew (sym (vacant size c)) (omega arith)
few users size (event ∷ earlier) c = few_step (after (new_desk users size) earlier) event c (few users size earlier)

-- the line that is typed

abbrev IsShort : AfterByte → Type 0
IsShort a = length a.typed.line ≤ 130

short_either : (a b : AfterByte) (t : Bool) → IsShort a → IsShort b → IsShort (cond t a b)
short_either a b true h k = h
short_either a b false h k = k

short_added_by : (line : List ℕ) (c : ℕ) (b : Bool) → ltb (length line) 130 ≡ b → length line ≤ 130
    → length (cond b (line ++ c ∷ []) line) ≤ 130
short_added_by line c true t h = omega (arith, length-append line (c ∷ []), ltb-true (length line) 130 t)
short_added_by line c false t h = h

short_added : (line : List ℕ) (c : ℕ) → length line ≤ 130 → length (with_character line c) ≤ 130
short_added line c h = short_added_by line c (ltb (length line) 130) refl h

short_rubbed : (line : List ℕ) → length line ≤ 130 → length (take (length line - 1) line) ≤ 130
short_rubbed line h = omega (arith, length-take (length line - 1) line)

short_character : (t : Typed) (byte : ℕ) → length t.line ≤ 130 → IsShort (after_character t byte)
short_character t byte h =
    short_either _ _ (t.is_after_return && ((byte == 10) || (byte == 0))) h
    (short_either _ _ (byte == 13) (omega arith) (short_either _ _ (byte == 10) (omega arith)
    (short_either _ _ ((byte == 8) || (byte == 127)) (short_rubbed t.line h) (short_added t.line (printable byte) h))))

short_command : (t : Typed) (byte : ℕ) → length t.line ≤ 130 → IsShort (after_command t byte)
short_command t byte h =
    short_either _ _ (byte == 250) h (short_either _ _ (leb 251 byte && leb byte 254) h
    (short_either _ _ (byte == 255) (short_added t.line 32 h)
    (short_either _ _ (byte == 247) (short_rubbed t.line h)
    (short_either _ _ (byte == 248) (omega arith) (short_either _ _ ((byte == 243) || (byte == 244)) (omega arith)
    (short_either _ _ (byte == 246) h h))))))

short_expected : (t : Typed) (expects : Expects) (byte : ℕ) → length t.line ≤ 130
    → IsShort (after_expected t expects byte)
short_expected t Text byte h = short_either _ _ (byte == 255) h (short_character t byte h)
short_expected t Command byte h = short_command t byte h
short_expected t (AnOption command) byte h = short_either _ _ (command == 251) h
    (short_either _ _ ((command == 253) && not (byte == 1)) h h)
short_expected t Parameter byte h = h
short_expected t ParameterEnd byte h = h

short_from : (bytes : List ℕ) (r : Reading) → length r.typed.line ≤ 130
    → length (fold read_byte r bytes).typed.line ≤ 130
short_from [] r h = h
short_from (byte ∷ rest) r h = short_from rest (read_byte r byte) (short_expected r.typed r.typed.expects byte h)

-- A line that is being typed has at most 130 bytes.
pub short : (bytes : List ℕ) → length (reading_of bytes).typed.line ≤ 130
short bytes = short_from bytes _ (omega arith)

-- the lines that are kept

last_few_by : (lines : List KeptLine) (b : Bool) → ltb 24 (length lines) ≡ b → length lines ≤ 25
    → length (cond b (drop 1 lines) lines) ≤ 24
last_few_by lines true t h = omega (arith, length-drop 1 lines)
last_few_by lines false t h = omega (arith, ltb-false 24 (length lines) t)

last_few : (lines : List KeptLine) (line : KeptLine) → length lines ≤ 24 → length (last_lines (lines ++ line ∷ [])) ≤ 24
last_few lines line h = last_few_by (lines ++ line ∷ []) (ltb 24 (length (lines ++ line ∷ []))) refl
    (omega (arith, length-append lines (line ∷ [])))

few_both : (a b : List KeptLine) (t : Bool) → length a ≤ 24 → length b ≤ 24 → length (cond t a b) ≤ 24
few_both a b true h k = h
few_both a b false h k = k

kept_few_by : (user : ℕ) (event : Event) (kept : List KeptLine) → length kept ≤ 24
    → length (kept_by user event kept) ≤ 24
kept_few_by user (Opens c address now) kept h = h
kept_few_by user (Comes c bytes) kept h = h
kept_few_by user (Takes c now) kept h = h
kept_few_by user (Wakes c now) kept h = h
kept_few_by user (Answers c guess is_right now) kept h = h
kept_few_by user (Closes c) kept h = h
kept_few_by user (Prints other line) kept h = h
kept_few_by user (Keeps other line) kept h = few_both _ _ (eqb other user) (last_few kept _ h) h
kept_few_by user (Turns other is_on is_running) kept h = few_both _ _ is_on h
    (few_both _ _ (eqb other user) (omega arith) h)
kept_few_by user (Finishes other) kept h = h

-- At most 24 lines are kept of a user.
pub kept_few : (user : ℕ) (events : List Event) → length (kept_of user events) ≤ 24
kept_few user [] = omega arith
kept_few user (event ∷ earlier) = kept_few_by user event (kept_of user earlier) (kept_few user earlier)
