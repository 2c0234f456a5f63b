-- Steps of the desk that the code makes in two.
use Rattle.std.proofs.Common.{◌≡◌, ◌<◌, ℕ, List, ◌∷◌, length, ap, subst, sym, ◌∙◌, get_or, get_or-set_same, map}
use Rattle.std.proofs.Common.{set, ◌++◌, []}
use Rattle.std.proofs.lemmas.List.{get_or_default, set-set}
use Rattle.logon_desk.specs.Connection.{gone}
use Rattle.terminal_lines.specs.Decoder.{AfterByte, after_byte}
use Rattle.logon_desk.specs.Desk.{Does, asking}
use Rattle.logon_desk.specs.Guesses.{asked_of}
use Rattle.logon_desk.specs.declared.output.DeskAction.{DeskAction}
use Rattle.logon_desk.specs.declared.output.DeskAction.TheVariants.{Asks}
use Rattle.terminal_lines.specs.declared.words.Guess.{Guess}
use Rattle.logon_desk.specs.Desk.{Desk, after_decoded, after_first, answered, comes_to, connection_at, logon_line}
use Rattle.logon_desk.specs.Desk.{notices, with_connection}
use Rattle.text_words.specs.Words.{words_of}
use Rattle.logon_desk.specs.Connection.{after_line}
use Rattle.terminal_lines.specs.Typed.{Typed}
use Rattle.terminal_lines.specs.Words.{capital, said_by}
use Rattle.logon_desk.specs.declared.account.Account.{Account}
use Rattle.logon_desk.specs.declared.guesses.GuessedName.{GuessedName}
use Rattle.terminal_lines.specs.declared.decoder.Decoded.{Decoded}
use Rattle.terminal_lines.specs.declared.words.Said.{Said}
use Rattle.logon_desk.specs.declared.connection.LogonStep.{LogonStep}
use Rattle.logon_desk.specs.declared.connection.Connection.{Connection}
use Rattle.logon_desk.specs.declared.connection.Stage.{Stage}
use Rattle.logon_desk.specs.declared.connection.Stage.TheVariants.{Gone, Naming, Asking, Waiting, Judged, Refused, On}

abbrev pub moved_out : Connection → Connection
moved_out x = record x { stage = Gone }

-- the stage may be moved out before it is replaced
pub over_stage : (d : Desk) (c : ℕ) (x : Connection) (stage : Stage) (now : ℕ)
    → comes_to (with_connection d c (moved_out x)) c (moved_out x) stage now ≡ comes_to d c x stage now
over_stage d c x Gone now = simp set-set
over_stage d c x Naming now = simp set-set
over_stage d c x (Asking name) now = simp set-set
over_stage d c x (Waiting guess) now = simp set-set
over_stage d c x (Judged guess) now = simp set-set
over_stage d c x Refused now = simp set-set
over_stage d c x (On user) now = simp set-set

pub answered_over : (d : Desk) (c : ℕ) (answer : LogonStep) (now : ℕ) → c < length d.connections
    → answered (with_connection d c (moved_out (connection_at d c))) c
    (connection_at (with_connection d c (moved_out (connection_at d c))) c) answer now ≡ answered d c
    (connection_at d c) answer now
answered_over d c answer now h =
    let here : connection_at (with_connection d c (moved_out (connection_at d c))) c ≡ moved_out
    (connection_at d c) = get_or-set_same d.connections c (moved_out (connection_at d c)) gone h in
    ap (λ (x : Connection). answered (with_connection d c (moved_out (connection_at d c))) c x answer now) here
    ∙ ap (λ (e : Desk). record { desk = e; outputs = notices c answer.notice })
    (over_stage d c (connection_at d c) answer.stage now)

-- the first byte that waits is taken
pub first_taken : (d : Desk) (c : ℕ) (byte : ℕ) (rest : List ℕ) (now : ℕ) → (connection_at d c).waiting ≡ byte ∷ rest
    → after_first d c (connection_at d c).waiting now
    ≡ after_decoded (with_connection d c (record (connection_at d c) {
      decoder =
          (after_byte (connection_at d c).decoder byte).typed;
      waiting = rest;
    })) c
    (after_byte (connection_at d c).decoder byte).decoded now
first_taken d c byte rest now h = ap (λ (w : List ℕ). after_first d c w now) h

-- the connection at a place of which it was read
pub read_there : (connections : List Connection) (c : ℕ) (at : Connection) → c < length connections
    → at ≡ get_or connections c at → get_or connections c gone ≡ at
read_there connections c at h is = get_or_default connections c gone at h ∙ sym is

-- The first byte that waits is taken by the connection's own decoder.
pub takes_first : (connections : List Connection) (accounts : List Account) (guesses : List GuessedName) (old : Desk)
    (c : ℕ) (at : Connection) (byte : ℕ) (rest : List ℕ) (typed : Typed) (decoded : Decoded) (now : ℕ)
    → record { connections = connections; accounts = accounts; guesses = guesses } ≡ old → c < length old.connections
    → at ≡ get_or connections c at → at.waiting ≡ byte ∷ rest
    → after_byte at.decoder byte ≡ record { typed = typed; decoded = decoded }
    → after_decoded (record {
      connections = set connections c (record at { decoder = typed; waiting = rest });
      accounts = accounts;
      guesses = guesses;
    }) c decoded now ≡ after_first old c (connection_at old c).waiting now
takes_first connections accounts guesses old c at byte rest typed decoded now seen h is waits came =
    let d : Desk = record { connections = connections; accounts = accounts; guesses = guesses } in
    let within : c < length connections = subst (λ (e : Desk). c < length e.connections) (sym seen) h in
    let same : connection_at d c ≡ at = read_there connections c at within is in
    let F : Connection → AfterByte → Rattle.logon_desk.specs.Desk.Step = λ x b. after_decoded
    (with_connection d c (record x { decoder = b.typed; waiting = rest })) c b.decoded now in
    let first = first_taken d c byte rest now (ap (λ (x : Connection). x.waiting) same ∙ waits) in
    let changed = ap (λ (x : Connection). F x (after_byte x.decoder byte)) same ∙ ap (F at) came in
    sym (first ∙ changed) ∙ ap (λ (e : Desk). after_first e c (connection_at e c).waiting now) seen

-- The host is asked about a guess, which is remembered before the connection comes to its stage.
pub asks_host : (connections : List Connection) (accounts : List Account) (guesses noted : List GuessedName)
    (old : Desk) (c : ℕ) (at : Connection) (name : List ℕ) (guess judged asked : Guess) (now : ℕ) (new : Desk)
    (before outputs : List DeskAction)
    → record { connections = connections; accounts = accounts; guesses = guesses } ≡ old → c < length old.connections
    → at ≡ get_or connections c at → name ≡ guess.name → noted ≡ asked_of guesses name at.address now → judged ≡ guess
    → asked ≡ guess
    → new ≡ comes_to (record { connections = connections; accounts = accounts; guesses = noted }) c
    (connection_at (record { connections = connections; accounts = accounts; guesses = noted }) c) (Judged judged) now
    → outputs ≡ before ++ Asks c asked ∷ []
    → Does (asking old c (connection_at old c) guess now) before new outputs
asks_host connections accounts guesses noted old c at name guess judged asked now new before outputs seen h is named
    notes alike same comes pushed =
    let d : Desk = record { connections = connections; accounts = accounts; guesses = guesses } in
    let within : c < length connections = subst (λ (e : Desk). c < length e.connections) (sym seen) h in
    let there : get_or connections c gone ≡ at = read_there connections c at within is in
    let F : List GuessedName → Guess → Desk = λ g j. comes_to (record {
      connections = connections;
      accounts = accounts;
      guesses = g;
    }) c (get_or connections c gone) (Judged j) now in
    let remembers : noted ≡ asked_of guesses guess.name (get_or connections c gone).address now =
    notes ∙ ap (λ (n : List ℕ). asked_of guesses n at.address now) named
    ∙ ap (λ (x : Connection). asked_of guesses guess.name x.address now) (sym there) in (
      comes ∙ ap (λ (j : Guess). F noted j) alike
          ∙ ap (λ (g : List GuessedName). F g guess) remembers
          ∙ ap (λ (e : Desk). (asking e c (connection_at e c) guess now).desk) seen,
      pushed ∙ ap (λ (g : Guess). before ++ Asks c g ∷ []) same,
    )

-- A line that a connection ends is answered at its stage.
pub says_line : (connections : List Connection) (accounts : List Account) (guesses : List GuessedName) (old : Desk)
    (c : ℕ) (at : Connection) (moved stage : Stage) (said : Said) (answer : LogonStep) (line capitals : List ℕ)
    (now : ℕ)
    → record { connections = connections; accounts = accounts; guesses = guesses } ≡ old → c < length old.connections
    → at ≡ get_or connections c at
    → moved ≡ Gone → stage ≡ at.stage → capitals ≡ map capital line → said ≡ said_by (words_of capitals)
    → answer ≡ after_line stage said
    → answered (record {
      connections = set connections c (record at { stage = moved });
      accounts = accounts;
      guesses = guesses;
    }) c
    (connection_at (record {
      connections = set connections c (record at { stage = moved });
      accounts = accounts;
      guesses = guesses;
    }) c) answer now ≡ logon_line old c (connection_at old c) line now
says_line connections accounts guesses old c at moved stage said answer line capitals now seen h is out was caps says
    answers =
    let d : Desk = record { connections = connections; accounts = accounts; guesses = guesses } in
    let within : c < length connections = subst (λ (e : Desk). c < length e.connections) (sym seen) h in
    let same : connection_at d c ≡ at = read_there connections c at within is in
    let F : Connection → Rattle.logon_desk.specs.Desk.Step = λ x. answered (with_connection d c x) c
    (connection_at (with_connection d c x) c) answer now in
    let A : LogonStep → Rattle.logon_desk.specs.Desk.Step = λ a. answered d c (connection_at d c) a now in
    let meant : answer ≡ after_line (connection_at d c).stage (said_by (words_of (map capital line))) =
    answers ∙ ap (λ (s : Stage). after_line s said) (was ∙ ap (λ (x : Connection). x.stage) (sym same))
    ∙ ap (after_line (connection_at d c).stage) (says ∙ ap (λ (l : List ℕ). said_by (words_of l)) caps) in
    ap (λ (s : Stage). F (record at { stage = s })) out ∙ ap (λ (x : Connection). F (moved_out x)) (sym same)
    ∙ answered_over d c answer now within ∙ ap A meant
    ∙ ap (λ (e : Desk). logon_line e c (connection_at e c) line now) seen
