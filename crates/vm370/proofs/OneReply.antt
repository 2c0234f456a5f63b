-- The same event has one reply in systems of which the same is seen.
use Rattle.std.proofs.Common.{◌≡◌, ◌∙◌, ℕ, List, [], ◌∷◌, ap, map, refl, sym}
use Rattle.cp_core.specs.Local.{Step}
use Rattle.cp_core.specs.OneReply.{HistoriesAreOne, LookAlike}
use Rattle.cp_core.specs.System.{SystemView, names_of}
use Rattle.cp_directory.specs.Users.{DirectoryUser}
use Rattle.machine_devices.specs.Equipped.{Equipped}
use Rattle.machine_devices.specs.Events.{IsSameEvent}
use Rattle.machine_devices.specs.declared.event.Event.{Event}
use Rattle.machine_devices.specs.declared.event.Event.TheVariants as events
use Rattle.machine_devices.specs.declared.files.FileNote.{FileNote}
use Rattle.session_script.specs.Script.{EventValue, Run, Line, Tick, Serve, Auto, Deck, Transfer}
use Rattle.session_script.specs.Users.{KnownUser}
use Rattle.sessions.specs.Installed.{Installed, as_said}
use Rattle.sessions.specs.OneTranscript.{HaveOneReply}
use Rattle.sessions.specs.Schedule.{cards_said, user_said}
use Rattle.vm370.specs.Goes.{known_users, seen_in, system_goes}

-- ---- events that are said alike

abbrev number_said : EventValue → ℕ
number_said (Run user units) = units
number_said (Line user text) = 0
number_said (Tick user) = 0
number_said (Serve user device) = device
number_said (Deck user cards) = 0
number_said (Transfer user id to) = id
number_said (Auto count) = count

abbrev text_said : EventValue → List ℕ
text_said (Run user units) = []
text_said (Line user text) = text
text_said (Tick user) = []
text_said (Serve user device) = []
text_said (Deck user cards) = []
text_said (Transfer user id to) = []
text_said (Auto count) = []

abbrev receiver_said : EventValue → ℕ
receiver_said (Transfer user id to) = to
receiver_said (Run user units) = 0
receiver_said (Line user text) = 0
receiver_said (Tick user) = 0
receiver_said (Serve user device) = 0
receiver_said (Deck user cards) = 0
receiver_said (Auto count) = 0

said_same : (one other : Event) → as_said other ≡ as_said one → IsSameEvent one other
said_same (events.Run user units) (events.Run other count) e = (ap user_said e, ap number_said e)
said_same (events.Run user units) (events.Line other text) e = absurd (cc)
said_same (events.Run user units) (events.Tick other) e = absurd (cc)
said_same (events.Run user units) (events.Serve other place) e = absurd (cc)
said_same (events.Run user units) (events.Deck other deck) e = absurd (cc)
said_same (events.Run user units) (events.Transfer other id to) e = absurd (cc)
said_same (events.Line user typed) (events.Run other count) e = absurd (cc)
said_same (events.Line user typed) (events.Line other text) e = (ap user_said e, ap text_said e)
said_same (events.Line user typed) (events.Tick other) e = absurd (cc)
said_same (events.Line user typed) (events.Serve other place) e = absurd (cc)
said_same (events.Line user typed) (events.Deck other deck) e = absurd (cc)
said_same (events.Line user typed) (events.Transfer other id to) e = absurd (cc)
said_same (events.Tick user) (events.Run other count) e = absurd (cc)
said_same (events.Tick user) (events.Line other text) e = absurd (cc)
said_same (events.Tick user) (events.Tick other) e = ap user_said e
said_same (events.Tick user) (events.Serve other place) e = absurd (cc)
said_same (events.Tick user) (events.Deck other deck) e = absurd (cc)
said_same (events.Tick user) (events.Transfer other id to) e = absurd (cc)
said_same (events.Serve user device) (events.Run other count) e = absurd (cc)
said_same (events.Serve user device) (events.Line other text) e = absurd (cc)
said_same (events.Serve user device) (events.Tick other) e = absurd (cc)
said_same (events.Serve user device) (events.Serve other place) e = (ap user_said e, ap number_said e)
said_same (events.Serve user device) (events.Deck other deck) e = absurd (cc)
said_same (events.Serve user device) (events.Transfer other id to) e = absurd (cc)
said_same (events.Deck user cards) (events.Run other count) e = absurd (cc)
said_same (events.Deck user cards) (events.Line other text) e = absurd (cc)
said_same (events.Deck user cards) (events.Tick other) e = absurd (cc)
said_same (events.Deck user cards) (events.Serve other place) e = absurd (cc)
said_same (events.Deck user cards) (events.Deck other deck) e = (ap user_said e, ap cards_said e)
said_same (events.Deck user cards) (events.Transfer other id to) e = absurd (cc)
said_same (events.Transfer user id to) (events.Run other count) e = absurd (cc)
said_same (events.Transfer user id to) (events.Line other text) e = absurd (cc)
said_same (events.Transfer user id to) (events.Tick other) e = absurd (cc)
said_same (events.Transfer user id to) (events.Serve other place) e = absurd (cc)
said_same (events.Transfer user id to) (events.Deck other deck) e = absurd (cc)
said_same (events.Transfer user id to) (events.Transfer other number receiver) e =
    (ap user_said e, ap number_said e, ap receiver_said e)

-- ---- what is seen

named : (directory : List DirectoryUser) → map (λ (u : KnownUser). u.name) (known_users directory) ≡ names_of directory
named [] = refl
named (user ∷ directory) = ap (λ (ns : List (List ℕ)). user.name ∷ ns) (named directory)

seen_alike : (one other : SystemView) → seen_in other ≡ seen_in one → LookAlike one other
seen_alike one other e = record {
  users = ap (λ (s : Installed). s.machines) e;
  names = sym (named other.directory) ∙ ap (λ (s : Installed). map (λ (u : KnownUser). u.name) s.users) e
      ∙ named one.directory;
  files = ap (λ (s : Installed). s.files) e;
}

seen_same : (one other : SystemView) → known_users other.directory ≡ known_users one.directory
    → other.users ≡ one.users → other.files ≡ one.files → seen_in other ≡ seen_in one
seen_same one other directory users files =
    ap (λ (us : List KnownUser). record { users = us; machines = other.users; files = other.files }) directory
    ∙ ap (λ (ms : List Equipped).
    record { users = known_users one.directory; machines = ms; files = other.files }) users
    ∙ ap (λ (fs : List FileNote).
    record { users = known_users one.directory; machines = one.users; files = fs }) files

-- The same event has one reply where the same is seen of two systems.
pub have_one_reply : HistoriesAreOne → HaveOneReply system_goes
have_one_reply law one other left end said reply twin seen l r had has =
    let step : Step = record { event = l.event; reply = reply; seen = left } in
    let like : Step = record { event = r.event; reply = twin; seen = end } in
    let same = said_same l.event r.event (r.named ∙ sym l.named) in
    let both = law one other left end (step ∷ []) (like ∷ []) (seen_alike one other seen) (l.step, refl) (r.step, refl)
    (same, refl) (had, tt) (has, tt) in
    let directory : known_users end.directory ≡ known_users left.directory =
    ap known_users r.step.directory ∙ ap (λ (s : Installed). s.users) seen ∙ sym (ap known_users l.step.directory) in
    (both.0.0, seen_same left end directory both.1.users both.1.files)
