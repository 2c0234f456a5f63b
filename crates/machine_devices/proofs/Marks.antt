-- The marks of attention of subchannels, and what changes them.
use Rattle.std.proofs.Common.{◌≡◌, ℕ, zero, suc, Bool, true, false, List, [], ◌∷◌, Option, Some, None, refl, sym, ap}
use Rattle.std.proofs.Common.{subst, ◌∙◌, arith}
use Rattle.std.proofs.lemmas.Bool.Decides.{nat_tests}
use Rattle.std.specs.Prelude.{if◌then◌else◌, ◌==◌, IfSome}
use Rattle.s370_walk.specs.declared.parts.Ending.{Ending}
use Rattle.s370_channel.specs.declared.words.Caw.{Caw}
use Rattle.s370_cpu.specs.declared.conclude.Stop.{Stop}
use Rattle.s370_cpu.specs.declared.conclude.Stop.TheVariants.{Done, Program, Svc, InputOutput, Privileged, Absent}
use Rattle.s370_cpu.specs.Table.{unit}
use Rattle.s370_rows.specs.declared.ending.IoOperation.{IoOperation}
use Rattle.s370_rows.specs.declared.ending.IoOperation.TheVariants.{Start, Test, Halt, TestChannel}
use Rattle.s370_subchannels.specs.declared.subchannel.DeviceState.{DeviceState}
use Rattle.s370_subchannels.specs.declared.subchannel.DeviceState.TheVariants.{Idle, Working, Pending}
use Rattle.s370_subchannels.specs.declared.subchannel.Subchannel.{Subchannel}
use Rattle.s370_subchannels.specs.Answers.{Devices, device_answered, answered, address_word, start_asked, started}
use Rattle.s370_subchannels.specs.Answers.{start_answered, test_answered, halt_answered}
use Rattle.s370_subchannels.specs.Programs.{program_ended, program_ended_at, status_word}
use Rattle.s370_subchannels.specs.Subchannels.{attended, attended_by, attending, begun, changed, ended, found, in_state}
use Rattle.s370_subchannels.specs.Subchannels.{last_started, next_start, reset, reset_one, that_gives, with_attention}
use Rattle.s370_subchannels.specs.Subchannels.{with_state, withdrawn}
use Rattle.s370_intr.specs.declared.next.Next.{Next}
use Rattle.s370_intr.specs.declared.next.Next.TheVariants.{Stops, Accepts, AcceptsStatus, Instructs}
use Rattle.s370_intr.specs.InputOutput.{Configuration, devices_in}
use Rattle.s370_intr.specs.Units.{Core, configured, followed, instructed, look, unit_at}
use Rattle.s370_intr.specs.Run.{Run, looked, run}
use Rattle.machine_devices.specs.Attention.{IsMarked, TellsAttention}

-- Numbers that are compared as equal are equal.
pub same_number : (x y : ℕ) → (x == y) ≡ true → x ≡ y
same_number x y h = grind (arith, nat_tests, h)

pub other_number : (x y : ℕ) → (x == y) ≡ false → x ≡ y → ⊥
other_number x y h e = grind (arith, nat_tests, h, e)

pub never : (b : Bool) → b ≡ true → b ≡ false → ⊥
never b h g = cc

-- ---- one of a list is changed

map_some : (o : Option Subchannel) (P Q : Subchannel → Type 0) → ((s : Subchannel) → P s → Q s) → IfSome o P
    → IfSome o Q
map_some None P Q t h = h
map_some (Some s) P Q t h = t s h

here : (c : Bool) (s s' : Subchannel) (rest : Option Subchannel) (P Q : Subchannel → Type 0) → (c ≡ true → P s → Q s')
    → (c ≡ false → IfSome rest P → IfSome rest Q) → IfSome (if c then Some s else rest) P
    → IfSome (if c then Some s' else rest) Q
here true s s' rest P Q t u h = t refl h
here false s s' rest P Q t u h = u refl h

there : (c : Bool) (s : Subchannel) (rest rest' : Option Subchannel) (P Q : Subchannel → Type 0)
    → (c ≡ true → P s → Q s) → (IfSome rest P → IfSome rest' Q) → IfSome (if c then Some s else rest) P
    → IfSome (if c then Some s else rest') Q
there true s rest rest' P Q t u h = t refl h
there false s rest rest' P Q t u h = u h

-- what is found of a device, when one has been changed: it was changed itself, or is another
changes_by : (b : Bool) (d device : ℕ) (change : Subchannel → Subchannel)
    (same : (s : Subchannel) → (change s).address ≡ s.address) (P Q : Subchannel → Type 0)
    → (d ≡ device → (s : Subchannel) → P s → Q (change s)) → ((d ≡ device → ⊥) → (s : Subchannel) → P s → Q s)
    → (s : Subchannel) (ss : List Subchannel) → (s.address == d) ≡ b
    → (IfSome (found device ss) P → IfSome (found device (changed d change ss)) Q) → IfSome (found device (s ∷ ss)) P
    → IfSome (found device (if b then change s ∷ ss else s ∷ changed d change ss)) Q
changes_by true d device change same P Q t u s ss is later h =
    let at : s.address ≡ d = same_number s.address d is in
    subst (λ (a : ℕ). IfSome (if a == device then Some (change s) else found device ss) Q) (sym (same s))
    (here (s.address == device) s (change s) (found device ss) P Q
    (λ c p. t (sym at ∙ same_number s.address device c) s p)
    (λ c. map_some (found device ss) P Q (u (λ e. other_number s.address device c (at ∙ e)))) h)
changes_by false d device change same P Q t u s ss is later h =
    there (s.address == device) s (found device ss) (found device (changed d change ss)) P Q
    (λ c p. u (λ e. other_number s.address d is (same_number s.address device c ∙ sym e)) s p) later h

pub changes : (d device : ℕ) (change : Subchannel → Subchannel)
    (same : (s : Subchannel) → (change s).address ≡ s.address) (P Q : Subchannel → Type 0)
    → (d ≡ device → (s : Subchannel) → P s → Q (change s)) → ((d ≡ device → ⊥) → (s : Subchannel) → P s → Q s)
    → (list : List Subchannel) → IfSome (found device list) P → IfSome (found device (changed d change list)) Q
changes d device change same P Q t u [] h = h
changes d device change same P Q t u (s ∷ ss) h =
    changes_by (s.address == d) d device change same P Q t u s ss refl (changes d device change same P Q t u ss) h

-- ---- marks

-- each device of a list is marked so
abbrev pub Marks : (ℕ → Bool) → List Subchannel → Type 0
Marks f list = (device : ℕ) → IfSome (found device list) (IsMarked (f device))

-- marks stay as they are
abbrev pub Keeps : List Subchannel → List Subchannel → Type 0
Keeps xs ys = (f : ℕ → Bool) → Marks f xs → Marks f ys

-- a device in another state, which says attention where it has to
in_another : (d : ℕ) (state : DeviceState) (f : ℕ → Bool) (list : List Subchannel) → (f d ≡ true → TellsAttention state)
    → Marks f list → Marks f (with_state d state list)
in_another d state f list tells h device =
    changes d device (in_state state) (λ s. refl) (IsMarked (f device)) (IsMarked (f device))
    (λ e s p. (p.0, λ w. tells (ap f e ∙ w))) (λ n s p. p) list (h device)

is_withdrawn : (gives : Bool) → gives ≡ true → TellsAttention (withdrawn gives)
is_withdrawn true h = (0, refl)
is_withdrawn false h = tt

is_ended : (gives : Bool) (csw : ℕ) → gives ≡ true → TellsAttention (ended gives csw)
is_ended true csw h = (csw, refl)
is_ended false csw h = absurd (never false h refl)

-- a device that begins a program
it_begins : (d caw : ℕ) (f : ℕ → Bool) (list : List Subchannel) → Marks f list → Marks f (begun d caw list)
it_begins d caw f list h device =
    changes d device (last_started (next_start list)) (λ s. refl) (IsMarked (f device)) (IsMarked (f device))
    (λ e s p. p) (λ n s p. p) (with_state d (Working caw) list)
    (in_another d (Working caw) f list (λ w. tt) h device)

-- ---- what is answered

start_keeps : (device : ℕ) (o : Option Caw) (d : Devices) → Keeps d.subchannels (started device o d).left.subchannels
start_keeps device (Some start) d f h = it_begins device (address_word d) f d.subchannels h
start_keeps device None d f h = h

start_in : (device : ℕ) (state : DeviceState) (d : Devices)
    → Keeps d.subchannels (start_answered device state d).left.subchannels
start_in device Idle d f h = start_keeps device (start_asked d) d f h
start_in device (Working caw) d f h = h
start_in device (Pending csw) d f h = h

test_in : (device : ℕ) (state : DeviceState) (d : Devices)
    → Keeps d.subchannels (test_answered device state d).left.subchannels
test_in device Idle d f h = h
test_in device (Working caw) d f h = h
test_in device (Pending csw) d f h = in_another device Idle f d.subchannels (λ w. tt) h

halt_in : (device : ℕ) (gives : Bool) (state : DeviceState) (d : Devices) (f : ℕ → Bool) → gives ≡ f device
    → Marks f d.subchannels → Marks f (halt_answered device gives state d).left.subchannels
halt_in device gives Idle d f is h = h
halt_in device gives (Pending csw) d f is h = h
halt_in device gives (Working caw) d f is h =
    in_another device (withdrawn gives) f d.subchannels (λ w. is_withdrawn gives (is ∙ w)) h

device_keeps : (operation : IoOperation) (device : ℕ) (o : Option Subchannel) (d : Devices) (f : ℕ → Bool)
    → IfSome o (IsMarked (f device)) → Marks f d.subchannels
    → Marks f (device_answered operation device o d).left.subchannels
device_keeps Start device None d f p h = h
device_keeps Test device None d f p h = h
device_keeps Halt device None d f p h = h
device_keeps TestChannel device None d f p h = h
device_keeps Start device (Some s) d f p h = start_in device s.state d f h
device_keeps Test device (Some s) d f p h = test_in device s.state d f h
device_keeps Halt device (Some s) d f p h = halt_in device s.attention s.state d f p.0 h
device_keeps TestChannel device (Some s) d f p h = h

answer_keeps : (operation : IoOperation) (device : ℕ) (d : Devices)
    → Keeps d.subchannels (answered operation device d).left.subchannels
answer_keeps Start device d f h = device_keeps Start device (found device d.subchannels) d f (h device) h
answer_keeps Test device d f h = device_keeps Test device (found device d.subchannels) d f (h device) h
answer_keeps Halt device d f h = device_keeps Halt device (found device d.subchannels) d f (h device) h
answer_keeps TestChannel device d f h = h

-- ---- units and runs

followed_keeps : (stop : Stop) (c : Configuration) → Keeps c.subchannels (followed stop c).subchannels
followed_keeps Done c f h = h
followed_keeps (Program code ilc) c f h = h
followed_keeps (Svc n ilc) c f h = h
followed_keeps (InputOutput operation device) c f h = answer_keeps operation device (devices_in c) f h
followed_keeps (Privileged i ilc) c f h = h
followed_keeps (Absent page) c f h = h

instructed_keeps : (c : Configuration) → Keeps c.subchannels (instructed c).subchannels
instructed_keeps c = let r = (unit c.processor).ran in followed_keeps r.stop (record c { processor = r.state })

unit_keeps : (l : Next) (c : Core) → Keeps c.subchannels (unit_at l c).subchannels
unit_keeps (Stops reason) c f h = h
unit_keeps (Accepts taken) c f h = h
unit_keeps (AcceptsStatus status) c f h = in_another status.device Idle f c.subchannels (λ w. tt) h
unit_keeps Instructs c f h = instructed_keeps (configured c) f h

looked_keeps : (l : Next) (c : Core) (rest : Run) → Keeps c.subchannels rest.core.subchannels
    → Keeps c.subchannels (looked l c rest).core.subchannels
looked_keeps (Stops reason) c rest k f h = h
looked_keeps (Accepts taken) c rest k f h = k f h
looked_keeps (AcceptsStatus status) c rest k f h = k f h
looked_keeps Instructs c rest k f h = k f h

-- A run keeps the addresses of the subchannels.
pub run_keeps : (n : ℕ) (c : Core) → Keeps c.subchannels (run n c).core.subchannels
run_keeps zero c f h = h
run_keeps (suc n) c f h =
    looked_keeps (look c) c (run n (unit_at (look c) c))
    (λ g marks. run_keeps n (unit_at (look c) c) g (unit_keeps (look c) c g marks)) f h

-- ---- attention that arises

-- the same is said of every other device
abbrev pub AgreeElse : ℕ → (ℕ → Bool) → (ℕ → Bool) → Type 0
AgreeElse device f g = (other : ℕ) → (device ≡ other → ⊥) → g other ≡ f other

marked_as : (b c : Bool) (s : Subchannel) → c ≡ b → IsMarked b s → IsMarked c s
marked_as b c s e p = subst (λ (x : Bool). IsMarked x s) (sym e) p

tells_attending : (state : DeviceState) → TellsAttention (attending state)
tells_attending Idle = (0, refl)
tells_attending (Working caw) = tt
tells_attending (Pending csw) = (csw, refl)

-- marked as it was, and where it is this device its status says attention
abbrev Between : Bool → ℕ → ℕ → Subchannel → Type 0
Between b device other s = IsMarked b s × (device ≡ other → TellsAttention s.state)

attended_in : (state : DeviceState) (device : ℕ) (f g : ℕ → Bool) (list : List Subchannel) → g device ≡ true
    → AgreeElse device f g → Marks f list
    → Marks g (with_attention device true (with_state device (attending state) list))
attended_in state device f g list on apart h other =
    let between : IfSome (found other (with_state device (attending state) list)) (Between (f other) device other) =
    changes device other (in_state (attending state)) (λ s. refl) (IsMarked (f other)) (Between (f other) device other)
    (λ e s p. ((p.0, λ w. tells_attending state), λ at. tells_attending state)) (λ n s p. (p, λ at. absurd (n at)))
    list (h other) in
    changes device other (that_gives true) (λ s. refl) (Between (f other) device other) (IsMarked (g other))
    (λ e s p. (sym (sym (ap g e) ∙ on), λ w. p.1 e)) (λ n s p. marked_as (f other) (g other) s (apart other n) p.0)
    (with_state device (attending state) list) between

not_there : (b : Bool) (device other : ℕ) (f g : ℕ → Bool) (list : List Subchannel) → (device == other) ≡ b
    → found device list ≡ None → AgreeElse device f g → IfSome (found other list) (IsMarked (f other))
    → IfSome (found other list) (IsMarked (g other))
not_there true device other f g list is none apart h =
    let nothing : found other list ≡ None = ap (λ (d : ℕ). found d list) (sym (same_number device other is)) ∙ none in
    subst (λ (o : Option Subchannel). IfSome o (IsMarked (g other))) (sym nothing) tt
not_there false device other f g list is none apart h =
    map_some (found other list) (IsMarked (f other)) (IsMarked (g other))
    (λ s p. marked_as (f other) (g other) s (apart other (other_number device other is)) p) h

attended_as : (o : Option Subchannel) (device : ℕ) (f g : ℕ → Bool) (list : List Subchannel) → found device list ≡ o
    → g device ≡ true → AgreeElse device f g → Marks f list → Marks g (attended_by o device list)
attended_as None device f g list is on apart h =
    λ other. not_there (device == other) device other f g list refl is apart (h other)
attended_as (Some s) device f g list is on apart h = attended_in s.state device f g list on apart h

-- the device has attention to give from now on
pub marked : (device : ℕ) (f g : ℕ → Bool) (list : List Subchannel) → g device ≡ true → AgreeElse device f g
    → Marks f list → Marks g (attended device list)
marked device f g list on apart h = attended_as (found device list) device f g list refl on apart h

-- ---- a program that ends

ends_in : (o : Option Subchannel) (device key : ℕ) (ending : Ending) (f : ℕ → Bool) (list : List Subchannel)
    → IfSome o (IsMarked (f device)) → Marks f list → Marks f (program_ended_at o device key ending list)
ends_in None device key ending f list p h = h
ends_in (Some s) device key ending f list p h =
    in_another device (ended s.attention (status_word key ending)) f list
    (λ w. is_ended s.attention (status_word key ending) (p.0 ∙ w)) h

-- The end of a program keeps the addresses of the subchannels.
pub ended_keeps : (device key : ℕ) (ending : Ending) (list : List Subchannel)
    → Keeps list (program_ended device key ending list)
ended_keeps device key ending list f h = ends_in (found device list) device key ending f list (h device) h

-- the device has this mark, which its state need not say yet; every other is marked
abbrev Half : ℕ → Bool → ℕ → Subchannel → Type 0
Half device b other s = (device ≡ other → s.attention ≡ b) × ((device ≡ other → ⊥) → IsMarked b s)

halved : (device : ℕ) (b : Bool) (f g : ℕ → Bool) (list : List Subchannel) → g device ≡ b → AgreeElse device f g
    → Marks f list → (other : ℕ) → IfSome (found other (with_attention device b list)) (Half device (g other) other)
halved device b f g list on apart h other =
    changes device other (that_gives b) (λ s. refl) (IsMarked (f other)) (Half device (g other) other)
    (λ e s p. (λ at. sym on ∙ ap g e, λ n. absurd (n e)))
    (λ n s p. (λ at. absurd (n at), λ m. marked_as (f other) (g other) s (apart other n) p)) list (h other)

whole : (b : Bool) (device other : ℕ) (g : ℕ → Bool) (list : List Subchannel) → (device == other) ≡ b
    → found device list ≡ None → IfSome (found other list) (Half device (g other) other)
    → IfSome (found other list) (IsMarked (g other))
whole true device other g list is none h =
    let nothing : found other list ≡ None = ap (λ (d : ℕ). found d list) (sym (same_number device other is)) ∙ none in
    subst (λ (o : Option Subchannel). IfSome o (IsMarked (g other))) (sym nothing) tt
whole false device other g list is none h =
    map_some (found other list) (Half device (g other) other) (IsMarked (g other))
    (λ s p. p.1 (other_number device other is)) h

half_ends : (o : Option Subchannel) (device key : ℕ) (ending : Ending) (g : ℕ → Bool) (list : List Subchannel)
    → found device list ≡ o → IfSome o (Half device (g device) device)
    → ((other : ℕ) → IfSome (found other list) (Half device (g other) other))
    → Marks g (program_ended_at o device key ending list)
half_ends None device key ending g list is p h = λ other. whole (device == other) device other g list refl is (h other)
half_ends (Some s) device key ending g list is p h =
    λ other. changes device other (in_state (ended s.attention (status_word key ending))) (λ t. refl)
    (Half device (g other) other) (IsMarked (g other))
    (λ e t q. (q.0 e, λ w. is_ended s.attention (status_word key ending) (p.0 refl ∙ (ap g e ∙ w))))
    (λ n t q. q.1 n) list (h other)

-- the device has attention to give or not, and then its program ends, whose status says it
pub attends_and_ends : (device key : ℕ) (ending : Ending) (b : Bool) (f g : ℕ → Bool) (list : List Subchannel)
    → g device ≡ b → AgreeElse device f g → Marks f list
    → Marks g (program_ended device key ending (with_attention device b list))
attends_and_ends device key ending b f g list on apart h =
    let half : (other : ℕ) → IfSome (found other (with_attention device b list)) (Half device (g other) other) =
    halved device b f g list on apart h in
    half_ends (found device (with_attention device b list)) device key ending g (with_attention device b list) refl
    (half device) half

-- ---- a reset

either_of : (b : Bool) (s : Subchannel) (rest : Option Subchannel) (P : Subchannel → Type 0) → P s → IfSome rest P
    → IfSome (if b then Some s else rest) P
either_of true s rest P p q = p
either_of false s rest P p q = q

-- after it no device is marked
pub reset_marks : (f : ℕ → Bool) (list : List Subchannel) → ((device : ℕ) → f device ≡ false) → Marks f (reset list)
reset_marks f [] off device = tt
reset_marks f (s ∷ ss) off device =
    either_of (s.address == device) (reset_one s) (found device (reset ss)) (IsMarked (f device))
    (sym (off device), λ w. tt) (reset_marks f ss off device)
