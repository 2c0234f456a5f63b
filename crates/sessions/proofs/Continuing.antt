-- What is done from one scene is done from each that goes on as it.
use Rattle.std.specs.Prelude.{if◌then◌else◌}
use Rattle.std.specs.List.{list_any}
use Rattle.std.specs.Io.KnownBytes.{Appends}
use Rattle.std.proofs.Common.{◌≡◌, ℕ, zero, suc, ◌+◌, Bool, true, false, List, [], ◌∷◌, ◌++◌, Option, Some, None}
use Rattle.std.proofs.Common.{refl, ap, sym, ◌∙◌, ◌&&◌, subst, get_or, map, drop}
use Rattle.cp_dispatch.specs.Policy.{Lines}
use Rattle.cp_dispatch.specs.Turns.{IsDealt}
use Rattle.cp_dispatch.specs.declared.program.Program.{Program}
use Rattle.machine_panel.specs.Machine.{Machine}
use Rattle.machine_panel.specs.Ready.{does_something, is_ready}
use Rattle.machine_panel.specs.Run.{run_in}
use Rattle.machine_panel.specs.declared.machine.Mode.{Mode}
use Rattle.machine_panel.specs.declared.machine.Mode.TheVariants as modes
use Rattle.machine_devices.specs.Equipped.{Equipped, nobody}
use Rattle.machine_devices.specs.Forgotten.{unprinted}
use Rattle.machine_devices.specs.declared.files.FileKind.{FileKind}
use Rattle.machine_devices.specs.declared.files.FileKind.TheVariants as kinds
use Rattle.machine_devices.specs.declared.files.FileNote.{FileNote}
use Rattle.s370_subchannels.specs.Subchannels.{next_start}
use Rattle.s370_subchannels.specs.declared.subchannel.Subchannel.{Subchannel}
use Rattle.session_script.specs.Script.{EventValue}
use Rattle.session_script.specs.Script as said
use Rattle.session_script.specs.Users.{KnownUser}
use Rattle.sessions.specs.Alike.{AreAlike}
use Rattle.sessions.specs.Continuing.{ContinuesAs, HappensToo, IsToGoOn, but_printed, but_written, unwritten}
use Rattle.sessions.specs.Files.{closed_in, lines_from, lines_since, note_lines}
use Rattle.sessions.specs.declared.files.Telling.{Telling}
use Rattle.sessions.specs.Installed.{Installation, Installed, Step, machine_at, names_of, subchannels_at, user_at}
use Rattle.sessions.specs.News.{is_idle, is_none, modes_of}
use Rattle.sessions.specs.Schedule.{Act, Applies, Slices, Serves, AreDone, Entry, Answered, Dealt, Passed, Idle}
use Rattle.sessions.specs.Schedule.{IsApplied, IsDone, IsNoServe, IsNoSlice, IsOf, IsServe, IsSlice, Scene, in_order}
use Rattle.sessions.specs.Schedule.{is_joining, is_on, joined}
use Rattle.sessions.specs.Schedule.{line_after, line_since, lines_after, queue_after, queue_with, ready_in}
use Rattle.sessions.specs.Schedule.{slice_units, started_since}
use Rattle.sessions.specs.Schedule.{user_said, with_joining, withdrawn, within}
use Rattle.sessions.specs.Session.{IsPlayed}
use Rattle.sessions.specs.Transcript.{transcript}
use Rattle.sessions.specs.declared.schedule.Detail.{Detail}
use Rattle.sessions.proofs.SameLines.{agree}

-- ---- what is seen, but for lines that were printed

users_unwritten : (users : List Equipped) (user : ℕ)
    → get_or (map unwritten users) user nobody ≡ unwritten (get_or users user nobody)
users_unwritten [] user = refl
users_unwritten (e ∷ users) zero = refl
users_unwritten (e ∷ users) (suc user) = users_unwritten users user

users_unprinted : (users : List Equipped) (user : ℕ)
    → get_or (map unprinted users) user nobody ≡ unprinted (get_or users user nobody)
users_unprinted [] user = refl
users_unprinted (e ∷ users) zero = refl
users_unprinted (e ∷ users) (suc user) = users_unprinted users user

printed_too : (users : List Equipped) → map unwritten (map unprinted users) ≡ map unwritten users
printed_too [] = refl
printed_too (e ∷ users) = ap (λ (us : List Equipped). unwritten e ∷ us) (printed_too users)

printed_again : (users : List Equipped) → map unprinted (map unprinted users) ≡ map unprinted users
printed_again [] = refl
printed_again (e ∷ users) = ap (λ (us : List Equipped). unprinted e ∷ us) (printed_again users)

-- What is seen is the same but for printed lines, if these are forgotten.
pub but_forgotten : (s t : Installed) → t ≡ but_printed s → but_printed s ≡ but_printed t
but_forgotten s t same =
    let with_users = λ (us : List Equipped). let x : Installed = record s { machines = us } in x in
    sym (ap but_printed same ∙ ap with_users (printed_again s.machines))

less_same : (s t : Installed) → but_printed s ≡ but_printed t → but_written s ≡ but_written t
less_same s t same =
    let with_users = λ (x : Installed). λ (us : List Equipped). let y : Installed = record x { machines = us } in y in
    ap (with_users s) (sym (printed_too s.machines)) ∙ ap but_written same ∙ ap (with_users t) (printed_too t.machines)

any_same : {X : Type 0} (p q : X → Bool) → ((x : X) → p x ≡ q x) → (xs : List X) → list_any p xs ≡ list_any q xs
any_same p q same [] = refl
any_same p q same (x ∷ xs) = rw (same x, any_same p q same xs) refl

dealt_same : (p q : ℕ → Bool) → ((user : ℕ) → p user ≡ q user) → (old : List ℕ) (taken : Option ℕ) (new : List ℕ)
    → IsDealt p old taken new → IsDealt q old taken new
dealt_same p q same old None new h = (sym (any_same p q same old) ∙ h.0, h.1)
dealt_same p q same old (Some user) new h = record {
  before = h.before;
  after = h.after;
  split = h.split;
  passed = sym (any_same p q same h.before) ∙ h.passed;
  is_ready = sym (same user) ∙ h.is_ready;
  turned = h.turned;
}

reason_same : (mode : Mode) (m : Machine) → does_something (run_in mode 1
    (record m { output = [] })).reason ≡ does_something (run_in mode 1 m).reason
reason_same modes.Running m = refl
reason_same modes.Stopped m = refl
reason_same modes.Off m = refl

joining_same : (s t : Installed) (user number : ℕ) → s.users ≡ t.users → (sorted ds : List Subchannel)
    → with_joining s user number sorted ds ≡ with_joining t user number sorted ds
joining_same s t user number same sorted [] = refl
joining_same s t user number same sorted (d ∷ ds) =
    let known = λ (users : List KnownUser). let x : Installed = record s { users = users } in x in
    ap (λ (users : List KnownUser). with_joining s user number (if is_joining
    (known users) user number d then in_order d sorted else sorted) ds) same
    ∙ joining_same s t user number same (if is_joining t user number d then in_order d sorted else sorted) ds

module _ (s t : Installed) (same : but_written s ≡ but_written t) where
  user_same : (user : ℕ) → unwritten (user_at s user) ≡ unwritten (user_at t user)
  user_same user =
      sym (users_unwritten s.machines user) ∙ ap (λ (x : Installed). user_at x user) same
      ∙ users_unwritten t.machines user

  pub users_same : s.users ≡ t.users
  users_same = ap (λ (x : Installed). x.users) same

  pub names_same : names_of s ≡ names_of t
  names_same = ap (λ (x : Installed). names_of x) same

  ready_same : (user : ℕ) → ready_in s user ≡ ready_in t user
  ready_same user =
      sym (reason_same (machine_at s user).mode (machine_at s user))
      ∙ ap (λ (e : Equipped). is_ready e.machine) (user_same user)
      ∙ reason_same (machine_at t user).mode (machine_at t user)

  mode_same : (user : ℕ) → (machine_at s user).mode ≡ (machine_at t user).mode
  mode_same user = ap (λ (e : Equipped). e.machine.mode) (user_same user)

  subchannels_same : (user : ℕ) → subchannels_at s user ≡ subchannels_at t user
  subchannels_same user = ap (λ (e : Equipped). e.machine.core.subchannels) (user_same user)

  started_same : (user number : ℕ) → started_since s user number ≡ started_since t user number
  started_same user number =
      ap (λ (ds : List Subchannel). with_joining s user number [] ds) (subchannels_same user)
      ∙ joining_same s t user number users_same [] (subchannels_at t user)

  since_same : (user number : ℕ) (line : List Program) → line_since s user number line ≡ line_since t user number line
  since_same user number line =
      ap (λ (ds : List Subchannel). joined user ds (withdrawn user (subchannels_at s user) line))
      (started_same user number)
      ∙ ap (λ (ds : List Subchannel). joined user (started_since t user number) (withdrawn user ds line))
      (subchannels_same user)

  dealing_same : (lines : Lines) → IsOf t lines → IsOf s lines
  dealing_same lines h = subst (λ (users : List KnownUser). IsOf (record s { users = users }) lines) (sym users_same)
      (record { seats = h.seats; stated = h.stated })

-- ---- what is seen, but for lines that were printed

modes_unprinted : (users : List Equipped) → map (λ (e : Equipped). e.machine.mode) (map unprinted users)
    ≡ map (λ (e : Equipped). e.machine.mode) users
modes_unprinted [] = refl
modes_unprinted (e ∷ users) = ap (λ (modes : List Mode). e.machine.mode ∷ modes) (modes_unprinted users)

module _ (s t : Installed) (same : but_printed s ≡ but_printed t) where
  printed_same : (user : ℕ) → unprinted (user_at s user) ≡ unprinted (user_at t user)
  printed_same user =
      sym (users_unprinted s.machines user) ∙ ap (λ (x : Installed). user_at x user) same
      ∙ users_unprinted t.machines user

  pub seen_names : names_of s ≡ names_of t
  seen_names = ap (λ (x : Installed). names_of x) same

  pub seen_modes : modes_of s ≡ modes_of t
  seen_modes = sym (modes_unprinted s.machines) ∙ ap (λ (x : Installed). modes_of x) same ∙ modes_unprinted t.machines

  closed_same : (user : ℕ) (kind : FileKind) → closed_in s user kind ≡ closed_in t user kind
  closed_same user (kinds.Punch place) = ap (λ (e : Equipped). closed_in (record s { machines = e ∷ [] }) 0
      (kinds.Punch place)) (printed_same user)
  closed_same user (kinds.Printer place) = ap (λ (e : Equipped). closed_in (record s { machines = e ∷ [] }) 0
      (kinds.Printer place)) (printed_same user)
  closed_same user kinds.Deck = refl

  noted_same : (telling : Telling) (number : ℕ) (note : FileNote)
      → note_lines telling s number note ≡ note_lines telling t number note
  noted_same telling number note = rw (seen_names, closed_same note.user note.kind) refl

  from_same : (telling : Telling) (number : ℕ) (notes : List FileNote)
      → lines_from telling s number notes ≡ lines_from telling t number notes
  from_same telling number [] = refl
  from_same telling number (note ∷ notes) = rw (
    noted_same telling number note,
    from_same telling
        (number + 1) notes,
  ) refl

  pub seen_files : (telling : Telling) (count : ℕ) → lines_since telling count s ≡ lines_since telling count t
  seen_files telling count =
      ap (λ (files : List FileNote). lines_from telling s (count + 1) (drop count files))
      (ap (λ (x : Installed). x.files) same)
      ∙ from_same telling (count + 1) (drop count t.files)

-- Nobody is ready in one scene where nobody is in the other.
pub idle_same : {W : Type 0} (i : Installation W) (one other : Scene W) → one.lines ≡ other.lines
    → but_printed (i.seen one.world) ≡ but_printed (i.seen other.world) → is_idle i one ≡ is_idle i other
idle_same i one other lines same =
    let s = i.seen one.world in
    let t = i.seen other.world in
    ap (λ (l : Lines). is_none l.programs && (if list_any (ready_in s) l.users then false else true)) lines
    ∙ ap (λ (b : Bool). is_none other.lines.programs && (if b then false else true))
    (any_same (ready_in s) (ready_in t) (ready_same s t (less_same s t same)) other.lines.users)

-- ---- what is seen before and after an event

module _ (s t s' t' : Installed) (before : but_written s ≡ but_written t) (after : but_written s' ≡ but_written t')
    (user : ℕ) where
  queue_same : (queue : List ℕ) → queue_after s s' user queue ≡ queue_after t t' user queue
  queue_same queue =
      ap (λ (mode : Mode). queue_with user (is_on mode) (is_on (machine_at s' user).mode) queue)
      (mode_same s t before user)
      ∙ ap (λ (mode : Mode). queue_with user (is_on (machine_at t user).mode) (is_on mode) queue)
      (mode_same s' t' after user)

  line_same : (line : List Program) → line_after s s' user line ≡ line_after t t' user line
  line_same line =
      ap (λ (ds : List Subchannel). line_since s' user (next_start ds) line) (subchannels_same s t before user)
      ∙ since_same s' t' after user (next_start (subchannels_at t user)) line

  after_same : (lines : Lines) → lines_after s s' user lines ≡ lines_after t t' user lines
  after_same lines = rw (queue_same lines.users, line_same lines.programs) refl

-- ---- entries that have the same lines

alike_more : {W : Type 0} (i : Installation W) (one other : Entry W) (ones others : List (Entry W))
    → AreAlike i i (one ∷ []) (other ∷ [])
    → AreAlike i i ones others → AreAlike i i (one ∷ ones) (other ∷ others)
alike_more i (Answered one) (Answered other) ones others h k = (h.0, k)
alike_more i (Answered one) (Dealt other) ones others h k = absurd h
alike_more i (Answered one) Passed ones others h k = absurd h
alike_more i (Answered one) Idle ones others h k = absurd h
alike_more i (Dealt one) (Answered other) ones others h k = absurd h
alike_more i (Dealt one) (Dealt other) ones others h k = (h.0, k)
alike_more i (Dealt one) Passed ones others h k = absurd h
alike_more i (Dealt one) Idle ones others h k = absurd h
alike_more i Passed (Answered other) ones others h k = absurd h
alike_more i Passed (Dealt other) ones others h k = absurd h
alike_more i Passed Passed ones others h k = k
alike_more i Passed Idle ones others h k = absurd h
alike_more i Idle (Answered other) ones others h k = absurd h
alike_more i Idle (Dealt other) ones others h k = absurd h
alike_more i Idle Passed ones others h k = absurd h
alike_more i Idle Idle ones others h k = k

module _ {W : Type 0} (i : Installation W) (law : IsToGoOn i) where
  -- ---- one scene that goes on as another

  pub same_scene : (one : Scene W) → ContinuesAs i one one
  same_scene one = record { world = law.reflexive one.world; lines = refl; detail = refl; had_slice = refl }

  pub scenes_chain : (one other last : Scene W) → ContinuesAs i one other → ContinuesAs i other last
      → ContinuesAs i one last
  scenes_chain one other last h k = record {
    world = law.transitive one.world other.world last.world h.world k.world;
    lines = h.lines ∙ k.lines;
    detail = h.detail ∙ k.detail;
    had_slice = h.had_slice ∙ k.had_slice;
  }

  pub seen_same : (one other : Scene W) → ContinuesAs i one other
      → but_written (i.seen one.world) ≡ but_written (i.seen other.world)
  seen_same one other c = law.seen one.world other.world c.world

  -- ---- an act

  -- it is done with an entry of the same lines, and leaves what goes on as this
  abbrev Follows : Act → Entry W → Scene W → Scene W → Type 0
  Follows act entry from next =
      (like : Entry W) × (end : Scene W) × IsDone i act like from end × ContinuesAs i end next × AreAlike i i
      (like ∷ []) (entry ∷ [])

  module _ (had : Bool) (one other : W) (lines : Lines) (detail : Detail) (next : Scene W)
      (g : i.GoesOnAs one other) where
    abbrev here : Scene W
    here = within had one lines detail

    before : but_written (i.seen one) ≡ but_written (i.seen other)
    before = law.seen one other g

    -- what goes on as what an event has left goes on as this
    moved_on : (is : Bool) (step : Step W) (t : HappensToo i one step) (mine theirs : Lines) → mine ≡ theirs
        → next ≡ within is step.left theirs detail → ContinuesAs i (within is t.left mine detail) next
    moved_on is step t mine theirs same left =
        let end = within is t.left mine detail in
        let on : ContinuesAs i end (within is step.left theirs detail) =
        record { world = t.on; lines = same; detail = refl; had_slice = refl } in
        subst (λ (x : Scene W). ContinuesAs i end x) (sym left) on

    too : (what : EventValue) (step : Step W) → step.said ≡ what → i.Happens other what step.reply step.left
        → HappensToo i one step
    too what step named happened =
        law.happens one other step g (subst (λ (x : EventValue). i.Happens other x step.reply step.left)
        (sym named) happened)

    mine_is : (what : EventValue) (step : Step W) (t : HappensToo i one step) → step.said ≡ what
        → i.Happens one what step.reply t.left
    mine_is what step t named = subst (λ (x : EventValue). i.Happens one x step.reply t.left) named t.happens

    stayed : next ≡ within false other lines detail → ContinuesAs i (within false one lines detail) next
    stayed left =
        let end = within false one lines detail in
        let on : ContinuesAs i end (within false other lines detail) =
        record { world = g; lines = refl; detail = refl; had_slice = refl } in
        subst (λ (x : Scene W). ContinuesAs i end x) (sym left) on

    applied : (what : EventValue) (step : Step W) → IsApplied i what step (within had other lines detail) next
        → Follows (Applies what) (Answered step) here next
    applied what step h =
        let t = too what step h.named h.happened in
        let after = law.seen t.left step.left t.on in
        let same = after_same (i.seen one) (i.seen other) (i.seen t.left) (i.seen step.left) before after
        (user_said what) lines in
        let mine = lines_after (i.seen one) (i.seen t.left) (user_said what) lines in
        let like : Step W = record step { left = t.left } in
        let done : IsApplied i what like here (within false t.left mine detail) =
        record { named = h.named; happened = mine_is what step t h.named; left = refl } in
        (Answered like, within false t.left mine detail, done, moved_on false step t mine _ same h.left, (t.alike, tt))

    sliced : (step : Step W) → IsSlice i step (within had other lines detail) next
        → Follows Slices (Dealt step) here next
    sliced step h =
        let what = said.Run h.user slice_units in
        let t = too what step h.slice h.happened in
        let after = law.seen t.left step.left t.on in
        let same = line_same (i.seen one) (i.seen other) (i.seen t.left)
        (i.seen step.left) before after h.user lines.programs in
        let with_line = λ (line : List Program). let l : Lines = record lines { users = h.queue; programs = line } in l
        in
        let mine = with_line (line_after (i.seen one) (i.seen t.left) h.user lines.programs) in
        let like : Step W = record step { left = t.left } in
        let ready = ready_same (i.seen other) (i.seen one) (sym before) in
        let done : IsSlice i like here (within true t.left mine detail) = record {
          user = h.user;
          queue = h.queue;
          dealt = dealt_same (ready_in (i.seen other)) (ready_in (i.seen one)) ready lines.users
              (Some h.user) h.queue h.dealt;
          slice = h.slice;
          happened = mine_is what step t h.slice;
          left = refl;
        } in (
          Dealt like,
          within true t.left mine detail,
          done,
          moved_on true step t mine _ (ap with_line same) h.left,
          (t.alike, tt),
        )

    not_sliced : IsNoSlice i (within had other lines detail) next → Follows Slices Passed here next
    not_sliced h =
        let ready = ready_same (i.seen other) (i.seen one) (sym before) in
        let dealt = dealt_same (ready_in (i.seen other)) (ready_in
        (i.seen one)) ready lines.users None lines.users h.dealt in
        let end = within false one lines detail in
        let done : IsNoSlice i here end = record { dealt = dealt; left = refl } in
        (Passed, end, done, stayed h.left, tt)

    served : (step : Step W) → IsServe i step (within had other lines detail) next
        → Follows Serves (Dealt step) here next
    served step h =
        let what = said.Serve h.program.user h.program.device in
        let t = too what step h.served h.happened in
        let after = law.seen t.left step.left t.on in
        let same = line_same (i.seen one) (i.seen other) (i.seen t.left)
        (i.seen step.left) before after h.program.user h.turned in
        let with_line = λ (line : List Program). let l : Lines = record lines { programs = line } in l in
        let mine = with_line (line_after (i.seen one) (i.seen t.left) h.program.user h.turned) in
        let like : Step W = record step { left = t.left } in
        let done : IsServe i like here (within false t.left mine detail) = record {
          program = h.program;
          turned = h.turned;
          dealt = h.dealt;
          served = h.served;
          happened = mine_is what step t h.served;
          left = refl;
        } in (
          Dealt like,
          within false t.left mine detail,
          done,
          moved_on false step t mine _ (ap with_line same) h.left,
          (t.alike, tt),
        )

    not_served : (is : Bool) → IsNoServe is (within had other lines detail) next
        → IsNoServe is here (within false one lines detail) × ContinuesAs i (within false one lines detail) next
    not_served is h = (record { dealt = h.dealt; had = h.had; left = refl }, stayed h.left)

    follows_within : (act : Act) (entry : Entry W) → IsDone i act entry (within had other lines detail) next
        → Follows act entry here next
    follows_within (Applies what) (Answered step) h = applied what step h
    follows_within (Applies what) (Dealt step) h = absurd h
    follows_within (Applies what) Passed h = absurd h
    follows_within (Applies what) Idle h = absurd h
    follows_within Slices (Answered step) h = absurd h
    follows_within Slices (Dealt step) h = sliced step h
    follows_within Slices Passed h = not_sliced h
    follows_within Slices Idle h = absurd h
    follows_within Serves (Answered step) h = absurd h
    follows_within Serves (Dealt step) h = served step h
    follows_within Serves Passed h =
        let k = not_served true h in (Passed, within false one lines detail, k.0, k.1, tt)
    follows_within Serves Idle h =
        let k = not_served false h in (Idle, within false one lines detail, k.0, k.1, tt)

  -- ---- acts

  -- but for its world each scene is the same
  but_world : (one other : Scene W) → ContinuesAs i one other
      → other ≡ within one.had_slice other.world one.lines one.detail
  but_world one other c =
      ap (λ (l : Lines). within other.had_slice other.world l other.detail) (sym c.lines)
      ∙ (ap (λ (d : Detail). within other.had_slice other.world one.lines d) (sym c.detail)
      ∙ ap (λ (b : Bool). within b other.world one.lines one.detail) (sym c.had_slice))

  follows : (act : Act) (entry : Entry W) (one other next : Scene W) → ContinuesAs i one other
      → IsDone i act entry other next → Follows act entry one next
  follows act entry one other next c h =
      let done = subst (λ (s : Scene W). IsDone i act entry s next) (but_world one other c) h in
      follows_within one.had_slice one.world other.world one.lines one.detail next c.world act entry done

  abbrev AllFollow : List Act → List (Entry W) → Scene W → Scene W → Type 0
  AllFollow xs es from last =
      (like : List (Entry W)) × (end : Scene W) × AreDone i xs from like end × ContinuesAs i end last × AreAlike i i
      like es

  done_alike : (xs : List Act) (es : List (Entry W)) (one other last : Scene W) → ContinuesAs i one other
      → AreDone i xs other es last → AllFollow xs es one last
  done_alike [] [] one other last c h = ([], one, refl, subst (λ (s : Scene W). ContinuesAs i one s) (sym h) c, tt)
  done_alike [] (e ∷ es) one other last c h = absurd h
  done_alike (x ∷ xs) [] one other last c h = absurd h
  done_alike (x ∷ xs) (e ∷ es) one other last c h =
      let first = follows x e one other h.0 c h.1 in
      let more = done_alike xs es first.1 h.0 last first.3 h.2 in
      (first.0 ∷ more.0, more.1, (first.1, first.2, more.2), more.3, alike_more i first.0 e more.0 es first.4 more.4)

  -- ---- what was played

  transcript_same : (one other : Scene W) (like es : List (Entry W)) → ContinuesAs i one other → AreAlike i i like es
      → transcript i other.detail (names_of (i.seen other.world)) es ≡ transcript i one.detail (names_of
      (i.seen one.world)) like
  transcript_same one other like es c alike =
      let names = names_same (i.seen one.world) (i.seen other.world) (seen_same one other c) in
      ap (λ (d : Detail). transcript i d (names_of (i.seen other.world)) es) (sym c.detail)
      ∙ ap (λ (ns : List (List ℕ)). transcript i one.detail ns es) (sym names)
      ∙ sym (agree i i one.detail (names_of (i.seen one.world)) like es alike)

  pub played_alike : (xs : List Act) (one other last : Scene W) (a b : Option (List ℕ)) → ContinuesAs i one other
      → IsPlayed i xs other last a b → (end : Scene W) × IsPlayed i xs one end a b × ContinuesAs i end last
  played_alike xs one other last a b c p =
      let found = done_alike xs p.entries one other last c p.done in
      let end = found.1 in
      let e = found.3 in
      let ended = seen_same end last e in
      let begun = seen_same one other c in
      let dealing = dealing_same (i.seen end.world) (i.seen last.world) ended last.lines p.dealing in
      let played : IsPlayed i xs one end a b = record {
        entries = found.0;
        done = found.2;
        written = subst (λ (t : List ℕ). Appends a b t)
            (transcript_same one other found.0 p.entries c found.4) p.written;
        users = users_same (i.seen end.world) (i.seen last.world) ended ∙ (p.users
            ∙ sym (users_same (i.seen one.world) (i.seen other.world) begun));
        detail = e.detail ∙ (p.detail ∙ sym c.detail);
        dealing = subst (λ (l : Lines). IsOf (i.seen end.world) l) (sym e.lines) dealing;
      } in
      (end, played, e)
