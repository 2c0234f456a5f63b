-- Two sessions of the same acts write one transcript, act by act.
use Rattle.std.proofs.Common.{◌≡◌, ◌∙◌, ◌++◌, ◌⊎◌, ℕ, Bool, true, false, List, [], ◌∷◌, Option, Some, None}
use Rattle.std.proofs.Common.{inl, inr, refl}
use Rattle.std.proofs.Common.{sym, ap, subst, map}
use Rattle.std.specs.Prelude.{◌||◌}
use Rattle.std.specs.List.{list_any}
use Rattle.user_names.specs.Users.{name_of}
use Rattle.unit_record.specs.Reader.{DeckValue}
use Rattle.cp_dispatch.specs.Policy.{Lines, always}
use Rattle.cp_dispatch.specs.Turns.{IsTaken}
use Rattle.cp_dispatch.specs.declared.program.Program.{Program}
use Rattle.machine_devices.specs.OneReply.{DeliverAlike, HadFrames, IsOneReply}
use Rattle.machine_devices.specs.declared.reply.Delivered.{Delivered}
use Rattle.machine_devices.specs.declared.reply.Ended.{Ended}
use Rattle.machine_devices.specs.declared.reply.Reply.{Reply}
use Rattle.machine_devices.specs.declared.reply.UserResponse.{UserResponse}
use Rattle.session_script.specs.Script.{EventValue, Run, Serve}
use Rattle.sessions.specs.Installed.{Installation, Installed, Step, machine_at, user_at}
use Rattle.sessions.specs.OneTranscript.{AllHadFrames, HaveOneReply, LookAlike, TranscriptsAreOne}
use Rattle.sessions.specs.Schedule.{Act, Answered, Applies, AreDone, Dealt, Entry, Idle, IsApplied, IsDone, IsNoServe}
use Rattle.sessions.specs.Schedule.{IsNoSlice, IsServe, IsSlice, Passed, Scene, Serves, Slices, line_after, lines_after}
use Rattle.sessions.specs.Schedule.{moved, ready_in, slice_units, user_said}
use Rattle.sessions.specs.Transcript.{delivered_lines, end_lines, ended, entry_lines, reply_lines, said_lines}
use Rattle.sessions.specs.Transcript.{step_lines}
use Rattle.sessions.specs.Transcript.{told_line, transcript, written_lines}
use Rattle.sessions.specs.declared.schedule.Detail.{Detail}
use Rattle.sessions.specs.declared.schedule.Detail.TheVariants.{Whole}

-- ---- the lines of a reply

delivered_one : (names : List (List ℕ)) (p q : Option Delivered) → (q ≡ p) ⊎ DeliverAlike p q
    → delivered_lines names q ≡ delivered_lines names p
delivered_one names p q (inl e) = ap (λ (o : Option Delivered). delivered_lines names o) e
delivered_one names p q (inr h) =
    ap (λ (o : Option Delivered). delivered_lines names o) h.also
    ∙ ap (λ (text : List ℕ). told_line (name_of names h.to) text ∷ []) h.characters
    ∙ sym (ap (λ (o : Option Delivered). delivered_lines names o) h.delivers)

reply_one : (detail : Detail) (names : List (List ℕ)) (user : ℕ) (event : EventValue) (decks : List DeckValue)
    (output : List (List ℕ)) (p q : Reply) → IsOneReply p q
    → reply_lines detail names user event decks output q ≡ reply_lines detail names user event decks output p
reply_one detail names user event decks output p q h =
    let name = name_of names user in
    ap (λ (x : UserResponse). said_lines names name decks x ++ written_lines name q.lines output q.ended
    ++ delivered_lines names q.delivered ++ end_lines detail name event q.ended) h.said
    ∙ ap (λ (n : ℕ). said_lines names name decks p.said ++ written_lines name n output q.ended
    ++ delivered_lines names q.delivered ++ end_lines detail name event q.ended) h.lines
    ∙ ap (λ (e : Ended). said_lines names name decks p.said ++ written_lines name p.lines output e
    ++ delivered_lines names q.delivered ++ end_lines detail name event e) h.ended
    ∙ ap (λ (ls : List (List ℕ)). said_lines names name decks p.said ++ written_lines name p.lines output p.ended
    ++ ls ++ end_lines detail name event p.ended) (delivered_one names p.delivered q.delivered h.delivered)

step_one : {W : Type 0} (i : Installation W) (detail : Detail) (names : List (List ℕ)) (one other : Step W)
    → other.said ≡ one.said → IsOneReply one.reply other.reply → i.seen other.left ≡ i.seen one.left
    → step_lines i detail names other ≡ step_lines i detail names one
step_one i detail names one other said reply seen =
    ap (λ (e : EventValue). reply_lines detail names (user_said e) e
    (user_at (i.seen other.left) (user_said e)).devices.reader.decks
    (machine_at (i.seen other.left) (user_said e)).output other.reply) said
    ∙ ap (λ (s : Installed). reply_lines detail names (user_said one.said) one.said
    (user_at s (user_said one.said)).devices.reader.decks (machine_at s (user_said one.said)).output other.reply) seen
    ∙ reply_one detail names (user_said one.said) one.said
    (user_at (i.seen one.left) (user_said one.said)).devices.reader.decks
    (machine_at (i.seen one.left) (user_said one.said)).output one.reply other.reply reply

-- ---- who is dealt a turn

none_ready : {X : Type 0} (ready : X → Bool) (before after : List X) (one : X) → ready one ≡ true
    → list_any ready (before ++ one ∷ after) ≡ false → ⊥
none_ready ready [] after one is none =
    let both : (true || list_any ready after) ≡ false =
    subst (λ (b : Bool). (b || list_any ready after) ≡ false) is none in
    cc
none_ready ready (x ∷ before) after one is none =
    let rest : list_any ready (before ++ one ∷ after) ≡ false =
    or_right (ready x) (list_any ready (before ++ one ∷ after)) none in
    none_ready ready before after one is rest
  where
    or_right : (a b : Bool) → (a || b) ≡ false → b ≡ false
    or_right true b e = absurd (cc)
    or_right false b e = e

-- the first who is ready is one
record SplitAlike {X : Type 0} (before front : List X) (one other : X) (after back : List X) : Type 0 where
  fronts : front ≡ before
  ones : other ≡ one
  backs : back ≡ after

abbrev head_or : {X : Type 0} → X → List X → X
head_or x [] = x
head_or x (y ∷ ys) = y

abbrev tail_of : {X : Type 0} → List X → List X
tail_of [] = []
tail_of (y ∷ ys) = ys

split_one : {X : Type 0} (ready : X → Bool) (before front after back : List X) (one other : X)
    → before ++ one ∷ after ≡ front ++ other ∷ back → list_any ready before ≡ false → list_any ready front ≡ false
    → ready one ≡ true → ready other ≡ true → SplitAlike before front one other after back
split_one {X} ready [] [] after back one other e b f o t = record {
  fronts = refl;
  ones = ap (λ (xs : List X). head_or other xs) (sym e);
  backs = ap (λ (xs : List X). tail_of xs) (sym e);
}
split_one {X} ready [] (y ∷ front) after back one other e b f o t =
    let head : one ≡ y = ap (λ (xs : List X). head_or y xs) e in
    absurd (none_ready ready [] front y (sym (ap ready head) ∙ o) f)
split_one {X} ready (x ∷ before) [] after back one other e b f o t =
    let head : x ≡ other = ap (λ (xs : List X). head_or x xs) e in
    absurd (none_ready ready [] before x (ap ready head ∙ t) b)
split_one {X} ready (x ∷ before) (y ∷ front) after back one other e b f o t =
    let head : x ≡ y = ap (λ (xs : List X). head_or x xs) e in
    let tails : before ++ one ∷ after ≡ front ++ other ∷ back = ap (λ (xs : List X). tail_of xs) e in
    let rest = split_one ready before front after back one other tails (later (ready x) (list_any ready before) b)
    (later (ready y) (list_any ready front) f) o t in
    record {
      fronts = ap (λ (z : X). z ∷ front) (sym head) ∙ ap (λ (zs : List X). x ∷ zs) rest.fronts;
      ones = rest.ones;
      backs = rest.backs;
    }
  where
    later : (a c : Bool) → (a || c) ≡ false → c ≡ false
    later true c e = absurd (cc)
    later false c e = e

taken_one : {X : Type 0} (ready : X → Bool) (old : List X) (one other : X) (new next : List X)
    → IsTaken ready old one new → IsTaken ready old other next → (other ≡ one) × (next ≡ new)
taken_one {X} ready old one other new next l r =
    let s = split_one ready l.before r.before l.after r.after one other (sym l.split ∙ r.split) l.passed r.passed
    l.is_ready r.is_ready in (
      s.ones,
      r.turned ∙ ap (λ (xs : List X). xs ++ (r.before ++ other ∷ [])) s.backs
          ∙ ap (λ (xs : List X). l.after ++ (xs ++ other ∷ [])) s.fronts
          ∙ ap (λ (x : X). l.after ++ (l.before ++ x ∷ [])) s.ones ∙ sym l.turned,
    )

nobody_taken : {X : Type 0} (ready : X → Bool) (old : List X) (one : X) (new : List X) → IsTaken ready old one new
    → list_any ready old ≡ false → ⊥
nobody_taken ready old one new l none =
    none_ready ready l.before l.after one l.is_ready (sym (ap (list_any ready) l.split) ∙ none)

-- ---- an act

module _ {W : Type 0} (i : Installation W) (law : HaveOneReply i) where
  -- what came of an act in two scenes
  record ActAlike (entry twin : Entry W) (next after : Scene W) : Type 0 where
    lines : (detail : Detail) (names : List (List ℕ))
        → entry_lines i detail names twin ≡ entry_lines i detail names entry
    scenes : LookAlike i next after

  -- a scene after an event
  after_one : (one other next after : Scene W) (left end : W) (lines others : Lines) (had : Bool)
      → next ≡ moved one left lines had → after ≡ moved other end others had → i.seen end ≡ i.seen left
      → others ≡ lines → LookAlike i next after
  after_one one other next after left end lines others had l r seen same = record {
    seen = ap (λ (s : Scene W). i.seen s.world) r ∙ seen ∙ sym (ap (λ (s : Scene W). i.seen s.world) l);
    lines = ap (λ (s : Scene W). s.lines) r ∙ same ∙ sym (ap (λ (s : Scene W). s.lines) l);
    had_slice = ap (λ (s : Scene W). s.had_slice) r ∙ sym (ap (λ (s : Scene W). s.had_slice) l);
  }

  applied_one : (said : EventValue) (step twin : Step W) (one other next after : Scene W) → LookAlike i one other
      → IsApplied i said step one next → IsApplied i said twin other after → HadFrames step.reply.ended
      → HadFrames twin.reply.ended → ActAlike (Answered step) (Answered twin) next after
  applied_one said step twin one other next after h l r had has =
      let now = law one.world other.world step.left twin.left said step.reply twin.reply h.seen l.happened r.happened
      had has in
      let lines : lines_after (i.seen other.world) (i.seen twin.left) (user_said said) other.lines
      ≡ lines_after (i.seen one.world) (i.seen step.left) (user_said said) one.lines =
      ap (λ (s : Installed). lines_after s (i.seen twin.left) (user_said said) other.lines) h.seen
      ∙ ap (λ (s : Installed). lines_after (i.seen one.world) s (user_said said) other.lines) now.1
      ∙ ap (λ (ls : Lines). lines_after (i.seen one.world) (i.seen step.left) (user_said said) ls) h.lines in
      record {
        lines = λ detail names. step_one i Whole names step twin (r.named ∙ sym l.named) now.0 now.1;
        scenes = after_one one other next after step.left twin.left
            (lines_after (i.seen one.world) (i.seen step.left) (user_said said) one.lines)
            (lines_after (i.seen other.world) (i.seen twin.left) (user_said said) other.lines) false l.left r.left now.1
            lines;
      }

  -- the queue and the line after a slice of this user
  abbrev sliced : Scene W → W → ℕ → List ℕ → Lines
  sliced old left user queue = record old.lines {
    users = queue;
    programs = line_after (i.seen old.world) (i.seen left) user old.lines.programs;
  }

  slice_one : (step twin : Step W) (one other next after : Scene W) → LookAlike i one other → IsSlice i step one next
      → IsSlice i twin other after → HadFrames step.reply.ended → HadFrames twin.reply.ended
      → ActAlike (Dealt step) (Dealt twin) next after
  slice_one step twin one other next after h l r had has =
      let ready = subst (λ (s : Installed). IsTaken (ready_in s) other.lines.users r.user r.queue) h.seen r.dealt in
      let dealt = subst (λ (ls : Lines). IsTaken (ready_in (i.seen one.world)) ls.users r.user r.queue) h.lines ready in
      let who = taken_one (ready_in (i.seen one.world)) one.lines.users l.user r.user l.queue r.queue l.dealt dealt in
      let happened =
      subst (λ (u : ℕ). i.Happens other.world (Run u slice_units) twin.reply twin.left) who.0 r.happened in
      let now = law one.world other.world step.left twin.left (Run l.user slice_units) step.reply twin.reply h.seen
      l.happened happened had has in
      let said : twin.said ≡ step.said = r.slice ∙ ap (λ (u : ℕ). Run u slice_units) who.0 ∙ sym l.slice in
      let lines : sliced other twin.left r.user r.queue ≡ sliced one step.left l.user l.queue =
      ap (λ (u : ℕ). sliced other twin.left u r.queue) who.0
      ∙ ap (λ (q : List ℕ). sliced other twin.left l.user q) who.1
      ∙ ap (λ (ls : Lines). record ls {
        users = l.queue;
        programs = line_after (i.seen other.world) (i.seen twin.left) l.user ls.programs;
      }) h.lines
      ∙ ap (λ (s : Installed). record one.lines {
        users = l.queue;
        programs = line_after s (i.seen twin.left) l.user one.lines.programs;
      }) h.seen
      ∙ ap (λ (s : Installed). record one.lines {
        users = l.queue;
        programs = line_after (i.seen one.world) s l.user one.lines.programs;
      }) now.1 in
      record {
        lines = λ detail names. step_one i detail names step twin said now.0 now.1;
        scenes = after_one one other next after step.left twin.left (sliced one step.left l.user l.queue)
            (sliced other twin.left r.user r.queue) true l.left r.left now.1 lines;
      }

  no_slice : (step : Step W) (one other next after : Scene W) → LookAlike i one other → IsSlice i step one next
      → IsNoSlice i other after → ⊥
  no_slice step one other next after h l r =
      let ready = subst (λ (s : Installed). list_any (ready_in s) other.lines.users ≡ false) h.seen r.dealt.0 in
      let none = subst (λ (ls : Lines). list_any (ready_in (i.seen one.world)) ls.users ≡ false) h.lines ready in
      nobody_taken (ready_in (i.seen one.world)) one.lines.users l.user l.queue l.dealt none

  -- the line after a serve of this program
  abbrev served : Scene W → W → Program → List Program → Lines
  served old left program turned = record old.lines {
    programs = line_after (i.seen old.world) (i.seen left) program.user turned;
  }

  serve_one : (step twin : Step W) (one other next after : Scene W) → LookAlike i one other → IsServe i step one next
      → IsServe i twin other after → HadFrames step.reply.ended → HadFrames twin.reply.ended
      → ActAlike (Dealt step) (Dealt twin) next after
  serve_one step twin one other next after h l r had has =
      let dealt = subst (λ (ls : Lines). IsTaken always ls.programs r.program r.turned) h.lines r.dealt in
      let who = taken_one always one.lines.programs l.program r.program l.turned r.turned l.dealt dealt in
      let happened = subst (λ (p : Program). i.Happens other.world (Serve p.user p.device) twin.reply twin.left) who.0
      r.happened in
      let now = law one.world other.world step.left twin.left (Serve l.program.user l.program.device) step.reply
      twin.reply h.seen l.happened happened had has in
      let said : twin.said ≡ step.said = r.served ∙ ap (λ (p : Program). Serve p.user p.device) who.0 ∙ sym l.served in
      let lines : served other twin.left r.program r.turned ≡ served one step.left l.program l.turned =
      ap (λ (p : Program). served other twin.left p r.turned) who.0
      ∙ ap (λ (t : List Program). served other twin.left l.program t) who.1
      ∙ ap (λ (ls : Lines). record ls {
        programs = line_after (i.seen other.world) (i.seen twin.left) l.program.user l.turned;
      }) h.lines
      ∙ ap (λ (s : Installed). record one.lines {
        programs = line_after s (i.seen twin.left) l.program.user l.turned;
      }) h.seen
      ∙ ap (λ (s : Installed). record one.lines {
        programs = line_after (i.seen one.world) s l.program.user l.turned;
      }) now.1 in
      record {
        lines = λ detail names. step_one i detail names step twin said now.0 now.1;
        scenes = after_one one other next after step.left twin.left (served one step.left l.program l.turned)
            (served other twin.left r.program r.turned) false l.left r.left now.1 lines;
      }

  no_serve : (step : Step W) (had : Bool) (one other next after : Scene W) → LookAlike i one other
      → IsServe i step one next → IsNoServe had other after → ⊥
  no_serve step had one other next after h l r =
      let none = subst (λ (ls : Lines). list_any always ls.programs ≡ false) h.lines r.dealt.0 in
      nobody_taken always one.lines.programs l.program l.turned l.dealt none

  look_back : (one other : Scene W) → LookAlike i one other → LookAlike i other one
  look_back one other h = record { seen = sym h.seen; lines = sym h.lines; had_slice = sym h.had_slice }

  stays_one : (entry : Entry W) (one other next after : Scene W) → LookAlike i one other
      → next ≡ moved one one.world one.lines false → after ≡ moved other other.world other.lines false
      → ActAlike entry entry next after
  stays_one entry one other next after h l r = record {
    lines = λ detail names. refl;
    scenes = after_one one other next after one.world other.world one.lines other.lines false l r h.seen h.lines;
  }

  had_both : (one other next after : Scene W) → LookAlike i one other → IsNoServe true one next
      → IsNoServe false other after → ⊥
  had_both one other next after h l r =
      let both : true ≡ false = sym l.had ∙ sym h.had_slice ∙ r.had in cc

  -- what holds of what came of an act
  abbrev Had : Entry W → Type 0
  Had (Answered step) = HadFrames step.reply.ended
  Had (Dealt step) = HadFrames step.reply.ended
  Had Passed = Unit {0}
  Had Idle = Unit {0}

  act_one : (act : Act) (entry twin : Entry W) (one other next after : Scene W) → LookAlike i one other
      → IsDone i act entry one next → IsDone i act twin other after → Had entry → Had twin
      → ActAlike entry twin next after
  act_one (Applies said) (Answered step) (Answered twin) one other next after h l r had has =
      applied_one said step twin one other next after h l r had has
  act_one (Applies said) (Answered step) (Dealt twin) one other next after h l r had has = absurd r
  act_one (Applies said) (Answered step) Passed one other next after h l r had has = absurd r
  act_one (Applies said) (Answered step) Idle one other next after h l r had has = absurd r
  act_one (Applies said) (Dealt step) twin one other next after h l r had has = absurd l
  act_one (Applies said) Passed twin one other next after h l r had has = absurd l
  act_one (Applies said) Idle twin one other next after h l r had has = absurd l
  act_one Slices (Answered step) twin one other next after h l r had has = absurd l
  act_one Slices (Dealt step) (Answered twin) one other next after h l r had has = absurd r
  act_one Slices (Dealt step) (Dealt twin) one other next after h l r had has =
      slice_one step twin one other next after h l r had has
  act_one Slices (Dealt step) Passed one other next after h l r had has =
      absurd (no_slice step one other next after h l r)
  act_one Slices (Dealt step) Idle one other next after h l r had has = absurd r
  act_one Slices Passed (Answered twin) one other next after h l r had has = absurd r
  act_one Slices Passed (Dealt twin) one other next after h l r had has =
      absurd (no_slice twin other one after next (look_back one other h) r l)
  act_one Slices Passed Passed one other next after h l r had has =
      stays_one Passed one other next after h l.left r.left
  act_one Slices Passed Idle one other next after h l r had has = absurd r
  act_one Slices Idle twin one other next after h l r had has = absurd l
  act_one Serves (Answered step) twin one other next after h l r had has = absurd l
  act_one Serves (Dealt step) (Answered twin) one other next after h l r had has = absurd r
  act_one Serves (Dealt step) (Dealt twin) one other next after h l r had has =
      serve_one step twin one other next after h l r had has
  act_one Serves (Dealt step) Passed one other next after h l r had has =
      absurd (no_serve step true one other next after h l r)
  act_one Serves (Dealt step) Idle one other next after h l r had has =
      absurd (no_serve step false one other next after h l r)
  act_one Serves Passed (Answered twin) one other next after h l r had has = absurd r
  act_one Serves Passed (Dealt twin) one other next after h l r had has =
      absurd (no_serve twin true other one after next (look_back one other h) r l)
  act_one Serves Passed Passed one other next after h l r had has =
      stays_one Passed one other next after h l.left r.left
  act_one Serves Passed Idle one other next after h l r had has =
      absurd (had_both one other next after h l r)
  act_one Serves Idle (Answered twin) one other next after h l r had has = absurd r
  act_one Serves Idle (Dealt twin) one other next after h l r had has =
      absurd (no_serve twin false other one after next (look_back one other h) r l)
  act_one Serves Idle Passed one other next after h l r had has =
      absurd (had_both other one after next (look_back one other h) r l)
  act_one Serves Idle Idle one other next after h l r had has =
      stays_one Idle one other next after h l.left r.left

  -- ---- all acts

  first_had : (entry : Entry W) (entries : List (Entry W)) → AllHadFrames (entry ∷ entries)
      → Had entry × AllHadFrames entries
  first_had (Answered step) entries h = h
  first_had (Dealt step) entries h = h
  first_had Passed entries h = (tt, h)
  first_had Idle entries h = (tt, h)

  -- The same acts have one transcript.
  pub transcripts_are_one : TranscriptsAreOne i
  transcripts_are_one [] one other last end [] [] h l r had has = (
    λ detail names. refl,
    record {
      seen = ap (λ (s : Scene W). i.seen s.world) r ∙ h.seen ∙ sym (ap (λ (s : Scene W). i.seen s.world) l);
      lines = ap (λ (s : Scene W). s.lines) r ∙ h.lines ∙ sym (ap (λ (s : Scene W). s.lines) l);
      had_slice = ap (λ (s : Scene W). s.had_slice) r ∙ h.had_slice ∙ sym (ap (λ (s : Scene W). s.had_slice) l);
    },
  )
  transcripts_are_one [] one other last end [] (twin ∷ twins) h l r had has = absurd r
  transcripts_are_one [] one other last end (entry ∷ entries) twins h l r had has = absurd l
  transcripts_are_one (act ∷ more) one other last end [] twins h l r had has = absurd l
  transcripts_are_one (act ∷ more) one other last end (entry ∷ entries) [] h l r had has = absurd r
  transcripts_are_one (act ∷ more) one other last end (entry ∷ entries) (twin ∷ twins) h l r had has =
      let here = first_had entry entries had in
      let there = first_had twin twins has in
      let now = act_one act entry twin one other l.0 r.0 h l.1 r.1 here.0 there.0 in
      let later = transcripts_are_one more l.0 r.0 last end entries twins now.scenes l.2 r.2 here.1 there.1 in (
        λ detail names. (
            ap (λ (ls : List (List ℕ)). ended ls ++ transcript i detail names twins) (now.lines detail names)
            ∙ ap (λ (t : List ℕ). ended (entry_lines i detail names entry) ++ t) (later.0 detail names)),
        later.1,
      )
