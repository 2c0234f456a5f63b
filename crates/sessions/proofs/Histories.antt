-- One thing done after another.
use Rattle.std.proofs.Common.{◌≡◌, ℕ, zero, suc, ◌+◌, Bool, false, true, inl, inr, List, [], ◌∷◌, ◌++◌, ◌⊎◌, length}
use Rattle.std.proofs.Common.{take, Option, Some, None, refl, ap, sym, ◌∙◌, subst, append_assoc, append-nil}
use Rattle.std.proofs.Common.{length-append, arith}
use Rattle.std.specs.Prelude.{Result, Ok, Err, OnErr, OnOk}
use Rattle.std.specs.Io.KnownBytes.{Appends}
use Rattle.std.proofs.KnownBytes.{Appends-trans, Appends-nil}
use Rattle.std.proofs.Math.Seq.{take-length, take-append-add}
use Rattle.s370_num.specs.Host.{AppendsFront}
use Rattle.cp_dispatch.specs.Policy.{Lines, always}
use Rattle.cp_dispatch.specs.Turns.{IsDealt}
use Rattle.cp_dispatch.specs.declared.program.Program.{Program}
use Rattle.session_script.specs.Script.{EventValue}
use Rattle.session_script.specs.Script as said
use Rattle.session_script.specs.Users.{KnownUser}
use Rattle.sessions.specs.Installed.{Installation, IsHistory, Step, names_of}
use Rattle.sessions.specs.Schedule.{Act, Applies, Slices, Serves, AreDone, Entry, Answered, Dealt, Passed, Idle, IsDone}
use Rattle.sessions.specs.Schedule.{IsLacking, IsOf, MayAsk, Scene, acts, acts_of, line_after, lines_after}
use Rattle.sessions.specs.Schedule.{passed, ready_in, scene, slice_units, steps_of, turn, turns, user_said, within}
use Rattle.sessions.specs.Session.{AreWrittenAlmost, IsAnswered, IsAnsweredPartly, IsPlayed, IsPartly, IsUnanswered}
use Rattle.sessions.specs.Transcript.{ended, entry_lines, passed_lines, step_lines, transcript}
use Rattle.sessions.specs.declared.schedule.Detail.{Detail}
use Rattle.sessions.specs.declared.schedule.Detail.TheVariants.{Whole}

done_append : {W : Type 0} (i : Installation W) (xs ys : List Act) (old mid new : Scene W) (es fs : List (Entry W))
    → AreDone i xs old es mid → AreDone i ys mid fs new → AreDone i (xs ++ ys) old (es ++ fs) new
done_append {W} i [] ys old mid new [] fs h k = subst (λ (s : Scene W). AreDone i ys s fs new) h k
done_append i [] ys old mid new (e ∷ es) fs h k = absurd h
done_append i (x ∷ xs) ys old mid new [] fs h k = absurd h
done_append i (x ∷ xs) ys old mid new (e ∷ es) fs h k = (h.0, h.1, done_append i xs ys h.0 mid new es fs h.2 k)

-- where an act has left the world
world_is : {W : Type 0} (one two : Scene W) → one ≡ two → one.world ≡ two.world
world_is one two e = ap (λ s. s.world) e

from_world : {W : Type 0} (i : Installation W) (steps : List (Step W)) (one two last : W) → one ≡ two
    → IsHistory i one steps last → IsHistory i two steps last
from_world {W} i steps one two last e h = subst (λ (w : W). IsHistory i w steps last) e h

-- the events among what was done are a history of the installation
pub history : {W : Type 0} (i : Installation W) (xs : List Act) (old new : Scene W) (es : List (Entry W))
    → AreDone i xs old es new → IsHistory i old.world (steps_of es) new.world
history i [] old new [] h = world_is new old h
history i [] old new (e ∷ es) h = absurd h
history i (x ∷ xs) old new [] h = absurd h
history {W} i (Applies what ∷ xs) old new (Answered step ∷ es) h = (
  subst (λ (s : EventValue). i.Happens old.world s step.reply step.left) (sym h.1.named) h.1.happened,
  from_world i (steps_of es) h.0.world step.left new.world (ap (λ (s : Scene W). s.world) h.1.left)
      (history i xs h.0 new es h.2),
)
history i (Applies what ∷ xs) old new (Dealt step ∷ es) h = absurd h.1
history i (Applies what ∷ xs) old new (Passed ∷ es) h = absurd h.1
history i (Applies what ∷ xs) old new (Idle ∷ es) h = absurd h.1
history i (Slices ∷ xs) old new (Answered step ∷ es) h = absurd h.1
history {W} i (Slices ∷ xs) old new (Dealt step ∷ es) h = (
  subst (λ (s : EventValue). i.Happens old.world s step.reply step.left) (sym h.1.slice) h.1.happened,
  from_world i (steps_of es) h.0.world step.left new.world (ap (λ (s : Scene W). s.world) h.1.left)
      (history i xs h.0 new es h.2),
)
history {W} i (Slices ∷ xs) old new (Passed ∷ es) h =
    from_world i (steps_of es) h.0.world old.world new.world (ap (λ (s : Scene W). s.world) h.1.left)
    (history i xs h.0 new es h.2)
history i (Slices ∷ xs) old new (Idle ∷ es) h = absurd h.1
history i (Serves ∷ xs) old new (Answered step ∷ es) h = absurd h.1
history {W} i (Serves ∷ xs) old new (Dealt step ∷ es) h = (
  subst (λ (s : EventValue). i.Happens old.world s step.reply step.left) (sym h.1.served) h.1.happened,
  from_world i (steps_of es) h.0.world step.left new.world (ap (λ (s : Scene W). s.world) h.1.left)
      (history i xs h.0 new es h.2),
)
history {W} i (Serves ∷ xs) old new (Passed ∷ es) h =
    from_world i (steps_of es) h.0.world old.world new.world (ap (λ (s : Scene W). s.world) h.1.left)
    (history i xs h.0 new es h.2)
history {W} i (Serves ∷ xs) old new (Idle ∷ es) h =
    from_world i (steps_of es) h.0.world old.world new.world (ap (λ (s : Scene W). s.world) h.1.left)
    (history i xs h.0 new es h.2)

transcript_append : {W : Type 0} (i : Installation W) (detail : Detail) (names : List (List ℕ)) (xs ys : List (Entry W))
    → transcript i detail names (xs ++ ys) ≡ transcript i detail names xs ++ transcript i detail names ys
transcript_append i detail names [] ys = refl
transcript_append i detail names (x ∷ xs) ys =
    let lines = ended (entry_lines i detail names x) in
    ap (λ (l : List ℕ). lines ++ l) (transcript_append i detail names xs ys) ∙ sym
    (append_assoc lines (transcript i detail names xs) (transcript i detail names ys))

-- Events after others are done after them.
pub acts_append : (xs ys : List EventValue) → acts (xs ++ ys) ≡ acts xs ++ acts ys
acts_append [] ys = refl
acts_append (x ∷ xs) ys =
    ap (λ (l : List Act). acts_of x ++ l) (acts_append xs ys) ∙ sym (append_assoc (acts_of x) (acts xs) (acts ys))

-- the acts of one line more
pub acts_more : (xs : List EventValue) (x : EventValue) → acts (xs ++ x ∷ []) ≡ acts xs ++ acts_of x
acts_more xs x = acts_append xs (x ∷ []) ∙ ap (λ (l : List Act). acts xs ++ l) (append-nil (acts_of x))

turns_behind : (k : ℕ) → turns (suc k) ≡ turns k ++ turn
turns_behind zero = refl
turns_behind (suc k) = ap (λ (l : List Act). Slices ∷ Serves ∷ l) (turns_behind k)

-- one turn more
pub turns_more : (k : ℕ) → turns (k + 1) ≡ turns k ++ turn
turns_more k = let more : k + 1 ≡ suc k = omega arith in ap turns more ∙ turns_behind k

turns_both : (k m : ℕ) → turns (k + m) ≡ turns k ++ turns m
turns_both zero m = let none : zero + m ≡ m = omega arith in ap turns none
turns_both (suc k) m =
    let more : suc k + m ≡ suc (k + m) = omega arith in
    ap turns more ∙ ap (λ (l : List Act). Slices ∷ Serves ∷ l) (turns_both k m)

-- one turn, those before it and those after it
pub turns_around : (k m n : ℕ) → k + 1 + m ≡ n → turns n ≡ (turns k ++ turn) ++ turns m
turns_around k m n e = ap turns (sym e) ∙ (turns_both (k + 1) m ∙ ap (λ (l : List Act). l ++ turns m) (turns_more k))

-- What is appended after a front is appended after all.
pub front_after : (a b c : Option (List ℕ)) (xs ys : List ℕ) → Appends a b xs → AppendsFront b c ys
    → AppendsFront a c (xs ++ ys)
front_after a b c xs ys h k = (
  length xs + k.0,
  omega (arith, length-append xs ys, k.1),
  rw (take-append-add xs ys k.0) (Appends-trans a b c xs (take k.0 ys) h k.2),
)

-- Before the first act nothing has happened.
pub played_none : {W : Type 0} (i : Installation W) (old : Scene W) (a : Option (List ℕ))
    → IsOf (i.seen old.world) old.lines → IsPlayed i [] old old a a
played_none i old a dealing =
    record { entries = []; done = refl; written = Appends-nil a; users = refl; detail = refl; dealing = dealing }

-- the same names, and the same lines of turns
told_same : {W : Type 0} (i : Installation W) (old mid : Scene W) (es : List (Entry W))
    → (i.seen mid.world).users ≡ (i.seen old.world).users → mid.detail ≡ old.detail
    → transcript i mid.detail (names_of (i.seen mid.world)) es
    ≡ transcript i old.detail (names_of (i.seen old.world)) es
told_same i old mid es users detail =
    ap (λ (d : Detail). transcript i d (names_of (i.seen mid.world)) es) detail
    ∙ ap (λ (u : List KnownUser). transcript i old.detail (names_of (record (i.seen mid.world) { users = u })) es) users

-- Acts after others are played after them, and what came of them comes after what came of the others.
pub played_both : {W : Type 0} (i : Installation W) (xs ys : List Act) (old mid new : Scene W) (a b c : Option (List ℕ))
    (p : IsPlayed i xs old mid a b) (q : IsPlayed i ys mid new b c) → (all : IsPlayed i (xs ++ ys) old new a c)
    × (all.entries ≡ p.entries ++ q.entries)
played_both i xs ys old mid new a b c p q =
    let names = names_of (i.seen old.world) in
    let later = subst (λ (t : List ℕ). Appends b c t) (told_same i old mid q.entries p.users p.detail) q.written in (
      record {
        entries = p.entries ++ q.entries;
        done = done_append i xs ys old mid new p.entries q.entries p.done q.done;
        written = rw (transcript_append i old.detail names p.entries q.entries)
            (Appends-trans a b c (transcript i old.detail names p.entries) (transcript i old.detail names q.entries)
            p.written later);
        users = q.users ∙ p.users;
        detail = q.detail ∙ p.detail;
        dealing = q.dealing;
      },
      refl,
    )

-- Acts after others are played after them.
pub played_more : {W : Type 0} (i : Installation W) (xs ys : List Act) (old mid new : Scene W) (a b c : Option (List ℕ))
    → IsPlayed i xs old mid a b → IsPlayed i ys mid new b c → IsPlayed i (xs ++ ys) old new a c
played_more i xs ys old mid new a b c p q = (played_both i xs ys old mid new a b c p q).0

-- what follows was written almost
almost_more : {W : Type 0} (i : Installation W) (old mid : Scene W) (es fs : List (Entry W)) (a b c : Option (List ℕ))
    → (i.seen mid.world).users ≡ (i.seen old.world).users → mid.detail ≡ old.detail
    → Appends a b (transcript i old.detail (names_of (i.seen old.world)) es)
    → AreWrittenAlmost i mid.detail (names_of (i.seen mid.world)) fs [] b c
    → AreWrittenAlmost i old.detail (names_of (i.seen old.world)) (es ++ fs) [] a c
almost_more {W} i old mid es fs a b c users detail one q =
    let names = names_of (i.seen old.world) in
    let whole = subst (λ (t : List ℕ). Appends b q.between t) (told_same i old mid q.earlier users detail) q.whole in
    record {
      earlier = es ++ q.earlier;
      latest = q.latest;
      between = q.between;
      split = ap (λ (l : List (Entry W)). es ++ l) q.split ∙ sym (append_assoc es q.earlier q.latest);
      few = q.few;
      whole = rw (transcript_append i old.detail names es q.earlier)
          (Appends-trans a b q.between (transcript i old.detail names es) (transcript i old.detail names q.earlier) one
          whole);
      front = subst (λ (t : List ℕ). AppendsFront q.between c (t ++ [])) (told_same i old mid q.latest users detail)
          q.front;
    }

-- nothing was done, and nothing written
almost_none : {W : Type 0} (i : Installation W) (detail : Detail) (names : List (List ℕ)) (a b : Option (List ℕ))
    → AppendsFront a b [] → AreWrittenAlmost i detail names [] [] a b
almost_none i detail names a b h = record {
  earlier = [];
  latest = [];
  between = a;
  split = refl;
  few = omega arith;
  whole = Appends-nil a;
  front = h;
}

-- one thing was done, and a beginning of its lines was written
almost_one : {W : Type 0} (i : Installation W) (detail : Detail) (names : List (List ℕ)) (entry : Entry W)
    (a b : Option (List ℕ)) → AppendsFront a b (ended (entry_lines i detail names entry))
    → AreWrittenAlmost i detail names (entry ∷ []) [] a b
almost_one i detail names entry a b h =
    let lines = ended (entry_lines i detail names entry) in
    record {
      earlier = [];
      latest = entry ∷ [];
      between = a;
      split = refl;
      few = omega arith;
      whole = Appends-nil a;
      front = rw (append-nil (lines ++ []), append-nil lines) h;
    }

-- Acts after others that are played partly are partly played.
pub partly_more : {W : Type 0} (i : Installation W) (xs ys : List Act) (old mid : Scene W) (new : W)
    (a b c : Option (List ℕ)) → IsPlayed i xs old mid a b → IsPartly i ys mid new b c
    → IsPartly i (xs ++ ys) old new a c
partly_more i xs ys old mid new a b c p q =
    let names = names_of (i.seen old.world) in
    let later = subst (λ (t : List ℕ). AppendsFront b c t) (told_same i old mid q.entries p.users p.detail) q.written in
    record {
      front = xs ++ q.front;
      rest = q.rest;
      split = ap (λ (l : List Act). xs ++ l) q.split ∙ sym (append_assoc xs q.front q.rest);
      entries = p.entries ++ q.entries;
      last = q.last;
      done = done_append i xs q.front old mid q.last p.entries q.entries p.done q.done;
      left = q.left;
      written = rw (transcript_append i old.detail names p.entries q.entries)
          (front_after a b c (transcript i old.detail names p.entries) (transcript i old.detail names q.entries)
          p.written later);
      almost = almost_more i old mid p.entries q.entries a b c p.users p.detail p.written q.almost;
    }

-- what was refused memory is among more too
lacking_more : {W : Type 0} (i : Installation W) (rest more : List Act) (last new : W) → IsLacking i rest last new
    → IsLacking i (rest ++ more) last new
lacking_more i [] more last new h = absurd h
lacking_more i (act ∷ rest) more last new h = h

lacking_rest : {W : Type 0} (i : Installation W) (rest more : List Act) (last new : W)
    → (new ≡ last) ⊎ IsLacking i rest last new → (new ≡ last) ⊎ IsLacking i (rest ++ more) last new
lacking_rest i rest more last new (inl same) = inl same
lacking_rest i rest more last new (inr lacks) = inr (lacking_more i rest more last new lacks)

-- A front that is partly played is a part of all acts.
pub partly_rest : {W : Type 0} (i : Installation W) (xs ys : List Act) (old : Scene W) (new : W) (a b : Option (List ℕ))
    → IsPartly i xs old new a b → IsPartly i (xs ++ ys) old new a b
partly_rest i xs ys old new a b p = record {
  front = p.front;
  rest = p.rest ++ ys;
  split = ap (λ (l : List Act). l ++ ys) p.split ∙ append_assoc p.front p.rest ys;
  entries = p.entries;
  last = p.last;
  done = p.done;
  left = lacking_rest i p.rest ys p.last.world new p.left;
  written = p.written;
  almost = p.almost;
}

-- nothing was done yet
pub partly_start : {W : Type 0} (i : Installation W) (all : List Act) (old : Scene W) (a : Option (List ℕ))
    → IsPartly i all old old.world a a
partly_start i all old a = record {
  front = [];
  rest = all;
  split = refl;
  entries = [];
  last = old;
  done = refl;
  left = inl refl;
  written = (0, omega arith, Appends-nil a);
  almost = almost_none i old.detail (names_of (i.seen old.world)) a a (0, omega arith, Appends-nil a);
}

-- nothing was done, or the first act was refused memory
pub partly_none : {W : Type 0} (i : Installation W) (act : Act) (what : EventValue) (old : Scene W) (new : W)
    (a b : Option (List ℕ)) → MayAsk act what → IsUnanswered i what old.world new a b
    → IsPartly i (act ∷ []) old new a b
partly_none i act what old new a b asks h =
    let nothing : AppendsFront a b [] =
    (0, omega arith, subst (λ (c : Option (List ℕ)). Appends a c []) (sym h.same) (Appends-nil a)) in
    record {
      front = [];
      rest = act ∷ [];
      split = refl;
      entries = [];
      last = old;
      done = refl;
      left = elim h.left [ inl same ↦ inl same | inr lacks ↦ inr (what, asks, lacks) ];
      written = nothing;
      almost = almost_none i old.detail (names_of (i.seen old.world)) a b nothing;
    }

-- one act was done, and a beginning of its lines was written
pub partly_one : {W : Type 0} (i : Installation W) (act : Act) (entry : Entry W) (old new : Scene W)
    (a b : Option (List ℕ)) → IsDone i act entry old new
    → AppendsFront a b (ended (entry_lines i old.detail (names_of (i.seen old.world)) entry))
    → IsPartly i (act ∷ []) old new.world a b
partly_one i act entry old new a b h w = record {
  front = act ∷ [];
  rest = [];
  split = refl;
  entries = entry ∷ [];
  last = new;
  done = (new, h, refl);
  left = inl refl;
  written = rw (append-nil (ended (entry_lines i old.detail (names_of (i.seen old.world)) entry))) w;
  almost = almost_one i old.detail (names_of (i.seen old.world)) entry a b w;
}

pub played_one : {W : Type 0} (i : Installation W) (act : Act) (entry : Entry W) (old new : Scene W)
    (a b : Option (List ℕ)) → IsDone i act entry old new
    → Appends a b (ended (entry_lines i old.detail (names_of (i.seen old.world)) entry))
    → (i.seen new.world).users ≡ (i.seen old.world).users → new.detail ≡ old.detail → IsOf (i.seen new.world) new.lines
    → IsPlayed i (act ∷ []) old new a b
played_one i act entry old new a b h w users detail dealing = record {
  entries = entry ∷ [];
  done = (new, h, refl);
  written = rw (append-nil (ended (entry_lines i old.detail (names_of (i.seen old.world)) entry))) w;
  users = users;
  detail = detail;
  dealing = dealing;
}

-- ---- an event that a script says

-- it was answered, and queue and line were brought up
pub applied : {W : Type 0} (i : Installation W) (detail : Detail) (what : EventValue) (old new : W)
    (lines after : Lines)
    (a b : Option (List ℕ)) → IsAnswered i Whole what old new a b
    → after ≡ lines_after (i.seen old) (i.seen new) (user_said what) lines → (i.seen new).users ≡ (i.seen old).users
    → IsOf (i.seen new) after → IsPlayed i (Applies what ∷ []) (scene old lines detail) (scene new after detail) a b
applied {W} i detail what old new lines after a b h e users dealing =
    let step : Step W = record { said = what; reply = h.reply; left = new } in
    let left = ap (λ (l : Lines). scene new l detail) e in
    played_one i (Applies what) (Answered step) (scene old lines detail) (scene new after detail) a b
    (record { named = refl; happened = h.happened; left = left }) h.written users refl dealing

-- An event that was not answered is a part of its act.
pub applied_partly : {W : Type 0} (i : Installation W) (detail : Detail) (what : EventValue) (old new : W)
    (lines : Lines)
    (a b : Option (List ℕ)) → IsUnanswered i what old new a b ⊎ IsAnsweredPartly i Whole what old new a b
    → IsPartly i (Applies what ∷ []) (scene old lines detail) new a b
applied_partly i detail what old new lines a b (inl h) =
    partly_none i (Applies what) what (scene old lines detail) new a b refl h
applied_partly {W} i detail what old new lines a b (inr h) =
    let step : Step W = record { said = what; reply = h.reply; left = new } in
    let after = lines_after (i.seen old) (i.seen new) (user_said what) lines in
    partly_one i (Applies what) (Answered step) (scene old lines detail) (scene new after detail) a b
    (record { named = refl; happened = h.happened; left = refl }) h.written

-- ---- a slice

abbrev sliced_lines : {W : Type 0} → Installation W → W → W → ℕ → List ℕ → Lines → Lines
sliced_lines i old new user queue lines =
    record lines { users = queue; programs = line_after (i.seen old) (i.seen new) user lines.programs }

-- A slice that was dealt is its user's run.
pub sliced : {W : Type 0} (i : Installation W) (detail : Detail) (user : ℕ) (queue : List ℕ) (old new : W)
    (lines after : Lines) (a b : Option (List ℕ)) → IsDealt (ready_in (i.seen old)) lines.users (Some user) queue
    → IsAnswered i detail (said.Run user slice_units) old new a b → after ≡ sliced_lines i old new user queue lines
    → (i.seen new).users ≡ (i.seen old).users → IsOf (i.seen new) after
    → IsPlayed i (Slices ∷ []) (scene old lines detail) (within true new after detail) a b
sliced {W} i detail user queue old new lines after a b dealt h e users dealing =
    let step : Step W = record { said = said.Run user slice_units; reply = h.reply; left = new } in
    let left = ap (λ (l : Lines). within true new l detail) e in
    played_one i Slices (Dealt step) (scene old lines detail) (within true new after detail) a b
    (record { user = user; queue = queue; dealt = dealt; slice = refl; happened = h.happened; left = left })
    h.written users refl dealing

-- A slice that was not answered is a part of its turn.
pub sliced_partly : {W : Type 0} (i : Installation W) (detail : Detail) (user : ℕ) (queue : List ℕ) (old new : W)
    (lines : Lines) (a b : Option (List ℕ)) → IsDealt (ready_in (i.seen old)) lines.users (Some user) queue
    → IsUnanswered i (said.Run user slice_units) old new a b
    ⊎ IsAnsweredPartly i detail (said.Run user slice_units) old new a b
    → IsPartly i (Slices ∷ []) (scene old lines detail) new a b
sliced_partly i detail user queue old new lines a b dealt (inl h) =
    partly_none i Slices (said.Run user slice_units) (scene old lines detail) new a b (user, refl) h
sliced_partly {W} i detail user queue old new lines a b dealt (inr h) =
    let step : Step W = record { said = said.Run user slice_units; reply = h.reply; left = new } in
    partly_one i Slices (Dealt step) (scene old lines detail)
    (within true new (sliced_lines i old new user queue lines) detail) a b
    (record { user = user; queue = queue; dealt = dealt; slice = refl; happened = h.happened; left = refl })
    h.written

-- nobody was ready
pub not_sliced : {W : Type 0} (i : Installation W) (detail : Detail) (old : W) (lines after : Lines)
    (a : Option (List ℕ)) → IsDealt (ready_in (i.seen old)) lines.users None lines.users → after ≡ lines
    → IsOf (i.seen old) lines → IsPlayed i (Slices ∷ []) (scene old lines detail) (within false old after detail) a a
not_sliced i detail old lines after a dealt stays dealing =
    played_one i Slices Passed (scene old lines detail) (within false old after detail) a a
    (record { dealt = dealt; left = ap (λ (l : Lines). within false old l detail) stays }) (Appends-nil a) refl refl
    (subst (IsOf (i.seen old)) (sym stays) dealing)

-- lines whose queue has stayed, or whose programs have
pub same_queue : (old new : Lines) → new ≡ record old { users = new.users } → new.users ≡ old.users → new ≡ old
same_queue old new e f = e ∙ ap (λ (users : List ℕ). record old { users = users }) f

-- Lines with equal programs are equal.
pub same_lines : (old new : Lines) → new ≡ record old { programs = new.programs } → new.programs ≡ old.programs
    → new ≡ old
same_lines old new e f = e ∙ ap (λ (programs : List Program). record old { programs = programs }) f

-- ---- a serve

abbrev served_with : {W : Type 0} → Installation W → W → W → Program → List Program → Lines → Lines
served_with i old new program turned lines =
    record lines { programs = line_after (i.seen old) (i.seen new) program.user turned }

-- A serve that was dealt is its program's.
pub served : {W : Type 0} (i : Installation W) (detail : Detail) (had : Bool) (program : Program)
    (turned : List Program) (old new : W) (lines after : Lines) (a b : Option (List ℕ))
    → IsDealt always lines.programs (Some program) turned
    → IsAnswered i detail (said.Serve program.user program.device) old new a b
    → after ≡ served_with i old new program turned lines → (i.seen new).users ≡ (i.seen old).users
    → IsOf (i.seen new) after → IsPlayed i (Serves ∷ []) (within had old lines detail) (scene new after detail) a b
served {W} i detail had program turned old new lines after a b dealt h e users dealing =
    let step : Step W = record { said = said.Serve program.user program.device; reply = h.reply; left = new } in
    let left = ap (λ (l : Lines). scene new l detail) e in
    played_one i Serves (Dealt step) (within had old lines detail) (scene new after detail) a b
    (record {
      program = program;
      turned = turned;
      dealt = dealt;
      served = refl;
      happened = h.happened;
      left = left;
    }) h.written users refl dealing

-- A serve that was not answered is a part of its turn.
pub served_partly : {W : Type 0} (i : Installation W) (detail : Detail) (had : Bool) (program : Program)
    (turned : List Program) (old new : W) (lines : Lines) (a b : Option (List ℕ))
    → IsDealt always lines.programs (Some program) turned
    → IsUnanswered i (said.Serve program.user program.device) old new a b
    ⊎ IsAnsweredPartly i detail (said.Serve program.user program.device) old new a b
    → IsPartly i (Serves ∷ []) (within had old lines detail) new a b
served_partly i detail had program turned old new lines a b dealt (inl h) =
    partly_none i Serves (said.Serve program.user program.device) (within had old lines detail) new a b
    (program.user, program.device, refl) h
served_partly {W} i detail had program turned old new lines a b dealt (inr h) =
    let step : Step W = record { said = said.Serve program.user program.device; reply = h.reply; left = new } in
    partly_one i Serves (Dealt step) (within had old lines detail)
    (scene new (served_with i old new program turned lines) detail) a b
    (record {
      program = program;
      turned = turned;
      dealt = dealt;
      served = refl;
      happened = h.happened;
      left = refl;
    }) h.written

not_served_as : {W : Type 0} (i : Installation W) (detail : Detail) (had : Bool) (old : W) (lines after : Lines)
    → IsDealt always lines.programs None lines.programs → after ≡ lines
    → IsDone i Serves (passed had) (within had old lines detail) (scene old after detail)
not_served_as i detail true old lines after dealt stays =
    record { dealt = dealt; had = refl; left = ap (λ (l : Lines). scene old l detail) stays }
not_served_as i detail false old lines after dealt stays =
    record { dealt = dealt; had = refl; left = ap (λ (l : Lines). scene old l detail) stays }

-- the lines of half a turn that nobody had
passed_as : {W : Type 0} (i : Installation W) (detail : Detail) (had : Bool) (names : List (List ℕ))
    → ended (passed_lines detail had) ≡ ended (entry_lines i detail names (passed had))
passed_as i detail true names = refl
passed_as i detail false names = refl

-- no program was in the line
pub not_served : {W : Type 0} (i : Installation W) (detail : Detail) (had : Bool) (old : W) (lines after : Lines)
    (a b : Option (List ℕ)) → IsDealt always lines.programs None lines.programs → after ≡ lines
    → Appends a b (ended (passed_lines detail had)) → IsOf (i.seen old) lines
    → IsPlayed i (Serves ∷ []) (within had old lines detail) (scene old after detail) a b
not_served i detail had old lines after a b dealt stays w dealing =
    played_one i Serves (passed had) (within had old lines detail) (scene old after detail) a b
    (not_served_as i detail had old lines after dealt stays)
    (subst (λ (t : List ℕ). Appends a b t) (passed_as i detail had (names_of (i.seen old))) w) refl refl
    (subst (IsOf (i.seen old)) (sym stays) dealing)

-- A turn in which no program waits says so.
pub not_served_partly : {W : Type 0} (i : Installation W) (detail : Detail) (had : Bool) (old : W) (lines : Lines)
    (a b : Option (List ℕ)) → IsDealt always lines.programs None lines.programs
    → AppendsFront a b (ended (passed_lines detail had))
    → IsPartly i (Serves ∷ []) (within had old lines detail) old a b
not_served_partly i detail had old lines a b dealt w =
    partly_one i Serves (passed had) (within had old lines detail) (scene old lines detail) a b
    (not_served_as i detail had old lines lines dealt refl)
    (subst (λ (t : List ℕ). AppendsFront a b t) (passed_as i detail had (names_of (i.seen old))) w)

-- ---- answers

-- what was answered is answered in part too
pub answered_partly : {W : Type 0} (i : Installation W) (detail : Detail) (what : EventValue) (old new : W)
    (a b : Option (List ℕ)) → IsAnswered i detail what old new a b → IsAnsweredPartly i detail what old new a b
answered_partly {W} i detail what old new a b h =
    let step : Step W = record { said = what; reply = h.reply; left = new } in
    let text = ended (step_lines i detail (names_of (i.seen old)) step) in
    record {
      reply = h.reply;
      happened = h.happened;
      written = (length text, omega arith, rw (take-length text) h.written);
    }

-- what holds, holds where there is an error
pub on_err : {A F P : Type 0} (r : Result A F) → P → OnErr r P
on_err (Ok a) p = tt
on_err (Err e) p = p

-- what follows where there is an answer, and where there is an error
pub ok_then : {A F P Q : Type 0} (r : Result A F) → (P → Q) → OnOk r P → OnOk r Q
ok_then (Ok a) f p = f p
ok_then (Err e) f p = tt

-- What follows on an error holds on it.
pub err_then : {A F P Q : Type 0} (r : Result A F) → (P → Q) → OnErr r P → OnErr r Q
err_then (Ok a) f p = tt
err_then (Err e) f p = f p

-- what both hold where there is an answer
pub both_ok : {A F : Type 0} (P Q : Type 0) (r : Result A F) → OnOk r P → OnOk r Q → OnOk r (P × Q)
both_ok P Q (Ok a) p q = (p, q)
both_ok P Q (Err e) p q = tt
