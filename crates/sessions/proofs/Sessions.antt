-- A script that was read and played, from the first queue and the first line on, and the files that end its transcript.
use Rattle.std.proofs.Common.{◌≡◌, ℕ, inl, List, [], ◌++◌, Option, refl, subst, ap, sym, length, length-append}
use Rattle.std.proofs.Common.{append-nil, arith}
use Rattle.std.specs.Prelude.{Ok}
use Rattle.std.specs.Io.KnownBytes.{Appends}
use Rattle.std.proofs.KnownBytes.{Appends-trans}
use Rattle.std.proofs.lemmas.List.{take-append-le}
use Rattle.s370_num.specs.Host.{AppendsFront}
use Rattle.cp_dispatch.specs.Policy.{Lines}
use Rattle.session_script.specs.Script.{EventValue, script_of}
use Rattle.sessions.specs.Files.{closing_lines}
use Rattle.sessions.specs.Installed.{Installation, names_of}
use Rattle.sessions.specs.Schedule.{Entry, Scene, acts, first_lines, scene}
use Rattle.sessions.specs.Session.{AreWrittenAlmost, IsCut, IsPartly, IsPlayed, IsRead, IsSession, at_first, closing}
use Rattle.sessions.specs.Transcript.{ended, transcript}
use Rattle.sessions.specs.declared.schedule.Detail.{Detail}
use Rattle.sessions.proofs.Histories.{front_after, history}

first_scene : {W : Type 0} (i : Installation W) (detail : Detail) (w : W) (first : Lines)
    → first ≡ first_lines (i.seen w) → scene w first detail ≡ at_first i detail w
first_scene i detail w first e = ap (λ (l : Lines). scene w l detail) e

-- A whole script is a session to its end.
pub whole : {W : Type 0} (i : Installation W) (detail : Detail) (text : List ℕ) (script : List EventValue) (old : W)
    (first : Lines) (last : Scene W) (r s a b c : Option (List ℕ)) → IsRead r s text
    → script_of (i.seen old).users text ≡ Ok script → first ≡ first_lines (i.seen old)
    → IsPlayed i (acts script) (scene old first detail) last a b
    → Appends b c (ended (closing_lines (i.seen last.world))) → IsSession i detail old last.world r s a c
whole {W} i detail text script old first last r s a b c read accepted e played closed =
    let p = subst (λ (x : Scene W). IsPlayed i (acts script) x last a b) (first_scene i detail old first e) played in
    record {
      text = text;
      read = read;
      script = script;
      accepted = accepted;
      entries = p.entries;
      last = last;
      done = p.done;
      left = refl;
      history = history i (acts script) (at_first i detail old) last p.entries p.done;
      written = Appends-trans a b c (transcript i detail (names_of (i.seen old)) p.entries)
          (ended (closing_lines (i.seen last.world))) p.written closed;
    }

front_more : (a b : Option (List ℕ)) (xs ys : List ℕ) → AppendsFront a b xs → AppendsFront a b (xs ++ ys)
front_more a b xs ys h = (h.0, omega (arith, length-append xs ys, h.1), rw (take-append-le h.0 xs ys h.1) h.2)

-- what was written almost, where a text should have followed
almost_closed : {W : Type 0} (i : Installation W) (detail : Detail) (names : List (List ℕ)) (es : List (Entry W))
    (more : List ℕ) (a b : Option (List ℕ)) → AreWrittenAlmost i detail names es [] a b
    → AreWrittenAlmost i detail names es more a b
almost_closed i detail names es more a b h = record {
  earlier = h.earlier;
  latest = h.latest;
  between = h.between;
  split = h.split;
  few = h.few;
  whole = h.whole;
  front = front_more h.between b (transcript i detail names h.latest) more
      (rw (append-nil (transcript i detail names h.latest)) at h.front);
}

-- A script that is cut short is a session up to there.
pub cut : {W : Type 0} (i : Installation W) (detail : Detail) (text : List ℕ) (script : List EventValue) (old new : W)
    (first : Lines) (r s a b : Option (List ℕ)) → IsRead r s text → script_of (i.seen old).users text ≡ Ok script
    → first ≡ first_lines (i.seen old) → IsPartly i (acts script) (scene old first detail) new a b
    → IsCut i detail old new r s a b
cut {W} i detail text script old new first r s a b read accepted e partly =
    let p = subst (λ (x : Scene W). IsPartly i (acts script) x new a b) (first_scene i detail old first e) partly in
    record {
      text = text;
      read = read;
      script = script;
      accepted = accepted;
      front = p.front;
      rest = p.rest;
      split = p.split;
      entries = p.entries;
      last = p.last;
      done = p.done;
      left = p.left;
      history = history i p.front (at_first i detail old) p.last p.entries p.done;
      written = front_more a b (transcript i detail (names_of (i.seen old)) p.entries) (closing i p.rest p.last.world)
          p.written;
      almost = almost_closed i detail (names_of (i.seen old)) p.entries (closing i p.rest p.last.world) a b p.almost;
    }

-- all was played, and a beginning of the files was written
pub cut_short : {W : Type 0} (i : Installation W) (detail : Detail) (text : List ℕ) (script : List EventValue) (old : W)
    (first : Lines) (last : Scene W) (r s a b c : Option (List ℕ)) → IsRead r s text
    → script_of (i.seen old).users text ≡ Ok script → first ≡ first_lines (i.seen old)
    → IsPlayed i (acts script) (scene old first detail) last a b
    → AppendsFront b c (ended (closing_lines (i.seen last.world))) → IsCut i detail old last.world r s a c
cut_short {W} i detail text script old first last r s a b c read accepted e played closed =
    let p = subst (λ (x : Scene W). IsPlayed i (acts script) x last a b) (first_scene i detail old first e) played in
    record {
      text = text;
      read = read;
      script = script;
      accepted = accepted;
      front = acts script;
      rest = [];
      split = sym (append-nil (acts script));
      entries = p.entries;
      last = last;
      done = p.done;
      left = inl refl;
      history = history i (acts script) (at_first i detail old) last p.entries p.done;
      written = front_after a b c (transcript i detail (names_of (i.seen old)) p.entries)
          (ended (closing_lines (i.seen last.world))) p.written closed;
      almost = record {
        earlier = p.entries;
        latest = [];
        between = b;
        split = sym (append-nil p.entries);
        few = omega arith;
        whole = p.written;
        front = closed;
      };
    }
