-- Parts of a script that are joined.
use Rattle.std.proofs.Common.{◌≡◌, ℕ, zero, suc, Bool, true, false, inl, inr, List, [], ◌∷◌, ◌++◌, Ok, Option, refl, ap}
use Rattle.std.proofs.Common.{sym, ◌∙◌, subst, append_assoc, append-nil, length}
use Rattle.std.specs.Prelude.{◌==◌}
use Rattle.std.proofs.KnownBytes.{Appends-trans}
use Rattle.text_words.specs.Lines.{lines_of}
use Rattle.session_script.specs.Grammar.{Reads, ReadsGrammar, Says}
use Rattle.session_script.specs.Script.{EventValue, Run, Line, Tick, Serve, Auto, Deck, Transfer}
use Rattle.session_script.specs.Script.{cards_after, script_of}
use Rattle.session_script.specs.Users.{KnownUser}
use Rattle.session_script.specs.Users.{names_of as names_in}
use Rattle.machine_devices.specs.declared.files.FileNote.{FileNote}
use Rattle.sessions.specs.Files.{closing_lines, lines_since}
use Rattle.sessions.specs.Installed.{Installation, Installed, names_of}
use Rattle.sessions.specs.Continuing.{ContinuesAs, IsToGoOn, but_printed}
use Rattle.sessions.specs.Follow.{BeginsWithNothing, EndsAsSession, HasWholeLines, IsFollowed, PartsJoin}
use Rattle.sessions.specs.Noted.{closed_between}
use Rattle.sessions.specs.Schedule.{Act, Scene, acts, scene}
use Rattle.sessions.specs.declared.files.Telling.{Telling}
use Rattle.sessions.specs.declared.files.Telling.TheVariants.{Transcript}
use Rattle.sessions.specs.declared.schedule.Detail.{Detail}
use Rattle.cp_dispatch.specs.Policy.{Lines}
use Rattle.sessions.specs.Session.{IsPlayed, IsSession, at_first}
use Rattle.sessions.specs.Transcript.{ended, transcript}
use Rattle.sessions.proofs.Continuing.{names_same, played_alike, same_scene, scenes_chain, seen_same, users_same}
use Rattle.sessions.proofs.Noted.{played_notes, since_joined, since_same}
use Rattle.sessions.proofs.Histories.{acts_append, history, played_more, played_none}

-- ---- lines

-- a text with an LF in it has a first line, and what is after that LF are lines of their own
abbrev Splits : List ℕ → List ℕ → Type 0
Splits front more = (line : List ℕ) × (lines : List (List ℕ)) × (lines_of (front ++ 10 ∷ []) ≡ line ∷ lines)
    × (lines_of (front ++ 10 ∷ more) ≡ line ∷ (lines ++ lines_of more))

one_further : (c : ℕ) (front more : List ℕ) (b : Bool) → (c == 10) ≡ b → Splits front more → Splits (c ∷ front) more
one_further c front more true e h = ([], h.0 ∷ h.1, rw (e, h.2) refl, rw (e, h.3) refl)
one_further c front more false e h = (c ∷ h.0, h.1, rw (e, h.2) refl, rw (e, h.3) refl)

splits : (front more : List ℕ) → Splits front more
splits [] more = ([], [], refl, refl)
splits (c ∷ front) more = one_further c front more (c == 10) refl (splits front more)

lines_join : (one other : List ℕ) → HasWholeLines one → lines_of (one ++ other) ≡ lines_of one ++ lines_of other
lines_join one other (inl none) = rw none refl
lines_join one other (inr whole) =
    let front = whole.0 in
    let h = splits front other in
    let joined : (front ++ 10 ∷ []) ++ other ≡ front ++ 10 ∷ other = append_assoc front (10 ∷ []) other in
    rw (whole.1, joined, h.2, h.3) refl

-- ---- the grammar

-- a line says the same before more lines
says_more : (users : List KnownUser) (line : List ℕ) (after more : List (List ℕ)) (e : EventValue)
    → Says users line after e
    → Says users line (after ++ more) e
says_more users line after more (Run user units) h = h
says_more users line after more (Line user text) h = h
says_more users line after more (Tick user) h = h
says_more users line after more (Serve user device) h = h
says_more users line after more (Auto turns) h = h
says_more users line after more (Transfer user id to) h = h
says_more users line after more (Deck user cards) h = record {
  name = h.name;
  digits = h.digits;
  own = h.own;
  others = h.others ++ more;
  spelled = h.spelled;
  named = h.named;
  number = h.number;
  least = h.least;
  most = h.most;
  follow = ap (λ (l : List (List ℕ)). l ++ more) h.follow ∙ append_assoc h.own h.others more;
  punched = h.punched;
}

reads_join : (users : List KnownUser) (cards : ℕ) (xs ys : List (List ℕ)) (es fs : List EventValue)
    → Reads users cards xs [] es 0 → Reads users 0 ys [] fs 0 → Reads users cards (xs ++ ys) [] (es ++ fs) 0
reads_join users cards [] ys es fs h k = subst (λ (n : ℕ). Reads users n ys [] (es ++ fs) 0) h.1 (rw h.0 k)
reads_join users (suc cards) (x ∷ xs) ys es fs h k = (h.0, reads_join users cards xs ys es fs h.1 k)
reads_join users zero (x ∷ xs) ys es fs (inl h) k = inl (h.0, reads_join users 0 xs ys es fs h.1 k)
reads_join users zero (x ∷ xs) ys es fs (inr h) k =
    let says : Says users x ((xs ++ ys) ++ []) h.1 =
    rw append-nil (says_more users x xs ys h.1 (rw append-nil at h.4)) in
    inr (
      h.0,
      h.1,
      h.2 ++ fs,
      ap (λ (l : List EventValue). l ++ fs) h.3,
      says,
      reads_join users (cards_after h.1) xs ys h.2 fs h.5 k,
    )

scripts_join : ReadsGrammar → (users : List KnownUser) (one other : List ℕ) (es fs : List EventValue)
    → HasWholeLines one
    → script_of users one ≡ Ok es → script_of users other ≡ Ok fs → script_of users (one ++ other) ≡ Ok (es ++ fs)
scripts_join grammar users one other es fs whole first second =
    let both = reads_join users 0 (lines_of one) (lines_of other) es fs ((grammar users one).0 es first)
    ((grammar users other).0 fs second) in
    (grammar users (one ++ other)).1 (es ++ fs) (rw (lines_join one other whole) both)

-- ---- what is followed

-- a script that was played, to a world that then has forgotten printed lines alone
pub followed_on : {W : Type 0} (i : Installation W) (text : List ℕ) (script : List EventValue) (old : Scene W)
    (world next : W) (lines : Lines) (detail : Detail)
    (a b : Option (List ℕ)) → script_of (i.seen old.world).users text ≡ Ok script
    → IsPlayed i (acts script) old (scene world lines detail) a b → i.GoesOnAs world next
    → i.seen next ≡ but_printed (i.seen world)
    → (followed : IsFollowed i text old (scene next lines detail) a b)
    × (i.seen next ≡ but_printed (i.seen followed.end.world))
followed_on i text script old world next lines detail a b accepted played on seen = (
  record {
    script = script;
    accepted = accepted;
    end = scene world lines detail;
    played = played;
    on = record { world = on; lines = refl; detail = refl; had_slice = refl };
  },
  seen,
)

module _ {W : Type 0} (i : Installation W) (law : IsToGoOn i) where
  pub nothing : BeginsWithNothing i
  nothing first before dealing = record {
    script = [];
    accepted = refl;
    end = first;
    played = played_none i first before dealing;
    on = same_scene i law first;
  }

  pub session : EndsAsSession i
  session detail text first last r s before between after read followed closed =
      let p = followed.played in
      let end = followed.end in
      let whole : IsSession i detail first end.world r s before after = record {
        text = text;
        read = read;
        script = followed.script;
        accepted = followed.accepted;
        entries = p.entries;
        last = end;
        done = p.done;
        left = refl;
        history = history i (acts followed.script) (at_first i detail first) end p.entries p.done;
        written = Appends-trans before between after (transcript i detail (names_of (i.seen first)) p.entries)
            (ended (closing_lines (i.seen end.world))) p.written closed;
      } in (
        whole,
        followed.on.world,
        λ none. ap (λ (files : List FileNote). lines_since Transcript (length files) (i.seen end.world)) none,
      )

-- What was played from a scene has closed the files that it closed from one that goes on as it.
pub between_same : {W : Type 0} (i : Installation W) → IsToGoOn i → (telling : Telling) (xs : List Act)
    (one other end last : Scene W) (a b : Option (List ℕ)) → ContinuesAs i one other → ContinuesAs i end last
    → IsPlayed i xs other last a b → closed_between i telling one end ≡ closed_between i telling other last
between_same i law telling xs one other end last a b before after played =
    let s = i.seen end.world in
    let t = i.seen last.world in
    let same = seen_same i law end last after in
    since_same telling (i.seen one.world) (i.seen other.world) s t
    (ap (λ (x : Installed). x.files) (seen_same i law one other before)) (ap (λ (x : Installed). x.files) same)
    (sym (names_same s t same)) (law.full end.world last.world after.world)
    (played_notes i law xs other last a b played)

-- The parts of a script are one session.
pub join : ReadsGrammar → {W : Type 0} (i : Installation W) → IsToGoOn i → PartsJoin i
join grammar i law one other first middle last before between after whole p q =
    let users = (i.seen first.world).users in
    let found = played_alike i law (acts q.script) p.end middle q.end between after p.on q.played in
    let known = sym (users_same (i.seen p.end.world) (i.seen middle.world) (seen_same i law p.end middle p.on)) ∙
    p.played.users in
    let second = subst (λ (u : List KnownUser). script_of u other ≡ Ok q.script) known q.accepted in
    let all : IsFollowed i (one ++ other) first last before after = record {
      script = p.script ++ q.script;
      accepted = scripts_join grammar users one other p.script q.script whole p.accepted second;
      end = found.0;
      played = rw (acts_append p.script q.script)
          (played_more i (acts p.script) (acts q.script) first p.end found.0 before between after p.played found.1);
      on = scenes_chain i law found.0 q.end last found.2 q.on;
    } in
    let closed = played_notes i law (acts p.script) first p.end before between p.played in
    let more = played_notes i law (acts q.script) p.end found.0 between after found.1 in
    let names = sym (ap names_in found.1.users) in (
      all,
      λ telling.
          since_joined telling (i.seen first.world) (i.seen p.end.world) (i.seen found.0.world) closed more names
          ∙ ap (λ (l : List (List ℕ)). closed_between i telling first p.end ++ l)
          (between_same i law telling (acts q.script) p.end middle found.0 q.end between after p.on found.2 q.played),
    )
