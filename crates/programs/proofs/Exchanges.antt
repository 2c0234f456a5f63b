-- Parts that are answered, one after another.
use Rattle.std.proofs.Common.{◌≡◌, ℕ, true, inl, inr, List, [], ◌∷◌, ◌++◌, Option, Some, None, Result, Ok, Err, refl}
use Rattle.std.proofs.Common.{sym}
use Rattle.std.proofs.Common.{ap, ◌∙◌, ◌+◌, ◌⊎◌, subst, append_assoc, append-nil, length, length-append, arith}
use Rattle.std.specs.Prelude.{Bool, IfErr, IsErrAnd}
use Rattle.std.specs.Io.KnownBytes.{Appends, Consumes, Keeps}
use Rattle.std.proofs.KnownBytes.{Appends-kept, Appends-nil, Appends-trans, Consumes-nil, Consumes-trans}
use Rattle.s370_num.specs.Host.{AppendsFront, IsCounted}
use Rattle.s370_num.specs.declared.host.HostFault.{HostFault}
use Rattle.s370_num.specs.declared.host.HostFault.TheVariants as hosts
use Rattle.sessions.specs.Continuing.{ContinuesAs, but_printed}
use Rattle.sessions.specs.Follow.{HasWholeLines, Became, IsFollowed, part_of}
use Rattle.sessions.specs.Installed.{Installation, names_of}
use Rattle.sessions.specs.Schedule.{Scene, acts}
use Rattle.sessions.specs.News.{modes_of}
use Rattle.sessions.specs.declared.follow.Part.{Part}
use Rattle.sessions.specs.declared.follow.Part.TheVariants as parts
use Rattle.machine_panel.specs.declared.machine.Mode.{Mode}
use Rattle.sessions.specs.Seek.{BecameSought, IsSought, seek_of}
use Rattle.sessions.specs.Session.{Accounts, IsPlayed, at_first}
use Rattle.sessions.specs.Transcript.{ended, transcript}
use Rattle.sessions.specs.declared.faults.PlayError.{PlayError}
use Rattle.sessions.specs.declared.faults.PlayError.TheVariants as plays
use Rattle.sessions.specs.declared.follow.Seeking.{Seeking}
use Rattle.sessions.specs.declared.follow.Seeking.TheVariants as seekings
use Rattle.sessions.specs.declared.schedule.Detail.{Detail}
use Rattle.sessions.specs.declared.seek.Seek.{Seek}
use Rattle.sessions.specs.declared.files.Telling.TheVariants.{Answer}
use Rattle.sessions.proofs.Continuing.{but_forgotten, idle_same, seen_files, seen_modes, seen_names}
use Rattle.sessions.proofs.Histories.{front_after}
use Rattle.programs.specs.Faults.{file_failure, play_failure}
use Rattle.programs.specs.declared.requests.NextRequest.{NextRequest}
use Rattle.programs.specs.Requests.{GivesNext, IsMalformed}
use Rattle.programs.specs.Parts.{AnswersPart, AreExchanges, Exchange, IsExchange, IsPartAnsweredPartly, InputAccounts}
use Rattle.programs.specs.Parts.{GivesState, IsBegun, IsBrokenOff, IsCausedBy, IsFollowedTo, IsSoFar, answers_of}
use Rattle.programs.specs.Parts.{FailureCounts, HasFailed, IsUnanswerable, PartAccounts, news_lines, news_since}
use Rattle.programs.specs.Parts.{AnswersSeek, IsSeekAnsweredPartly, read_of, refusal, refused_line, seek_lines}
use Rattle.programs.specs.declared.faults.Failure.{Failure}
use Rattle.programs.specs.declared.faults.Failure.TheVariants as failures

-- ---- one part

-- what it has as a transcript, where it has led to what goes on as this
abbrev alone : {W : Type 0} (i : Installation W) (old new left : Scene W) (part : List ℕ) (a b : Option (List ℕ))
    (f : IsFollowed i part old new a b) → ContinuesAs i f.end left
    → IsFollowed i part old left (Some [])
    (Some (transcript i old.detail (names_of (i.seen old.world)) f.played.entries))
alone i old new left part a b f on =
    let p = f.played in
    let played : IsPlayed i (acts f.script) old f.end (Some [])
    (Some (transcript i old.detail (names_of (i.seen old.world)) p.entries)) =
    record {
      entries = p.entries;
      done = p.done;
      written = refl;
      users = p.users;
      detail = p.detail;
      dealing = p.dealing;
    } in
    record { script = f.script; accepted = f.accepted; end = f.end; played = played; on = on }

-- the news of a scene are those of one that has forgotten printed lines alone
news_same : {W : Type 0} (i : Installation W) (old one other : Scene W) → one.lines ≡ other.lines
    → but_printed (i.seen one.world) ≡ but_printed (i.seen other.world)
    → news_lines i old other ≡ news_lines i old one
news_same i old one other lines same =
    let s = i.seen one.world in
    let t = i.seen other.world in
    let before = i.seen old.world in
    rw (
      seen_files s t same Answer (length before.files),
      seen_names s t same,
      seen_modes s t same,
      idle_same i one other lines same,
    ) refl

-- it was done, and the news were reported
pub done : {W : Type 0} (i : Installation W) (old new left : Scene W) (part : List ℕ) (a b c : Option (List ℕ))
    → HasWholeLines part → (f : IsFollowed i part old new a b)
    → but_printed (i.seen f.end.world) ≡ but_printed (i.seen new.world) → ContinuesAs i f.end left
    → Appends b c (ended (news_lines i old new))
    → (answer : List ℕ) × AnswersPart i old part answer left × Appends a c answer
done i old new left part a b c whole f seen on w =
    let p = f.played in
    let text = transcript i old.detail (names_of (i.seen old.world)) p.entries in
    let news = ended (news_lines i old f.end) in
    let told =
    subst (λ (lines : List (List ℕ)). Appends b c (ended lines)) (news_same i old f.end new f.on.lines seen) w
    in (
      text ++ news,
      inl (record { whole = whole; text = text; followed = alone i old new left part a b f on; reported = refl }),
      Appends-trans a b c text news p.written told,
    )

-- it was done, and a beginning of the news was reported
pub done_front : {W : Type 0} (i : Installation W) (old new : Scene W) (part : List ℕ) (a b c : Option (List ℕ))
    → HasWholeLines part → (f : IsFollowed i part old new a b)
    → but_printed (i.seen f.end.world) ≡ but_printed (i.seen new.world)
    → AppendsFront b c (ended (news_lines i old new))
    → IsPartAnsweredPartly i old part a c
done_front i old new part a b c whole f seen w =
    let p = f.played in
    let text = transcript i old.detail (names_of (i.seen old.world)) p.entries in
    let news = ended (news_lines i old f.end) in
    let told = subst (λ (lines : List (List ℕ)). AppendsFront b c (ended lines))
    (news_same i old f.end new f.on.lines seen) w in
    inr (inr (
      text ++ news,
      new,
      inl (record { whole = whole; text = text; followed = alone i old new new part a b f f.on; reported = refl }),
      front_after a b c text news p.written told,
    ))

-- it was done, and there were no news
pub done_untold : {W : Type 0} (i : Installation W) (old new : Scene W) (part : List ℕ) (a b : Option (List ℕ))
    → HasWholeLines part → (f : IsFollowed i part old new a b)
    → but_printed (i.seen f.end.world) ≡ but_printed (i.seen new.world) → IsPartAnsweredPartly i old part a b
done_untold i old new part a b whole f seen =
    done_front i old new part a b b whole f seen (0, omega arith, Appends-nil b)

-- it was refused, and that was reported
pub refused : {W : Type 0} (i : Installation W) (old new : Scene W) (part : List ℕ) (line : ℕ) (a b c : Option (List ℕ))
    → part_of (i.seen old.world).users part ≡ Err line → new ≡ old → b ≡ a
    → Appends b c (ended (refused_line line ∷ []))
    → (answer : List ℕ) × AnswersPart i old part answer new × Appends a c answer
refused i old new part line a b c e same kept w =
    let text = ended (refused_line line ∷ []) in (
      text,
      inr (record { line = line; refused = e; same = same; reported = refl }),
      subst (λ (o : Option (List ℕ)). Appends o c text) kept w,
    )

-- A part that is refused leaves all as it was, and may have begun its answer.
pub refused_front : {W : Type 0} (i : Installation W) (old new : Scene W) (part : List ℕ) (line : ℕ)
    (a b c : Option (List ℕ)) → part_of (i.seen old.world).users part ≡ Err line → new ≡ old → b ≡ a
    → AppendsFront b c (ended (refused_line line ∷ [])) → IsPartAnsweredPartly i old part a c
refused_front i old new part line a b c e same kept w =
    let text = ended (refused_line line ∷ []) in
    inr (inr (
      text,
      new,
      inr (record { line = line; refused = e; same = same; reported = refl }),
      subst (λ (o : Option (List ℕ)). AppendsFront o c text) kept w,
    ))

-- what became of it
pub was_done : {W : Type 0} (i : Installation W) (old new : Scene W) (text : List ℕ) (part : Part W)
    (a b : Option (List ℕ)) → part ≡ parts.Done new → Became i text old part a b
    → HasWholeLines text × (f : IsFollowed i text old new a b)
    × (but_printed (i.seen f.end.world) ≡ but_printed (i.seen new.world))
was_done {W} i old new text part a b e h =
    let became = subst (λ (p : Part W). Became i text old p a b) e h in (
      became.0,
      became.1,
      but_forgotten (i.seen became.1.end.world) (i.seen new.world) became.2,
    )

-- A part that was refused left all as it was.
pub was_refused : {W : Type 0} (i : Installation W) (old new : Scene W) (line : ℕ) (text : List ℕ) (part : Part W)
    (a b : Option (List ℕ)) → part ≡ parts.Refused new line → Became i text old part a b
    → (part_of (i.seen old.world).users text ≡ Err line) × (new ≡ old) × (b ≡ a)
was_refused {W} i old new line text part a b e h = subst (λ (p : Part W). Became i text old p a b) e h

-- ---- what is sought

-- what was sought has as a transcript the lines of its units alone
sought_alone : {W : Type 0} (i : Installation W) (seek : Seek) (found : Bool) (old new : Scene W)
    (a b : Option (List ℕ)) (s : IsSought i seek found old new a b) → IsSought i seek found old new (Some [])
    (Some (transcript i old.detail (names_of (i.seen old.world)) s.played.entries))
sought_alone i seek found old new a b s =
    let p = s.played in
    record {
      count = s.count;
      most = s.most;
      all = s.all;
      played = record {
        entries = p.entries;
        done = p.done;
        written = refl;
        users = p.users;
        detail = p.detail;
        dealing = p.dealing;
      };
      first = s.first;
    }

-- It was sought, and whether it was found was reported.
pub sought_told : {W : Type 0} (i : Installation W) (seek : Seek) (found : Bool) (old new : Scene W) (asking : List ℕ)
    (a b c : Option (List ℕ)) → seek_of (i.seen old.world).users asking ≡ Some seek
    → IsSought i seek found old new a b → Appends b c (ended (seek_lines found))
    → (answer : List ℕ) × AnswersSeek i old asking answer new × Appends a c answer
sought_told i seek found old new asking a b c asked s w =
    let text = transcript i old.detail (names_of (i.seen old.world)) s.played.entries in
    let told = ended (seek_lines found) in (
      text ++ told,
      inl (record {
        seek = seek;
        asked = asked;
        found = found;
        text = text;
        sought = sought_alone i seek found old new a b s;
        reported = refl;
      }),
      Appends-trans a b c text told s.played.written w,
    )

-- It was sought, and a beginning of that was reported.
pub sought_front : {W : Type 0} (i : Installation W) (seek : Seek) (found : Bool) (old new : Scene W) (asking : List ℕ)
    (a b c : Option (List ℕ)) → seek_of (i.seen old.world).users asking ≡ Some seek
    → IsSought i seek found old new a b → AppendsFront b c (ended (seek_lines found))
    → IsSeekAnsweredPartly i old asking a c
sought_front i seek found old new asking a b c asked s w =
    let text = transcript i old.detail (names_of (i.seen old.world)) s.played.entries in
    let told = ended (seek_lines found) in
    inr (inr (
      text ++ told,
      new,
      inl (record {
        seek = seek;
        asked = asked;
        found = found;
        text = text;
        sought = sought_alone i seek found old new a b s;
        reported = refl;
      }),
      front_after a b c text told s.played.written w,
    ))

-- Nothing was sought, and that was reported in part.
pub unsought_front : {W : Type 0} (i : Installation W) (old new : Scene W) (asking : List ℕ) (a b c : Option (List ℕ))
    → seek_of (i.seen old.world).users asking ≡ None → new ≡ old → b ≡ a → AppendsFront b c refusal
    → IsSeekAnsweredPartly i old asking a c
unsought_front i old new asking a b c none same kept w =
    inr (inr (
      refusal,
      new,
      inr (none, same, refl),
      subst (λ (o : Option (List ℕ)). AppendsFront o c refusal) kept w,
    ))

-- what became of it
pub was_sought : {W : Type 0} (i : Installation W) (old new : Scene W) (found : Bool) (text : List ℕ)
    (seeking : Seeking W) (a b : Option (List ℕ)) → seeking ≡ seekings.Done new found
    → BecameSought i text old seeking a b → (seek : Seek) × (seek_of (i.seen old.world).users text ≡ Some seek)
    × IsSought i seek found old new a b
was_sought {W} i old new found text seeking a b e h = subst (λ (s : Seeking W). BecameSought i text old s a b) e h

-- A text that asks for nothing left all as it was.
pub was_unsought : {W : Type 0} (i : Installation W) (old new : Scene W) (text : List ℕ) (seeking : Seeking W)
    (a b : Option (List ℕ)) → seeking ≡ seekings.Refused new → BecameSought i text old seeking a b
    → (seek_of (i.seen old.world).users text ≡ None) × (new ≡ old) × (b ≡ a)
was_unsought {W} i old new text seeking a b e h = subst (λ (s : Seeking W). BecameSought i text old s a b) e h

-- the news of a part
pub news_told : {W : Type 0} (i : Installation W) (detail : Detail) (files : ℕ) (modes : List Mode) (old new : Scene W)
    → old.detail ≡ detail → files ≡ length (i.seen old.world).files → modes ≡ modes_of (i.seen old.world)
    → ended (news_since i detail files modes new) ≡ ended (news_lines i old new)
news_told i detail files modes old new d f m =
    let seen = i.seen old.world in
    ap (λ (x : Detail). ended (news_since i x files modes new)) (sym d)
    ∙ (ap (λ (x : ℕ). ended (news_since i old.detail x modes new)) f
    ∙ ap (λ (x : List Mode). ended (news_since i old.detail (length seen.files) x new)) m)

-- ---- several parts

exchanges_more : {W : Type 0} (i : Installation W) (xs : List (Exchange W)) (it : Exchange W) (first last : Scene W)
    → AreExchanges i first xs last → IsExchange i last it → AreExchanges i first (xs ++ it ∷ []) it.left
exchanges_more {W} i [] it first last h one = (subst (λ (s : Scene W). IsExchange i s it) h one, refl)
exchanges_more i (x ∷ xs) it first last h one = (h.0, exchanges_more i xs it x.left last h.1 one)

read_more : {W : Type 0} (xs : List (Exchange W)) (it : Exchange W) → read_of (xs ++ it ∷ []) ≡ read_of xs ++ it.read
read_more [] it = append-nil it.read
read_more (x ∷ xs) it = ap (λ (l : List ℕ). x.read ++ l) (read_more xs it) ∙ sym
    (append_assoc x.read (read_of xs) it.read)

answers_more : {W : Type 0} (xs : List (Exchange W)) (it : Exchange W)
    → answers_of (xs ++ it ∷ []) ≡ answers_of xs ++ it.answer
answers_more [] it = append-nil it.answer
answers_more (x ∷ xs) it =
    ap (λ (l : List ℕ). x.answer ++ l) (answers_more xs it) ∙ sym (append_assoc x.answer (answers_of xs) it.answer)

-- Before the first part nothing is read and nothing is written.
pub so_far_none : {W : Type 0} (i : Installation W) (first : Scene W) (r w : Option (List ℕ))
    → IsSoFar i 0 first first r r w w
so_far_none i first r w =
    record { exchanges = []; many = refl; answered = refl; read = Consumes-nil r; written = Appends-nil w }

-- One more part is read and answered.
pub so_far_more : {W : Type 0} (i : Installation W) (n : ℕ) (first mid : Scene W) (r s t w x y : Option (List ℕ))
    (it : Exchange W) → IsSoFar i n first mid r s w x → IsExchange i mid it → Consumes s t it.read
    → Appends x y it.answer → IsSoFar i (n + 1) first it.left r t w y
so_far_more i n first mid r s t w x y it h one read written = record {
  exchanges = h.exchanges ++ it ∷ [];
  many = omega (arith, length-append h.exchanges (it ∷ []), h.many);
  answered = exchanges_more i h.exchanges it first mid h.answered one;
  read = subst (Consumes r t) (sym (read_more h.exchanges it))
      (Consumes-trans r s t (read_of h.exchanges) it.read h.read read);
  written = subst (Appends w y) (sym (answers_more h.exchanges it))
      (Appends-trans w x y (answers_of h.exchanges) it.answer h.written written);
}

-- A follow that ends has read and answered all parts.
pub followed_to : {W : Type 0} (i : Installation W) (n : ℕ) (detail : Detail) (old new : W) (last : Scene W)
    (end : List ℕ) (r s t w x y : Option (List ℕ)) → IsSoFar i n (at_first i detail old) last r s w x → new ≡ last.world
    → Consumes s t end → Keeps x y → IsFollowedTo i detail old new end r t w y
followed_to i n detail old new last end r s t w x y h left read kept = record {
  exchanges = h.exchanges;
  last = last;
  answered = h.answered;
  left = left;
  read = Consumes-trans r s t (read_of h.exchanges) end h.read read;
  written = Appends-kept w x y (answers_of h.exchanges) h.written kept;
}

-- ---- files that failed

-- a file is told only if it has failed, or for this
abbrev pub TellsOfFiles : FailureCounts → Type 0 → Failure → Type 0
TellsOfFiles counts Other failure = (k : ℕ) → failure ≡ failures.File k → HasFailed counts k ⊎ ((k ≡ 1) × Other)

-- the counts of both files
abbrev pub counted : ℕ → ℕ → ℕ → ℕ → FailureCounts
counted r s w x = record { reader_old = r; reader_new = s; writer_old = w; writer_new = x }

abbrev number_of : Failure → ℕ
number_of (failures.File k) = k
number_of other = 0

-- Refused memory tells of no file.
pub no_file : (counts : FailureCounts) (P : Type 0) → TellsOfFiles counts P failures.Memory
no_file counts P k e = absurd (cc)

-- An input that could not be read has failed, or has what is no request.
pub input_failed : (fault : HostFault) (q r s w x n : ℕ) (more : List ℕ) (left : Option (List ℕ)) → q ≡ r → x ≡ w
    → (IsCounted q s fault ⊎ ((s ≡ q) × (fault ≡ hosts.Device 1) × IsMalformed more left))
    → TellsOfFiles (counted r s w x) (IsUnanswerable n more left) (file_failure fault)
input_failed hosts.Memory q r s w x n more left before same why k e = absurd (cc)
input_failed (hosts.Device j) q r s w x n more left before same (inl is) k e =
    let here = subst (λ (m : ℕ). IsCounted m s (hosts.Device j)) before is in
    inl (inl (subst (λ (i : ℕ). IsCounted r s (hosts.Device i)) (ap number_of e) here, same))
input_failed (hosts.Device j) q r s w x n more left before same (inr is) k e =
    let fault = is.1 in
    let one : k ≡ 1 = cc in
    inr (one, inl is.2)

-- An output that could not be written has failed.
pub output_failed : (A : Type 0) (f : Failure) (r s v w x : ℕ) (P : Type 0) → s ≡ r → v ≡ w
    → PartAccounts {A = A} (Err f) v x → TellsOfFiles (counted r s w x) P f
output_failed A (failures.File j) r s v w x P same before why k e =
    let here = subst (λ (m : ℕ). IsCounted m x (hosts.Device j)) before why in
    inl (inr (same, subst (λ (i : ℕ). IsCounted w x (hosts.Device i)) (ap number_of e) here))
output_failed A failures.Memory r s v w x P same before why k e = absurd (cc)
output_failed A failures.Spent r s v w x P same before why k e = absurd (cc)
output_failed A failures.State r s v w x P same before why k e = absurd (cc)
output_failed A (failures.Directory d) r s v w x P same before why k e = absurd why
output_failed A (failures.Image d) r s v w x P same before why k e = absurd why
output_failed A (failures.Boot d) r s v w x P same before why k e = absurd why
output_failed A (failures.Script d) r s v w x P same before why k e = absurd why
output_failed A (failures.Unsaved d p) r s v w x P same before why k e = absurd why
output_failed A failures.Usage r s v w x P same before why k e = absurd why

-- An output whose last lines could not be written has failed.
pub end_failed : (A : Type 0) (e : PlayError) (r s v w x : ℕ) (P : Type 0) → s ≡ r → v ≡ w
    → Accounts {A = A} (Err e) true true v x → TellsOfFiles (counted r s w x) P (play_failure e)
end_failed A plays.Memory r s v w x P same before why k e = absurd (cc)
end_failed A (plays.Device j) r s v w x P same before why k e =
    let here = subst (λ (m : ℕ). IsCounted m x (hosts.Device j)) before why in
    inl (inr (same, subst (λ (i : ℕ). IsCounted w x (hosts.Device i)) (ap number_of e) here))
end_failed A plays.Spent r s v w x P same before why k e = absurd (cc)

-- ---- an input that is not followed to its end

-- Equal requests are read from the same input.
pub is_next : (next other : NextRequest) (a b : Option (List ℕ)) → next ≡ other → GivesNext next a b
    → GivesNext other a b
is_next next other a b e h = subst (λ (n : NextRequest). GivesNext n a b) e h

-- A follow that breaks off has answered all parts but the last.
pub broken_off : {W : Type 0} (i : Installation W) (n : ℕ) (detail : Detail) (old : W) (last : Scene W) (more : List ℕ)
    (r s t w x y : Option (List ℕ)) (counts : FailureCounts) → IsSoFar i n (at_first i detail old) last r s w x
    → Consumes s t more → IsBegun i last more x y → (failure : Failure)
    → IsCausedBy (GivesState more) (i.is_spent last.world ≡ true) failure
    → TellsOfFiles counts (IsUnanswerable n more t) failure → IsBrokenOff i detail old r t w y counts failure
broken_off {W = W} i n detail old last more r s t w x y counts h read begun failure cause files = record {
  exchanges = h.exchanges;
  last = last;
  answered = h.answered;
  more = more;
  read = Consumes-trans r s t (read_of h.exchanges) more h.read read;
  between = x;
  written = h.written;
  begun = begun;
  cause = cause;
  file = subst (λ (k : ℕ). TellsOfFiles counts (IsUnanswerable k more t) failure) (sym h.many) files;
}

-- What holds of the failure that was passed on holds of the one that is returned.
pub if_err : {A : Type 0} (Q : Failure → Type 0) (f : Failure) (r : Result A Failure) → IsErrAnd r (λ z. z ≡ f) → Q f
    → IfErr r Q
if_err Q f (Ok a) e q = tt
if_err Q f (Err z) e q = subst Q (sym e) q

-- Causes of a failure are causes where more would be.
pub wider : {P Q R S : Type 0} → (P → R) → (Q → S) → (f : Failure) → IsCausedBy P Q f → IsCausedBy R S f
wider given spent failures.State h = given h
wider given spent failures.Spent h = spent h
wider given spent (failures.File k) h = tt
wider given spent failures.Memory h = tt
wider given spent (failures.Directory e) h = h
wider given spent (failures.Image e) h = h
wider given spent (failures.Boot e) h = h
wider given spent (failures.Script n) h = h
wider given spent (failures.Unsaved e p) h = h
wider given spent failures.Usage h = h

-- A cause stays one where more is known of it.
pub wider_err : {A P Q R S : Type 0} → (P → R) → (Q → S) → (r : Result A Failure) → IfErr r (IsCausedBy P Q)
    → IfErr r (IsCausedBy R S)
wider_err given spent (Ok a) h = tt
wider_err given spent (Err f) h = wider given spent f h

-- A file that fails, and memory that is refused, need no other cause.
pub of_file : (P Q : Type 0) (fault : HostFault) → IsCausedBy P Q (file_failure fault)
of_file P Q hosts.Memory = tt
of_file P Q (hosts.Device k) = tt

-- An installation says that it is spent only where it is.
pub of_play : (A P Q : Type 0) (e : PlayError) (was is : Bool) (a b : ℕ) → Accounts {A = A} (Err e) was is a b
    → (was ≡ true → Q) → IsCausedBy P Q (play_failure e)
of_play A P Q plays.Memory was is a b h spent = tt
of_play A P Q (plays.Device k) was is a b h spent = tt
of_play A P Q plays.Spent was is a b h spent = spent h.1

-- An input that is accounted for stays so when the output failed.
pub closed_why : (A : Type 0) (e : PlayError) (r s w x y : ℕ) → s ≡ r → x ≡ w → Accounts {A = A} (Err e) true true x y
    → InputAccounts {A = Unit {0}} (Err (play_failure e)) r s w y
closed_why A plays.Memory r s w x y a b h = (a, h ∙ b)
closed_why A (plays.Device k) r s w x y a b h = inr (inl (a, subst (λ (n : ℕ). IsCounted n y (hosts.Device k)) b h))
closed_why A plays.Spent r s w x y a b h = (a, h.0 ∙ b)

-- A failure accounts for what was read and written.
pub why_of : {A : Type 0} (f : Failure) (result : Result A Failure) (r s w x : ℕ) → IsErrAnd result (λ z. z ≡ f)
    → InputAccounts {A = Unit {0}} (Err f) r s w x → InputAccounts result r s w x
why_of f (Ok a) r s w x e h = absurd e
why_of f (Err z) r s w x e h = subst (λ (g : Failure). InputAccounts {A = Unit {0}} (Err g) r s w x) (sym e) h
