-- Scripts that go on from saved states, and runs of the program one after another.
use Rattle.std.proofs.Common.{◌≡◌, ℕ, inl, inr, List, [], ◌∷◌, ◌++◌, Some, Ok, ap, sym, ◌∙◌, subst}
use Rattle.std.proofs.Common.{append_assoc, append-nil}
use Rattle.session_script.specs.Grammar.{ReadsGrammar}
use Rattle.session_script.specs.Script.{script_of}
use Rattle.session_script.specs.Users.{KnownUser}
use Rattle.sessions.specs.Continuing.{ContinuesAs, IsToGoOn}
use Rattle.sessions.specs.Follow.{HasWholeLines, IsFollowed}
use Rattle.sessions.specs.Installed.{Installation, IsHistory, Step}
use Rattle.sessions.specs.Noted.{closed_between}
use Rattle.sessions.specs.Runs.{AreRuns, GoesOn, IsFollowedAs, ProgramRun, RunsAreASession, closed_of, left_by}
use Rattle.sessions.specs.Runs.{texts_of, written_of}
use Rattle.sessions.specs.Saved.{IsOneBySaved, KeepsBase}
use Rattle.sessions.specs.Schedule.{Scene, acts, steps_of}
use Rattle.sessions.specs.Session.{IsPlayed}
use Rattle.sessions.proofs.Continuing.{played_alike, scenes_chain, seen_same, users_same}
use Rattle.sessions.proofs.Histories.{history}
use Rattle.sessions.specs.declared.files.Telling.{Telling}
use Rattle.sessions.proofs.Joined.{between_same, join}
use Rattle.sessions.proofs.Restored.{restored}

-- parts of whole lines are joined to whole lines
whole_join : (one other : List ℕ) → HasWholeLines one → HasWholeLines other → HasWholeLines (one ++ other)
whole_join one other h (inl none) =
    let same : one ++ other ≡ one = ap (λ (l : List ℕ). one ++ l) none ∙ append-nil one in
    subst (λ (l : List ℕ). HasWholeLines l) (sym same) h
whole_join one other h (inr whole) =
    inr (one ++ whole.0, ap (λ (l : List ℕ). one ++ l) whole.1 ∙ sym (append_assoc one whole.0 (10 ∷ [])))

module _ {W : Type 0} (i : Installation W) (law : IsToGoOn i) where
  -- ---- a script that goes on

  -- what was played from a scene was played from one that goes on as it, after what was written before
  played_after : (other : List ℕ) (middle again last : Scene W) (written more : List ℕ) → ContinuesAs i middle again
      → (q : IsFollowedAs i other again last more)
      → (p : IsFollowed i other middle last (Some written) (Some (written ++ more)))
      × ((telling : Telling) → closed_between i telling middle p.end ≡ closed_between i telling again q.end)
  played_after other middle again last written more c q =
      let found = played_alike i law (acts q.script) middle again q.end (Some []) (Some more) c q.played in
      let p = found.1 in
      let users = users_same (i.seen middle.world) (i.seen again.world) (seen_same i law middle again c) in
      let played : IsPlayed i (acts q.script) middle found.0 (Some written) (Some (written ++ more)) = record {
        entries = p.entries;
        done = p.done;
        written = ap (λ (t : List ℕ). written ++ t) p.written;
        users = p.users;
        detail = p.detail;
        dealing = p.dealing;
      } in
      let followed : IsFollowed i other middle last (Some written) (Some (written ++ more)) = record {
        script = q.script;
        accepted = subst (λ (u : List KnownUser). script_of u other ≡ Ok q.script) (sym users) q.accepted;
        end = found.0;
        played = played;
        on = scenes_chain i law found.0 q.end last found.2 q.on;
      } in (
        followed,
        λ telling. between_same i law telling (acts q.script) middle again found.0 q.end (Some []) (Some more) c found.2
            q.played,
      )

  pub goes_on : ReadsGrammar → GoesOn i
  goes_on grammar one other first middle again last written more whole p c q =
      let followed = played_after other middle again last written more c q in
      let all = join grammar i law one other first middle last (Some []) (Some written) (Some (written ++ more)) whole p
      followed.0 in (
        all.0,
        λ telling. all.1 telling
            ∙ ap (λ (l : List (List ℕ)). closed_between i telling first p.end ++ l) (followed.1 telling),
      )

  -- ---- runs

  module _ (base : KeepsBase i) where
    history_base : (steps : List (Step W)) (first last : W) → IsHistory i first steps last → i.HasSameBase first last
    history_base [] first last h = subst (λ (w : W). i.HasSameBase first w) (sym h) (base.reflexive first)
    history_base (step ∷ steps) first last h =
        let one = base.kept first step.left step.said step.reply h.0 in
        base.transitive first step.left last one (history_base steps step.left last h.1)

    followed_base : (text : List ℕ) (first last : Scene W) (written : List ℕ) → IsFollowedAs i text first last written
        → i.HasSameBase first.world last.world
    followed_base text first last written f =
        let p = f.played in
        let steps = history i (acts f.script) first f.end p.entries p.done in
        let same = history_base (steps_of p.entries) first.world f.end.world steps in
        base.transitive first.world f.end.world last.world same (law.base f.end.world last.world f.on.world)

    module _ (grammar : ReadsGrammar) (saved : IsOneBySaved i) where
      -- a script was followed, and has closed files of these lines
      abbrev Closes : List ℕ → Scene W → Scene W → List ℕ → (Telling → List (List ℕ)) → Type 0
      Closes text first last written lines = (all : IsFollowedAs i text first last written)
          × ((telling : Telling) → closed_between i telling first all.end ≡ lines telling)

      -- what the first scene has led to goes on as what the runs go on from
      runs_on : (runs : List (ProgramRun W)) (text : List ℕ) (first here : Scene W) (written : List ℕ)
          → HasWholeLines text → (p : IsFollowedAs i text first here written)
          → i.HasSameBase first.world here.world → here.detail ≡ first.detail → (h : AreRuns i first here runs)
          → Closes (text ++ texts_of runs) first (left_by here runs) (written ++ written_of runs)
          (λ telling. closed_between i telling first p.end ++ closed_of i telling first here runs h)
      runs_on [] text first here written whole p b d h =
          let lines = λ (telling : Telling). closed_between i telling first p.end ++ [] in
          let it : Closes text first here written lines =
          (p, λ telling. sym (append-nil (closed_between i telling first p.end))) in
          let shorter = subst (λ (t : List ℕ). Closes t first here written lines) (sym (append-nil text)) it in
          subst (λ (w : List ℕ). Closes (text ++ []) first here w lines) (sym (append-nil written)) shorter
      runs_on (run ∷ runs) text first here written whole p b d h =
          let r = h.0 in
          let back = base.symmetric first.world here.world b in
          let same = base.transitive here.world first.world run.booted.world back r.base in
          let again = restored i base saved here run.booted run.begun run.state in
          let on = again same (d ∙ sym r.detail) r.saved r.restored in
          let joined = goes_on grammar text run.text first here run.begun run.left written run.written whole p on
          r.followed in
          let begun = base.transitive first.world run.booted.world run.begun.world r.base r.restored.base in
          let followed = followed_base run.text run.begun run.left run.written r.followed in
          let left = base.transitive first.world run.begun.world run.left.world begun followed in
          let detail = sym r.followed.on.detail ∙ (r.followed.played.detail ∙ (r.restored.detail ∙ r.detail)) in
          let lines = whole_join text run.text whole r.lines in
          let more = runs_on runs (text ++ run.text) first run.left
          (written ++ run.written) lines joined.0 left detail h.1 in
          let last = left_by run.left runs in
          let texts = append_assoc text run.text (texts_of runs) in
          let all = (written ++ run.written) ++ written_of runs in
          let closed = λ (telling : Telling). closed_between i telling first p.end
          ++ closed_of i telling first here (run ∷ runs) h in
          let it : Closes ((text ++ run.text) ++ texts_of runs) first last all closed = (
            more.0,
            λ telling. more.1 telling
                ∙ ap (λ (l : List (List ℕ)). l ++ closed_of i telling first run.left runs h.1) (joined.1 telling)
                ∙ append_assoc (closed_between i telling first p.end)
                (closed_between i telling run.begun r.followed.end) (closed_of i telling first run.left runs h.1),
          ) in
          let longer = subst (λ (t : List ℕ). Closes t first last all closed) texts it in
          let whole_text = text ++ (run.text ++ texts_of runs) in
          let writings = append_assoc written run.written (written_of runs) in
          subst (λ (w : List ℕ). Closes whole_text first last w closed) writings longer

      pub runs_are_a_session : RunsAreASession i
      runs_are_a_session text first middle written runs whole p h =
          let same = followed_base text first middle written p in
          let detail = sym p.on.detail ∙ p.played.detail in
          runs_on runs text first middle written whole p same detail h
