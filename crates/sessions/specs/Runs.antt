-- Saved states of a script's scenes, and scripts that go on from them.
use Rattle.std.specs.Prelude.{◌≡◌, ℕ, Bool, false, List, [], ◌∷◌, ◌++◌, Some}
use Rattle.cp_dispatch.specs.Saved.{lines_bytes}
use Rattle.sessions.specs.Continuing.{ContinuesAs}
use Rattle.sessions.specs.Follow.{HasWholeLines, IsFollowed}
use Rattle.sessions.specs.Installed.{Installation}
use Rattle.sessions.specs.Noted.{closed_between}
use Rattle.sessions.specs.Saved.{AppendsSuch}
use Rattle.sessions.specs.Schedule.{Scene}
use Rattle.sessions.specs.declared.files.Telling.{Telling}

-- ---- a scene

-- a scene in which no turn is under way is saved as these bytes: those of queue and line, and after
-- them those of the installation
pub record IsSceneSaved {W : Type 0} (i : Installation W) (scene : Scene W)
    (bytes : List ℕ) : Type 0 where
  pub between : scene.had_slice ≡ false
  pub rest : List ℕ
  pub world : i.IsSaved scene.world rest
  pub written : bytes ≡ lines_bytes scene.lines ++ rest

-- what saving a scene appends: bytes as which it is saved, or nothing, and that only if its
-- installation has no states
abbrev pub AppendsScene : {W : Type 0} → Installation W → Scene W → Bool → List ℕ → List ℕ → Type 0
AppendsScene i scene = AppendsSuch (IsSceneSaved i scene) (i.has_states ≡ false)

-- the scene that these bytes restore in the place of another: it is saved as these bytes, is of the
-- same base, has the same users, and its transcript has the same lines of turns
pub record IsRestored {W : Type 0} (i : Installation W) (old : Scene W)
    (bytes : List ℕ) (new : Scene W) : Type 0 where
  pub saved : IsSceneSaved i new bytes
  pub base : i.HasSameBase old.world new.world
  pub users : (i.seen new.world).users ≡ (i.seen old.world).users
  pub detail : new.detail ≡ old.detail

-- a scene that was saved goes on as each that was restored from its bytes on the same base
abbrev pub RestoredContinue : {W : Type 0} → Installation W → Type 0
RestoredContinue {W} i = (one start other : Scene W) (bytes : List ℕ) →
    i.HasSameBase one.world start.world → one.detail ≡ start.detail →
    IsSceneSaved i one bytes → IsRestored i start bytes other → ContinuesAs i one other

-- ---- scripts that go on

-- a script was followed, and this is its transcript
abbrev pub IsFollowedAs : {W : Type 0} → Installation W → List ℕ → Scene W → Scene W → List ℕ
    → Type 0
IsFollowedAs i text old new written = IsFollowed i text old new (Some []) (Some written)

-- a script that was followed to a scene that goes on as another, and one that was followed from
-- that other, are one script that was followed. Its transcript is theirs joined, and the files for
-- the operator that it closed are those of both
abbrev pub GoesOn : {W : Type 0} → Installation W → Type 0
GoesOn {W} i = (one other : List ℕ) (first middle again last : Scene W) (written more : List ℕ) →
    HasWholeLines one → (front : IsFollowedAs i one first middle written) →
    ContinuesAs i middle again → (rest : IsFollowedAs i other again last more) →
    (all : IsFollowedAs i (one ++ other) first last (written ++ more))
    × ((telling : Telling) → closed_between i telling first all.end
    ≡ closed_between i telling first front.end ++ closed_between i telling again rest.end)

-- ---- runs of the program

-- a run of the program: the scene that it was booted to, the state that it was given, the scene
-- that it restored from that, the script that it followed from there, what it wrote of that, and
-- the scene that the script led to
pub record ProgramRun (W : Type 0) : Type 0 where
  pub booted : Scene W
  pub state : List ℕ
  pub begun : Scene W
  pub text : List ℕ
  pub written : List ℕ
  pub left : Scene W

-- it was booted on the same base, with the same lines of turns, and given a state as which this
-- scene is saved; it has restored that, and followed whole lines
pub record IsRunFrom {W : Type 0} (i : Installation W) (first here : Scene W)
    (run : ProgramRun W) : Type 0 where
  pub base : i.HasSameBase first.world run.booted.world
  pub detail : run.booted.detail ≡ first.detail
  pub saved : IsSceneSaved i here run.state
  pub restored : IsRestored i run.booted run.state run.begun
  pub lines : HasWholeLines run.text
  pub followed : IsFollowedAs i run.text run.begun run.left run.written

-- runs of which each went on from what the one before it left
abbrev pub AreRuns : {W : Type 0} → Installation W → Scene W → Scene W → List (ProgramRun W)
    → Type 0
AreRuns i first here [] = Unit {0}
AreRuns i first here (run ∷ runs) = IsRunFrom i first here run × AreRuns i first run.left runs

-- what they followed, and what they wrote
abbrev pub texts_of : {W : Type 0} → List (ProgramRun W) → List ℕ
texts_of [] = []
texts_of (run ∷ runs) = run.text ++ texts_of runs

-- what the runs have written, one after another
abbrev pub written_of : {W : Type 0} → List (ProgramRun W) → List ℕ
written_of [] = []
written_of (run ∷ runs) = run.written ++ written_of runs

-- what the last of them left, or this if there are none
abbrev pub left_by : {W : Type 0} → Scene W → List (ProgramRun W) → Scene W
left_by here [] = here
left_by here (run ∷ runs) = left_by run.left runs

-- the lines of the files for the operator that the runs have closed, one after another
abbrev pub closed_of : {W : Type 0} (i : Installation W) → Telling → (first here : Scene W)
    (runs : List (ProgramRun W)) → AreRuns i first here runs → List (List ℕ)
closed_of i telling first here [] those = []
closed_of i telling first here (run ∷ runs) those =
    closed_between i telling run.begun those.0.followed.end
    ++ closed_of i telling first run.left runs those.1

-- however often the program is started anew, the scripts of its runs are one script that was
-- followed from the first scene. What they wrote is its transcript, and the files for the operator
-- that they closed are its files
abbrev pub RunsAreASession : {W : Type 0} → Installation W → Type 0
RunsAreASession {W} i = (text : List ℕ) (first middle : Scene W) (written : List ℕ)
    (runs : List (ProgramRun W)) →
    HasWholeLines text → (front : IsFollowedAs i text first middle written)
    → (those : AreRuns i first middle runs)
    → (all : IsFollowedAs i (text ++ texts_of runs) first (left_by middle runs)
    (written ++ written_of runs))
    × ((telling : Telling) → closed_between i telling first all.end
    ≡ closed_between i telling first front.end ++ closed_of i telling first middle runs those)
