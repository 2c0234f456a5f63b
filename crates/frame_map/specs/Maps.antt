-- What the program does with its files before it prints the map, and why it ends before that.
use Rattle.std.specs.Prelude.{◌≡◌, ◌⊎◌, ℕ, true, if◌then◌else◌, List, [], ◌∷◌, ◌++◌}
use Rattle.std.specs.Prelude.{Option, None, Err}
use Rattle.cp_core.specs.System.{SystemView}
use Rattle.program_host.specs.Deeds.{Adds, Misses, Opens}
use Rattle.programs.specs.Opened.{Unmaking}
use Rattle.programs.specs.declared.faults.Failure.{Failure}
use Rattle.programs.specs.declared.faults.Failure.TheVariants as failures
use Rattle.sessions.specs.Follow.{Became, is_whole, part_of}
use Rattle.sessions.specs.Runs.{IsRestored}
use Rattle.sessions.specs.Schedule.{Scene}
use Rattle.sessions.specs.Session.{IsRead}
use Rattle.sessions.specs.declared.follow.Part.TheVariants as parts
use Rattle.vm370.specs.Goes.{system_goes}
use Rattle.vm370.specs.Runs.{IsBrokenAt}

-- the file at this path was opened, and read to its end as these bytes
pub record IsFileAt {F : Type 0} (Gives : List ℕ → F → Type 0) (remaining : F → Option (List ℕ))
    (path bytes : List ℕ) : Type 0 where
  pub file : F
  pub left : F
  pub opened : Gives path file
  pub read : IsRead (remaining file) (remaining left) bytes

-- why nothing came of the file at this path: it could not be opened; or it was, and memory was
-- refused, it failed, or it was refused for this
abbrev pub ComesToNothing : {F : Type 0} → (List ℕ → F → Type 0) → (F → ℕ) → List ℕ
    → (Failure → Type 0) → Unmaking
ComesToNothing Gives count path Refused deeds_old deeds_new failure =
    (Adds deeds_old deeds_new (Misses path ∷ []) × (failure ≡ failures.File 1))
    ⊎ (Adds deeds_old deeds_new (Opens path ∷ []) × ((failure ≡ failures.Memory)
    ⊎ IsBrokenAt Gives count path failure ⊎ Refused failure))

-- nothing refuses a file of which only the bytes are asked for
abbrev pub Never : Failure → Type 0
Never failure = ⊥

-- ---- a state

-- the bytes at this path were restored in the place of a scene
pub record IsRestoredAt {F : Type 0} (Gives : List ℕ → F → Type 0)
    (remaining : F → Option (List ℕ)) (path : List ℕ) (old new : Scene SystemView) : Type 0 where
  pub bytes : List ℕ
  pub read : IsFileAt Gives remaining path bytes
  pub restored : IsRestored system_goes old bytes new

-- the bytes at this path were read, and are refused as a state
pub record IsNoState {F : Type 0} (Gives : List ℕ → F → Type 0) (remaining : F → Option (List ℕ))
    (path : List ℕ) (failure : Failure) : Type 0 where
  pub bytes : List ℕ
  pub read : IsFileAt Gives remaining path bytes
  pub reported : failure ≡ failures.State

-- ---- a script that goes on from a state

-- the text with the end of its last line, which it may lack; an empty text has no line
abbrev pub with_end : List ℕ → List ℕ
with_end text = if is_whole text then text else text ++ 10 ∷ []

-- the script at this path was done as one part from a scene, and left this system
pub record IsFollowedAt {F : Type 0} (Gives : List ℕ → F → Type 0)
    (remaining : F → Option (List ℕ)) (path : List ℕ) (old : Scene SystemView)
    (new : SystemView) : Type 0 where
  pub text : List ℕ
  pub last : Scene SystemView
  pub read : IsFileAt Gives remaining path text
  pub done : Became system_goes (with_end text) old (parts.Done last) None None
  pub left : new ≡ last.world

-- a line of the script is the first that is refused, or the system was spent before
abbrev pub IsRefusedPart : List ℕ → Scene SystemView → Failure → Type 0
IsRefusedPart text old failure =
    ((line : ℕ) × (failure ≡ failures.Script line)
    × (part_of (system_goes.seen old.world).users text ≡ Err line))
    ⊎ ((failure ≡ failures.Spent) × (system_goes.is_spent old.world ≡ true))

-- the script at this path was read, and is refused as a part
pub record IsUnfollowed {F : Type 0} (Gives : List ℕ → F → Type 0)
    (remaining : F → Option (List ℕ)) (path : List ℕ) (old : Scene SystemView)
    (failure : Failure) : Type 0 where
  pub text : List ℕ
  pub read : IsFileAt Gives remaining path text
  pub refused : IsRefusedPart (with_end text) old failure
