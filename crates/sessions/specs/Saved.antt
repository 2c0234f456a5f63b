-- Saved states of an installation.
use Rattle.std.specs.Prelude.{◌≡◌, ◌≤◌, ◌⊎◌, ℕ, Bool, true, false, List, ◌++◌, length}
use Rattle.machine_devices.specs.declared.reply.Reply.{Reply}
use Rattle.session_script.specs.Script.{EventValue}
use Rattle.sessions.specs.Installed.{Installation}

-- bytes are those of one state: of two installations of one base that are saved as these bytes, one
-- goes on as the other
abbrev pub IsOneBySaved : {W : Type 0} → Installation W → Type 0
IsOneBySaved {W} i = (one other : W) (bytes : List ℕ) → i.HasSameBase one other →
    i.IsSaved one bytes → i.IsSaved other bytes → i.GoesOnAs one other

-- to be of one base is an equivalence, and no event changes the base
pub record KeepsBase {W : Type 0} (i : Installation W) : Type 0 where
  pub reflexive : (one : W) → i.HasSameBase one one
  pub symmetric : (one other : W) → i.HasSameBase one other → i.HasSameBase other one
  pub transitive : (one other last : W) → i.HasSameBase one other → i.HasSameBase other last
      → i.HasSameBase one last
  pub kept : (old new : W) (said : EventValue) (reply : Reply) → i.Happens old said reply new
      → i.HasSameBase old new

-- what is appended: bytes that are such, or nothing, and that only where there are none
abbrev pub AppendsSuch : (List ℕ → Type 0) → Type 0 → Bool → List ℕ → List ℕ → Type 0
AppendsSuch IsSuch HasNone true old new = (bytes : List ℕ) × IsSuch bytes × (new ≡ old ++ bytes)
AppendsSuch IsSuch HasNone false old new = HasNone × (new ≡ old)

-- what saving an installation appends: bytes as which it is saved, or nothing, and that only if it
-- has no states
abbrev pub AppendsState : {W : Type 0} → Installation W → W → Bool → List ℕ → List ℕ → Type 0
AppendsState i world = AppendsSuch (i.IsSaved world) (i.has_states ≡ false)

-- there is no such user, or there are no states
abbrev pub HasNoUserSaved : {W : Type 0} → Installation W → W → ℕ → Type 0
HasNoUserSaved i world user = (length (i.seen world).users ≤ user) ⊎ (i.has_states ≡ false)

-- what saving a user appends: bytes as which he is saved, or nothing, and that only if there are
-- none
abbrev pub AppendsUser : {W : Type 0} → Installation W → W → ℕ → Bool → List ℕ → List ℕ → Type 0
AppendsUser i world user = AppendsSuch (i.IsUserSaved world user) (HasNoUserSaved i world user)
