-- Nobody who is ready waits for ever: what follows of turns that are dealt one after another.
use Rattle.std.specs.Prelude.{◌≡◌, ◌≤◌, ◌⊎◌, ◌+◌, ℕ, Bool, true, false, List, [], ◌∷◌, ◌++◌, length}
use Rattle.std.specs.Prelude.{Option, Some}
use Rattle.cp_dispatch.specs.Turns.{IsDealt, StandsWithin, at_end, without}

-- what happens to a line
pub data Call (X : Type 0) : Type 0 where
  -- a turn is dealt among those who are ready, to this one or nobody
  Deal : (X → Bool) → Option X → Call X
  -- this one comes
  Come : X → Call X
  -- this one goes
  Go : X → Call X

-- these calls, one after another, turn the one line into the other
abbrev pub IsCalls : {X : Type 0} → (X → X → Bool) → List X → List (Call X) → List X → Type 0
IsCalls same old [] new = old ≡ new
IsCalls {X} same old (Deal ready taken ∷ calls) new = (next : List X) × IsDealt ready old taken next
    × IsCalls same next calls new
IsCalls same old (Come one ∷ calls) new = IsCalls same (at_end (same one) one old) calls new
IsCalls same old (Go one ∷ calls) new = IsCalls same (without (same one) old) calls new

-- how many turns are dealt
abbrev pub deals : {X : Type 0} → List (Call X) → ℕ
deals [] = 0
deals (Deal ready taken ∷ calls) = deals calls + 1
deals (Come one ∷ calls) = deals calls
deals (Go one ∷ calls) = deals calls

-- this one is ready whenever a turn is dealt, and neither goes nor comes again
abbrev pub IsReadyThroughout : {X : Type 0} → (X → X → Bool) → X → List (Call X) → Type 0
IsReadyThroughout same one [] = Unit {0}
IsReadyThroughout same one (Deal ready taken ∷ calls) = (ready one ≡ true)
    × IsReadyThroughout same one calls
IsReadyThroughout same one (Come other ∷ calls) = (same other one ≡ false)
    × IsReadyThroughout same one calls
IsReadyThroughout same one (Go other ∷ calls) = (same other one ≡ false)
    × IsReadyThroughout same one calls

-- this one has a turn
abbrev pub HasTurn : {X : Type 0} → X → List (Call X) → Type 0
HasTurn one [] = ⊥
HasTurn one (Deal ready taken ∷ calls) = (taken ≡ Some one) ⊎ HasTurn one calls
HasTurn one (Come other ∷ calls) = HasTurn one calls
HasTurn one (Go other ∷ calls) = HasTurn one calls

-- whoever is in a line with j others before, and is ready throughout, has one of the next j + 1
-- turns
abbrev pub IsFair : {X : Type 0} → (X → X → Bool) → Type 0
IsFair {X} same = (one : X) (old new : List X) (calls : List (Call X)) →
    IsCalls same old calls new → IsReadyThroughout same one calls
    → StandsWithin one old (deals calls) → HasTurn one calls

-- so, of as many turns as there are in the line, each who is ready throughout has one
abbrev pub GivesEach : {X : Type 0} → (X → X → Bool) → Type 0
GivesEach {X} same = (one : X) (before after new : List X) (calls : List (Call X)) →
    IsCalls same (before ++ one ∷ after) calls new → IsReadyThroughout same one calls
    → length (before ++ one ∷ after) ≤ deals calls → HasTurn one calls
