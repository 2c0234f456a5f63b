-- What is so of the walk of a program that leaves its own words as they are, for each device.
use Rattle.std.specs.Prelude.{ℕ, ◌≡◌, Bool, true}
use Rattle.cp_needs.specs.Needs.{IsFixed, IsHeld}
use Rattle.s370_channel.specs.Guest.{guest_text, guest_written}
use Rattle.s370_walk.specs.declared.parts.Position.{Position}
use Rattle.s370_walk.specs.declared.parts.NextCcw.{NextCcw}
use Rattle.s370_store.specs.Memory.{Memory}
use Rattle.s370_walk.specs.Stuck.{IsStuck, moves}
use Rattle.s370_walk.specs.Walk.{Fetching, Moving, Setting, State, live, place_in, walk}

-- From s on, each word that is fetched and each place that is looked up is as in m0.
pub record IsSteadyInWords {D : Type 0} (h : Setting D) (m0 : Memory) (s : State D) : Type 0 where
  pub words : (n : ℕ) (spot : NextCcw) (m : Memory) (d : D)
      → walk (live guest_written) h n s ≡ Fetching spot m d
      → guest_text m spot.at ≡ guest_text m0 spot.at
  pub places : (n : ℕ) (p : Position) (m : Memory) (d : D)
      → walk (live guest_written) h n s ≡ Moving p m d → moves h.machine p d ≡ true
      → place_in guest_written m p ≡ place_in guest_written m0 p

-- A program that is fixed walks by the words with which it began.
abbrev pub StaysAsItBegan : Type 0 → Type 0
StaysAsItBegan D = (h : Setting D) (spot : NextCcw) (m : Memory) (d : D) → IsFixed m spot.at
    → IsSteadyInWords h m (Fetching spot m d)

-- If it is fixed and its pages are present, it never comes to a step that needs a page which is
-- not.
abbrev pub NeedsItsPages : Type 0 → Type 0
NeedsItsPages D =
    (h : Setting D) (present : ℕ → Bool) (spot : NextCcw) (m : Memory) (d : D) (page : ℕ)
    → IsFixed m spot.at → IsHeld m spot.at present
    → IsStuck guest_written h present (Fetching spot m d) page → ⊥
