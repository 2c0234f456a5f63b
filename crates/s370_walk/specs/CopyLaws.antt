-- What is proved of the run of a copied program, for each device.
use Rattle.std.specs.Prelude.{ℕ, Bool, List, Option}
use Rattle.s370_walk.specs.declared.parts.Ending.{Ending}
use Rattle.s370_walk.specs.declared.parts.NextCcw.{NextCcw}
use Rattle.s370_walk.specs.Frozen.{IsSteady}
use Rattle.s370_store.specs.Memory.{Memory}
use Rattle.s370_walk.specs.Stuck.{IsStuck}
use Rattle.s370_walk.specs.Walk.{Form, Setting, State, Fetching, Over, Reaches}
use Rattle.s370_walk.specs.declared.places.CcwLocation.{CcwLocation}
use Rattle.s370_walk.specs.Copy.{guest_of, IsPlace, IsCopyOf, MeetsFrozen}
use Rattle.s370_walk.specs.WordsFrozen.{words_frozen}
use Rattle.s370_walk.specs.Mapped.{Program, Named, IsMapped, IsPaged, MeetsEnd, real_form}
use Rattle.s370_walk.specs.Raised.{raised, raised_setting, IsUncounted}
use Rattle.s370_walk.specs.Renaming.{renamed_spot, renamed_ending}
use Rattle.s370_walk.specs.Unstuck.{real_written, ArePresent}

-- Over real addresses the copy reaches the end to which it comes over the guest's.
abbrev pub EndsAsTheCopy : Type 0 → Type 0
EndsAsTheCopy D =
    (real : ℕ → Option ℕ) (c : Program) (h : Setting D) (spot : NextCcw) (m n : Memory) (d e : D)
    (end : Ending) (n' : Memory)
    → IsPaged real → IsMapped real (Named c) m n
    → Reaches (real_form real c) h (Fetching spot n d) (Over end n' e)
    → MeetsEnd real c h spot m d end n' e

-- Then so does the guest's own program, with the words and lists as they were when it was copied.
abbrev pub EndsAsTheFrozen : Type 0 → Type 0
EndsAsTheFrozen D =
    (real : ℕ → Option ℕ) (c : Program) (places : List CcwLocation) (form : Form) (m0 : Memory)
    (h : Setting D) (spot : NextCcw)
    (m n : Memory) (d e : D) (end : Ending) (n' : Memory)
    → IsCopyOf places c form m0 → IsPlace places (form.text m0) spot.at → IsPaged real
    → IsMapped real (Named c) m n
    → Reaches (real_form real c) h (Fetching spot n d) (Over end n' e)
    → MeetsFrozen real c (words_frozen form m0) h (renamed_spot (guest_of places) spot) m d
    (renamed_ending (guest_of places) end) n' e

-- And so it does as it goes, if it is steady.
abbrev pub EndsAsTheSteady : Type 0 → Type 0
EndsAsTheSteady D =
    (real : ℕ → Option ℕ) (c : Program) (places : List CcwLocation) (form : Form) (m0 : Memory)
    (h : Setting D) (spot : NextCcw)
    (m n : Memory) (d e : D) (end : Ending) (n' : Memory)
    → IsCopyOf places c form m0 → IsPlace places (form.text m0) spot.at → IsPaged real
    → IsMapped real (Named c) m n
    → Reaches (real_form real c) h (Fetching spot n d) (Over end n' e)
    → IsSteady form h m0 (Fetching (renamed_spot (guest_of places) spot) m d)
    → MeetsFrozen real c form h (renamed_spot (guest_of places) spot) m d
    (renamed_ending (guest_of places) end) n' e

-- A program after one more command reaches the ends to which it comes by itself, and to no other.
abbrev pub EndsBehindACommand : Type 0 → Type 0
EndsBehindACommand D =
    (form : Form) (h : Setting D) → IsUncounted form
    → (s : State D) (e : Ending) (m : Memory) (d : D)
    → Reaches form h s (Over e m d) → Reaches form (raised_setting h) (raised s) (Over e m d)

-- a program after one more command ends as it does by itself
abbrev pub EndsByItself : Type 0 → Type 0
EndsByItself D =
    (form : Form) (h : Setting D) → IsUncounted form
    → (s : State D) (e : Ending) (m : Memory) (d : D)
    → Reaches form (raised_setting h) (raised s) (Over e m d) → Reaches form h s (Over e m d)

-- No step over real addresses needs a page that is not present.
abbrev pub NeedsNoPage : Type 0 → Type 0
NeedsNoPage D =
    (real : ℕ → Option ℕ) (c : Program) (h : Setting D) (present : ℕ → Bool) (spot : NextCcw)
    (m n : Memory)
    (d : D) (page : ℕ)
    → IsPaged real → IsMapped real (Named c) m n → ArePresent real present
    → IsStuck (real_written real c) h present (Fetching spot n d) page → ⊥
