-- Runs of a copied program.
use Rattle.std.specs.Prelude.{ℕ, List, Option}
use Rattle.std.proofs.Common.{ap, ◌∙◌, sym}
use Rattle.s370_walk.specs.declared.places.CcwLocation.{CcwLocation}
use Rattle.s370_walk.specs.declared.parts.NextCcw.{NextCcw}
use Rattle.s370_walk.specs.declared.parts.Ending.{Ending}
use Rattle.s370_walk.specs.Tracks.{IsTracked}
use Rattle.s370_store.specs.Memory.{Memory}
use Rattle.s370_walk.specs.Walk.{Form, Setting, State, Fetching, Over, Reaches}
use Rattle.s370_walk.specs.Renaming.{renamed, renamed_spot, renamed_ending}
use Rattle.s370_walk.proofs.Renamed.{walk_renamed}
use Rattle.s370_walk.specs.Frozen.{IsSteady}
use Rattle.s370_walk.specs.WordsFrozen.{words_frozen}
use Rattle.s370_walk.proofs.WordsFreezing.{words_walk}
use Rattle.s370_walk.specs.Mapped.{Program, Named, IsPaged, IsMapped, copied_form, real_form}
use Rattle.s370_walk.proofs.Mapping.{real_end}
use Rattle.s370_walk.specs.Copy.{guest_of, IsPlace, IsCopyOf, MeetsFrozen}

-- A frozen run that ends over a copy is a run of the guest's own program with the same end.
pub frozen_end : {D : Type 0} (real : ℕ → Option ℕ) (c : Program) (places : List CcwLocation) (form : Form)
    (m0 : Memory) (h : Setting D) (spot : NextCcw) (m n : Memory) (d e : D) (end : Ending) (n' : Memory)
    → IsCopyOf places c form m0 → IsPlace places (form.text m0) spot.at → IsPaged real → IsMapped real (Named c) m n
    → Reaches (real_form real c) h (Fetching spot n d) (Over end n' e)
    → MeetsFrozen real c (words_frozen form m0) h (renamed_spot (guest_of places) spot) m d
    (renamed_ending (guest_of places) end) n' e
frozen_end {D = D} real c places form m0 h spot m n d e end n' copy there paged map to =
    let met = real_end real c h spot m n d e end n' paged map to in
    let same = walk_renamed (guest_of places) (IsPlace places (form.text m0)) (IsTracked c.lists) (copied_form c)
    (words_frozen form m0) h copy met.reaches.steps (Fetching spot m d) there in
    let s : State D = Over end met.storage e in
    record {
      storage = met.storage;
      reaches = record {
        steps = met.reaches.steps;
        comes = sym same
            ∙ ap (renamed (guest_of places)) met.reaches.comes;
      };
      mapped = met.mapped;
      kept = met.kept;
    }

-- and so does the guest's own walk, if the program is steady
pub steady_end : {D : Type 0} (real : ℕ → Option ℕ) (c : Program) (places : List CcwLocation) (form : Form)
    (m0 : Memory) (h : Setting D) (spot : NextCcw) (m n : Memory) (d e : D) (end : Ending) (n' : Memory)
    → IsCopyOf places c form m0 → IsPlace places (form.text m0) spot.at → IsPaged real → IsMapped real (Named c) m n
    → Reaches (real_form real c) h (Fetching spot n d) (Over end n' e)
    → IsSteady form h m0 (Fetching (renamed_spot (guest_of places) spot) m d)
    → MeetsFrozen real c form h (renamed_spot (guest_of places) spot) m d (renamed_ending (guest_of places) end) n' e
steady_end real c places form m0 h spot m n d e end n' copy there paged map to steady =
    let met = frozen_end real c places form m0 h spot m n d e end n' copy there paged map to in
    record {
      storage = met.storage;
      reaches = record {
        steps = met.reaches.steps;
        comes = words_walk form h m0 (Fetching (renamed_spot (guest_of places) spot) m d) met.reaches.steps steady
            ∙ met.reaches.comes;
      };
      mapped = met.mapped;
      kept = met.kept;
    }
