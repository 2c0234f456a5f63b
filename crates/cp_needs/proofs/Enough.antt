-- If a program has its pages, its run stops only if memory is refused.
use Rattle.std.specs.Prelude.{ℕ, ◌≡◌, Bool, IfErr, Result, Ok, Err, refl}
use Rattle.s370_channel.specs.declared.running.ChannelError.{ChannelError}
use Rattle.s370_channel.specs.declared.running.ChannelError.TheVariants as errors
use Rattle.s370_channel.specs.Guest.{guest_written}
use Rattle.s370_channel.specs.Progress.{MatchStuck}
use Rattle.s370_walk.specs.declared.parts.Order.{Order}
use Rattle.s370_walk.specs.declared.parts.NextCcw.{NextCcw}
use Rattle.s370_store.specs.Memory.{Memory}
use Rattle.s370_walk.specs.Stuck.{IsStuck}
use Rattle.s370_walk.specs.Walk.{Setting, Fetching}
use Rattle.cp_needs.specs.Words.{IsFixedStill}
use Rattle.cp_needs.proofs.Walking.{kept_never_stuck}

not_stuck : {D : Type 0} (h : Setting D) (present : ℕ → Bool) (spot : NextCcw) (m : Memory) (d : D) (page : ℕ)
    → IsFixedStill m present spot.at → IsStuck guest_written h present (Fetching spot m d) page → ⊥
not_stuck h present spot m d page still stuck =
    kept_never_stuck h present spot still.memory m d page still.fixed still.held still.kept stuck

pub never_away : {D : Type 0} (h : Setting D) (needs : D → Order → Bool) (present : ℕ → Bool) (spot : NextCcw)
    (m : Memory) (d : D) (error : ChannelError) → IsFixedStill m present spot.at
    → MatchStuck guest_written h needs present (Fetching spot m d) error → error ≡ errors.Memory
never_away h needs present spot m d errors.Memory enough s = refl
never_away h needs present spot m d (errors.Absent page) enough s =
    absurd (not_stuck h present spot m d page.0 enough s)

-- A fixed program whose pages are present never stops for one.
pub never_stops : {A D : Type 0} (r : Result A ChannelError) (h : Setting D) (needs : D → Order → Bool)
    (present : ℕ → Bool) (spot : NextCcw) (m : Memory) (d : D) → IsFixedStill m present spot.at
    → IfErr r (MatchStuck guest_written h needs present (Fetching spot m d)) → IfErr r (λ error. error ≡ errors.Memory)
never_stops (Ok ending) h needs present spot m d enough s = tt
never_stops (Err error) h needs present spot m d enough s = never_away h needs present spot m d error enough s
