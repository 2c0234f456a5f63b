-- The pages that a loading touches, with that of the PSW.
use Rattle.std.proofs.Common.{◌≡◌, ℕ, inr, subst, Result, Ok, Err}
use Rattle.std.specs.Result.{IsErrAnd}
use Rattle.cp_trial.specs.declared.DryRunError.{DryRunError}
use Rattle.cp_trial.specs.declared.DryRunError.TheVariants as errors
use Rattle.s370_channel.specs.Guest.{guest_written}
use Rattle.s370_channel.specs.Loading.{loading, loading_limits}
use Rattle.s370_channel.specs.Progress.{setting}
use Rattle.s370_channel.specs.Supplied.{IsTouched}
use Rattle.s370_store.specs.Memory.{Memory}
use Rattle.s370_walk.specs.Hardware.{Machine}
use Rattle.cp_trial.specs.declared.storage.TouchedPages.{TouchedPages}
use Rattle.cp_trial.specs.Trial.{touched_flags, tried_bytes}
use Rattle.channel_trial.specs.DryRun.{IsLoadingTried}
use Rattle.cp_dat.specs.declared.dat.Dat.{Dat}
use Rattle.cp_dat.specs.Copies.{StandAll, is_wanted}
use Rattle.cp_dat.specs.Lent.{lent_memory}
use Rattle.cp_trial.specs.DryRun.{IsPlaced, LoadTouches}

-- A dry run of a loading flags the pages that the loading touches.
pub loads_flagged : {D : Type 0} (machine : Machine D) (old between : Dat) (d : D) (tried : TouchedPages)
    → lent_memory between ≡ lent_memory old
    → IsLoadingTried machine (lent_memory between) d (tried_bytes between tried) (touched_flags tried)
    → (page : ℕ) → is_wanted (touched_flags tried) page → LoadTouches machine (lent_memory old) d page
loads_flagged machine old between d tried same is page it =
    inr (subst (λ (m : Memory). IsTouched guest_written (setting machine loading_limits) (loading machine m d) page)
    same (is.touches page it))

-- The pages of a loading are placed before it runs.
pub placed_before : {D : Type 0} (machine : Machine D) (old between new : Dat) (d : D) (tried : TouchedPages)
    → lent_memory between ≡ lent_memory old
    → IsLoadingTried machine (lent_memory between) d (tried_bytes between tried) (touched_flags tried)
    → StandAll new (touched_flags tried)
    → IsPlaced (setting machine loading_limits) (loading machine (lent_memory old) d) (lent_memory old) new
placed_before machine old between new d tried same is stand = record {
  bytes = tried_bytes between tried;
  flags = touched_flags tried;
  tried = subst (λ (m : Memory). IsLoadingTried machine m d (tried_bytes between tried) (touched_flags tried)) same is;
  stand = stand;
}

-- what is reported on as an error is that error
pub refused_as : {A : Type 0} (result : Result A DryRunError) (error : DryRunError) → IsErrAnd result (λ e. e ≡ error)
    → result ≡ Err errors.Memory → error ≡ errors.Memory
refused_as (Ok a) error is refused = cc
refused_as (Err e) error is refused = cc
