-- What a run that fails reports a page.
use Rattle.std.proofs.Common.{ℕ, Bool}
use Rattle.s370_walk.specs.declared.parts.Order.{Order}
use Rattle.s370_walk.specs.Walk.{Setting, State, Written}
use Rattle.s370_channel.specs.declared.running.ChannelError.{ChannelError}
use Rattle.s370_channel.specs.declared.running.ChannelError.TheVariants.{Absent, Memory}
use Rattle.s370_channel.specs.Progress.{MatchStuck}
use Rattle.s370_channel.specs.Runs.{ReportsAbsent}

-- a page at which the walk is stuck is not present
pub told_away : {D : Type 0} (w : Written) (h : Setting D) (needs : D → Order → Bool) (present : ℕ → Bool)
    (from : State D) (error : ChannelError) → MatchStuck w h needs present from error → ReportsAbsent present error
told_away w h needs present from Memory s = tt
told_away w h needs present from (Absent page) s = s.away.away
