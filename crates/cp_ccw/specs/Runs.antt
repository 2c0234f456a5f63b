-- A run over real storage as the guest's own.
use Rattle.std.specs.Prelude.{ℕ}
use Rattle.s370_walk.specs.declared.parts.Ending.{Ending}
use Rattle.s370_store.specs.Memory.{Memory}
use Rattle.s370_walk.specs.Hardware.{Machine}
use Rattle.s370_walk.specs.Walk.{Form, live, Fetching, Over, Reaches, start_spot}
use Rattle.s370_channel.specs.declared.limits.Limits.{Limits}
use Rattle.s370_channel.specs.Progress.{setting}
use Rattle.s370_channel.specs.Guest.{guest_written}
use Rattle.s370_walk.specs.WordsFrozen.{words_frozen}
use Rattle.s370_channel.specs.Reading.{IsSteadyFrom}
use Rattle.cp_dat.specs.declared.dat.Dat.{Dat}
use Rattle.cp_dat.specs.Lent.{lent_memory}
use Rattle.cp_ccw.specs.declared.real.Real.{Real}

-- the frames, and whose pages are seen in them
abbrev pub dat_of : Real → Dat
dat_of r = r.dat.now

-- a program, read in this form, comes from this address of the user's storage to this end
abbrev pub IsRunOf : {D : Type 0} → Form → Machine D → Limits → ℕ → Dat → D → Ending → Dat → D
    → Type 0
IsRunOf form machine limits start old d end new e =
    Reaches form (setting machine limits) (Fetching (start_spot start) (lent_memory old) d)
    (Over end (lent_memory new) e)

-- the guest's program comes to this end with its words as they were in m0, and if they stay so, by
-- itself
pub record IsGuestsRun {D : Type 0} (machine : Machine D) (limits : Limits) (m0 : Memory)
    (start : ℕ) (old : Dat) (d : D) (end : Ending) (new : Dat) (e : D) : Type 0 where
  pub frozen : IsRunOf (words_frozen (live guest_written) m0) machine limits start old d end new e
  pub steady : IsSteadyFrom (setting machine limits) m0
      (Fetching (start_spot start) (lent_memory old) d)
      → IsRunOf (live guest_written) machine limits start old d end new e
