-- A tick of the interval timer (docs/MACHINE.md, "Interval timer").
use Rattle.std.specs.Prelude.{◌≡◌, ℕ}
use Rattle.s370_intr.specs.Timer.{ticked as ticked_core}
use Rattle.machine_panel.specs.declared.machine.Mode.{Mode}
use Rattle.machine_panel.specs.declared.machine.Mode.TheVariants.{Off, Stopped, Running}
use Rattle.machine_panel.specs.Machine.{Machine}

-- a tick of the interval timer in this mode
abbrev pub ticked_in : Mode → Machine → Machine
ticked_in Running m = record m { core = ticked_core m.core }
ticked_in Stopped m = m
ticked_in Off m = m

-- a tick steps the timer of a machine that runs, also while it waits, and does nothing to another
abbrev pub ticked : Machine → Machine
ticked m = ticked_in m.mode m

-- the page that a tick needs: page 0, where the machine runs
abbrev pub TickNeeds : Machine → ℕ → Type 0
TickNeeds m page = (m.mode ≡ Running) × (page ≡ 0)
