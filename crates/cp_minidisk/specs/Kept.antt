-- What a device keeps whatever is asked of it.
use Rattle.std.specs.Prelude.{ℕ}
use Rattle.s370_walk.specs.declared.parts.Order.{Order}
use Rattle.s370_walk.specs.Hardware.{Machine}
use Rattle.s370_walk.specs.Walk.{State, Fetching, Moving, Over}

-- the device in a state of a walk
abbrev pub device_in : {D : Type 0} → State D → D
device_in (Fetching spot m d) = d
device_in (Moving position m d) = d
device_in (Over end m d) = d

-- each step of a device keeps it
pub record Keeps {D : Type 0} (machine : Machine D) (holds : D → Type 0) : Type 0 where
  pub started : (d : D) (order : Order) → holds d → holds (machine.started d order)
  pub gave : (d : D) → holds d → holds (machine.gave d)
  pub took : (d : D) (byte : ℕ) → holds d → holds (machine.took d byte)
  pub finished : (d : D) → holds d → holds (machine.finished d)
