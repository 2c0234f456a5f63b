-- How a unit of a guest stops whose privileged instruction was simulated.
use Rattle.std.specs.Prelude.{ℕ}
use Rattle.s370_cpu.specs.declared.conclude.Stop.{Stop}
use Rattle.s370_cpu.specs.declared.conclude.Stop.TheVariants.{Done as DoneStop, Program}
use Rattle.s370_cpu.specs.declared.conclude.Stop.TheVariants.{InputOutput as Asked}
use Rattle.s370_cpu.specs.declared.conclude.Stop.TheVariants.{Absent as AbsentStop}
use Rattle.cp_trap.specs.declared.simulation.Simulated.{Simulated}
use Rattle.cp_trap.specs.declared.simulation.Simulated.TheVariants.{Done, Refused, InputOutput}
use Rattle.cp_trap.specs.declared.simulation.Simulated.TheVariants.{Absent}

-- with the length code of the instruction
abbrev pub stop_of : Simulated → ℕ → Stop
stop_of Done ilc = DoneStop
stop_of (Refused code) ilc = Program code ilc
stop_of (InputOutput operation device) ilc = Asked operation device
stop_of (Absent page) ilc = AbsentStop page
