-- Which events may be refused memory.
use Rattle.bare_installation.specs.Life.{MayLackMemory}
use Rattle.machine_devices.specs.declared.event.Event.{Event}
use Rattle.machine_devices.specs.declared.event.Event.TheVariants as events
use Rattle.sessions.specs.Installed.{as_said}
use Rattle.bare370.specs.Goes.{Alone, MayRefuse}

-- what a machine may lack memory for may be refused it
pub refusal : (old : Alone) (event : Event) → MayLackMemory old.machine event → MayRefuse old (as_said event)
refusal old (events.Run user units) may = may
refusal old (events.Line user text) may = may
refusal old (events.Serve user device) may = may
refusal old (events.Tick user) may = may
refusal old (events.Deck user cards) may = may
refusal old (events.Transfer user id to) may = may
