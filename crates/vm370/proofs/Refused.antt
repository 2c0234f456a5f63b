-- Which events may be refused memory.
use Rattle.cp_core.specs.Memory.{MayTakeMemory}
use Rattle.cp_core.specs.System.{SystemView}
use Rattle.machine_devices.specs.declared.event.Event.{Event}
use Rattle.machine_devices.specs.declared.event.Event.TheVariants as events
use Rattle.sessions.specs.Installed.{as_said}
use Rattle.vm370.specs.Goes.{MayRefuse}

-- what may take memory may be refused it
pub refusal : (old : SystemView) (event : Event) → MayTakeMemory old event → MayRefuse old (as_said event)
refusal old (events.Run user units) may = may
refusal old (events.Line user text) may = may
refusal old (events.Tick user) may = may
refusal old (events.Serve user device) may = may
refusal old (events.Deck user cards) may = may
refusal old (events.Transfer user id to) may = may
